use mathlib.Core.Path.{◌≡◌}
use Prim.Native.Nat.{◌-◌}
use Rattle.check_model.specs.Tests.{entry_word, unused_ok, unused_from}
use Rattle.check_stack.proofs.unused_ok.Given as goal

abbrev pub invariant-loop : goal.invariant-loop
invariant-loop l = unused_from (entry_word l.entries) l.n (l.count - l.counter) l.e ≡ unused_ok (entry_word l.entries) l.n l.count l.first
