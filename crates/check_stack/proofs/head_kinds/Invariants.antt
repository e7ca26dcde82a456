use mathlib.Core.Path.{◌≡◌}
use Prim.Native.Nat.{◌-◌}
use Rattle.check_model.specs.Tests.{kinds_ok, kinds_from}
use Rattle.check_stack.proofs.head_kinds.Given as goal

abbrev pub invariant-loop-i : goal.invariant-loop-i
invariant-loop-i l = kinds_from l.d l.base (24 - l.i) l.i ≡ kinds_ok l.d l.base 24
