use mathlib.Core.Path.{◌≡◌}
use Prim.Native.Nat.{◌+◌, ◌*◌, ◌-◌}
use Rattle.check_model.specs.Nines.{nines_from, nines_ok}
use Rattle.check_stack.proofs.nines_ok.Given as goal

abbrev pub invariant-loop-e : goal.invariant-loop-e
invariant-loop-e l = nines_from l.d (l.n - l.e) (l.base + 9 * l.e) ≡ nines_ok l.d l.base l.n
