use mathlib.Core.Path.{◌≡◌}
use Prim.Native.Nat.{◌-◌}
use Rattle.check_model.specs.Nines.{links_ok, links_from}
use Rattle.check_stack.proofs.links_ok.Given as goal

abbrev pub invariant-loop-i : goal.invariant-loop-i
invariant-loop-i l = links_from l.d (l.base - l.i) l.i ≡ links_ok l.d l.base
