use mathlib.Core.Path.{refl}
use native.Mathlib.Omega.{arith}
use Rattle.belt.proofs.Laws.{marking_step, marking_end}
use Rattle.belt.proofs.fill_incoming.Goals as goal

pub loop-i-init : goal.loop-i-init
loop-i-init c = record { inside = omega arith; long = c.requires; written = refl }

pub bounds-incoming-i : goal.bounds-incoming-i
bounds-incoming-i c = let h = c.loop-i-test.true in omega arith

pub loop-i-preserved : goal.loop-i-preserved
loop-i-preserved c = marking_step _ _ _ c.loop-i.invariant _ (omega arith) c.mark.ensures

pub returns : goal.returns
returns c = marking_end _ _ _ c.loop-i.invariant (omega arith)
