use native.Mathlib.Omega.{arith}
use mathlib.Core.Path.{refl}
use Rattle.load.specs.Load.{state_after}
use Rattle.load.proofs.Laws.{filling_step, filling_end}
use Rattle.load.proofs.fill.Goals as goal

pub loop-word-init : goal.loop-word-init
unfolding state_after
loop-word-init c = record { blocks = c.requires; written = refl; state_is = refl; inside = omega arith }

pub load_word-requires : goal.load_word-requires
load_word-requires c = c.loop-word.invariant.blocks

pub loop-word-preserved : goal.loop-word-preserved
loop-word-preserved c = filling_step _ _ _ _ _ _ c.loop-word.invariant _ _ (omega arith) c.step-next.ensures c.load_word.ensures

pub returns : goal.returns
returns c = filling_end _ _ _ _ _ _ c.loop-word.invariant (omega arith)
