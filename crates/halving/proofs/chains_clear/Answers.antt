use mathlib.Core.Path.{refl, ap, ◌∙◌}
use native.Mathlib.Omega.{arith}
use Rattle.std.proofs.Common.{◌-◌}
use Rattle.word_ops.specs.Halve.{chains_cleared}
use Rattle.halving.proofs.Laws.{cleared_next}
use Rattle.halving.proofs.chains_clear.Goals as goal

pub loop-i-init : goal.loop-i-init
unfolding chains_cleared
loop-i-init c = (refl, omega arith)

pub loop-i-preserved : goal.loop-i-preserved
loop-i-preserved c = let l = c.loop-i in (
  rw (c.chain_clear.ensures, l.invariant.0) (cleared_next _ l.i (l.i - 1) (omega arith) ∙ ap (chains_cleared _) (omega arith)),
  omega arith,
)

pub returns-2 : goal.returns-2
returns-2 c = let l = c.loop-i in
    rw (c.chain_clear.ensures, l.invariant.0) (cleared_next _ l.i (l.i - 1) (omega arith) ∙ ap (chains_cleared _) (omega arith))
