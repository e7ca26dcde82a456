use mathlib.Core.Path.{refl, ◌∙◌}
use Rattle.compare.proofs.NumberLaws.{figures_even, figures_apart, minus_back}
use Rattle.compare.proofs.figures_of.Goals.{then-even, else-even}
use Rattle.compare.proofs.figures_of.Goals as goal

pub returns : goal.returns
returns c =
    elim c.if-even.branch [
      | then-even w ↦ figures_even _ _ _ w.if-even.true _ w.gain-is _ refl
      | else-even w ↦ figures_apart _ _ _ w.if-even.false _ (w.gain-is ∙ minus_back _ _ c.requires.1 c.requires.2 _ w.minus-gain.ensures) _ refl
    ]
