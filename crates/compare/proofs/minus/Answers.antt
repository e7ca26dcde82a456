use Rattle.compare.proofs.NumberLaws.{minus_fits, minus_is}
use Rattle.compare.proofs.minus.Goals as goal

pub overflow_sub-result : goal.overflow_sub-result
overflow_sub-result c = minus_fits _ _ c.requires.0 c.requires.1

pub returns : goal.returns
returns c = minus_is _ _ c.requires.0 c.requires.1
