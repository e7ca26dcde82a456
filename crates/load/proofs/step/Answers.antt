use mathlib.Core.Path.{refl}
use Rattle.load.specs.Xorshift.{step}
use Rattle.load.proofs.step.Goals as goal

pub returns : goal.returns
unfolding step
returns c = refl
