use native.Mathlib.Omega.{arith}
use Rattle.belt.specs.BeltLaws.{word_at}
use Rattle.belt.proofs.word_at.Goals as goal

pub returns : goal.returns
returns c = let e = word_at c.args.bytes.now c.args.i c.requires in omega arith
