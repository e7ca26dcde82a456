use Rattle.operations.specs.Reads.{head_word}
use Rattle.directory.proofs.first.Goals as goal

pub returns : goal.returns
returns c = rw c.get.ensures (head_word _ c.requires)
