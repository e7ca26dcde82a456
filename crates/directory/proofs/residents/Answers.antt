use Rattle.operations.specs.Reads.{residents_word}
use Rattle.directory.proofs.residents.Goals as goal

pub returns : goal.returns
returns c = rw c.get.ensures (residents_word _ c.requires)
