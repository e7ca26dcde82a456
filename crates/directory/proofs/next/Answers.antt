use Rattle.layout.specs.Sound.{settings_in, field}
use Rattle.operations.specs.Reads.{next_word}
use Rattle.directory.proofs.next.Goals as goal

pub returns : goal.returns
unfolding field settings_in
returns c = record { link_is = c.field.ensures; along_stack = λ p h q. rw c.field.ensures (next_word _ c.requires p _ h q) }
