use Rattle.check_stack.proofs.Laws.{marks_are}
use Rattle.check_stack.proofs.is_modified_word.Goals as goal

pub returns : goal.returns
returns c = marks_are _
