use Rattle.layout.specs.ModifiedWord.{marks_in}
use Rattle.layout.specs.Sound.{resident_at}
use Rattle.directory.proofs.Laws.{marks_from}
use Rattle.directory.proofs.marks_of.Goals as goal

pub returns : goal.returns
unfolding resident_at marks_in
returns c = marks_from _ _ _ _ c.field-word.ensures c.is_marked.ensures c.is_pinned.ensures
