use Rattle.accesses.proofs.Laws.{count_few, hit_done}
use Rattle.accesses.proofs.access.Goals as goal

pub word-requires : goal.word-requires
word-requires c = count_few _ c.requires.is_sound _ (c.hit-r.ensures _ c.in-Some.ensures)

pub returns : goal.returns
returns c = hit_done _ _ _ (c.hit-r.ensures _ c.in-Some.ensures) _ c.word.ensures
