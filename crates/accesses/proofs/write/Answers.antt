use Rattle.accesses.proofs.Laws.{entry_least, entry_room, write_done, write_refused}
use Rattle.accesses.proofs.write.Goals as goal

pub returns-in_default : goal.returns-in_default
returns-in_default c = write_refused _ _ _ c.requires.0 _ _ c.in_default.ensures _ _ c.requires.1 _ c.word.ensures

pub overflow_sub-a : goal.overflow_sub-a
overflow_sub-a c = entry_least _ _ _ c.requires.0 _ _ _ _ c.in-Some.ensures

pub move_block-requires : goal.move_block-requires
move_block-requires c = (c.requires.1, entry_room _ _ _ c.requires.0 _ _ _ _ c.in-Some.ensures)

pub returns : goal.returns
returns c = write_done _ _ _ c.requires.0 _ _ _ _ c.in-Some.ensures _ _ c.requires.1 c.move_block.ensures
