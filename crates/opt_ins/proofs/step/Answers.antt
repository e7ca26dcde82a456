use Rattle.opt_ins.proofs.Laws.{step_done}
use Rattle.opt_ins.proofs.step.Goals as goal

pub returns : goal.returns
returns c = step_done _ _ _ _ _ _ _ c.make_room-left.ensures _
    c.next_read-next.ensures _ _ c.note.ensures
