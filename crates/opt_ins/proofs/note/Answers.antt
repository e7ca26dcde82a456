use Rattle.opt_ins.proofs.Laws.{note_yes, note_no}
use Rattle.opt_ins.proofs.note.Goals as goal

pub returns-then-next-len : goal.returns-then-next-len
returns-then-next-len c = note_yes _ _ _ _ c.if-next-len.true

pub returns : goal.returns
returns c = note_no _ _ _ _ c.if-next-len.false
