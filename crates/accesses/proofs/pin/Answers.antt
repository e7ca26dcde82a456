use Rattle.accesses.proofs.Laws.{pin_absent_done, pin_done}
use Rattle.accesses.proofs.pin.Goals as goal

pub returns-in_default : goal.returns-in_default
returns-in_default c = pin_absent_done _ _ _ _ c.in_default.ensures c.word.ensures

pub returns : goal.returns
returns c = pin_done _ _ _ _ c.in-Some.ensures _ _ c.pin.ensures c.word-2.ensures
