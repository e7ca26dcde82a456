use Rattle.directory.proofs.Laws.{tick_returns}
use Rattle.directory.proofs.see_tick.Goals as goal

pub returns : goal.returns
returns c = tick_returns _ _ _ _ _ c.requires c.frame_in-f.ensures c.remark.ensures.1 c.remark.ensures.2
