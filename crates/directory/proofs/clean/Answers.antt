use Rattle.directory.proofs.Laws.{clean_returns}
use Rattle.directory.proofs.clean.Goals as goal

pub returns : goal.returns
returns c = clean_returns _ _ _ _ _ _ c.requires c.frame_in-f.ensures c.remark.ensures.1 c.remark.ensures.2 c.raise.ensures
