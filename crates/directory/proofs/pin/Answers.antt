use borrow.Author.Rules.{rules}
use Rattle.directory.proofs.Laws.{pin_returns}
use Rattle.directory.proofs.pin.Goals as goal

pub returns : goal.returns
returns c = pin_returns _ _ _ c.remark.ensures.0 _ c.args.on c.requires c.frame_in-f.ensures (search rules) c.remark.ensures.2
