use Rattle.directory.proofs.Laws.{within_limits, framed, enter_returns}
use Rattle.directory.proofs.enter.Goals as goal

pub frame-f-requires : goal.frame-f-requires
frame-f-requires c = within_limits _ _ c.requires.0.miss.is_sound c.requires.1

pub returns : goal.returns
returns c = let fr = framed _ _ _ c.requires.1 c.frame-f.ensures in
    let stored = rw c.miss_count.ensures at c.enter.ensures in
    enter_returns _ _ _ _ _ _ _ _ _ _ _ c.requires.0 c.requires.1 fr c.get-entry.ensures c.saturating_sub-old.ensures c.incoming.ensures
    stored c.settle-halved.ensures.0 c.settle-halved.ensures.1
