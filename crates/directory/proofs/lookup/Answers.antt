use Rattle.directory.proofs.Laws.{within_limits, framed, found_is}
use Rattle.directory.proofs.lookup.Goals as goal

pub frame-f-requires : goal.frame-f-requires
frame-f-requires c = within_limits _ _ c.requires.0 c.requires.1

pub returns : goal.returns
returns c = let fr = framed _ _ _ c.requires.1 c.frame-f.ensures in
    found_is _ _ _ _ _ _ c.requires.0 c.requires.1 fr c.bucket_among-bucket.ensures (rw c.entries.ensures at c.find.ensures)
