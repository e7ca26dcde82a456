use Rattle.directory.proofs.Laws.{words_within}
use Rattle.directory.proofs.frame_in.Goals as goal

pub frame-requires : goal.frame-requires
frame-requires c = words_within _ _ _ c.requires c.get.ensures c.get-2.ensures
