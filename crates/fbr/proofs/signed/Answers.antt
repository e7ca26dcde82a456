use Rattle.fbr.proofs.Laws.{signed_is}
use Rattle.fbr.proofs.signed.Goals as goal

pub returns : goal.returns
returns c = signed_is _ c.requires
