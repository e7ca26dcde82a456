use mathlib.Core.Path.{◌∙◌}
use Rattle.std.proofs.Common.{Ok}
use Rattle.compare.specs.Compare.{shown}
use Rattle.fbr.proofs.Laws.{put_done}
use Rattle.fbr.proofs.put_compared.Goals as goal

pub returns : goal.returns
returns c = c.put.ensures ∙ put_done c.args.out.now (shown (Ok c.args.f)) c.requires.0 c.signed.result c.signed-2.result
    c.signed-3.result c.signed-4.result c.signed.ensures c.signed-2.ensures
    c.signed-3.ensures c.signed-4.ensures
