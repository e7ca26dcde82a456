use mathlib.Core.Path.{ap}
use Rattle.settings.specs.declared.Settings.{Settings}
use Rattle.directory.proofs.Laws.{within_limits, framed, hit_returns}
use Rattle.directory.proofs.hit.Goals as goal

pub frame-f-requires : goal.frame-f-requires
frame-f-requires c = within_limits _ _ c.requires.0.is_sound c.requires.1

pub returns : goal.returns
returns c = let fr = framed _ _ _ c.requires.1 c.frame-f.ensures in
    hit_returns _ _ _ _ _ _ _ _ _ c.requires.0 fr c.hit_entry-count.ensures.value c.hit_entry-count.ensures.dir_after
    (ap (λ (t : Settings). t.amax) c.requires.1) c.settle-halved.ensures.0 c.settle-halved.ensures.1
