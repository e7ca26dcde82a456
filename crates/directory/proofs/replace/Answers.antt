use Rattle.directory.proofs.Laws.{within_limits, framed, found_at, refused_returns}
use Rattle.directory.proofs.replace.Goals as goal

pub frame-f-requires : goal.frame-f-requires
frame-f-requires c = within_limits _ _ c.requires.0.miss.is_sound c.requires.1

pub returns-in_default : goal.returns-in_default
returns-in_default c = let fr = framed _ _ _ c.requires.1 c.frame-f.ensures in
    refused_returns _ _ _ _ _ _ c.requires.0 fr (rw c.entries.ensures at c.victim.ensures) c.in_default.is c.access_count.ensures

pub replace_picked-requires : goal.replace_picked-requires
replace_picked-requires c = let fr = framed _ _ _ c.requires.1 c.frame-f.ensures in
    record { ready = c.requires.0; framed = fr; picked = found_at _ _ _ _ fr (rw c.entries.ensures at c.victim.ensures) c.in-Some.is }
