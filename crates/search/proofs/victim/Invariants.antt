use Rattle.std.proofs.Common.{◌≡◌, ◌-◌, ◌+◌, ◌≤◌}
use Rattle.word_ops.specs.Victim.{victim_from}
use Rattle.search.proofs.victim.Given as goal

abbrev pub invariant-loop-chains : goal.invariant-loop-chains
invariant-loop-chains l =
    (victim_from l.dir l.f.«at» l.f.links (l.cmax + 1 - l.chains) l.chains ≡ victim_from l.dir l.f.«at» l.f.links l.cmax 1)
    × (l.chains ≤ l.cmax + 1)
