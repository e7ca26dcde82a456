use Rattle.std.proofs.Common.{◌≡◌, ◌-◌}
use Rattle.word_ops.specs.Victim.{over_pinned}
use Rattle.search.proofs.over_pinned.Given as goal

abbrev pub invariant-loop : goal.invariant-loop
invariant-loop l =
    over_pinned l.dir l.f.«at» l.section l.word (l.f.links - l.counter) l.e ≡ over_pinned l.dir l.f.«at» l.section l.word l.f.links l.first
