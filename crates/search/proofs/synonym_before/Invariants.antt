use Rattle.std.proofs.Common.{◌≡◌, ◌-◌}
use Rattle.word_ops.specs.Buckets.{synonym_before}
use Rattle.search.proofs.synonym_before.Given as goal

abbrev pub invariant-loop : goal.invariant-loop
invariant-loop l =
    synonym_before l.dir l.f.«at» l.e (l.f.links - l.counter) l.x l.q ≡ synonym_before l.dir l.f.«at» l.e l.f.links l.first 0
