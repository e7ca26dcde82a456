use Rattle.std.proofs.Common.{◌≡◌, ◌-◌}
use Rattle.word_ops.specs.Buckets.{searched}
use Rattle.search.proofs.find_from.Given as goal

abbrev pub invariant-loop : goal.invariant-loop
invariant-loop l = searched l.dir l.f.«at» l.block (l.links - l.counter) l.e ≡ searched l.dir l.f.«at» l.block l.links l.first
