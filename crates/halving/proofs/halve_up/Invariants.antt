use Rattle.std.proofs.Common.{◌≡◌, ◌-◌}
use Rattle.word_ops.specs.Halve.{halved_up}
use Rattle.halving.proofs.halve_up.Given as goal

abbrev pub invariant-loop : goal.invariant-loop
invariant-loop l = halved_up l.dir l.f.«at» l.f.cmax (l.n - l.counter) l.e ≡ halved_up l.initial.dir l.f.«at» l.f.cmax l.n l.first
