use Rattle.cache.specs.Words.{slices}
use Rattle.cache.proofs.Laws.{Running}
use Rattle.cache.proofs.run.Given as goal

abbrev pub invariant-loop-i : goal.invariant-loop-i
invariant-loop-i l =
    Running (slices l.initial.dir l.initial.bytes l.initial.store l.initial.answers l.initial.outgoing) l.work l.incoming l.s
    (slices l.dir l.bytes l.store l.answers l.outgoing) l.passed l.i
