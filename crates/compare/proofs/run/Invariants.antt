use Rattle.compare.proofs.Laws.{Running}
use Rattle.compare.proofs.run.Given as goal

abbrev pub invariant-loop-word : goal.invariant-loop-word
invariant-loop-word l = Running l.initial.dir l.trace l.s l.dir l.word-index
