use Rattle.compare.proofs.NumberLaws.{Passing}
use Rattle.compare.proofs.all_reads.Given as goal

abbrev pub invariant-loop-word : goal.invariant-loop-word
invariant-loop-word l = Passing l.s l.trace l.word-index
