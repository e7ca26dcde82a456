use Rattle.load.proofs.Laws.{Filling}
use Rattle.load.proofs.fill.Given as goal

abbrev pub invariant-loop-word : goal.invariant-loop-word
invariant-loop-word l = Filling l.seed l.m l.initial.words l.words l.state l.word-index
