use Rattle.opt_ins.proofs.Laws.{Seeking}
use Rattle.opt_ins.proofs.next_read.Given as goal

abbrev pub invariant-loop-j : goal.invariant-loop-j
invariant-loop-j l = Seeking l.trace l.block l.from l.j
