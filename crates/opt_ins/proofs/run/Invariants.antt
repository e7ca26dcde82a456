use Rattle.opt_ins.proofs.Laws.{Going}
use Rattle.opt_ins.proofs.run.Given as goal

abbrev pub invariant-loop-i : goal.invariant-loop-i
invariant-loop-i l = Going l.trace l.n l.awaited l.waiting l.ins l.i
