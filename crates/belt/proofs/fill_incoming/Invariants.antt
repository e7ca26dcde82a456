use Rattle.belt.proofs.Laws.{Marking}
use Rattle.belt.proofs.fill_incoming.Given as goal

abbrev pub invariant-loop-i : goal.invariant-loop-i
invariant-loop-i l = Marking l.initial.incoming l.incoming l.i
