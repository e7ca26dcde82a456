use Rattle.belt.proofs.Laws.{Decoding}
use Rattle.belt.proofs.decode.Given as goal

abbrev pub invariant-loop-i : goal.invariant-loop-i
invariant-loop-i l = Decoding l.input l.initial.work l.n l.work l.i
