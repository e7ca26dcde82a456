use Rattle.occupancy.specs.Walk.{Walked}
use Rattle.occupancy.proofs.table_of.Given as goal

abbrev pub invariant-loop : goal.invariant-loop
invariant-loop l = Walked l.dir l.counter l.figures l.e
