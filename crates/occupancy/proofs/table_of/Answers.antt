use Rattle.occupancy.proofs.Laws.{walk_begins, room, walk_goes_on}
use Rattle.occupancy.proofs.table_of.Goals as goal

pub loop-init : goal.loop-init
loop-init c = walk_begins _ _ c.first-e.ensures

pub and_resident-requires : goal.and_resident-requires
and_resident-requires c = (c.requires, room _ c.requires _ _ _ c.loop.invariant (rw (← c.residents-end.ensures) c.loop-test.true))

pub loop-preserved : goal.loop-preserved
loop-preserved c = walk_goes_on _ c.requires _ _ _ c.loop.invariant (rw (← c.residents-end.ensures) c.loop-test.true) _ _
    (c.and_resident.ensures _ c.loop.invariant.shows) c.next-e.ensures
