use Rattle.std.proofs.Common.{arith}
use Rattle.cache_steps.specs.FlushStep.{flush_start, flush_carried}
use Rattle.flushing.proofs.Laws.{as_bit, bit_few, standing, entry_ready, behind_is, residents_few}
use Rattle.flushing.proofs.flush.Goals as goal

pub loop-init : goal.loop-init
loop-init c = record { so_far = flush_start _ _ c.requires.0; entry = c.first-e.ensures; few = omega arith }

pub next-behind-requires : goal.next-behind-requires
next-behind-requires c = c.loop.invariant.so_far.kept.sound_after

pub flush_entry-requires : goal.flush_entry-requires
flush_entry-requires c = entry_ready _ _ c.requires.0 _ _ _ c.loop.invariant.so_far _ c.residents-end.ensures
    c.loop-test.true _ c.loop.invariant.entry _ c.requires.1

pub overflow_add-written : goal.overflow_add-written
overflow_add-written c = let h = bit_few c.flush_entry.result c.from-written.ensures in omega arith

pub loop-preserved : goal.loop-preserved
loop-preserved c = let i = c.loop.invariant in let h = bit_few c.flush_entry.result c.from-written.ensures in record {
  so_far = rw (c.from-written.ensures, as_bit) (c.flush_entry.ensures _ _ _ c.requires.0 i.so_far
      (standing _ _ c.requires.0 _ _ _ i.so_far _ c.residents-end.ensures c.loop-test.true _ i.entry));
  entry = behind_is _ _ c.requires.0 _ _ _ i.so_far _ c.residents-end.ensures c.loop-test.true _ i.entry _ c.next-behind.ensures;
  few = omega arith;
}

pub returns : goal.returns
returns c = let i = c.loop.invariant in (
  flush_carried _ _ c.requires.0 i.so_far (omega (arith, c.residents-end.ensures, c.loop-test.false)),
  omega (arith, c.residents-end.ensures, i.few, residents_few _ c.requires.0),
)
