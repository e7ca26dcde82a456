use Rattle.std.proofs.Common.{◌≡◌, ◌≤◌}
use Rattle.layout.specs.Sound.{residents_in}
use Rattle.promises.specs.DirectoryPromises.{entry_at}
use Rattle.cache_steps.specs.Carried.{memory}
use Rattle.cache_steps.specs.FlushStep.{Flushing}
use Rattle.flushing.proofs.flush.Given as goal

abbrev pub invariant-loop : goal.invariant-loop
invariant-loop l = record {
  so_far : Flushing l.tick (memory l.initial.dir l.bytes l.initial.store) l.counter (memory l.dir l.bytes l.store) l.written;
  entry : l.e ≡ entry_at (residents_in l.initial.dir) l.counter;
  few : l.written ≤ l.counter;
}
