use Rattle.std.proofs.Common.{refl}
use Rattle.cache.proofs.Laws.{run_ready, accepted_batch}
use Rattle.cache.proofs.batch.Goals as goal

pub run-requires : goal.run-requires
run-requires c = run_ready _ _ _ _ c.in_ok-number.ensures refl _ c.settings_in-s.ensures

pub returns : goal.returns
returns c = accepted_batch _ _ _ _ c.in_ok-number.ensures refl _ c.settings_in-s.ensures _ c.run.ensures
