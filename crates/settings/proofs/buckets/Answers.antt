use Prim.Native.Nat.{◌-◌}
use lib.Count.{leading_le}
use Rattle.settings.proofs.Laws.{length_of, buckets_of}
use Rattle.settings.proofs.buckets.Goals as goal

pub overflow_sub-result-2 : goal.overflow_sub-result-2
overflow_sub-result-2 c = leading_le 32 (c.args.n - 1)

pub overflow_shl-result : goal.overflow_shl-result
overflow_shl-result c = (length_of c.args.n c.requires.0 c.requires.1).room

pub returns : goal.returns
returns c = buckets_of _ _ c.requires.1 (length_of c.args.n c.requires.0 c.requires.1)
