use native.Mathlib.Omega.{arith}
use Rattle.settings.specs.NumbersLaws.{legal_settings}
use Rattle.settings.specs.BucketLaws.{buckets_some}
use Rattle.check_model.specs.Masks.{buckets_mask}
use Rattle.soundness.proofs.buckets_of.Goals as goal

pub overflow_mul-result : goal.overflow_mul-result
overflow_mul-result c = let few = (legal_settings _ c.args.legal.legal).few_chains in omega (arith, few)

pub overflow_add-result : goal.overflow_add-result
overflow_add-result c = let few = (legal_settings _ c.args.legal.legal).few_chains in omega (arith, few)

pub buckets-requires : goal.buckets-requires
buckets-requires c = let legal = legal_settings _ c.args.legal.legal in (legal.some_blocks, legal.few_blocks)

pub invariant_of-result : goal.invariant_of-result
invariant_of-result c = let n = c.args.legal.of.n in let few = (legal_settings _ c.args.legal.legal).few_blocks in
    record { some = rw c.buckets.ensures (buckets_some n); mask = rw c.buckets.ensures (buckets_mask n few) }
