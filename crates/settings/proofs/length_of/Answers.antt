use native.Mathlib.Omega.{arith}
use Rattle.settings.specs.BucketLaws.{buckets_few}
use Rattle.settings.proofs.length_of.Goals as goal

pub buckets-requires : goal.buckets-requires
buckets-requires c = (c.requires.0, c.requires.1)

pub overflow_add-result-2 : goal.overflow_add-result-2
overflow_add-result-2 c = let k = buckets_few c.args.n c.requires.1 in
    let e = c.buckets.ensures in
    omega arith

pub overflow_add-result-3 : goal.overflow_add-result-3
overflow_add-result-3 c = let k = buckets_few c.args.n c.requires.1 in
    let e = c.buckets.ensures in
    omega arith

pub returns : goal.returns
returns c = let e = c.buckets.ensures in omega arith
