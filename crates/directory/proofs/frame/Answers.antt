use mathlib.Core.Path.{refl}
use native.Mathlib.Omega.{arith}
use Rattle.settings.specs.BucketLaws.{buckets_some, buckets_few}
use Rattle.directory.proofs.frame.Goals as goal

pub overflow_add-result-2 : goal.overflow_add-result-2
overflow_add-result-2 c =
    let few = buckets_few c.args.n c.requires.1 in
    omega (arith, few, c.buckets-buckets.ensures, c.requires.2)

pub invariant_of-result : goal.invariant_of-result
invariant_of-result c =
    let few = buckets_few c.args.n c.requires.1 in
    record { low = omega (arith, few, c.buckets-buckets.ensures, c.requires.2); few_chains = c.requires.2 }

pub returns : goal.returns
returns c =
    let some = buckets_some c.args.n in
    let same = c.buckets-buckets.ensures in
    record {
      at_is = omega (arith, same);
      cmax_is = refl;
      buckets_is = same;
      links_is = refl;
      some_buckets = omega (arith, some, same);
    }
