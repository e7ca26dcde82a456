use mathlib.Core.Path.{◌≡◌}
use Prim.Native.Nat.{◌-◌}
use Rattle.check_model.specs.Tests.{Tested, entry_word, first_of, left_after, listed, nth_listed}
use Rattle.check_lists.proofs.bucket.Given as goal

-- e is behind those that were tested
abbrev pub invariant-loop-ahead : goal.invariant-loop-ahead
invariant-loop-ahead l = let f = entry_word l.entries in let first = first_of l.d l.fn.buckets.start in let many = l.fn.buckets.many in
    (listed f first l.n many l.b l.ahead (l.budget - l.ahead) l.e ≡ left_after f first l.n many l.b l.budget)
    × (l.e ≡ nth_listed f first l.b l.ahead) × Tested f first l.n many l.b l.ahead
