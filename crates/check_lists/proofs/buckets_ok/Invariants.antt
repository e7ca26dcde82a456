use mathlib.Core.Path.{◌≡◌}
use Prim.Native.Nat.{◌-◌}
use Rattle.check_model.specs.Tests.{entry_word, first_of, buckets_from}
use Rattle.check_lists.proofs.buckets_ok.Given as goal

abbrev pub invariant-loop-b : goal.invariant-loop-b
invariant-loop-b l = let f = entry_word l.entries in let first = first_of l.d l.fn.buckets.start in let many = l.fn.buckets.many in
    buckets_from f first l.n many (many - l.b) l.b l.left ≡ buckets_from f first l.n many many 0 l.count
