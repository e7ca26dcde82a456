use mathlib.Core.Path.{◌≡◌}
use Prim.Native.Nat.{◌-◌}
use Rattle.check_model.specs.Tests.{Lent, entry_word, first_of, no_second}
use Rattle.check_lists.proofs.no_second_resident.Given as goal

abbrev pub invariant-loop : goal.invariant-loop
invariant-loop l = let f = entry_word l.entries in let more = l.ahead - l.counter in
    (no_second f l.block more l.e ≡ no_second f l.block l.ahead (first_of l.d l.fn.buckets.start l.bucket)) × Lent l.entries more l.e
