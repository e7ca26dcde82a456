-- The reads and writes of a header are few.
use Rattle.std.specs.Prelude.{ℕ, ◌+◌, ◌^◌, ◌≤◌, ◌≡◌, List}
use Rattle.std.proofs.Common.{arith}
use Rattle.words.specs.WordLaws.{val_small}
use Rattle.layout.specs.Sound.{totals_in}

pub references_few : (w : List ℕ) (n : ℕ) → n ≡ (totals_in w).reads + (totals_in w).writes → n ≤ 2 ^ 57
unfolding totals_in
references_few w n e = omega (arith, e, val_small w 16, val_small w 17, val_small w 18, val_small w 19)
