-- A power of two as a mask. Assumes nothing.
use Rattle.std.specs.Prelude.{ℕ, ◌-◌, ◌%◌, ◌≤◌, ◌≡◌}
use Rattle.std.specs.Int.Bits.{bit_and}
use Rattle.std.proofs.lemmas.Nat.{and_mask}
use Rattle.settings.specs.Buckets.{buckets}
use Rattle.settings.specs.BucketLaws.{buckets_least}

-- the mask m keeps of a number what is left modulo b
abbrev pub Masks : ℕ → ℕ → Type 0
Masks m b = (x : ℕ) → bit_and x m ≡ x % b

pub buckets_mask : (n : ℕ) → n ≤ 4096 → Masks (buckets n - 1) (buckets n)
buckets_mask n h = let p = (buckets_least n h).power in rw p.1 (λ x. and_mask x p.0)
