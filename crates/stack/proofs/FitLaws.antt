-- Data and store whose tests failed have the lengths that a batch needs.
use Rattle.std.specs.Prelude.{ℕ, ◌*◌, ◌≤◌, ◌≡◌, ◌||◌, not, T, ltb}
use Rattle.std.proofs.Common.{arith}
use Rattle.std.proofs.Math.Facts.{or_no, ltb_no}
use Rattle.settings.specs.declared.Settings.{Settings}

-- N blocks of data or more, exactly M of store
pub record Fits (s : Settings) (bytes store : ℕ) : Type 0 where
  pub bytes_long : s.n * s.b ≤ bytes
  pub store_exact : store ≡ s.m * s.b

module _ (s : Settings) (bytes store : ℕ) where
  -- its tests failed, and so did what follows in a table
  pub fits : {Later : Type 0}
      → T (not (ltb bytes (s.n * s.b) || ltb store (s.m * s.b))) × (T (not (ltb (s.m * s.b) store)) × Later)
      → Fits s bytes store × Later
  fits f =
      let a = or_no (ltb bytes (s.n * s.b)) (ltb store (s.m * s.b)) f.0 in
      let least : s.m * s.b ≤ store = ltb_no a.1 in
      let most : store ≤ s.m * s.b = ltb_no f.1.0 in
      (record { bytes_long = ltb_no a.0; store_exact = omega arith }, f.1.1)
