-- The sum of counts stays at most Amax × N, though counts are halved by Amax × r; a replacement never halves, nor does a refused miss.
use Prim.Native.Nat.{ℕ, zero, suc, ◌+◌, ◌*◌, ◌≤◌}
use Rattle.std.proofs.Math.Nat.{mul-le-mul_left, mul-le-mul_right}
use native.Mathlib.Omega.{arith}
use Rattle.std.proofs.Math.Path.{◌≡◌, refl, ap}
use Rattle.std.proofs.Common.{◌∙◌}
use Rattle.std.specs.Prelude.{Bool, not, T}
use Rattle.std.proofs.Math.Bool.{true, false}
use mathlib.Core.List.{List, [], ◌∷◌, map}
use Rattle.std.proofs.Math.Option.{some}
use Rattle.std.proofs.Math.ListN.{length, get_elem?, length-map}
use Rattle.std.proofs.Math.Dec.{nltb→le}
use borrow.Author.Tests.{le-ltb}
use Rattle.basics.specs.Basics.{All, total, without}
use Rattle.settings.specs.declared.Settings.{Settings}
use Rattle.stack.specs.Counts.{exceeds, Legal}
use Rattle.stack.specs.Recency.{Resident, Place, found, unused, replacing, counts, halve, asked, refuses, halves, settled, all_pinned}
use Rattle.stack.proofs.PlaceLaws.{Placed, hits, enters, replaces, length_without, all_found, refusing}

module _ {A : Type 0} where
  abbrev pub sum : List (Resident A) → ℕ
  sum l = total (counts l)

  pub sum_without : (l : List (Resident A)) (p : ℕ) (x : Resident A) → get_elem? l p ≡ some x → sum (without p l) + x.count ≡ sum l
  unfolding total
  sum_without [] p x e = let z : ◌≡◌ {A = ℕ} 0 1 = cc in absurd (omega arith)
  sum_without (y ∷ l) zero x e = let same : y.count ≡ x.count = ap (λ z. z.count) (let q : y ≡ x = cc in q) in omega arith
  sum_without (y ∷ l) (suc p) x e = let h = sum_without l p x e in omega arith

  -- halving leaves at most half, rounded up one by one
  pub sum_halved : (l : List (Resident A)) → 2 * sum (map halve l) ≤ sum l + length l
  unfolding total halve
  sum_halved [] = omega arith
  sum_halved (x ∷ l) = let h = sum_halved l in omega arith

  -- whether N residents stay N: at a replacement and a refused miss
  abbrev pub is_full : Place A → Bool
  is_full (found x below) = false
  is_full (unused below) = false
  is_full (replacing v below) = true
  is_full (all_pinned below) = true

  module _ (s : Settings) (l : List (Resident A)) where
    -- after a read or a write: at most one more
    pub asked_sum : All (λ x. Legal x.count) l → (b : ℕ) (w : Bool) (a : A) (q : Place A) → Placed s l q → sum (asked b w a q) ≤ sum l + 1
    unfolding asked total
    asked_sum legal b w a q (hits p x n e ok up) = let h = sum_without l p x e in omega arith
    asked_sum legal b w a q (enters g) = omega arith
    asked_sum legal b w a q (replaces v x e full u c) = let h = sum_without l v x e in omega arith
    asked_sum legal b w a q (refusing full all) = omega arith

    -- A REPLACEMENT NEVER HALVES, from a sum of at most Amax × N: there are N residents after it too, and the sum hasn't risen. Nor does
    -- a refused miss.
    pub full_calm : All (λ x. Legal x.count) l → sum l ≤ s.amax * s.n → (b : ℕ) (w : Bool) (a : A) (q : Place A) → Placed s l q → T (is_full q)
        → halves s q (asked b w a q) ≡ false
    unfolding halves exceeds refuses asked total
    full_calm legal fits b w a q (hits p x n e ok up) t = absurd t
    full_calm legal fits b w a q (enters g) t = absurd t
    full_calm legal fits b w a q (refusing full all) t = refl
    full_calm legal fits b w a q (replaces v x e full u c) t =
        let h = sum_without l v x e in
        let g = all_found (λ y. Legal y.count) l v x legal e in
        let many : suc (length (counts (without v l))) ≡ s.n = ap suc (length-map (without v l) (λ y. y.count)) ∙ length_without l v e ∙ full in
        le-ltb (s.amax * suc (length (counts (without v l)))) (1 + total (counts (without v l))) (rw many (omega arith))

    -- Amax × r is at most Amax × N
    within : (m : List (Resident A)) → length m ≤ s.n → T (not (exceeds s (counts m))) → sum m ≤ s.amax * s.n
    unfolding exceeds
    within m few t =
        let h = nltb→le (s.amax * length (counts m)) (sum m) t in
        let n = length-map m (λ y. y.count) in
        let g = mul-le-mul_left {m = length (counts m)} {n = s.n} s.amax (omega arith) in
        omega arith

    module _ (fits : sum l ≤ s.amax * s.n) (b : ℕ) (w : Bool) (a : A) where
      -- counts that are not halved
      calm_sum : (q : Place A) → Placed s l q → length (asked b w a q) ≤ s.n → T (not (halves s q (asked b w a q)))
          → sum (asked b w a q) ≤ s.amax * s.n
      unfolding halves refuses asked
      calm_sum q (hits p x n e ok up) few t = within (asked b w a q) few t
      calm_sum q (enters g) few t = within (asked b w a q) few t
      calm_sum q (replaces v x e full u c) few t = within (asked b w a q) few t
      calm_sum q (refusing full all) few t = fits

      -- THE SUM STAYS at most Amax × N, once the counts have been looked at
      pub settled_sum : All (λ x. Legal x.count) l → 1 ≤ s.amax → (q : Place A) → Placed s l q → length (asked b w a q) ≤ s.n
          → sum (settled (halves s q (asked b w a q)) (asked b w a q)) ≤ s.amax * s.n
      unfolding settled
      settled_sum legal positive q at few = go (halves s q (asked b w a q)) (calm_sum q at few)
        where
          go : (t : Bool) → (T (not t) → sum (asked b w a q) ≤ s.amax * s.n) → sum (settled t (asked b w a q)) ≤ s.amax * s.n
          go true f =
              let h = sum_halved (asked b w a q) in
              let m = asked_sum legal b w a q at in
              let g = mul-le-mul_right s.n positive in
              omega arith
          go false f = f tt
