-- The paper's search by positions, with pins: of each count from 1 to Cmax the last unpinned old resident, then the last unpinned one of
-- all. In a full stack it finds the victim.
use Prim.Native.Nat.{ℕ, zero, suc, ◌+◌, ◌≤◌, ◌<◌}
use native.Mathlib.Omega.{arith}
use Rattle.std.specs.Prelude.{◌≡◌, ◌⊎◌, Bool, ◌&&◌, not, List, eqb}
use Rattle.std.proofs.Math.Path.{sym, subst}
use Rattle.std.proofs.Common.{◌∙◌, inl, inr}
use Rattle.std.proofs.Math.ListN.{length}
use Rattle.std.proofs.Math.Dec.{ltb, T, ltb→lt, nltb→le, lt→ltb}
use Rattle.std.proofs.Math.Facts.{and_yes, yes_and, not_T, eqb_yes, yes_eqb}
use Rattle.basics.specs.Basics.{when◌then◌else◌}
use Rattle.basics.specs.TestLaws.{split, if_yes, if_no}
use Rattle.settings.specs.declared.Settings.{Settings}
use Rattle.stack.specs.Counts.{is_old, least_old, greatest, victim, count_at, unpinned_at}
use Rattle.stack.proofs.CountsLaws.{smallest_below, smallest_positive, victim_unchained, anywhere, victim_chained, victim_last, one_walk}
use Rattle.stack.proofs.NumberLaws.{greatest_passes, greatest_cases}

-- whether an unpinned old resident of count i stands at a position, as `victim` tests it
abbrev pub victim_of : Settings → List (ℕ × Bool) → ℕ → ℕ → Bool
victim_of s xs i p = is_old s p && unpinned_at xs p && eqb (count_at xs p) i

pub victim_of_lem : (s : Settings) (xs : List (ℕ × Bool)) (i p : ℕ) → T (is_old s p) → T (unpinned_at xs p) → count_at xs p ≡ i
    → T (victim_of s xs i p)
victim_of_lem s xs i p o u e =
    yes_and (is_old s p && unpinned_at xs p) (eqb (count_at xs p) i) (yes_and (is_old s p) (unpinned_at xs p) o u) (yes_eqb e)

pub of_victim : (s : Settings) (xs : List (ℕ × Bool)) (i p : ℕ) → T (victim_of s xs i p)
    → T (is_old s p) × T (unpinned_at xs p) × (count_at xs p ≡ i)
of_victim s xs i p t =
    let (a, e) = and_yes (is_old s p && unpinned_at xs p) (eqb (count_at xs p) i) t in
    let (o, u) = and_yes (is_old s p) (unpinned_at xs p) a in
    (o, u, eqb_yes e)

-- the last unpinned old position of a count, or the length
unfoldable pub last_of : Settings → List (ℕ × Bool) → ℕ → ℕ
unfolding greatest
last_of s xs i = greatest (victim_of s xs i) (length xs) (length xs)

-- the last unpinned position, or the length
unfoldable pub least_recent : List (ℕ × Bool) → ℕ
unfolding greatest
least_recent xs = greatest (unpinned_at xs) (length xs) (length xs)

-- chains i, i + 1, .. and n of them: the last unpinned old one of the first that has one
unfoldable pub search : Settings → List (ℕ × Bool) → ℕ → ℕ → ℕ
unfolding last_of least_recent
search s xs i zero = least_recent xs
search s xs i (suc n) = let further = search s xs (suc i) n in when ltb (last_of s xs i) (length xs) then last_of s xs i else further

module _ (s : Settings) (xs : List (ℕ × Bool)) (full : length xs ≡ s.n) (some : 1 ≤ s.nold) (fits : s.nold ≤ s.n) (few : s.cmax ≤ 64)
    (bound : (p : ℕ) → p < length xs → 1 ≤ count_at xs p) where
  abbrev c : ℕ
  c = least_old s xs

  -- the chain of the smallest count
  at_smallest : c ≤ s.cmax → T (ltb (last_of s xs c) (length xs)) × (last_of s xs c ≡ victim s xs)
  unfolding last_of
  at_smallest h =
      let (o, u, e, l) = victim_chained s xs full some fits few bound h in
      let g = greatest_passes (victim_of s xs c) (length xs) (length xs) (victim s xs) (omega arith) (victim_of_lem s xs c (victim s xs) o u e) in
      let k = of_victim s xs c (last_of s xs c) g.0 in (
        lt→ltb (last_of s xs c) (length xs) g.2,
        omega (arith, g.1, victim_last s xs full some fits few bound h (last_of s xs c) k.0 k.1 k.2 (omega (arith, g.2))),
      )

  -- the chain of a smaller one has no unpinned old resident
  not_below : (i : ℕ) → i < c → T (not (ltb (last_of s xs i) (length xs)))
  unfolding last_of
  not_below i h = not_T (ltb (last_of s xs i) (length xs)) λ t.
      go (ltb→lt (last_of s xs i) (length xs) t) (greatest_cases (victim_of s xs i) (length xs) (length xs))
    where
      go : last_of s xs i < length xs
          → (T (victim_of s xs i (last_of s xs i)) × (last_of s xs i < length xs))
          ⊎ (((p : ℕ) → p < length xs → T (not (victim_of s xs i p))) × (last_of s xs i ≡ length xs)) → ⊥
      go l (inl (t, m)) =
          let (o, u, e) = of_victim s xs i (last_of s xs i) t in
          omega (arith, smallest_below s xs full some fits few bound (last_of s xs i) o u (omega arith))
      go l (inr (f, e)) = omega arith

  search_from : (i n : ℕ) → i ≤ c → i + n ≡ s.cmax + 1 → search s xs i n ≡ victim s xs
  unfolding search least_recent anywhere
  search_from i zero low e = sym (victim_unchained s xs full some fits few bound (omega arith) ∙ one_walk s xs full some fits few bound)
  search_from i (suc n) low e = split (ltb i c)
      (λ t. let h : i < c = ltb→lt i c t in
      if_no (ltb (last_of s xs i) (length xs)) (last_of s xs i) (search s xs (suc i) n) (not_below i h) ∙ search_from (suc i) n h (omega arith))
      (λ t. let same : c ≡ i = omega (arith, nltb→le i c t) in
      subst (λ x. (when ltb (last_of s xs x) (length xs) then last_of s xs x else search s xs (suc i) n) ≡ victim s xs) same
      (let v = at_smallest (omega arith) in
      if_yes (ltb (last_of s xs c) (length xs)) (last_of s xs c) (search s xs (suc i) n) v.0 ∙ v.1))

  pub search_finds : search s xs 1 s.cmax ≡ victim s xs
  search_finds = search_from 1 s.cmax (smallest_positive s xs full some fits few bound) (omega arith)
