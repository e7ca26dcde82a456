-- Sums of what a function gives over a list: in parts, in either order, and over the numbers 1 to n however they are listed.
use Prim.Native.Nat.{ℕ, zero, suc, ◌+◌, ◌*◌, ◌≤◌, ◌<◌}
use Rattle.std.proofs.Math.Nat.{add-mul}
use native.Mathlib.Omega.{arith}
use Rattle.std.proofs.Math.Decide.{ℕ_discrete}
use Rattle.std.specs.Prelude.{◌≡◌, Bool, true, false, not, length, T, eqb, leb}
use Rattle.std.proofs.Math.Path.{refl}
use Rattle.std.proofs.Common.{sym, ap, ◌∙◌, eq-eqb, ne_eqb}
use mathlib.Core.List.{List, [], ◌∷◌, ◌++◌, map}
use Rattle.std.proofs.Math.Facts.{and_yes, or_no, eqb_yes, leb_yes}
use Rattle.basics.specs.Basics.{All, bit, member, total, within}
use Rattle.basics.specs.Lists.{all, distinct, counting}
use Rattle.basics.specs.AllLaws.{all_map}
use Rattle.basics.specs.ListLaws.{all_yes, counting_all, length_counting}

module _ {A : Type 0} where
  abbrev pub sum : (A → ℕ) → List A → ℕ
  sum f l = total (map f l)

  pub sum_join : (f : A → ℕ) (us vs : List A) → sum f (us ++ vs) ≡ sum f us + sum f vs
  unfolding total
  sum_join f [] vs = omega arith
  sum_join f (u ∷ us) vs = omega (arith, sum_join f us vs)

  pub sum_same : (f g : A → ℕ) (l : List A) → All (λ x. f x ≡ g x) l → sum f l ≡ sum g l
  unfolding total
  sum_same f g [] h = refl
  sum_same f g (x ∷ l) h = omega (arith, h.0, sum_same f g l h.1)

  pub sum_none : (l : List A) → sum (λ x. 0) l ≡ 0
  unfolding total
  sum_none [] = refl
  sum_none (x ∷ l) = omega (arith, sum_none l)

  pub sum_ones : (l : List A) → sum (λ x. 1) l ≡ length l
  unfolding total
  sum_ones [] = refl
  sum_ones (x ∷ l) = omega (arith, sum_ones l)

  sum_both : (f g : A → ℕ) (l : List A) → sum (λ x. f x + g x) l ≡ sum f l + sum g l
  unfolding total
  sum_both f g [] = refl
  sum_both f g (x ∷ l) = omega (arith, sum_both f g l)

  sum_times : (f : A → ℕ) (v : ℕ) (l : List A) → sum (λ x. f x * v) l ≡ sum f l * v
  unfolding total
  sum_times f v [] = omega arith
  sum_times f v (x ∷ l) = omega (arith, sum_times f v l, add-mul (f x) (sum f l) v)

pub sum_map : {A B : Type 0} (g : B → ℕ) (f : A → B) (l : List A) → sum g (map f l) ≡ sum (λ x. g (f x)) l
unfolding total
sum_map g f [] = refl
sum_map g f (x ∷ l) = omega (arith, sum_map g f l)

-- row by row or column by column
pub sum_swap : {A B : Type 0} (f : A → B → ℕ) (xs : List A) (ys : List B) → sum (λ x. sum (f x) ys) xs ≡ sum (λ y. sum (λ x. f x y) xs) ys
unfolding total
sum_swap f [] ys = sym (sum_none ys)
sum_swap f (x ∷ xs) ys = omega (arith, sum_both (f x) (λ y. sum (λ x. f x y) xs) ys, sum_swap f xs ys)

-- ---- the numbers 1 to n, however they are listed

-- how often i stands in a list
abbrev times : ℕ → List ℕ → ℕ
times i xs = sum (λ x. bit (eqb x i)) xs

times_none : (i : ℕ) (xs : List ℕ) → T (not (member i xs)) → times i xs ≡ 0
unfolding total member
times_none i [] t = refl
times_none i (x ∷ xs) t = let q = or_no (eqb x i) (member i xs) t in omega (arith, bit_no (eqb x i) q.0, times_none i xs q.1)
  where
    bit_no : (b : Bool) → T (not b) → bit b ≡ 0
    bit_no true t = absurd t
    bit_no false t = refl

times_once : (i : ℕ) (xs : List ℕ) → T (distinct xs) → times i xs ≤ 1
unfolding total distinct
times_once i [] d = omega arith
times_once i (x ∷ xs) d = let q = and_yes (not (member x xs)) (distinct xs) d in go (eqb x i) eqb_yes (times_once i xs q.1) q.0
  where
    go : (b : Bool) → (T b → x ≡ i) → times i xs ≤ 1 → T (not (member x xs)) → bit b + times i xs ≤ 1
    go true f h t = omega (arith, times_none i xs (rw (f tt) at t))
    go false f h t = omega (arith, h)

-- what x gives to i: f where they are the same
abbrev share : (ℕ → ℕ) → ℕ → ℕ → ℕ
share f x i = bit (eqb x i) * f i

-- over the numbers from a on: f, once
module _ (f : ℕ → ℕ) (x : ℕ) where
  shares_before : (a n : ℕ) → x < a → sum (share f x) (counting a n) ≡ 0
  unfolding total counting
  shares_before a zero h = refl
  shares_before a (suc n) h =
      let other : ¬ (x ≡ a) = λ e. omega arith in
      rw (ne_eqb x a other) (omega (arith, shares_before (suc a) n (omega arith)))

  shares : (a n : ℕ) → a ≤ x → x < a + n → sum (share f x) (counting a n) ≡ f x
  unfolding total counting
  shares a zero h h' = absurd (omega arith)
  shares a (suc n) h h' = go (ℕ_discrete x a) (shares (suc a) n)
    where
      rest : ℕ
      rest = sum (share f x) (counting (suc a) n)

      go : Dec (x ≡ a) → (suc a ≤ x → x < suc a + n → rest ≡ f x) → share f x a + rest ≡ f x
      go (yes e) later = rw (eq-eqb x a e) (omega (arith, ap f e, shares_before (suc a) n (omega arith)))
      go (no e) later = rw (ne_eqb x a e) (omega (arith, later (omega arith) (omega arith)))

sum_few : (f : ℕ → ℕ) (l : List ℕ) → All (λ i. f i ≤ 1) l → sum f l ≤ length l
unfolding total
sum_few f [] h = omega arith
sum_few f (i ∷ l) h = omega (arith, h.0, sum_few f l h.1)

-- none above 1, and as much in all as there are numbers: each is 1
all_ones : (f : ℕ → ℕ) (l : List ℕ) → All (λ i. f i ≤ 1) l → sum f l ≡ length l → All (λ i. f i ≡ 1) l
unfolding total
all_ones f [] h e = tt
all_ones f (i ∷ l) h e = let g = sum_few f l h.1 in let g' = h.0 in (omega arith, all_ones f l h.1 (omega arith))

-- n different numbers from 1 to n are all of them
module _ (n : ℕ) (xs : List ℕ) (inside : T (all (within 1 n) xs)) (differ : T (distinct xs)) (long : length xs ≡ n) where
  abbrev ns : List ℕ
  ns = counting 1 n

  by_times : (f : ℕ → ℕ) → sum f xs ≡ sum (λ i. times i xs * f i) ns
  by_times f =
      sum_same f (λ x. sum (share f x) ns) xs
      (all_map (λ x. T (within 1 n x)) (λ x. f x ≡ sum (share f x) ns) xs own (all_yes (within 1 n) xs inside))
      ∙ sum_swap (share f) xs ns
      ∙ sum_same (λ i. sum (λ x. share f x i) xs) (λ i. times i xs * f i) ns
      (counting_all (λ i. sum (λ x. share f x i) xs ≡ times i xs * f i) 1 n (λ i h h'. sum_times (λ x. bit (eqb x i)) (f i) xs))
    where
      own : (x : ℕ) → T (within 1 n x) → f x ≡ sum (share f x) ns
      own x t =
          let q = and_yes (leb 1 x) (leb x n) t in
          let low : 1 ≤ x = leb_yes q.0 in
          let high : x ≤ n = leb_yes q.1 in
          sym (shares f x 1 n low (omega arith))

  each_once : All (λ i. times i xs ≡ 1) ns
  each_once =
      all_ones (λ i. times i xs) ns (counting_all (λ i. times i xs ≤ 1) 1 n (λ i h h'. times_once i xs differ))
      (sum_same (λ i. times i xs) (λ i. times i xs * 1) ns (counting_all (λ i. times i xs ≡ times i xs * 1) 1 n (λ i h h'. omega arith))
      ∙ sym (by_times (λ i. 1)) ∙ sum_ones xs ∙ long ∙ sym (length_counting 1 n))

  pub sum_any_order : (f : ℕ → ℕ) → sum f ns ≡ sum f xs
  sum_any_order f =
      sym (by_times f ∙ sum_same (λ i. times i xs * f i) f ns
      (all_map (λ i. times i xs ≡ 1) (λ i. times i xs * f i ≡ f i) ns (λ i one. rw one (omega arith)) each_once))
