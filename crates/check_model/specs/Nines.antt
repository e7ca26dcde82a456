-- The kinds in parts: the header, the links before the entries, then nine words at a time.
-- Assumes nothing.
use Prim.Native.Nat.{ℕ, zero, suc, ◌+◌, ◌-◌, ◌*◌, ◌/◌, ◌≤◌, ◌<◌}
use Rattle.std.specs.Prelude.{◌≡◌, Bool, ◌&&◌, List, length, get_or, eqb}
use Rattle.std.proofs.Math.Path.{refl, ap}
use Rattle.std.proofs.Common.{sym, ◌∙◌, add-zero}
use Rattle.std.proofs.Math.Logic.{⊎_elim}
use Rattle.std.proofs.Math.Bool.{true, false}
use native.Mathlib.Omega.{arith}
use Rattle.std.proofs.Math.Nat.{zero-add}
use borrow.Author.Tests.{lt-ltb, le-ltb}
use Rattle.basics.specs.Basics.{pick}
use Rattle.check_model.specs.Turns.{turns}
use Rattle.check_model.specs.Bools.{to_T, pick_pick}
use Rattle.check_model.specs.Tests.{kind_at, kind_test, kinds_from, kinds_ok}
use Rattle.check_model.specs.Fields.{less}
use Rattle.check_model.specs.Kinds.{entry_kind}
use Rattle.check_model.specs.LoopLaws.{kind_out}

unfoldable pub has_kind : List ℕ → ℕ → ℕ → Bool
has_kind w i k = eqb (get_or w i 0 / 268435456) k

-- the words from the header to base: links

abbrev pub links_from : List ℕ → ℕ → ℕ → Bool
links_from w k i = turns (λ i. has_kind w i 2) (λ i. i + 1) (λ _. true) k i

unfoldable pub links_ok : List ℕ → ℕ → Bool
links_ok w base = links_from w (base - 24) 24

-- the nine words from i on: four numbers, five links
unfoldable pub nine_test : List ℕ → ℕ → Bool
nine_test w i =
    (((has_kind w i 1 && has_kind w (i + 1) 1) && has_kind w (i + 2) 1) && has_kind w (i + 3) 1)
    && ((((has_kind w (i + 4) 2 && has_kind w (i + 5) 2) && has_kind w (i + 6) 2) && has_kind w (i + 7) 2) && has_kind w (i + 8) 2)

abbrev pub nines_from : List ℕ → ℕ → ℕ → Bool
nines_from w k i = turns (nine_test w) (λ i. i + 9) (λ _. true) k i

unfoldable pub nines_ok : List ℕ → ℕ → ℕ → Bool
nines_ok w base n = nines_from w n base

module _ (w : List ℕ) (base : ℕ) where
  kinds_split : (a b i : ℕ) → kinds_from w base (a + b) i ≡ pick (kinds_from w base a i) (kinds_from w base b (i + a)) false
  unfolding turns
  kinds_split zero b i = rw (zero-add, add-zero)
  kinds_split (suc a) b i =
      let e : suc a + b ≡ suc (a + b) = omega arith in
      let q : i + 1 + a ≡ i + suc a = omega arith in
      rw (e, ← q) (pick_pick (kind_test w base i) (kinds_from w base a (i + 1)) (kinds_from w base b (i + 1 + a)) _ (kinds_split a b (i + 1)))

  pub kinds_short : (k i : ℕ) → i ≤ length w → length w < i + k → kinds_from w base k i ≡ false
  unfolding turns
  kinds_short zero i l h = absurd (omega arith)
  kinds_short (suc k) i l h =
      ⊎_elim (λ s. or_not (kind_test w base i) (kinds_from w base k (i + 1)) (kinds_short k (i + 1) (omega arith) (omega arith)))
      (λ s. rw (kind_out w base i s)) (less i (length w))
    where
      or_not : (t x : Bool) → x ≡ false → pick t x false ≡ false
      or_not true x e = e
      or_not false x e = refl

  pub kinds_long : (len : ℕ) → kinds_ok w base len ≡ true → len ≤ length w
  unfolding kinds_ok
  kinds_long len h = ⊎_elim (λ s. absurd (to_T false (sym (kinds_short len 0 (omega arith) (omega arith)) ∙ h))) (λ s. s) (less (length w) len)

  module _ (big : 24 ≤ base) where
    nine : (k i m : ℕ) → i ≡ base + 9 * m → kinds_from w base (suc (suc (suc (suc (suc (suc (suc (suc (suc k))))))))) i ≡ pick (nine_test w i)
        (kinds_from w base k (i + 9)) false
    unfolding turns kind_test nine_test has_kind
    nine k i m e =
        let q2 : i + 1 + 1 ≡ i + 2 = omega arith in
        let q3 : i + 1 + 1 + 1 ≡ i + 3 = omega arith in
        let q4 : i + 1 + 1 + 1 + 1 ≡ i + 4 = omega arith in
        let q5 : i + 1 + 1 + 1 + 1 + 1 ≡ i + 5 = omega arith in
        let q6 : i + 1 + 1 + 1 + 1 + 1 + 1 ≡ i + 6 = omega arith in
        let q7 : i + 1 + 1 + 1 + 1 + 1 + 1 + 1 ≡ i + 7 = omega arith in
        let q8 : i + 1 + 1 + 1 + 1 + 1 + 1 + 1 + 1 ≡ i + 8 = omega arith in
        let q9 : i + 1 + 1 + 1 + 1 + 1 + 1 + 1 + 1 + 1 ≡ i + 9 = omega arith in
        rw (
          entry_kind base big i m 0 (omega arith) (omega arith),
          entry_kind base big (i + 1) m 1 (omega arith) (omega arith),
          entry_kind base big (i + 1 + 1) m 2 (omega arith) (omega arith),
          entry_kind base big (i + 1 + 1 + 1) m 3 (omega arith) (omega arith),
          entry_kind base big (i + 1 + 1 + 1 + 1) m 4 (omega arith) (omega arith),
          entry_kind base big (i + 1 + 1 + 1 + 1 + 1) m 5 (omega arith) (omega arith),
          entry_kind base big (i + 1 + 1 + 1 + 1 + 1 + 1) m 6 (omega arith) (omega arith),
          entry_kind base big (i + 1 + 1 + 1 + 1 + 1 + 1 + 1) m 7 (omega arith) (omega arith),
          entry_kind base big (i + 1 + 1 + 1 + 1 + 1 + 1 + 1 + 1) m 8 (omega arith) (omega arith),
          q9,
          q8,
          q7,
          q6,
          q5,
          q4,
          q3,
          q2,
        ) (go (has_kind w i 1) (has_kind w (i + 1) 1) (has_kind w (i + 2) 1) (has_kind w (i + 3) 1) (has_kind w (i + 4) 2) (has_kind w (i + 5) 2)
        (has_kind w (i + 6) 2) (has_kind w (i + 7) 2) (has_kind w (i + 8) 2) (kinds_from w base k (i + 9)))
      where
        go : (a1 a2 a3 a4 a5 a6 a7 a8 a9 r : Bool) → pick a1
            (pick a2 (pick a3 (pick a4 (pick a5 (pick a6 (pick a7 (pick a8 (pick a9 r false) false) false) false) false) false) false) false)
            false ≡ pick ((((a1 && a2) && a3) && a4) && ((((a5 && a6) && a7) && a8) && a9)) r false
        go false a2 a3 a4 a5 a6 a7 a8 a9 r = refl
        go true false a3 a4 a5 a6 a7 a8 a9 r = refl
        go true true false a4 a5 a6 a7 a8 a9 r = refl
        go true true true false a5 a6 a7 a8 a9 r = refl
        go true true true true false a6 a7 a8 a9 r = refl
        go true true true true true false a7 a8 a9 r = refl
        go true true true true true true false a8 a9 r = refl
        go true true true true true true true false a9 r = refl
        go true true true true true true true true a9 r = refl

    nines : (k i m : ℕ) → i ≡ base + 9 * m → kinds_from w base (9 * k) i ≡ nines_from w k i
    unfolding turns
    nines zero i m e = refl
    nines (suc k) i m e =
        let q : 9 * suc k ≡ suc (suc (suc (suc (suc (suc (suc (suc (suc (9 * k))))))))) = omega arith in
        rw q (nine (9 * k) i m e ∙ ap (λ x. pick (nine_test w i) x false) (nines k (i + 9) (suc m) (omega arith)))

    links : (k i : ℕ) → 24 ≤ i → i + k ≤ base → kinds_from w base k i ≡ links_from w k i
    unfolding turns kind_test kind_at has_kind
    links zero i l h = refl
    links (suc k) i l h =
        rw (le-ltb i 9 (omega arith), le-ltb i 14 (omega arith), le-ltb i 24 l, lt-ltb i base (omega arith))
        (ap (λ x. pick (has_kind w i 2) x false) (links k (i + 1) (omega arith) (omega arith)))

    head : kinds_ok w base base ≡ pick (kinds_ok w base 24) (links_ok w base) false
    unfolding kinds_ok links_ok
    head =
        let q : 24 + (base - 24) ≡ base = omega arith in
        ap (λ k. kinds_from w base k 0) (sym q) ∙ kinds_split 24 (base - 24) 0
        ∙ rw zero-add (ap (λ x. pick (kinds_from w base 24 0) x false) (links (base - 24) 24 (omega arith) (omega arith)))

    pub kinds_in_parts : (n : ℕ) → kinds_ok w base (base + 9 * n) ≡ pick (kinds_ok w base 24) (pick (links_ok w base) (nines_ok w base n) false) false
    unfolding kinds_ok nines_ok
    kinds_in_parts n =
        kinds_split base (9 * n) 0
        ∙ rw (zero-add, nines n base 0 (omega arith), head) (go (kinds_ok w base 24) (links_ok w base) (nines_from w n base))
      where
        go : (a b c : Bool) → pick (pick a b false) c false ≡ pick a (pick b c false) false
        go true b c = refl
        go false b c = refl
