-- The kinds of the words: the check and the definition.
-- Assumes nothing.
use Prim.Native.Nat.{ℕ, zero, suc, ◌+◌, ◌-◌, ◌*◌, ◌/◌, ◌%◌, ◌≤◌, ◌<◌}
use Rattle.std.specs.Prelude.{◌≡◌, ◌⊎◌, Bool, ◌&&◌, take, replicate, ltb}
use Rattle.std.proofs.Math.Path.{refl, ap, ap₂}
use Rattle.std.proofs.Common.{◌∙◌, sym, inl, inr, zero-add, add-zero, add-one, drop_of_length-le}
use Rattle.std.proofs.Math.Bool.{true, false}
use mathlib.Core.List.{List, [], ◌∷◌, ◌++◌, map}
use native.Mathlib.Omega.{arith}
use Rattle.std.proofs.Math.ListN.{length, get_or, drop, get_or-eq_default}
use Rattle.std.proofs.Math.Seq.{drop-cons}
use Rattle.std.proofs.Math.Dec.{eqb}
use borrow.Author.Tests.{lt-ltb, le-ltb}
use Rattle.basics.specs.Lists.{same}
use Rattle.basics.specs.Basics.{pick}
use Rattle.words.specs.Words.{val}
use Rattle.settings.specs.Buckets.{buckets}
use Rattle.layout.specs.Addresses.{CACHE-BLOCKS, CHAIN-LIMIT}
use Rattle.layout.specs.Layout.{kinds, entry_kinds}
use Rattle.layout.specs.Sound.{settings_in, kinds_right}
use Rattle.check_model.specs.Turns.{turns}
use Rattle.check_model.specs.Tests.{kind_at, kind_test, kinds_from, kinds_ok}
use Rattle.check_model.specs.Fields.{less}

module _ (base : ℕ) where
  unfoldable pub kind_list : ℕ → ℕ → List ℕ
  kind_list i zero = []
  kind_list i (suc k) = kind_at base i ∷ kind_list (i + 1) k

  pub kind_some : (i : ℕ) → eqb 0 (kind_at base i) ≡ false
  unfolding kind_at
  kind_some i = go (ltb i 9) (ltb i 14) (ltb i 24) (ltb i base) (ltb ((i - base) % 9) 4)
    where
      go : (a b c d e : Bool) → eqb 0 (pick a 1 (pick b 2 (pick c 1 (pick d 2 (pick e 1 2))))) ≡ false
      go true b c d e = refl
      go false true c d e = refl
      go false false true d e = refl
      go false false false true e = refl
      go false false false false true = refl
      go false false false false false = refl

  and_pick : (t x : Bool) → pick t x false ≡ (t && x)
  and_pick true x = refl
  and_pick false x = refl

  pub kinds_run : (w : List ℕ) (k i : ℕ) → kinds_from w base k i ≡ same (map (λ v. v / 268435456) (take k (drop i w))) (kind_list i k)
  unfolding turns same kind_list kind_test
  kinds_run w zero i = refl
  kinds_run w (suc k) i = go (kinds_run w k (i + 1)) (less i (length w))
    where
      go : kinds_from w base k (i + 1) ≡ same (map (λ v. v / 268435456) (take k (drop (i + 1) w))) (kind_list (i + 1) k)
          → (i < length w) ⊎ (length w ≤ i)
          → pick (eqb (get_or w i 0 / 268435456) (kind_at base i)) (kinds_from w base k (i + 1)) false ≡ same
          (map (λ v. v / 268435456) (take (suc k) (drop i w))) (kind_at base i ∷ kind_list (i + 1) k)
      go r (inl h) =
          let d : drop i w ≡ get_or w i 0 ∷ drop (i + 1) w = drop-cons w i 0 h ∙ ap (λ n. get_or w i 0 ∷ drop n w) (sym (add-one i)) in
          rw (d, r) (and_pick (eqb (get_or w i 0 / 268435456) (kind_at base i))
          (same (map (λ v. v / 268435456) (take k (drop (i + 1) w))) (kind_list (i + 1) k)))
      go r (inr h) = rw (drop_of_length-le w h, get_or-eq_default w 0 h, kind_some i)

  list_append : (i a b : ℕ) → kind_list i (a + b) ≡ kind_list i a ++ kind_list (i + a) b
  unfolding kind_list
  list_append i zero b = rw (zero-add, add-zero)
  list_append i (suc a) b =
      let e : suc a + b ≡ suc (a + b) = omega arith in
      let q : i + 1 + a ≡ i + suc a = omega arith in
      rw (e, ← q) (ap (λ l. kind_at base i ∷ l) (list_append (i + 1) a b))

  list_const : (v i k : ℕ) → ((j : ℕ) → i ≤ j → j < i + k → kind_at base j ≡ v) → kind_list i k ≡ replicate k v
  unfolding kind_list
  list_const v i zero h = refl
  list_const v i (suc k) h = ap₂ ◌∷◌ (h i (omega arith) (omega arith)) (list_const v (i + 1) k (λ j a b. h j (omega arith) (omega arith)))

  module _ (big : 24 ≤ base) where
    pub entry_kind : (i m c : ℕ) → i ≡ base + 9 * m + c → c < 9 → kind_at base i ≡ pick (ltb c 4) 1 2
    unfolding kind_at
    entry_kind i m c e h =
        let q : (i - base) % 9 ≡ c = omega arith in
        rw (le-ltb i 9 (omega arith), le-ltb i 14 (omega arith), le-ltb i 24 (omega arith), le-ltb i base (omega arith), q)

    list_entries : (n i m : ℕ) → i ≡ base + 9 * m → kind_list i (9 * n) ≡ entry_kinds n
    unfolding kind_list entry_kinds
    list_entries zero i m e = refl
    list_entries (suc n) i m e =
        let q : 9 * suc n ≡ suc (suc (suc (suc (suc (suc (suc (suc (suc (9 * n))))))))) = omega arith in
        rw (
          q,
          entry_kind i m 0 (omega arith) (omega arith),
          entry_kind (i + 1) m 1 (omega arith) (omega arith),
          entry_kind (i + 1 + 1) m 2 (omega arith) (omega arith),
          entry_kind (i + 1 + 1 + 1) m 3 (omega arith) (omega arith),
          entry_kind (i + 1 + 1 + 1 + 1) m 4 (omega arith) (omega arith),
          entry_kind (i + 1 + 1 + 1 + 1 + 1) m 5 (omega arith) (omega arith),
          entry_kind (i + 1 + 1 + 1 + 1 + 1 + 1) m 6 (omega arith) (omega arith),
          entry_kind (i + 1 + 1 + 1 + 1 + 1 + 1 + 1) m 7 (omega arith) (omega arith),
          entry_kind (i + 1 + 1 + 1 + 1 + 1 + 1 + 1 + 1) m 8 (omega arith) (omega arith),
          list_entries n (i + 1 + 1 + 1 + 1 + 1 + 1 + 1 + 1 + 1) (suc m) (omega arith),
        )

    pub header_kind : (j : ℕ) → j < 9 → kind_at base j ≡ 1
    unfolding kind_at
    header_kind j h = rw (lt-ltb j 9 h)

    pub link_kind : (j : ℕ) → 9 ≤ j → j < 14 → kind_at base j ≡ 2
    unfolding kind_at
    link_kind j l h = rw (le-ltb j 9 l, lt-ltb j 14 h)

    pub total_kind : (j : ℕ) → 14 ≤ j → j < 24 → kind_at base j ≡ 1
    unfolding kind_at
    total_kind j l h = rw (le-ltb j 9 (omega arith), le-ltb j 14 l, lt-ltb j 24 h)

    pub chain_kind : (j : ℕ) → 24 ≤ j → j < base → kind_at base j ≡ 2
    unfolding kind_at
    chain_kind j l h = rw (le-ltb j 9 (omega arith), le-ltb j 14 (omega arith), le-ltb j 24 l, lt-ltb j base h)

    pub kinds_list : (c n : ℕ) → base ≡ 24 + c → kind_list 0 (base + 9 * n) ≡ replicate 9 1 ++ replicate 5 2 ++ replicate 10 1 ++ replicate c 2
        ++ entry_kinds n
    kinds_list c n e =
        let q : base + 9 * n ≡ 24 + c + 9 * n = omega arith in
        rw (
          q,
          list_append 0 (24 + c) (9 * n),
          list_append 0 24 c,
          list_append 0 14 10,
          list_append 0 9 5,
          list_const 1 0 9 (λ j a b. header_kind j (omega arith)),
          list_const 2 9 5 (λ j a b. link_kind j a (omega arith)),
          list_const 1 14 10 (λ j a b. total_kind j a (omega arith)),
          list_const 2 24 c (λ j a b. chain_kind j a (omega arith)),
          list_entries n (0 + (24 + c)) 0 (omega arith),
        )

pub kinds_same : (w : List ℕ) →
    let base : ℕ = 24 + 2 * val w CHAIN-LIMIT + buckets (val w CACHE-BLOCKS) in
    kinds_ok w base (base + 9 * val w CACHE-BLOCKS) ≡ kinds_right w
unfolding kinds_ok kinds_right settings_in kinds
kinds_same w =
    let base : ℕ = 24 + 2 * val w CHAIN-LIMIT + buckets (val w CACHE-BLOCKS) in
    kinds_run base w (base + 9 * val w CACHE-BLOCKS) 0 ∙ ap (same (map (λ v. v / 268435456) (take (base + 9 * val w CACHE-BLOCKS) w)))
    (kinds_list base (omega arith) (2 * val w CHAIN-LIMIT + buckets (val w CACHE-BLOCKS)) (val w CACHE-BLOCKS) (omega arith))
