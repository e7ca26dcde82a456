-- The loops of the check, turn by turn.
use Prim.Native.Nat.{ℕ, zero, suc, ◌+◌, ◌-◌, ◌*◌, ◌≤◌, ◌<◌}
use Rattle.std.specs.Prelude.{◌≡◌, Bool, List, length, T, ltb, eqb}
use Rattle.std.proofs.Math.Path.{refl}
use Rattle.std.proofs.Common.{ap, ◌∙◌}
use Rattle.std.proofs.Math.Bool.{true, false}
use native.Mathlib.Omega.{arith}
use Rattle.std.proofs.Math.Decide.{ℕ_discrete}
use Rattle.std.proofs.Math.ListN.{get_or-eq_default}
use Rattle.std.proofs.Math.Facts.{ltb_no}
use borrow.Author.Tests.{eq-eqb, ne_eqb}
use Rattle.basics.specs.Basics.{pick}
use Rattle.words.specs.WordLaws.{val_small}
use Rattle.check_model.specs.Turns.{turns, moved}
use Rattle.check_model.specs.Tests.{fld, entry_word, kind_test, link_test, unused_test, Lent, list_test, nth_listed, Tested, listed, left_after, buckets_from, sum_from, total_of}
use Rattle.check_model.specs.Bools.{to_T, pick_no, pick_pick}
use Rattle.check_model.specs.Kinds.{kind_some}
use Rattle.layout.specs.Addresses.{NEXT-SYNONYM}

module _ {S : Type 0} (ok : S → Bool) (next : S → S) (done : S → Bool) where
  pub turns_end : (k : ℕ) (s : S) (b : Bool) → k ≡ 0 → done s ≡ b → turns ok next done k s ≡ b
  unfolding turns
  turns_end k s b h e = rw h e

  pub turns_fail : (k : ℕ) (s : S) → 0 < k → ok s ≡ false → turns ok next done k s ≡ false
  unfolding turns
  turns_fail (suc k) s h e = rw e
  turns_fail zero s h e = absurd (omega arith)

  pub turns_go : (k : ℕ) (s : S) → 0 < k → ok s ≡ true → turns ok next done k s ≡ turns ok next done (k - 1) (next s)
  unfolding turns
  turns_go (suc k) s h e =
      let p : suc k - 1 ≡ k = omega arith in
      rw (e, p)
  turns_go zero s h e = absurd (omega arith)

-- turns counted upwards

module _ {S : Type 0} (ok : S → Bool) (next : S → S) (done : S → Bool) where
  pub turns_up : (n i : ℕ) (s : S) → i < n → ok s ≡ true → turns ok next done (n - i) s ≡ turns ok next done (n - (i + 1)) (next s)
  turns_up n i s h e =
      let p : n - i - 1 ≡ n - (i + 1) = omega arith in
      turns_go ok next done (n - i) s (omega arith) e ∙ ap (λ k. turns ok next done k (next s)) p

-- the last of the turns

pub moved_last : {S : Type 0} (next : S → S) (k : ℕ) (s : S) → moved next (suc k) s ≡ next (moved next k s)
unfolding moved
moved_last next zero s = refl
moved_last next (suc k) s = moved_last next k (next s)

module _ {S : Type 0} (ok : S → Bool) (next : S → S) where
  pub turns_last : (k : ℕ) (s : S) → turns ok next (λ _. true) (suc k) s ≡ pick (turns ok next (λ _. true) k s) (ok (moved next k s)) false
  unfolding turns moved
  turns_last zero s = go (ok s)
    where
      go : (b : Bool) → pick b true false ≡ b
      go true = refl
      go false = refl
  turns_last (suc k) s = pick_pick (ok s) (turns ok next (λ _. true) k (next s)) (ok (moved next k (next s))) _ (turns_last k (next s))

-- a word past the end has no kind
pub kind_out : (w : List ℕ) (base i : ℕ) → length w ≤ i → kind_test w base i ≡ false
unfolding kind_test
kind_out w base i h = rw (get_or-eq_default w 0 h) (kind_some base i)

-- an entry that passes a test is among n
module _ (f : ℕ → ℕ → ℕ) (n e : ℕ) where
  among : (x : Bool) → T (pick (ltb n e) false x) → e ≤ n
  among x h = ltb_no {a = n} {b = e} (pick_no (ltb n e) x h).0

  some_among : (x : Bool) → pick (eqb e 0) false (pick (ltb n e) false x) ≡ true → e ≤ n
  some_among x h = among x (pick_no (eqb e 0) (pick (ltb n e) false x) (to_T _ h)).1

  pub unused_low : unused_test f n e ≡ true → e ≤ n
  unfolding unused_test
  unused_low = some_among _

  pub link_low : (before : ℕ) → link_test f n e before ≡ true → e ≤ n
  unfolding link_test
  link_low before = some_among _

  pub list_low : (firsts : ℕ → ℕ) (nb b ahead : ℕ) → list_test f firsts n nb b ahead e ≡ true → e ≤ n
  unfolding list_test
  list_low firsts nb b ahead h = among _ (to_T _ h)

-- entries that are lent: the first of them, and those behind it
module _ (x : List ℕ) where
  pub lent_first : (k e : ℕ) → 0 < k → Lent x k e → 9 * e + 8 < length x
  unfolding moved
  lent_first k e h l = l 0 h

  pub lent_rest : (k e : ℕ) → 0 < k → Lent x k e → Lent x (k - 1) (entry_word x NEXT-SYNONYM e)
  unfolding moved
  lent_rest k e h l i u = l (suc i) (omega arith)

-- entries that were tested
module _ (f : ℕ → ℕ → ℕ) (firsts : ℕ → ℕ) (n nb b : ℕ) where
  pub tested_none : Tested f firsts n nb b 0
  tested_none i h = absurd (omega arith)

  pub tested_next : (ahead e : ℕ) → Tested f firsts n nb b ahead → e ≡ nth_listed f firsts b ahead
      → ¬ (e ≡ 0) → list_test f firsts n nb b ahead e ≡ true → Tested f firsts n nb b (suc ahead)
  tested_next ahead e t q z h i u = go (ℕ_discrete i ahead)
    where
      go : Dec (i ≡ ahead) → (¬ (nth_listed f firsts b i ≡ 0)) × (list_test f firsts n nb b i (nth_listed f firsts b i) ≡ true)
      go (yes c) = rw (c, ← q) (z, h)
      go (no c) = t i (omega arith)

pub tested_lent : (x : List ℕ) (firsts : ℕ → ℕ) (n nb b ahead : ℕ)
    → 9 * n + 8 < length x → Tested (entry_word x) firsts n nb b ahead → Lent x ahead (firsts b)
tested_lent x firsts n nb b ahead l t i u =
    let low : nth_listed (entry_word x) firsts b i ≤ n = list_low (entry_word x) n _ firsts nb b i (t i u).1 in
    omega arith

-- a bucket's list
module _ (f : ℕ → ℕ → ℕ) (firsts : ℕ → ℕ) (n nb b : ℕ) where
  pub listed_end : (ahead k e : ℕ) → e ≡ 0 → listed f firsts n nb b ahead k e ≡ k + 1
  unfolding listed
  listed_end ahead zero e h = rw (eq-eqb e 0 h)
  listed_end ahead (suc k) e h = rw (eq-eqb e 0 h)

  pub listed_over : (ahead k e : ℕ) → k ≡ 0 → (e ≡ 0 → ⊥) → listed f firsts n nb b ahead k e ≡ 0
  unfolding listed
  listed_over ahead k e h z = rw (h, ne_eqb e 0 z)

  pub listed_fail : (ahead k e : ℕ) → 0 < k → (e ≡ 0 → ⊥) → list_test f firsts n nb b ahead e ≡ false → listed f firsts n nb b ahead k e ≡ 0
  unfolding listed
  listed_fail ahead zero e h z q = absurd (omega arith)
  listed_fail ahead (suc k) e h z q = rw (ne_eqb e 0 z, q)

  pub listed_next : (ahead k e : ℕ) → 0 < k → (e ≡ 0 → ⊥) → list_test f firsts n nb b ahead e ≡ true
      → listed f firsts n nb b ahead k e ≡ listed f firsts n nb b (suc ahead) (k - 1) (f NEXT-SYNONYM e)
  unfolding listed
  listed_next ahead zero e h z q = absurd (omega arith)
  listed_next ahead (suc k) e h z q =
      let p : suc k - 1 ≡ k = omega arith in
      rw (ne_eqb e 0 z, q, p)

  pub listed_le : (ahead k e : ℕ) → listed f firsts n nb b ahead k e ≤ k + 1
  unfolding listed
  listed_le ahead zero e = go (eqb e 0)
    where
      go : (t : Bool) → pick t 1 0 ≤ 0 + 1
      go true = omega arith
      go false = omega arith
  listed_le ahead (suc k) e = go (eqb e 0) (list_test f firsts n nb b ahead e) _ (listed_le (suc ahead) k (f NEXT-SYNONYM e))
    where
      go : (t u : Bool) (rest : ℕ) → rest ≤ k + 1 → pick t (suc k + 1) (pick u rest 0) ≤ suc k + 1
      go true u rest h = omega arith
      go false true rest h = omega arith
      go false false rest h = omega arith

module _ (f : ℕ → ℕ → ℕ) (firsts : ℕ → ℕ) (n nb : ℕ) where
  pub buckets_end : (k b left : ℕ) → k ≡ 0 → buckets_from f firsts n nb k b left ≡ eqb left 0
  unfolding buckets_from
  buckets_end k b left h = rw h

  pub buckets_fail : (k b left : ℕ) → 0 < k → left_after f firsts n nb b left ≡ 0 → buckets_from f firsts n nb k b left ≡ false
  unfolding buckets_from
  buckets_fail zero b left h q = absurd (omega arith)
  buckets_fail (suc k) b left h q = rw (eq-eqb (left_after f firsts n nb b left) 0 q)

  pub buckets_go : (m b left : ℕ) → b < m → (left_after f firsts n nb b left ≡ 0 → ⊥)
      → buckets_from f firsts n nb (m - b) b left ≡ buckets_from f firsts n nb (m - (b + 1)) (b + 1) (left_after f firsts n nb b left - 1)
  unfolding buckets_from
  buckets_go m b left h q = go (m - b) (m - (b + 1)) (omega arith)
    where
      go : (k j : ℕ) → k ≡ suc j → buckets_from f firsts n nb k b left ≡ buckets_from f firsts n nb j (b + 1) (left_after f firsts n nb b left - 1)
      go k j e = rw (e, ne_eqb (left_after f firsts n nb b left) 0 q)

-- sums
pub fld_small : (w : List ℕ) (at j e : ℕ) → fld w at j e < 268435456
unfolding fld
fld_small w at j e = val_small w (at + 9 * e + j)

pub sum_small : (w : List ℕ) (at j k e a : ℕ) → (sum_from (fld w at) (fld w at j) k e a).1 ≤ a + 268435456 * k
unfolding moved
sum_small w at j zero e a = omega arith
sum_small w at j (suc k) e a = omega (arith, sum_small w at j k (fld w at 5 e) (a + fld w at j e), fld_small w at j e)

pub total_small : (w : List ℕ) (i : ℕ) → total_of w i < 72057594306363392
unfolding total_of
total_small w i = omega (arith, val_small w i, val_small w (suc i))
