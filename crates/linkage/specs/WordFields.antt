-- The words of a directory as the fields of the working form: the kinds.
-- Assumes nothing.
use Rattle.std.specs.Prelude.{ℕ, ◌+◌, ◌-◌, ◌*◌, ◌/◌, ◌%◌, ◌≤◌, ◌<◌, ◌≡◌, refl, Bool, true, false, List, length, drop, get_or, ltb, eqb}
use Rattle.std.proofs.Common.{◌∙◌, lt-ltb, le-ltb, eq-eqb, ne_eqb}
use Rattle.std.proofs.Math.Path.{sym}
use Rattle.std.proofs.Math.Logic.{⊎_elim}
use native.Mathlib.Omega.{arith}
use Rattle.std.proofs.Math.ListN.{get_or-eq_default}
use Rattle.std.proofs.Math.Dec.{T, eqb→eq}
use Rattle.std.proofs.Math.Facts.{yes_eqb}
use Rattle.basics.specs.Basics.{pick}
use Rattle.words.specs.Words.{val}
use Rattle.fnv.specs.Fnv.{fnv}
use Rattle.settings.specs.declared.Settings.{Settings}
use Rattle.settings.specs.Buckets.{buckets}
use Rattle.check_model.specs.Tests.{kind_at, kind_test, kinds_ok}
use Rattle.check_model.specs.Fields.{less}
use Rattle.check_model.specs.Chains.{counted_read, counted_write}
use Rattle.check_model.specs.Kinds.{kind_some, entry_kind, header_kind, link_kind, total_kind, chain_kind}
use Rattle.linkage.specs.Fields.{Shape, Fields, kind, Address, entry, ends, chain, bucket, header, View}
use Rattle.linkage.specs.Fields as addresses
use Rattle.layout.specs.Addresses.{CACHE-BLOCKS, NEW-BLOCKS, OLD-BLOCKS, CHAIN-LIMIT, AVERAGE-LIMIT, BLOCK-SIZE, STORE-BLOCKS}

module _ (w : List ℕ) where
  abbrev pub nb : ℕ
  nb = buckets (val w CACHE-BLOCKS)

  abbrev pub base : ℕ
  base = 24 + 2 * val w CHAIN-LIMIT + buckets (val w CACHE-BLOCKS)

  abbrev pub given : Settings
  given =
      record {
        n = val w CACHE-BLOCKS;
        nnew = val w NEW-BLOCKS;
        nold = val w OLD-BLOCKS;
        cmax = val w CHAIN-LIMIT;
        amax = val w AVERAGE-LIMIT;
        b =
            val w BLOCK-SIZE;
        m = val w STORE-BLOCKS;
      }

  abbrev pub shape : Shape
  shape =
      record {
        N = val w CACHE-BLOCKS;
        new = val w NEW-BLOCKS;
        old = val w CACHE-BLOCKS - val w OLD-BLOCKS;
        cmax = val w CHAIN-LIMIT;
        nb =
            buckets (val w CACHE-BLOCKS);
        M = val w STORE-BLOCKS;
        hash = λ b. fnv b % buckets (val w CACHE-BLOCKS);
        rest =
            drop (24 + 2 * val w CHAIN-LIMIT + buckets (val w CACHE-BLOCKS) + 9 * val w CACHE-BLOCKS) w;
      }

  abbrev pub addr : ℕ → ℕ → ℕ
  addr k e =
      pick (ltb k 9) (pick (eqb e 0) (14 - k) (15 + 2 * val w CHAIN-LIMIT + buckets (val w CACHE-BLOCKS) + 9 * e + k))
      (pick (ltb k 12) (12 + 2 * e + k) (pick (ltb k 13) (24 + 2 * val w CHAIN-LIMIT + e) (k - 20)))

  abbrev pub fields : Fields
  fields k e = val w (addr k e)

  address_is : (k e a : ℕ) → Address shape k e a → addr k e ≡ a
  address_is k e a (entry h1 h2 h3 h4) = rw (lt-ltb k 9 h1, ne_eqb e 0 (λ c. omega arith)) (sym h4)
  address_is k e a (ends h1 h2 h3 h4) = rw (lt-ltb k 9 (omega arith), eq-eqb e 0 h1) (omega arith)
  address_is k e a (chain h1 h2 h3 h4 h5) = rw (le-ltb k 9 (omega arith), lt-ltb k 12 (omega arith)) (sym h5)
  address_is k e a (bucket h1 h2 h3) = rw (le-ltb k 9 (omega arith), le-ltb k 12 (omega arith), lt-ltb k 13 (omega arith)) (sym h3)
  address_is k e a (header h1 h2 h3 h4 h5) = rw (le-ltb k 9 (omega arith), le-ltb k 12 (omega arith), le-ltb k 13 (omega arith)) (omega arith)

  address_kind : (k e a : ℕ) → Address shape k e a → kind_at base a ≡ kind k
  address_kind k e a (entry h1 h2 h3 h4) =
      entry_kind base (omega arith) a (e - 1) k (omega arith) h1 ∙ go (ltb k 4)
    where
      go : (t : Bool) → ◌≡◌ {A = ℕ} (pick t 1 2) (pick t 1 (pick (ltb k 20) 2 (pick (ltb k 29) 1 (pick (ltb k 34) 2 1))))
      go true = refl
      go false = rw (lt-ltb k 20 (omega arith))
  address_kind k e a (ends h1 h2 h3 h4) =
      link_kind base (omega arith) a (omega arith) (omega arith) ∙ sym (rw (le-ltb k 4 (omega arith), lt-ltb k 20 (omega arith)))
  address_kind k e a (chain h1 h2 h3 h4 h5) =
      chain_kind base (omega arith) a (omega arith) (omega arith) ∙ sym (rw (le-ltb k 4 (omega arith), lt-ltb k 20 (omega arith)))
  address_kind k e a (bucket h1 h2 h3) =
      chain_kind base (omega arith) a (omega arith) (omega arith) ∙ sym (rw (le-ltb k 4 (omega arith), lt-ltb k 20 (omega arith)))
  address_kind k e a (header h1 h2 h3 h4 h5) = ⊎_elim
      (λ u. header_kind base (omega arith) a u ∙ sym (rw (le-ltb k 4 (omega arith), le-ltb k 20 (omega arith), lt-ltb k 29 (omega arith))))
      (λ u. ⊎_elim
      (λ v. link_kind base (omega arith) a u v ∙ sym (rw (
        le-ltb k 4 (omega arith),
        le-ltb k 20 (omega arith),
        le-ltb k 29 (omega arith),
        lt-ltb k 34
            (omega arith),
      )))
      (λ v. total_kind base (omega arith) a v h3 ∙ sym (rw (
        le-ltb k 4 (omega arith),
        le-ltb k 20 (omega arith),
        le-ltb k 29 (omega arith),
        le-ltb k
            34 (omega arith),
      )))
      (less a 14))
      (less a 9)

  -- a word of a kind is there
  there : (i : ℕ) → T (kind_test w base i) → i < length w
  unfolding kind_test
  there i h = ⊎_elim (λ u. u) (λ u. absurd (no i (rw (get_or-eq_default w 0 u) at h))) (less i (length w))
    where
      no : (i : ℕ) → T (eqb (0 / 268435456) (kind_at base i)) → ⊥
      no i t = rw (kind_some base i) at t

  low : (i : ℕ) → val w i < 268435456
  unfolding val
  low i = omega arith

  value : (i : ℕ) → T (kind_test w base i) → get_or w i 0 ≡ kind_at base i * 268435456 + val w i
  unfolding kind_test val
  value i t = omega (arith, eqb→eq (get_or w i 0 / 268435456) (kind_at base i) t)

  pub view_of : 1 ≤ val w CACHE-BLOCKS → T (kinds_ok w base (base + 9 * val w CACHE-BLOCKS)) → View shape w fields
  unfolding kinds_ok
  view_of some h =
      let t : (i : ℕ) → i < base + 9 * val w CACHE-BLOCKS → T (kind_test w base i) =
      λ i u. counted_read (kind_test w base) (base + 9 * val w CACHE-BLOCKS) 0 h i (omega arith) (omega arith) in
      record {
        some = some;
        long = omega (arith, there (base + 9 * val w CACHE-BLOCKS - 1) (t (base + 9 * val w CACHE-BLOCKS - 1) (omega arith)));
        past = refl;
        holds = λ k e a p. rw (address_is k e a p, ← address_kind k e a p) (value a (t a (addresses.address_below shape k e a some p)));
        small = λ k e a p. low (addr k e);
      }

  -- every word is in its place
  pub address_of : (a : ℕ) → a < base + 9 * val w CACHE-BLOCKS → (k : ℕ) × (e : ℕ) × Address shape k e a
  address_of a h = ⊎_elim
      (λ u. (20 + a, 0, header refl refl (omega arith) (omega arith) (omega arith)))
      (λ u. ⊎_elim
      (λ v. (14 - a, 0, ends refl (omega arith) (omega arith) (omega arith)))
      (λ v. ⊎_elim
      (λ x. (20 + a, 0, header refl refl x (omega arith) (omega arith)))
      (λ x. ⊎_elim
      (λ y. (10 + a % 2, (a - 22) / 2, chain (omega arith) (omega arith) (omega arith) (omega arith) (omega arith)))
      (λ y. ⊎_elim
      (λ z. (12, a - (24 + 2 * val w CHAIN-LIMIT), bucket refl (omega arith) (omega arith)))
      (λ z. ((a - base) % 9, (a - base) / 9 + 1, entry (omega arith) (omega arith) (omega arith) (omega arith)))
      (less a base))
      (less a (24 + 2 * val w CHAIN-LIMIT)))
      (less a 24))
      (less a 11))
      (less a 9)

  pub of_view : (D : Fields) → View shape w D → T (kinds_ok w base (base + 9 * val w CACHE-BLOCKS))
  unfolding kinds_ok kind_test
  of_view D g =
      counted_write (kind_test w base) (base + 9 * val w CACHE-BLOCKS) 0
      (λ i a b. let p = address_of i (omega arith) in
      yes_eqb (one (get_or w i 0) (kind p.0) (D p.0 p.1) (g.holds p.0 p.1 i p.2) (g.small p.0 p.1 i p.2)
      ∙ sym (address_kind p.0 p.1 i p.2)))
    where
      one : (x k d : ℕ) → x ≡ k * 268435456 + d → d < 268435456 → x / 268435456 ≡ k
      one x k d e h = omega arith
