-- Kinds of work words as numbers, which the top 4 bits of a word are: what each says of the word's value, and of a tally with one word more.
use Prim.Native.Nat.{ℕ, zero, suc, ◌+◌, ◌/◌, ◌%◌, ◌^◌, ◌≤◌, ◌<◌}
use Rattle.std.proofs.Common.{add-zero, sym, ap, ◌∙◌}
use native.Mathlib.Omega.{arith}
use Rattle.std.specs.Prelude.{◌≡◌, ◌≢◌, Bool, ◌&&◌, eqb, ltb}
use Rattle.std.proofs.Math.Path.{refl}
use Rattle.std.proofs.Math.Bool.{true, false}
use borrow.Author.Tests.{ne_eqb}
use Rattle.basics.specs.Basics.{when◌then◌else◌, pick}
use Rattle.settings.specs.declared.Settings.{Settings}
use Rattle.stack.specs.Stack.{Work, read, write, purge, flush, tick, invalid, pin, unpin}
use Rattle.stack.specs.Batch.{work}
use Rattle.batch_number.specs.declared.Tally.{Tally}
use Rattle.batch_number.specs.Tallies.{plus}

-- the kind of a word, 0 for an invalid one
abbrev pub kind_of : Work → ℕ
kind_of = elim [ read b ↦ 1 | write b ↦ 2 | purge b ↦ 3 | flush ↦ 4 | tick ↦ 5 | pin b ↦ 6 | unpin b ↦ 7 | invalid ↦ 0 ]

-- ---- the kind of a word

module _ (s : Settings) (w : ℕ) where
  abbrev kind : ℕ
  kind = w / 2 ^ 28

  abbrev value : ℕ
  value = w % 2 ^ 28

  -- a word of kind k by its value v: whether that is inside the store, and whether it is 0
  abbrev worked : ℕ → Bool → Bool → ℕ → Work
  worked k inside none v =
      when eqb k 1 && inside then read v
      else when eqb k 2 && inside then write v
      else when eqb k 3 && inside then purge v
      else when eqb k 4 && none then flush
      else when eqb k 5 && none then tick
      else when eqb k 6 && inside then pin v
      else when eqb k 7 && inside then unpin v
      else invalid

  none : (a : Bool) (x y : Work) → (when a && false then x else y) ≡ y
  none true x y = refl
  none false x y = refl

  -- a flush or a tick, and one with a value
  pub kind_flush : 3 < kind → kind ≤ 5 → value ≡ 0 → kind ≡ kind_of (work s w)
  unfolding work
  kind_flush low high e = rw e (go kind low high)
    where
      go : (k : ℕ) → 3 < k → k ≤ 5
          → k ≡ kind_of (worked k (ltb 0 s.m) true 0)
      go zero h l = absurd (omega arith)
      go (suc zero) h l = absurd (omega arith)
      go (suc (suc zero)) h l = absurd (omega arith)
      go (suc (suc (suc zero))) h l = absurd (omega arith)
      go (suc (suc (suc (suc zero)))) h l = refl
      go (suc (suc (suc (suc (suc zero))))) h l = refl
      go (suc (suc (suc (suc (suc (suc k)))))) h l = absurd (omega arith)

  pub kind_valued : 3 < kind → kind ≤ 5 → value ≢ 0 → 0 ≡ kind_of (work s w)
  unfolding work
  kind_valued low high n =
      rw (
        ne_eqb kind 1 (λ e. omega arith),
        ne_eqb kind 2 (λ e. omega arith),
        ne_eqb kind 3 (λ e. omega arith),
        ne_eqb kind 6 (λ e. omega arith),
        ne_eqb kind 7 (λ e. omega arith),
        ne_eqb value 0 n,
      )
      (sym (ap kind_of (none (eqb kind 4) _ _ ∙ none (eqb kind 5) _ _)))

  -- a kind outside 1 to 7
  pub kind_unknown : 7 < kind → 0 ≡ kind_of (work s w)
  unfolding work
  kind_unknown h =
      rw (
        ne_eqb kind 1 (λ e. omega arith),
        ne_eqb kind 2 (λ e. omega arith),
        ne_eqb kind 3 (λ e. omega arith),
        ne_eqb kind 4 (λ e. omega arith),
        ne_eqb kind 5 (λ e. omega arith),
        ne_eqb kind 6 (λ e. omega arith),
        ne_eqb kind 7 (λ e. omega arith),
      )

  -- a kind that has a block, of the store or not
  pub kind_block : kind ≤ 7 → kind ≢ 4 → kind ≢ 5 → pick (ltb value s.m) kind 0 ≡ kind_of (work s w)
  unfolding work
  kind_block = go kind (ltb value s.m)
    where
      go : (k : ℕ) (inside : Bool) → k ≤ 7 → k ≢ 4 → k ≢ 5 → pick inside k 0 ≡ kind_of (worked k inside (eqb value 0) value)
      go zero true l p q = refl
      go zero false l p q = refl
      go (suc zero) true l p q = refl
      go (suc zero) false l p q = refl
      go (suc (suc zero)) true l p q = refl
      go (suc (suc zero)) false l p q = refl
      go (suc (suc (suc zero))) true l p q = refl
      go (suc (suc (suc zero))) false l p q = refl
      go (suc (suc (suc (suc zero)))) inside l p q = absurd (p refl)
      go (suc (suc (suc (suc (suc zero))))) inside l p q = absurd (q refl)
      go (suc (suc (suc (suc (suc (suc zero)))))) true l p q = refl
      go (suc (suc (suc (suc (suc (suc zero)))))) false l p q = refl
      go (suc (suc (suc (suc (suc (suc (suc zero))))))) true l p q = refl
      go (suc (suc (suc (suc (suc (suc (suc zero))))))) false l p q = refl
      go (suc (suc (suc (suc (suc (suc (suc (suc k)))))))) inside l p q = absurd (omega arith)

-- ---- one word more, by its kind

module _ (t : Tally) where
  pub plus_invalid : (w : Work) → kind_of w ≡ 0 → record { reads = t.reads; writes = t.writes; invalid = t.invalid + 1 } ≡ plus t w
  plus_invalid (read b) e = absurd (omega arith)
  plus_invalid (write b) e = absurd (omega arith)
  plus_invalid (purge b) e = absurd (omega arith)
  plus_invalid flush e = absurd (omega arith)
  plus_invalid tick e = absurd (omega arith)
  plus_invalid (pin b) e = absurd (omega arith)
  plus_invalid (unpin b) e = absurd (omega arith)
  plus_invalid invalid e = simp add-zero

  pub plus_read : (w : Work) → kind_of w ≡ 1 → record { reads = t.reads + 1; writes = t.writes; invalid = t.invalid } ≡ plus t w
  plus_read (read b) e = simp add-zero
  plus_read (write b) e = absurd (omega arith)
  plus_read (purge b) e = absurd (omega arith)
  plus_read flush e = absurd (omega arith)
  plus_read tick e = absurd (omega arith)
  plus_read (pin b) e = absurd (omega arith)
  plus_read (unpin b) e = absurd (omega arith)
  plus_read invalid e = absurd (omega arith)

  pub plus_write : (w : Work) → kind_of w ≡ 2 → record { reads = t.reads; writes = t.writes + 1; invalid = t.invalid } ≡ plus t w
  plus_write (read b) e = absurd (omega arith)
  plus_write (write b) e = simp add-zero
  plus_write (purge b) e = absurd (omega arith)
  plus_write flush e = absurd (omega arith)
  plus_write tick e = absurd (omega arith)
  plus_write (pin b) e = absurd (omega arith)
  plus_write (unpin b) e = absurd (omega arith)
  plus_write invalid e = absurd (omega arith)

  -- any other
  pub plus_other : (w : Work) → kind_of w ≢ 0 → kind_of w ≢ 1 → kind_of w ≢ 2 → t ≡ plus t w
  plus_other (read b) x y z = absurd (y refl)
  plus_other (write b) x y z = absurd (z refl)
  plus_other (purge b) x y z = simp add-zero
  plus_other flush x y z = simp add-zero
  plus_other tick x y z = simp add-zero
  plus_other (pin b) x y z = simp add-zero
  plus_other (unpin b) x y z = simp add-zero
  plus_other invalid x y z = absurd (x refl)
