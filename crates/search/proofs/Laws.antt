-- One turn of each search, by its cases: of `searched`, `synonym_before`, `over_pinned` and `victim_from`. Assumes nothing.
use Prim.Native.Nat.{ℕ, zero, suc, ◌+◌, ◌-◌, ◌<◌}
use mathlib.Core.Path.{◌≡◌, ◌∙◌, refl}
use mathlib.Core.Bool.{true, false}
use mathlib.Core.List.{List}
use native.Mathlib.Omega.{arith}
use borrow.Author.Tests.{eq-eqb, ne_eqb}
use Rattle.std.proofs.lemmas.Bool.{false≢true}
use Rattle.words.specs.Words.{val}
use Rattle.layout.specs.Addresses.{BLOCK, NEXT-SYNONYM}
use Rattle.word_ops.specs.Lists.{word_of}
use Rattle.word_ops.specs.Buckets.{searched, synonym_before}
use Rattle.word_ops.specs.Victim.{reaches, is_pinned_entry, over_pinned, chain_last, stack_last, or_all_pinned, victim_from}
use Rattle.std.specs.Prelude.{Some, None}

-- a lookup
module _ (w : List ℕ) (at block : ℕ) where
  pub found_none : (links e : ℕ) → links ≡ 0 → searched w at block links e ≡ None
  unfolding searched
  found_none links e h = rw h

  pub found_end : (links e : ℕ) → 0 < links → e ≡ 0 → searched w at block links e ≡ None
  unfolding searched
  found_end (suc links) e h z = rw (eq-eqb e 0 z)
  found_end zero e h z = refl

  pub found_here : (links e : ℕ) → 0 < links → (e ≡ 0 → ⊥) → val w (word_of at e BLOCK) ≡ block → searched w at block links e ≡ Some e
  unfolding searched
  found_here (suc links) e h z q = rw (ne_eqb e 0 z, eq-eqb (val w (word_of at e BLOCK)) block q)
  found_here zero e h z q = absurd (omega arith)

  pub found_next : (links after e : ℕ) → links ≡ suc after → (e ≡ 0 → ⊥) → (val w (word_of at e BLOCK) ≡ block → ⊥)
      → searched w at block links e ≡ searched w at block after (val w (word_of at e NEXT-SYNONYM))
  unfolding searched
  found_next links after e h z q = rw (h, ne_eqb e 0 z, ne_eqb (val w (word_of at e BLOCK)) block q)

-- the synonym before e
module _ (w : List ℕ) (at e : ℕ) where
  pub before_none : (links x q : ℕ) → links ≡ 0 → synonym_before w at e links x q ≡ q
  unfolding synonym_before
  before_none links x q h = rw h

  pub before_here : (links x q : ℕ) → 0 < links → x ≡ e → synonym_before w at e links x q ≡ q
  unfolding synonym_before
  before_here (suc links) x q h z = rw (eq-eqb x e z)
  before_here zero x q h z = refl

  pub before_next : (links after x q : ℕ) → links ≡ suc after → (x ≡ e → ⊥)
      → synonym_before w at e links x q ≡ synonym_before w at e after (val w (word_of at x NEXT-SYNONYM)) x
  unfolding synonym_before
  before_next links after x q h z = rw (h, ne_eqb x e z)

-- the walk over the pinned ones of a section
module _ (w : List ℕ) (at section k : ℕ) where
  pub over_none : (links e : ℕ) → links ≡ 0 → over_pinned w at section k links e ≡ 0
  unfolding over_pinned
  over_none links e h = rw h

  pub over_end : (links e : ℕ) → 0 < links → reaches w at section e ≡ false → over_pinned w at section k links e ≡ 0
  unfolding over_pinned
  over_end (suc links) e h r = rw r
  over_end zero e h r = refl

  pub over_here : (links e : ℕ) → 0 < links → reaches w at section e ≡ true → is_pinned_entry w at e ≡ false
      → over_pinned w at section k links e ≡ e
  unfolding over_pinned
  over_here (suc links) e h r q = rw (r, q)
  over_here zero e h r q = absurd (omega arith)

  pub over_next : (links after e : ℕ) → links ≡ suc after → reaches w at section e ≡ true → is_pinned_entry w at e ≡ true
      → over_pinned w at section k links e ≡ over_pinned w at section k after (val w (word_of at e k))
  unfolding over_pinned
  over_next links after e h r q = rw (h, r, q)

-- a resident is an entry
pub reached : (w : List ℕ) (at section e : ℕ) → reaches w at section e ≡ true → 0 < e
unfolding reaches
reached w at section zero r = absurd (false≢true r)
reached w at section (suc e) r = omega arith

-- the victim
module _ (w : List ℕ) (at links : ℕ) where
  pub picked_none : (more i m : ℕ) → more ≡ 0 → m ≡ i - 1 → victim_from w at links more i ≡ or_all_pinned m (stack_last w at links)
  unfolding victim_from
  picked_none more i m h q = rw (h, q)

  pub picked_here : (more i e : ℕ) → 0 < more → chain_last w at links i ≡ e → 0 < e
      → victim_from w at links more i ≡ Some (record { chains = i; entry = e })
  unfolding victim_from
  picked_here (suc more) i e h l q = rw (l, ne_eqb e 0 (λ z. omega arith))
  picked_here zero i e h l q = absurd (omega arith)

  pub picked_next : (more after i : ℕ) → more ≡ suc after → chain_last w at links i ≡ 0
      → victim_from w at links more i ≡ victim_from w at links after (i + 1)
  unfolding victim_from
  picked_next more after i h l = rw (h, l)

  -- the last chain had none
  pub picked_last : (more i m : ℕ) → more ≡ 1 → m ≡ i → chain_last w at links i ≡ 0
      → victim_from w at links more i ≡ or_all_pinned m (stack_last w at links)
  picked_last more i m h q l = picked_next more 0 i h l ∙ picked_none 0 (i + 1) m refl (omega arith)
