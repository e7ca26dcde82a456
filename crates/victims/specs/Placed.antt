-- From what the search found to the place of an absent block in a full stack. Assumes nothing.
use Rattle.std.specs.Prelude.{ℕ, ◌≡◌, Bool, ltb, length}
use Rattle.std.proofs.Math.Path.{refl, ap}
use Rattle.std.proofs.Common.{◌∙◌, sym, ap₂, arith, le-ltb}
use mathlib.Core.List.{List, [], ◌∷◌, map}
use Rattle.std.proofs.Math.Option.{none, some}
use Rattle.std.proofs.Math.ListN.{get_elem?}
use Rattle.basics.specs.Basics.{without}
use Rattle.basics.specs.TestLaws.{if_no}
use Rattle.settings.specs.declared.Settings.{Settings}
use Rattle.stack.specs.Counts.{victim}
use Rattle.stack.specs.Recency.{Resident, unused, replacing, all_pinned, counts_pins, replacing_at, found_at}
use Rattle.layout.specs.Addresses.{COUNT, MODIFIED}
use Rattle.layout.specs.ModifiedWord.{marks_in}
use Rattle.victims.specs.Found.{counts_pins_of}

-- the pairs searched by are those of the residents r e that the fields stand for
pub counts_pins_lem : (D : ℕ → ℕ → ℕ) (r : ℕ → Resident ℕ) (residents : List ℕ)
    → ((e : ℕ) → ((r e).count ≡ D COUNT e) × ((r e).marks.pinned ≡ (marks_in (D MODIFIED e)).pinned))
    → counts_pins (map r residents) ≡ counts_pins_of D residents
counts_pins_lem D r [] h = refl
counts_pins_lem D r (e ∷ residents) h =
    ap₂ ◌∷◌ (ap₂ (λ (n : ℕ) (b : Bool). (n, b)) (h e).0 (h e).1) (counts_pins_lem D r residents h)

module _ {A : Type 0} (t : Settings) (p : ℕ) (l : List (Resident A)) (full : length l ≡ t.n) where
  full_place : found_at t p l none ≡ replacing_at (victim t (counts_pins l)) l (get_elem? l (victim t (counts_pins l)))
  unfolding found_at
  full_place =
      if_no (ltb (length l) t.n) (unused l) (replacing_at (victim t (counts_pins l)) l (get_elem? l (victim t (counts_pins l))))
      (rw (le-ltb (length l) t.n (omega arith)) tt)

  -- the block at the victim's position goes
  pub found_replacing : (v : ℕ) (x : Resident A) → v ≡ victim t (counts_pins l) → get_elem? l v ≡ some x
      → found_at t p l none ≡ replacing x (without v l)
  unfolding replacing_at
  found_replacing v x e h =
      full_place ∙ ap (λ (q : ℕ). replacing_at q l (get_elem? l q)) (sym e) ∙ ap (replacing_at v l) h

  -- none does: all are pinned
  pub found_refused : length l ≡ victim t (counts_pins l) → found_at t p l none ≡ all_pinned l
  unfolding replacing_at
  found_refused e =
      full_place ∙ ap (λ (q : ℕ). replacing_at q l (get_elem? l q)) (sym e) ∙ ap (replacing_at (length l) l) (past l)
    where
      past : (m : List (Resident A)) → get_elem? m (length m) ≡ none
      past [] = refl
      past (x ∷ m) = past m
