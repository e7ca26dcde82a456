-- What a lookup finds in residents of which one was put first, taken out or changed.
use Rattle.std.specs.Prelude.{ℕ, zero, suc, ◌≡◌, ◌≢◌, eqb}
use Rattle.std.proofs.Common.{arith, sym, subst, ◌∙◌}
use Rattle.std.proofs.Math.Path.{refl, ap}
use mathlib.Core.List.{List, [], ◌∷◌, map}
use Rattle.std.proofs.Math.Option
use Rattle.std.proofs.Math.Option.{none, some}
use Rattle.std.proofs.Math.ListN.{get_elem?}
use Rattle.std.proofs.Math.Facts.{yes_eqb, no_eqb}
use Rattle.basics.specs.Basics.{index_of, without}
use Rattle.basics.specs.TestLaws.{same_or_not, if_yes, if_no}
use Rattle.stack.specs.Recency.{Resident, position, lookup}
use Rattle.stack.proofs.PlaceLaws.{all_found}
use Rattle.stack.proofs.BlockLaws.{Absent, Differ}

module _ {A : Type 0} (b : ℕ) where
  pub lookup_first : (y : Resident A) (l : List (Resident A)) → y.block ≡ b → lookup b (y ∷ l) ≡ some y
  unfolding lookup index_of
  lookup_first y l e = ap (get_elem? (y ∷ l)) (if_yes (eqb y.block b) 0 (suc (position b l)) (yes_eqb e))

  pub lookup_past : (y : Resident A) (l : List (Resident A)) → y.block ≢ b → lookup b (y ∷ l) ≡ lookup b l
  unfolding lookup index_of
  lookup_past y l e = ap (get_elem? (y ∷ l)) (if_no (eqb y.block b) 0 (suc (position b l)) (no_eqb e))

  pub lookup_absent : (l : List (Resident A)) → Absent b l → lookup b l ≡ none
  unfolding lookup
  lookup_absent [] a = refl
  lookup_absent (y ∷ l) a = lookup_past y l a.0 ∙ lookup_absent l a.1

  -- one that has another block taken out
  pub lookup_without : (l : List (Resident A)) (p : ℕ) (x : Resident A) → get_elem? l p ≡ some x → x.block ≢ b
      → lookup b (without p l) ≡ lookup b l
  lookup_without [] p x e ne = let z : ◌≡◌ {A = ℕ} 0 1 = cc in absurd (omega arith)
  lookup_without (y ∷ l) zero x e ne = let same : x ≡ y = cc in sym (lookup_past y l (subst (λ z. z.block ≢ b) same ne))
  lookup_without (y ∷ l) (suc p) x e ne =
      let rest = lookup_without l p x e ne in
      same_or_not y.block b
      (λ h. lookup_first y (without p l) h ∙ sym (lookup_first y l h))
      (λ h. lookup_past y (without p l) h ∙ rest ∙ sym (lookup_past y l h))

  -- the same blocks in the same order
  pub lookup_same : (f : Resident A → Resident A) → ((x : Resident A) → (f x).block ≡ x.block) → (l : List (Resident A))
      → lookup b (map f l) ≡ Option.map f (lookup b l)
  unfolding lookup
  lookup_same f same [] = refl
  lookup_same f same (y ∷ l) =
      let rest = lookup_same f same l in
      same_or_not y.block b
      (λ h. rw (lookup_first y l h) (lookup_first (f y) (map f l) (same y ∙ h)))
      (λ h. rw (lookup_past y l h) (lookup_past (f y) (map f l) (λ e. h (sym (same y) ∙ e)) ∙ rest))

  -- the only one that has the block
  pub lookup_at : (l : List (Resident A)) (p : ℕ) (x : Resident A) → Differ l → get_elem? l p ≡ some x → x.block ≡ b → lookup b l ≡ some x
  lookup_at [] p x d e h = let z : ◌≡◌ {A = ℕ} 0 1 = cc in absurd (omega arith)
  lookup_at (y ∷ l) zero x d e h = let same : y ≡ x = cc in lookup_first y l (ap (λ z. z.block) same ∙ h) ∙ ap some same
  lookup_at (y ∷ l) (suc p) x d e h =
      lookup_past y l (λ g. all_found (λ z. z.block ≢ y.block) l p x d.0 e (h ∙ sym g)) ∙ lookup_at l p x d.1 e h
