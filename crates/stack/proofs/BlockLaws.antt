-- Resident blocks differ, and every work word keeps it so: what is found is the block asked for, and what enters was absent.
use Prim.Native.Nat.{ℕ, zero, suc}
use Rattle.std.proofs.Common.{arith, sym, subst, ◌∙◌}
use Rattle.std.proofs.Math.Path.{◌≡◌, refl, ap}
use Rattle.std.specs.Prelude.{◌≢◌, Bool, not, length, eqb, ltb, T}
use Rattle.std.proofs.Math.Bool.{true, false}
use mathlib.Core.List.{List, [], ◌∷◌, map}
use Rattle.std.proofs.Math.Option.{Option, none, some}
use Rattle.std.proofs.Math.ListN.{get_elem?}
use Rattle.std.proofs.Math.Facts.{eqb_yes, eqb_no}
use Rattle.basics.specs.AllLaws.{all_map, all_image}
use Rattle.basics.specs.Basics.{All, when◌then◌else◌, without, index_of}
use Rattle.settings.specs.declared.Settings.{Settings}
use Rattle.stack.specs.Counts.{is_new, victim}
use Rattle.stack.specs.Recency.{Resident, Place, found, unused, replacing, position, raise, halve, replacing_at, found_at, place, asked, settled, lookup, all_pinned, counts_pins}
use Rattle.stack.proofs.PlaceLaws.{all_found, all_without}

module _ {A : Type 0} where
  abbrev pub Absent : ℕ → List (Resident A) → Type 0
  Absent b = All (λ y. y.block ≢ b)

  -- different blocks
  abbrev pub Differ : List (Resident A) → Type 0
  Differ [] = Unit {0}
  Differ (x ∷ l) = Absent x.block l × Differ l

  pub Differ_without : (l : List (Resident A)) (p : ℕ) → Differ l → Differ (without p l)
  Differ_without [] zero d = tt
  Differ_without [] (suc p) d = tt
  Differ_without (x ∷ l) zero d = d.1
  Differ_without (x ∷ l) (suc p) d = (all_without (λ y. y.block ≢ x.block) l p d.0, Differ_without l p d.1)

  pub Differ_at : (l : List (Resident A)) (p : ℕ) (x : Resident A) → Differ l → get_elem? l p ≡ some x → Absent x.block (without p l)
  Differ_at [] p x d e = let z : ◌≡◌ {A = ℕ} 0 1 = cc in absurd (omega arith)
  Differ_at (y ∷ l) zero x d e = let same : y ≡ x = cc in subst (λ z. Absent z.block l) same d.0
  Differ_at (y ∷ l) (suc p) x d e =
      let other : x.block ≢ y.block = all_found (λ w. w.block ≢ y.block) l p x d.0 e in
      ((λ h. other (sym h)), Differ_at l p x d.1 e)

  -- the same blocks in the same order
  pub Differ_same : (f : Resident A → Resident A) → ((x : Resident A) → (f x).block ≡ x.block) → (l : List (Resident A)) → Differ l → Differ (map f l)
  Differ_same f same [] d = tt
  Differ_same f same (x ∷ l) d = (
    all_image (λ y. y.block ≢ (f x).block) f l (all_map (λ y. y.block ≢ x.block) (λ y. (f y).block ≢ (f x).block) l
        (λ y h e. h (sym (same y) ∙ e ∙ same x)) d.0),
    Differ_same f same l d.1,
  )

  -- ---- the position of a block

  position_found : (b : ℕ) (l : List (Resident A)) (x : Resident A) → get_elem? l (position b l) ≡ some x → x.block ≡ b
  unfolding index_of
  position_found b [] x e = let z : ◌≡◌ {A = ℕ} 0 1 = cc in absurd (omega arith)
  position_found b (y ∷ l) x e = go (eqb y.block b) eqb_yes e (position_found b l x)
    where
      go : (t : Bool) → (T t → y.block ≡ b) → get_elem? (y ∷ l) (when t then 0 else suc (position b l)) ≡ some x
          → (get_elem? l (position b l) ≡ some x → x.block ≡ b) → x.block ≡ b
      go true f e rec = let same : y ≡ x = cc in ap (λ z. z.block) (sym same) ∙ f tt
      go false f e rec = rec e

  -- what a lookup finds has the block
  pub lookup_block : (b : ℕ) (l : List (Resident A)) (x : Resident A) → lookup b l ≡ some x → x.block ≡ b
  unfolding lookup
  lookup_block b l x e = position_found b l x e

  position_absent : (b : ℕ) (l : List (Resident A)) → get_elem? l (position b l) ≡ none → Absent b l
  unfolding index_of
  position_absent b [] e = tt
  position_absent b (y ∷ l) e = go (eqb y.block b) eqb_no e (position_absent b l)
    where
      go : (t : Bool) → (T (not t) → y.block ≢ b) → get_elem? (y ∷ l) (when t then 0 else suc (position b l)) ≡ none
          → (get_elem? l (position b l) ≡ none → Absent b l) → Absent b (y ∷ l)
      go true f e rec = let z : ◌≡◌ {A = ℕ} 0 1 = cc in absurd (omega arith)
      go false f e rec = (f tt, rec e)

  -- where a lookup finds none, none has it
  pub lookup_none : (b : ℕ) (l : List (Resident A)) → lookup b l ≡ none → Absent b l
  unfolding lookup
  lookup_none b l e = position_absent b l e

  -- ---- the place of a block

  abbrev pub AtPlace : ℕ → Place A → Type 0
  AtPlace b (found x l) = (x.block ≡ b) × Absent b l × Differ l
  AtPlace b (unused l) = Absent b l × Differ l
  AtPlace b (replacing v l) = Absent b l × Differ l × (v.block ≢ b)
  AtPlace b (all_pinned l) = Absent b l × Differ l

  module _ (s : Settings) (b : ℕ) (l : List (Resident A)) (d : Differ l) where
    replacing_blocks : (v : ℕ) (o : Option (Resident A)) → get_elem? l v ≡ o → Absent b l → AtPlace b (replacing_at v l o)
    unfolding replacing_at
    replacing_blocks v none e a = (a, d)
    replacing_blocks v (some x) e a = (all_without (λ y. y.block ≢ b) l v a, Differ_without l v d, all_found (λ y. y.block ≢ b) l v x a e)

    found_blocks : (o : Option (Resident A)) → get_elem? l (position b l) ≡ o → AtPlace b (found_at s (position b l) l o)
    unfolding found_at raise
    found_blocks none e = go (ltb (length l) s.n)
      where
        a : Absent b l
        a = position_absent b l e

        v : ℕ
        v = victim s (counts_pins l)

        go : (t : Bool) → AtPlace b (when t then unused l else replacing_at v l (get_elem? l v))
        go true = (a, d)
        go false = replacing_blocks v (get_elem? l v) refl a
    found_blocks (some x) e = go (is_new s (position b l))
      where
        same : x.block ≡ b
        same = position_found b l x e

        go : (t : Bool) → AtPlace b (found (when t then x else raise x) (without (position b l) l))
        go true = (same, subst (λ n. Absent n (without (position b l) l)) same (Differ_at l (position b l) x d e), Differ_without l (position b l) d)
        go false = (same, subst (λ n. Absent n (without (position b l) l)) same (Differ_at l (position b l) x d e), Differ_without l (position b l) d)

    pub place_blocks : AtPlace b (place s b l)
    unfolding place
    place_blocks = found_blocks (get_elem? l (position b l)) refl

  pub asked_differ : (b : ℕ) (w : Bool) (a : A) (q : Place A) → AtPlace b q → Differ (asked b w a q)
  unfolding asked
  asked_differ b w a (found x l) t = (subst (λ n. Absent n l) (sym t.0) t.1, t.2)
  asked_differ b w a (unused l) t = (t.0, t.1)
  asked_differ b w a (replacing v l) t = (t.0, t.1)
  asked_differ b w a (all_pinned l) t = t.1

  pub settled_differ : (t : Bool) (l : List (Resident A)) → Differ l → Differ (settled t l)
  unfolding settled halve
  settled_differ true l d = Differ_same halve (λ x. refl) l d
  settled_differ false l d = d
