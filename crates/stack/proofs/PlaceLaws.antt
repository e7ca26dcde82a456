-- What the place of a block can be, in a stack of at most N residents with legal counts: the cases that proofs go by.
use Prim.Native.Nat.{ℕ, zero, suc, ◌+◌, ◌≤◌, ◌<◌}
use Rattle.std.proofs.Common.{arith, ap, subst, ◌∙◌, sym, ltb→lt, nltb→le}
use Rattle.std.proofs.Math.Path.{◌≡◌, refl}
use Rattle.std.specs.Prelude.{Bool, not, List, [], ◌∷◌, get_or, ltb}
use Rattle.std.proofs.Math.Bool.{true, false}
use Rattle.std.proofs.Math.Option.{Option, none, some}
use Rattle.std.proofs.Math.ListN.{length, get_elem?}
use Rattle.std.proofs.lemmas.List.{length-map}
use Rattle.std.proofs.Math.Dec.{T}
use Rattle.basics.specs.Basics.{All, when◌then◌else◌, without}
use Rattle.settings.specs.declared.Settings.{Settings}
use Rattle.stack.specs.Counts.{is_new, victim, chains, count_at, unpinned_at, chains_demanded, Legal}
use Rattle.stack.proofs.CountsLaws.{Outcome, all_pinned_lem, a_victim, outcome, chains_right}
use Rattle.stack.specs.Recency.{Resident, Place, found, unused, replacing, position, counted, raise, replacing_at, found_at, place, all_pinned, counts_pins}

-- ---- lists by position

module _ {A : Type 0} where
  pub getElem?-some : (l : List A) (p : ℕ) → p < length l → (x : A) × (get_elem? l p ≡ some x)
  getElem?-some [] p h = absurd (omega arith)
  getElem?-some (x ∷ l) zero h = (x, refl)
  getElem?-some (x ∷ l) (suc p) h = getElem?-some l p (omega arith)

  pub getElem?-less : (l : List A) (p : ℕ) {x : A} → get_elem? l p ≡ some x → p < length l
  getElem?-less [] p e = let z : ◌≡◌ {A = ℕ} 0 1 = cc in absurd (omega arith)
  getElem?-less (y ∷ l) zero e = omega arith
  getElem?-less (y ∷ l) (suc p) e = let h = getElem?-less l p e in omega arith

  pub length_without : (l : List A) (p : ℕ) {x : A} → get_elem? l p ≡ some x → suc (length (without p l)) ≡ length l
  length_without [] p {x} e = let z : ◌≡◌ {A = ℕ} 0 1 = cc in absurd (omega arith)
  length_without (y ∷ l) zero e = refl
  length_without (y ∷ l) (suc p) e = ap suc (length_without l p e)

  module _ (P : A → Type 0) where
    pub all_found : (l : List A) (p : ℕ) (x : A) → All P l → get_elem? l p ≡ some x → P x
    all_found [] p x a e = let z : ◌≡◌ {A = ℕ} 0 1 = cc in absurd (omega arith)
    all_found (y ∷ l) zero x a e = let same : y ≡ x = cc in subst P same a.0
    all_found (y ∷ l) (suc p) x a e = all_found l p x a.1 e

    pub all_without : (l : List A) (p : ℕ) → All P l → All P (without p l)
    all_without [] zero a = tt
    all_without [] (suc p) a = tt
    all_without (y ∷ l) zero a = a.1
    all_without (y ∷ l) (suc p) a = (a.0, all_without l p a.1)

-- ---- pinned at every position

twice : (b : Bool) → T (not (not b)) → T b
twice true t = tt
twice false t = t

pinned_all : {A : Type 0} (l : List (Resident A)) → ((p : ℕ) → p < length (counts_pins l) → T (not (unpinned_at (counts_pins l) p)))
    → All (λ x. T x.marks.pinned) l
pinned_all [] f = tt
pinned_all (x ∷ l) f = (twice x.marks.pinned (f 0 (omega arith)), pinned_all l (λ p h. f (suc p) (omega arith)))

-- ---- the cases of a place

pub data Placed {A : Type 0} (s : Settings) (l : List (Resident A)) : Place A → Type 0 where
  hits : (p : ℕ) (x : Resident A) (n : ℕ) → get_elem? l p ≡ some x → Legal n → n ≤ x.count + 1 → Placed s l (found (counted n x) (without p l))
  enters : length l < s.n → Placed s l (unused l)
  replaces : (v : ℕ) (x : Resident A) → get_elem? l v ≡ some x → length l ≡ s.n → T (not x.marks.pinned)
      → chains s (counts_pins l) ≡ chains_demanded s (counts_pins l)
      → Placed s l (replacing x (without v l))
  refusing : length l ≡ s.n → All (λ x. T x.marks.pinned) l → Placed s l (all_pinned l)

module _ {A : Type 0} (s : Settings) (l : List (Resident A)) (some_old : 1 ≤ s.nold) (old_fits : s.nold ≤ s.n) (few_chains : s.cmax ≤ 64)
    (few : length l ≤ s.n) (legal : All (λ x. Legal x.count) l) where
  pair_at : (p : ℕ) (x : Resident A) → get_elem? l p ≡ some x → get_or (counts_pins l) p (0, true) ≡ (x.count, x.marks.pinned)
  pair_at = go l
    where
      go : (l : List (Resident A)) (p : ℕ) (x : Resident A) → get_elem? l p ≡ some x → get_or (counts_pins l) p (0, true) ≡ (x.count, x.marks.pinned)
      go [] p x e = let z : ◌≡◌ {A = ℕ} 0 1 = cc in absurd (omega arith)
      go (y ∷ l) zero x e = let same : y ≡ x = cc in ap (λ z. (z.count, z.marks.pinned)) same
      go (y ∷ l) (suc p) x e = go l p x e

  same_length : length (counts_pins l) ≡ length l
  same_length = length-map {B = ℕ × Bool} l (λ y. (y.count, y.marks.pinned))

  counts_positive : (p : ℕ) → p < length (counts_pins l) → 1 ≤ count_at (counts_pins l) p
  counts_positive p h =
      let (x, e) = getElem?-some l p (omega (arith, same_length)) in
      subst (λ (y : ℕ × Bool). 1 ≤ y.0) (sym (pair_at p x e)) (all_found (λ y. Legal y.count) l p x legal e).0

  raise_legal : (x : Resident A) → Legal x.count → Legal (when ltb x.count 65535 then x.count + 1 else x.count)
      × ((when ltb x.count 65535 then x.count + 1 else x.count) ≤ x.count + 1)
  raise_legal x h = go (ltb x.count 65535) (ltb→lt x.count 65535)
    where
      go : (b : Bool) → (T b → x.count < 65535) → Legal (when b then x.count + 1 else x.count)
          × ((when b then x.count + 1 else x.count) ≤ x.count + 1)
      go true f = let g = f tt in ((omega arith, omega arith), omega arith)
      go false f = (h, omega arith)

  module _ (p : ℕ) where
    victim_placed : (full : length l ≡ s.n) (v : ℕ) → victim s (counts_pins l) ≡ v
        → Outcome s (counts_pins l) (same_length ∙ full) some_old old_fits few_chains counts_positive v
        → (o : Option (Resident A)) → get_elem? l v ≡ o → Placed s l (replacing_at v l o)
    unfolding replacing_at
    victim_placed full v is (all_pinned_lem f) none e = refusing full (pinned_all l f)
    victim_placed full v is (all_pinned_lem f) (some x) e = absurd (omega (arith, getElem?-less l v e, same_length))
    victim_placed full v is (a_victim w h u) none e =
        let (x, g) = getElem?-some l w (omega (arith, same_length)) in
        let z : ◌≡◌ {A = ℕ} 0 1 = cc in absurd (omega arith)
    victim_placed full v is (a_victim w h u) (some x) e =
        replaces w x e full (subst (λ (y : ℕ × Bool). T (not y.1)) (pair_at w x e) u)
        (chains_right s (counts_pins l) (same_length ∙ full) some_old old_fits few_chains counts_positive
        (subst (λ n. T (unpinned_at (counts_pins l) n)) (sym is) u) (subst (λ n. n < length (counts_pins l)) (sym is) h))

    replacing_placed : length l ≡ s.n → Placed s l (replacing_at (victim s (counts_pins l)) l (get_elem? l (victim s (counts_pins l))))
    replacing_placed full =
        victim_placed full (victim s (counts_pins l)) refl (outcome s (counts_pins l) (same_length ∙ full) some_old old_fits few_chains counts_positive)
        (get_elem? l (victim s (counts_pins l))) refl

    found_placed : (o : Option (Resident A)) → get_elem? l p ≡ o → Placed s l (found_at s p l o)
    unfolding found_at raise
    found_placed none e = go (ltb (length l) s.n) (ltb→lt (length l) s.n) (nltb→le (length l) s.n)
      where
        go : (b : Bool) → (T b → length l < s.n) → (T (not b) → s.n ≤ length l)
            → Placed s l (when b then unused l else replacing_at (victim s (counts_pins l)) l (get_elem? l (victim s (counts_pins l))))
        go true f g = enters (f tt)
        go false f g = let h = g tt in replacing_placed (omega arith)
    found_placed (some x) e = go (is_new s p)
      where
        ok : Legal x.count
        ok = all_found (λ y. Legal y.count) l p x legal e

        go : (b : Bool) → Placed s l (found (when b then x else raise x) (without p l))
        go true = hits p x x.count e ok (omega arith)
        go false = let r = raise_legal x ok in hits p x _ e r.0 r.1

  pub placed : (b : ℕ) → Placed s l (place s b l)
  unfolding place
  placed b = found_placed (position b l) (get_elem? l (position b l)) refl
