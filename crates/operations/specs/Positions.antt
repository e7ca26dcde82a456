-- Sections by position: what an entry that goes to the front does to them. Assumes nothing.
use Rattle.std.specs.Prelude.{ℕ, zero, suc, ◌+◌, ◌-◌, ◌≤◌, ◌<◌, ◌≡◌, refl, List, [], ◌∷◌, ◌++◌, ltb, length, get_or}
use Rattle.std.proofs.Common.{◌∙◌, sym, ap, arith, length-append, lt-ltb, le-ltb, ne_eqb}
use Rattle.std.proofs.Math.Decide.{ℕ_discrete, dec_le}
use Rattle.std.proofs.Math.Seq.{get_or-append_seam}
use Rattle.basics.specs.Basics.{pick}
use Rattle.links.specs.Upd.{upd, upd_same, upd_other}
use Rattle.links.specs.Off.{Off, Distinct}
use Rattle.links.specs.Run.{Back}
use Rattle.links.specs.Place.{back_at, front_shift, front_stay}
use Rattle.linkage.specs.Positions.{upd_at, mark, mark_in, mark_out, Sec}
use Rattle.word_ops.specs.Hit.{or_else}
use Rattle.operations.specs.FieldOps.{lower, higher}

pub off_at : (x : ℕ) (xs : List ℕ) (i : ℕ) → Off x xs → i < length xs → ¬ (x ≡ get_or xs i 0)
off_at x [] i o h = absurd (omega arith)
off_at x (y ∷ ys) zero o h = o.0
off_at x (y ∷ ys) (suc i) o h = off_at x ys i o.1 (omega arith)

pub one_place : (xs : List ℕ) (i j : ℕ) → Distinct xs → i < length xs → j < length xs → get_or xs i 0 ≡ get_or xs j 0 → i ≡ j
one_place [] i j d h k q = absurd (omega arith)
one_place (x ∷ xs) zero zero d h k q = refl
one_place (x ∷ xs) zero (suc j) d h k q = absurd (off_at x xs j d.0 (omega arith) q)
one_place (x ∷ xs) (suc i) zero d h k q = absurd (off_at x xs i d.0 (omega arith) (sym q))
one_place (x ∷ xs) (suc i) (suc j) d h k q = ap suc (one_place xs i j d.1 (omega arith) (omega arith) q)

-- a store at the entry of position j
pub sec_upd : (f g : ℕ → ℕ) (xs : List ℕ) (x j v u : ℕ) → Distinct xs → j < length xs → x ≡ get_or xs j 0 → v ≡ u → Sec f g xs
    → Sec (upd f x v) (upd g j u) xs
sec_upd f g xs x j v u d h q r a i l = go (ℕ_discrete i j)
  where
    go : Dec (i ≡ j) → upd f x v (get_or xs i 0) ≡ upd g j u i
    go (yes c) = rw (c, q, upd_same f (get_or xs j 0) v, upd_same g j u) r
    go (no c) =
        upd_other f x v (get_or xs i 0) (λ y. c (one_place xs i j d l h (y ∙ q))) ∙ a i l ∙ sym (upd_other g j u i c)

-- the positions after the entry at p went to the front
abbrev pub rot : (ℕ → ℕ) → ℕ → ℕ → ℕ
rot g p zero = g p
rot g p (suc i) = pick (ltb i p) (g i) (g (suc i))

pub rot_up : (g : ℕ → ℕ) (p i : ℕ) → i < p → rot g p (suc i) ≡ g i
rot_up g p i h = rw (lt-ltb i p h)

pub rot_stay : (g : ℕ → ℕ) (p i : ℕ) → p ≤ i → rot g p (suc i) ≡ g (suc i)
rot_stay g p i h = rw (le-ltb i p h)

pub length_front : (above : List ℕ) (e : ℕ) (below : List ℕ) → length (above ++ (e ∷ below)) ≡ suc (length (above ++ below))
length_front above e below = simp length-append (omega arith)

pub length_us : (above : List ℕ) (e : ℕ) (below : List ℕ) → length above < length (above ++ (e ∷ below))
length_us above e below = simp length-append (omega arith)

pub sec_front : (f g : ℕ → ℕ) (above : List ℕ) (e : ℕ) (below : List ℕ) → Sec f g (above ++ (e ∷ below))
    → Sec f (rot g (length above)) (e ∷ (above ++ below))
sec_front f g above e below a zero l =
    ap f (sym (get_or-append_seam above e below 0)) ∙ a (length above) (length_us above e below)
sec_front f g above e below a (suc i) l = go (dec_le (suc i) (length above))
  where
    go : Dec (suc i ≤ length above) → f (get_or (above ++ below) i 0) ≡ rot g (length above) (suc i)
    go (yes c) =
        ap f (front_shift above e below i c) ∙ a i (omega (arith, length_us above e below)) ∙ sym (rot_up g (length above) i c)
    go (no c) =
        ap f (front_stay above e below (suc i) (omega arith)) ∙ a (suc i) (rw length_front l) ∙ sym (rot_stay g (length above) i (omega arith))

-- who stands at position k of the new stack, for a k not behind the old place
pub cross_is : (p : ℕ → ℕ) (above : List ℕ) (e : ℕ) (below : List ℕ) (t k : ℕ) → Back p 0 (above ++ (e ∷ below)) t → Off 0 (above ++ (e ∷ below))
    → k ≤ length above → or_else (p (get_or (above ++ (e ∷ below)) k 0)) e ≡ get_or (e ∷ (above ++ below)) k 0
cross_is p [] e below t zero b o h = rw b.0
cross_is p (u ∷ above) e below t zero b o h = rw b.0
cross_is p above e below t (suc k) b o h =
    let q : p (get_or (above ++ (e ∷ below)) (suc k) 0) ≡ get_or (above ++ (e ∷ below)) k 0 =
    back_at p 0 (above ++ (e ∷ below)) t k b (omega (arith, length_us above e below)) in
    let z : ¬ (get_or (above ++ (e ∷ below)) k 0 ≡ 0) = λ c. off_at 0 (above ++ (e ∷ below)) k o (omega (arith, length_us above e below)) (sym c) in
    rw (q, ne_eqb (get_or (above ++ (e ∷ below)) k 0) 0 z) (sym (front_shift above e below k h))

-- ---- one boundary

-- an entry that stood before the boundary: nothing to do
pub mark_before : (h : ℕ → ℕ) (k p i : ℕ) → p < k → h i + rot (mark k) p i ≡ h i + mark k i
mark_before h k p zero l = rw (mark_out k p l, mark_out k 0 (omega arith))
mark_before h k p (suc i) l = go (dec_le (suc i) p)
  where
    go : Dec (suc i ≤ p) → h (suc i) + rot (mark k) p (suc i) ≡ h (suc i) + mark k (suc i)
    go (yes c) = rw (rot_up (mark k) p i c, mark_out k i (omega arith), mark_out k (suc i) (omega arith))
    go (no c) = rw (rot_stay (mark k) p i (omega arith))

-- one that stood behind it, or there: it gives its mark to the one that comes to position k
pub mark_behind : (h : ℕ → ℕ) (k p i : ℕ) → k ≤ p →
    let g : ℕ → ℕ = λ j. h j + rot (mark k) p j in
    higher (lower g 0) k i ≡ h i + mark k i
mark_behind h zero p zero l =
    let g : ℕ → ℕ = λ j. h j + rot (mark 0) p j in
    omega (arith, upd_same (lower g 0) 0 (lower g 0 0 + 1), upd_same g 0 (g 0 - 1), mark_in 0 p l, mark_in 0 0 (omega arith))
mark_behind h (suc k) p zero l =
    let g : ℕ → ℕ = λ j. h j + rot (mark (suc k)) p j in
    omega (
      arith,
      upd_other (lower g 0) (suc k) (lower g 0 (suc k) + 1) 0 (omega arith),
      upd_same g 0 (g 0 - 1),
      mark_in (suc k) p l,
      mark_out (suc k)
          0 (omega arith),
    )
mark_behind h k p (suc i) l = go (ℕ_discrete (suc i) k) (dec_le (suc i) p) (dec_le k i)
  where
    g : ℕ → ℕ
    g = λ j. h j + rot (mark k) p j

    low : lower g 0 (suc i) ≡ g (suc i)
    low = upd_other g 0 (g 0 - 1) (suc i) (omega arith)

    go : Dec (suc i ≡ k) → Dec (suc i ≤ p) → Dec (k ≤ i) → higher (lower g 0) k (suc i) ≡ h (suc i) + mark k (suc i)
    go (yes c) d f =
        omega (
          arith,
          upd_at (lower g 0) k (lower g 0 k + 1) (suc i) c,
          ap (lower g 0) c,
          low,
          rot_up (mark k) p i (omega arith),
          mark_out k i
              (omega arith),
          mark_in k (suc i) (omega arith),
        )
    go (no c) (no d) f =
        omega (arith, upd_other (lower g 0) k (lower g 0 k + 1) (suc i) c, low, rot_stay (mark k) p i (omega arith))
    go (no c) (yes d) (yes f) =
        omega (arith, upd_other (lower g 0) k (lower g 0 k + 1) (suc i) c, low, rot_up (mark k) p i d, mark_in k i f, mark_in k (suc i) (omega arith))
    go (no c) (yes d) (no f) =
        omega (
          arith,
          upd_other (lower g 0) k (lower g 0 k + 1) (suc i) c,
          low,
          rot_up (mark k) p i d,
          mark_out k i (omega arith),
          mark_out k (suc i)
              (omega arith),
        )
