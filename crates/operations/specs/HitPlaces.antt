-- The sections after a hit. Assumes nothing.
use Rattle.std.specs.Prelude.{ℕ, zero, suc, ◌+◌, ◌-◌, ◌≤◌, ◌<◌, ◌≡◌, refl, Bool, true, false, not, List, ◌∷◌, ◌++◌, eqb, ltb, length, get_or}
use Rattle.std.proofs.Common.{◌∙◌, sym, ap, arith, eqb-true}
use Rattle.std.proofs.Math.Decide.{dec_le}
use Rattle.std.proofs.Math.Seq.{get_or-append_seam}
use Rattle.std.proofs.lemmas.Bool.{eqb-false}
use Rattle.basics.specs.Basics.{pick}
use Rattle.links.specs.Off.{Off, Distinct}
use Rattle.links.specs.Run.{Back}
use Rattle.links.specs.Place.{front_stay}
use Rattle.layout.specs.Addresses.{NEW-BOUNDARY, OLD-BOUNDARY, SECTION, TO-HEAD}
use Rattle.linkage.specs.Fields.{Shape, Fields, in_header}
use Rattle.linkage.specs.Positions.{mark, mark_in, mark_out, Sec, sec_ext}
use Rattle.word_ops.specs.Hit.{or_else}
use Rattle.operations.specs.FieldOps.{cross, lower, higher, shift, sections}
use Rattle.operations.specs.Positions.{sec_upd, rot, sec_front, cross_is, mark_before, mark_behind, length_us, length_front}

rot_add : (f g : ℕ → ℕ) (p i : ℕ) → rot (λ j. f j + g j) p i ≡ rot f p i + rot g p i
rot_add f g p zero = refl
rot_add f g p (suc i) = go (ltb i p)
  where
    go : (b : Bool) → pick b (f i + g i) (f (suc i) + g (suc i)) ≡ pick b (f i) (f (suc i)) + pick b (g i) (g (suc i))
    go true = refl
    go false = refl

-- What a test tells of a boundary.
abbrev pub Tells : Bool → ℕ → ℕ → Type 0
Tells true k p = k ≤ p
Tells false k p = p < k

-- the section's number tells on which side of both boundaries an entry stands
pub tells_old : (j k p t : ℕ) → j ≤ k → t ≡ mark j p + mark k p → Tells (eqb t 2) k p
tells_old j k p t h q = go (eqb t 2) refl (dec_le k p) (dec_le j p)
  where
    go : (b : Bool) → eqb t 2 ≡ b → Dec (k ≤ p) → Dec (j ≤ p) → Tells b k p
    go true r (yes c) d = c
    go true r (no c) (yes d) = absurd (omega (arith, eqb-true t 2 r, mark_in j p d, mark_out k p (omega arith)))
    go true r (no c) (no d) = absurd (omega (arith, eqb-true t 2 r, mark_out j p (omega arith), mark_out k p (omega arith)))
    go false r (yes c) d = absurd (eqb-false t 2 r (omega (arith, mark_in j p (omega arith), mark_in k p c)))
    go false r (no c) d = omega arith

pub tells_new : (j k p t : ℕ) → j ≤ k → t ≡ mark j p + mark k p → Tells (not (eqb t 0)) j p
tells_new j k p t h q = go (eqb t 0) refl (dec_le j p)
  where
    go : (b : Bool) → eqb t 0 ≡ b → Dec (j ≤ p) → Tells (not b) j p
    go true r (yes c) = absurd (omega (arith, mark_in j p c, eqb-true t 0 r))
    go true r (no c) = omega arith
    go false r (yes c) = c
    go false r (no c) = absurd (eqb-false t 0 r (omega (arith, mark_out j p (omega arith), mark_out k p (omega arith))))

-- one boundary k, of a stack whose entry at p came to the front
module _ (e : ℕ) (zs : List ℕ) (k p : ℕ) (d : Distinct (e ∷ zs)) (inside : p < length (e ∷ zs)) where
  pub sec_shift : (b : Bool) (f h : ℕ → ℕ) (n : ℕ) → Tells b k p → (k ≤ p → n ≡ get_or (e ∷ zs) k 0) → Sec f (λ i. h i + rot (mark k) p i) (e ∷ zs)
      → Sec (pick b (higher (lower f e) n) f) (λ i. h i + mark k i) (e ∷ zs)
  sec_shift true f h n l q a =
      let g : ℕ → ℕ = λ i. h i + rot (mark k) p i in
      let z : 0 < length (e ∷ zs) = omega arith in
      let y : k < length (e ∷ zs) = omega arith in
      let a1 : Sec (lower f e) (lower g 0) (e ∷ zs) = sec_upd f g (e ∷ zs) e 0 (f e - 1) (g 0 - 1) d z refl (ap (λ (m : ℕ). m - 1) (a 0 z)) a in
      let r : lower f e n + 1 ≡ lower g 0 k + 1 = ap (λ (m : ℕ). m + 1) (ap (lower f e) (q l) ∙ a1 k y) in
      let a2 : Sec (higher (lower f e) n) (higher (lower g 0) k) (e ∷ zs) =
      sec_upd (lower f e) (lower g 0) (e ∷ zs) n k (lower f e n + 1) (lower g 0 k + 1) d y (q l) r a1 in
      sec_ext (higher (lower f e) n) (higher (lower g 0) k) (λ i. h i + mark k i) (e ∷ zs) (λ i j. mark_behind h k p i l) a2
  sec_shift false f h n l q a =
      sec_ext f (λ i. h i + rot (mark k) p i) (λ i. h i + mark k i) (e ∷ zs) (λ i j. mark_before h k p i l) a

pub word_shift : (above : List ℕ) (e : ℕ) (below : List ℕ) (k : ℕ) (b : Bool) (f : ℕ → ℕ) (n : ℕ) → Tells b k (length above)
    → (k ≤ length above → n ≡ get_or (e ∷ (above ++ below)) k 0) → f 0 ≡ get_or (above ++ (e ∷ below)) k 0
    → pick b (λ _. n) f 0 ≡ get_or (e ∷ (above ++ below)) k 0
word_shift above e below k true f n l q r = q l
word_shift above e below k false f n l q r = r ∙ sym (front_stay above e below k l)

-- both
module _ (s : Shape) (D : Fields) (above : List ℕ) (e : ℕ) (below : List ℕ) (tail : ℕ)
    (order : s.new ≤ s.old) (d : Distinct (e ∷ (above ++ below))) (back : Back (D TO-HEAD) 0 (above ++ (e ∷ below)) tail)
    (some : Off 0 (above ++ (e ∷ below)))
    (places : Sec (D SECTION) (λ i. mark s.new i + mark s.old i) (above ++ (e ∷ below)))
    (young : D (in_header NEW-BOUNDARY) 0 ≡ get_or (above ++ (e ∷ below)) s.new 0)
    (elder : D (in_header OLD-BOUNDARY) 0 ≡ get_or (above ++ (e ∷ below)) s.old 0) where
  pub here : D SECTION e ≡ mark s.new (length above) + mark s.old (length above)
  here = ap (D SECTION) (sym (get_or-append_seam above e below 0)) ∙ places (length above) (length_us above e below)

  inside : length above < length (e ∷ (above ++ below))
  inside = omega (arith, length_us above e below, length_front above e below)

  pub told_old : Tells (eqb (D SECTION e) 2) s.old (length above)
  told_old = tells_old s.new s.old (length above) (D SECTION e) order here

  pub told_new : Tells (not (eqb (D SECTION e) 0)) s.new (length above)
  told_new = tells_new s.new s.old (length above) (D SECTION e) order here

  pub crossed : (i k : ℕ) → D i 0 ≡ get_or (above ++ (e ∷ below)) k 0 → k ≤ length above → cross D e i ≡ get_or (e ∷ (above ++ below)) k 0
  crossed i k q l = ap (λ (x : ℕ). or_else (D TO-HEAD x) e) q ∙ cross_is (D TO-HEAD) above e below tail k back some l

  pub first_shift : Sec (shift (eqb (D SECTION e) 2) D e (in_header OLD-BOUNDARY) SECTION)
      (λ i. rot (mark s.new) (length above) i + mark s.old i) (e ∷ (above ++ below))
  first_shift =
      let p : ℕ = length above in
      let both : Sec (D SECTION) (rot (λ i. mark s.new i + mark s.old i) p) (e ∷ (above ++ below)) =
      sec_front (D SECTION) (λ i. mark s.new i + mark s.old i) above e below places in
      sec_shift e (above ++ below) s.old p d inside (eqb (D SECTION e) 2) (D SECTION) (rot (mark s.new) p) (cross D e (in_header OLD-BOUNDARY))
      told_old (crossed (in_header OLD-BOUNDARY) s.old elder)
      (sec_ext (D SECTION) (rot (λ i. mark s.new i + mark s.old i) p) (λ i. rot (mark s.new) p i + rot (mark s.old) p i)
      (e ∷ (above ++ below)) (λ i j. rot_add (mark s.new) (mark s.old) p i) both)

  pub second_shift : Sec (sections D e (D SECTION e) SECTION) (λ i. mark s.new i + mark s.old i) (e ∷ (above ++ below))
  second_shift =
      let p : ℕ = length above in
      let f : ℕ → ℕ = shift (eqb (D SECTION e) 2) D e (in_header OLD-BOUNDARY) SECTION in
      sec_ext (sections D e (D SECTION e) SECTION) (λ i. mark s.old i + mark s.new i) (λ i. mark s.new i + mark s.old i)
      (e ∷ (above ++ below)) (λ i j. omega arith)
      (sec_shift e (above ++ below) s.new p d inside (not (eqb (D SECTION e) 0)) f (mark s.old) (cross D e (in_header NEW-BOUNDARY)) told_new
      (crossed (in_header NEW-BOUNDARY) s.new young)
      (sec_ext f (λ i. rot (mark s.new) p i + mark s.old i) (λ i. mark s.old i + rot (mark s.new) p i) (e ∷ (above ++ below))
      (λ i j. omega arith) first_shift))

  pub young_shift : sections D e (D SECTION e) (in_header NEW-BOUNDARY) 0 ≡ get_or (e ∷ (above ++ below)) s.new 0
  young_shift =
      word_shift above e below s.new (not (eqb (D SECTION e) 0)) (D (in_header NEW-BOUNDARY)) (cross D e (in_header NEW-BOUNDARY)) told_new
      (crossed (in_header NEW-BOUNDARY) s.new young) young

  pub elder_shift : sections D e (D SECTION e) (in_header OLD-BOUNDARY) 0 ≡ get_or (e ∷ (above ++ below)) s.old 0
  elder_shift =
      word_shift above e below s.old (eqb (D SECTION e) 2) (D (in_header OLD-BOUNDARY)) (cross D e (in_header OLD-BOUNDARY)) told_old
      (crossed (in_header OLD-BOUNDARY) s.old elder) elder
