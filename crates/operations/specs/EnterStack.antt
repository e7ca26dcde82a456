-- The stack once an unused entry went to its front. Assumes nothing.
use Rattle.std.specs.Prelude.{ℕ, zero, suc, ◌+◌, ◌≤◌, ◌<◌, ◌≡◌, refl, Bool, true, false, List, [], ◌∷◌, leb, length, get_or}
use Rattle.std.proofs.Common.{◌∙◌, sym, ap, true≢false, arith, leb-true, leb-false}
use Rattle.std.proofs.Math.Decide.{ℕ_discrete, dec_le}
use Rattle.std.proofs.Math.ListN.{get_or-eq_default}
use Rattle.basics.specs.Basics.{pick, All}
use Rattle.basics.specs.AllLaws.{all_map, all_both}
use Rattle.links.specs.Upd.{upd, upd_same, upd_other}
use Rattle.links.specs.Off.{Off, Distinct, Same}
use Rattle.links.specs.Run.{Back, last, back_last_is, same_upd}
use Rattle.links.specs.Ring.{Ring, push_front}
use Rattle.links.proofs.Sll.{Sll, sll_keep, sll_pop, sll_distinct}
use Rattle.links.specs.All.{all_off, all_at, all_head}
use Rattle.links.specs.Place.{back_at}
use Rattle.layout.specs.Addresses.{RESIDENTS, NEW-BOUNDARY, OLD-BOUNDARY, UNUSED, SECTION, TO-HEAD, TO-TAIL}
use Rattle.linkage.specs.Fields.{Shape, Fields, in_header}
use Rattle.linkage.specs.Positions.{mark, mark_in, mark_out, Sec, sec_ext}
use Rattle.linkage.specs.WellLinked.{StackOf, Entry, section}
use Rattle.operations.specs.FieldOps.{higher, pop, rise_old, rise_both, stack_on}
use Rattle.operations.specs.Positions.{sec_upd, off_at}
use Rattle.operations.specs.Agree.{same_trans, same_pick, all_same2}

-- the positions after one came before them all, for which nothing is said yet
abbrev pub behind : (ℕ → ℕ) → ℕ → ℕ
behind g zero = 0
behind g (suc i) = g i

-- a mark stays but at the boundary
mark_stays : (k i : ℕ) → ¬ (i ≡ k) → behind (mark k) i ≡ mark k i
mark_stays k zero h = sym (mark_out k 0 (omega arith))
mark_stays k (suc i) h = go (dec_le k i)
  where
    go : Dec (k ≤ i) → mark k i ≡ mark k (suc i)
    go (yes c) = mark_in k i c ∙ sym (mark_in k (suc i) (omega arith))
    go (no c) = mark_out k i (omega arith) ∙ sym (mark_out k (suc i) (omega arith))

mark_crosses : (k : ℕ) → behind (mark k) k + 1 ≡ mark k k
mark_crosses zero = sym (mark_in 0 0 (omega arith))
mark_crosses (suc k) = omega (arith, mark_out (suc k) k (omega arith), mark_in (suc k) (suc k) (omega arith))

-- what the test of a boundary tells: k of a stack of n, before another comes
abbrev pub Rises : Bool → ℕ → ℕ → Type 0
Rises true k n = (k ≤ n)
Rises false k n = (n < k)

pub rises : (k n : ℕ) → Rises (leb k n) k n
rises k n = go (leb k n) refl
  where
    go : (b : Bool) → leb k n ≡ b → Rises b k n
    go true q = leb-true k n q
    go false q = leb-false k n q

rises_yes : (b : Bool) (k n : ℕ) → Rises b k n → b ≡ true → k ≤ n
rises_yes true k n t q = t
rises_yes false k n t q = absurd (true≢false (sym q))

last_at_lem : (a : ℕ) (residents : List ℕ) → last a residents ≡ get_or (a ∷ residents) (length residents) 0
last_at_lem a [] = refl
last_at_lem a (x ∷ residents) = last_at_lem x residents

-- who stands at position k of the new stack: the one above him who stood there, or the tail
above : (p : ℕ → ℕ) (e : ℕ) (residents : List ℕ) (k : ℕ) → Back p 0 (e ∷ residents) (p 0) → k ≤ length residents
    → p (get_or residents k 0) ≡ get_or (e ∷ residents) k 0
above p e residents k b l = go (dec_le (suc k) (length residents))
  where
    go : Dec (suc k ≤ length residents) → p (get_or residents k 0) ≡ get_or (e ∷ residents) k 0
    go (yes c) = back_at p 0 (e ∷ residents) (p 0) k b (omega arith)
    go (no c) =
        let q : k ≡ length residents = omega arith in
        ap p (get_or-eq_default residents 0 (omega arith)) ∙ back_last_is p 0 (e ∷ residents) (p 0) b ∙ last_at_lem e residents
        ∙ ap (λ (m : ℕ). get_or (e ∷ residents) m 0) (sym q)

-- one boundary
module _ (e : ℕ) (residents : List ℕ) (k : ℕ) (d : Distinct (e ∷ residents)) where
  pub sec_rise : (b : Bool) (f h : ℕ → ℕ) (n : ℕ) → Rises b k (length residents) → (k ≤ length residents → n ≡ get_or (e ∷ residents) k 0)
      → Sec f (λ i. h i + behind (mark k) i) (e ∷ residents) → Sec (pick b (higher f n) f) (λ i. h i + mark k i) (e ∷ residents)
  sec_rise true f h n l q a =
      let g : ℕ → ℕ = λ i. h i + behind (mark k) i in
      let y : k < length (e ∷ residents) = omega arith in
      sec_ext (higher f n) (higher g k) (λ i. h i + mark k i) (e ∷ residents) (λ i j. go i (ℕ_discrete i k))
      (sec_upd f g (e ∷ residents) n k (f n + 1) (g k + 1) d y (q l) (ap (λ (m : ℕ). m + 1) (ap f (q l) ∙ a k y)) a)
    where
      go : (i : ℕ) → Dec (i ≡ k) → higher (λ j. h j + behind (mark k) j) k i ≡ h i + mark k i
      go i (yes c) =
          let g : ℕ → ℕ = λ j. h j + behind (mark k) j in
          rw c (omega (arith, upd_same g k (g k + 1), mark_crosses k))
      go i (no c) =
          let g : ℕ → ℕ = λ j. h j + behind (mark k) j in
          upd_other g k (g k + 1) i c ∙ ap (λ (m : ℕ). h i + m) (mark_stays k i c)
  sec_rise false f h n l q a =
      sec_ext f (λ i. h i + behind (mark k) i) (λ i. h i + mark k i) (e ∷ residents) (λ i j. ap (λ (m : ℕ). h i + m) (mark_stays k i (omega arith))) a

  pub word_rise : (b : Bool) (f : ℕ → ℕ) (n : ℕ) → Rises b k (length residents) → (k ≤ length residents → n ≡ get_or (e ∷ residents) k 0)
      → f 0 ≡ get_or residents k 0 → pick b (λ _. n) f 0 ≡ get_or (e ∷ residents) k 0
  word_rise true f n l q r = q l
  word_rise false f n l q r =
      let a : get_or residents k 0 ≡ 0 = get_or-eq_default residents 0 (omega arith) in
      let b : get_or (e ∷ residents) k 0 ≡ 0 = get_or-eq_default (e ∷ residents) 0 {n = k} (omega arith) in
      r ∙ a ∙ sym b

module _ (s : Shape) (D : Fields) (residents : List ℕ) (e : ℕ) (unused : List ℕ) (g : StackOf s D residents (e ∷ unused)) where
  pub off_xs : Off e residents
  off_xs = all_off e residents (all_map (λ x. Off x (e ∷ unused)) (λ x. ¬ (e ≡ x)) residents (λ x o q. o.0 (sym q)) g.apart)

  pub off_ys : Off e unused
  off_ys = (sll_distinct (D TO-TAIL) (D (in_header UNUSED) 0) (e ∷ unused) g.free).0

  pub unused_e : Entry s e
  unused_e =
      let z : ¬ (0 ≡ e) = g.free.some.0 in
      (omega arith, g.idle.0.0)

  pub off_0 : Off e (0 ∷ residents)
  off_0 = (λ q. g.free.some.0 (sym q), off_xs)

  -- what links may name
  abbrev Safe : ℕ → Type 0
  Safe q = (q ≤ s.N) × Off q unused

  pub safe_xs : All Safe residents
  safe_xs =
      all_both (λ x. x ≤ s.N) (λ x. Off x unused) residents g.bound
      (all_map (λ x. Off x (e ∷ unused)) (λ x. Off x unused) residents (λ x o. o.1) g.apart)

  pub safe_first : Safe (D TO-TAIL 0)
  safe_first = all_head Safe (D TO-TAIL) (D TO-TAIL 0) residents (omega arith, g.free.some.1) safe_xs g.ring.fwd

  pub ring' : Ring (pop D e TO-TAIL) (pop D e TO-HEAD) (e ∷ residents)
  ring' = push_front (D TO-TAIL) (D TO-HEAD) e residents off_0 g.ring

  abbrev r : ℕ
  r = D (in_header RESIDENTS) 0

  told : (k : ℕ) → Rises (leb k r) k (length residents)
  told k = rw g.full (rises k r)

  pub crosses : (i k : ℕ) → D i 0 ≡ get_or residents k 0 → k ≤ length residents → pop D e TO-HEAD (D i 0) ≡ get_or (e ∷ residents) k 0
  crosses i k q l = ap (pop D e TO-HEAD) q ∙ above (pop D e TO-HEAD) e residents k ring'.bwd l

  pub safe_cross : (i k : ℕ) → D i 0 ≡ get_or residents k 0 → leb k r ≡ true → Safe (pop D e TO-HEAD (D i 0)) × Entry s (pop D e TO-HEAD (D i 0))
  safe_cross i k q t =
      let l : k ≤ length residents = rises_yes (leb k r) k (length residents) (told k) t in
      let z : ¬ (0 ≡ get_or (e ∷ residents) k 0) = off_at 0 (e ∷ residents) k ring'.some (omega arith) in
      let a : Safe (get_or (e ∷ residents) k 0) = all_at Safe (e ∷ residents) k ((unused_e.1, off_ys), safe_xs) (omega arith) in
      rw (crosses i k q l) (a, (omega arith, a.0))

  pub first_rise : Sec (rise_old s D e r SECTION) (λ i. behind (mark s.new) i + mark s.old i) (e ∷ residents)
  first_rise =
      sec_rise e residents s.old ring'.once (leb s.old r) (D SECTION) (behind (mark s.new))
      (pop D e TO-HEAD (D (in_header OLD-BOUNDARY) 0)) (told s.old) (crosses (in_header OLD-BOUNDARY) s.old g.elder) start
    where
      start : Sec (D SECTION) (λ i. behind (mark s.new) i + behind (mark s.old) i) (e ∷ residents)
      start zero l = g.idle.0.2
      start (suc i) l = g.sections i (omega arith)

  second : Sec (rise_both s D e r SECTION) (section s) (e ∷ residents)
  second =
      let f : ℕ → ℕ = rise_old s D e r SECTION in
      sec_ext (rise_both s D e r SECTION) (λ i. mark s.old i + mark s.new i) (section s) (e ∷ residents) (λ i j. omega arith)
      (sec_rise e residents s.new ring'.once (leb s.new r) f (mark s.old) (pop D e TO-HEAD (D (in_header NEW-BOUNDARY) 0)) (told s.new)
      (crosses (in_header NEW-BOUNDARY) s.new g.young)
      (sec_ext f (λ i. behind (mark s.new) i + mark s.old i) (λ i. mark s.old i + behind (mark s.new) i) (e ∷ residents)
      (λ i j. omega arith) first_rise))

  free' : Sll (pop D e TO-TAIL) (D TO-TAIL e) unused
  free' =
      let n1 : ℕ → ℕ = upd (D TO-TAIL) e (D TO-TAIL 0) in
      let h : Sll (D TO-TAIL) (D TO-TAIL e) unused = rw g.free.fwd.0 at (sll_pop (D TO-TAIL) (D (in_header UNUSED) 0) e unused g.free) in
      sll_keep n1 (D TO-TAIL e) unused 0 e g.free.some.1 (sll_keep (D TO-TAIL) (D TO-TAIL e) unused e (D TO-TAIL 0) off_ys h)

  same_4 : Same (D TO-HEAD) (pop D e TO-HEAD) unused
  same_4 =
      same_trans (D TO-HEAD) (upd (D TO-HEAD) e 0) (pop D e TO-HEAD) unused (same_upd (D TO-HEAD) e 0 unused off_ys)
      (same_upd (upd (D TO-HEAD) e 0) (D TO-TAIL 0) e unused safe_first.1)

  same_2 : Same (D SECTION) (rise_both s D e r SECTION) unused
  same_2 =
      let f : ℕ → ℕ = rise_old s D e r SECTION in
      same_trans (D SECTION) f (rise_both s D e r SECTION) unused
      (same_pick (D SECTION) (higher (D SECTION) (pop D e TO-HEAD (D (in_header OLD-BOUNDARY) 0))) (leb s.old r) unused
      (λ q. same_upd (D SECTION) (pop D e TO-HEAD (D (in_header OLD-BOUNDARY) 0)) _ unused
      (safe_cross (in_header OLD-BOUNDARY) s.old g.elder q).0.1))
      (same_pick f (higher f (pop D e TO-HEAD (D (in_header NEW-BOUNDARY) 0))) (leb s.new r) unused
      (λ q. same_upd f (pop D e TO-HEAD (D (in_header NEW-BOUNDARY) 0)) _ unused (safe_cross (in_header NEW-BOUNDARY) s.new g.young q).0.1))

  pub stack_on_lem : StackOf s (stack_on s D e) (e ∷ residents) unused
  stack_on_lem =
      record {
        ring = ring';
        free = free';
        full = omega (arith, g.full);
        whole = omega (arith, g.whole);
        bound = (unused_e.1, g.bound);
        apart = (off_ys, all_map (λ x. Off x (e ∷ unused)) (λ x. Off x unused) residents (λ x o. o.1) g.apart);
        idle =
            all_same2 (λ y u t. (y ≤ s.N) × (u ≡ 0) × (t ≡ 0)) (D TO-HEAD) (D SECTION) (pop D e TO-HEAD) (rise_both s D e r SECTION) unused same_4
            same_2 g.idle.1;
        sections = second;
        young =
            word_rise e residents s.new ring'.once (leb s.new r) (D (in_header NEW-BOUNDARY)) (pop D e TO-HEAD (D (in_header NEW-BOUNDARY) 0))
            (told s.new) (crosses (in_header NEW-BOUNDARY) s.new g.young) g.young;
        elder =
            word_rise e residents s.old ring'.once (leb s.old r) (D (in_header OLD-BOUNDARY)) (pop D e TO-HEAD (D (in_header OLD-BOUNDARY) 0))
            (told s.old) (crosses (in_header OLD-BOUNDARY) s.old g.elder) g.elder;
      }
