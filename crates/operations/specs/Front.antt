-- An entry goes to the front of the stack, and the sections shift. Assumes nothing.
use Rattle.std.specs.Prelude.{ℕ, ◌+◌, ◌-◌, ◌≤◌, ◌≡◌, Bool, true, false, not, List, ◌∷◌, ◌++◌, eqb, length, get_or}
use Rattle.std.proofs.Common.{◌∙◌, sym, true≢false, arith}
use Rattle.basics.specs.Basics.{All}
use Rattle.basics.specs.AllLaws.{all_map, all_both}
use Rattle.links.specs.Upd.{upd}
use Rattle.links.specs.Off.{Off, Distinct, Same, distinct_less, distinct_off}
use Rattle.links.specs.Run.{same_upd}
use Rattle.links.specs.Ring.{remove, to_front_lem}
use Rattle.links.proofs.Sll.{Sll, sll_keep}
use Rattle.links.specs.All.{all_here, all_less, off_all, all_at, all_next, all_prev, all_head}
use Rattle.layout.specs.Addresses.{NEW-BOUNDARY, OLD-BOUNDARY, UNUSED, SECTION, TO-HEAD, TO-TAIL}
use Rattle.linkage.specs.Fields.{Shape, Fields, in_header}
use Rattle.linkage.specs.WellLinked.{StackOf, Entry}
use Rattle.operations.specs.FieldOps.{cross, lower, higher, shift, stack_out, front}
use Rattle.operations.specs.Positions.{length_front, length_us}
use Rattle.operations.specs.HitPlaces.{Tells, told_old, told_new, crossed, second_shift, young_shift, elder_shift}
use Rattle.operations.specs.Agree.{same_trans, same_pick, all_same2}

tells_yes : (b : Bool) (k p : ℕ) → Tells b k p → b ≡ true → k ≤ p
tells_yes true k p t q = t
tells_yes false k p t q = absurd (true≢false (sym q))

module _ (s : Shape) (D : Fields) (above : List ℕ) (e : ℕ) (below unused : List ℕ) (order : s.new ≤ s.old)
    (g : StackOf s D (above ++ (e ∷ below)) unused) where
  pub entries : All (Entry s) (above ++ (e ∷ below))
  entries =
      all_map (λ x. (x ≤ s.N) × (¬ (0 ≡ x))) (Entry s) (above ++ (e ∷ below)) (λ x a. (omega arith, a.0))
      (all_both (λ x. x ≤ s.N) (λ x. ¬ (0 ≡ x)) (above ++ (e ∷ below)) g.bound (off_all 0 (above ++ (e ∷ below)) g.ring.some))

  pub entry_e : Entry s e
  entry_e = all_here (Entry s) above e below entries

  pub off_e : Off e (0 ∷ (above ++ below))
  off_e = (λ q. omega (arith, entry_e.0), distinct_off above e below g.ring.once)

  pub once : Distinct (e ∷ (above ++ below))
  once = (off_e.1, distinct_less above e below g.ring.once)

  -- what links may name
  abbrev pub Safe : ℕ → Type 0
  Safe q = (q ≤ s.N) × Off q unused

  pub safe_0 : Safe 0
  safe_0 = (omega arith, g.free.some)

  pub safe : All Safe (above ++ (e ∷ below))
  safe = all_both (λ x. x ≤ s.N) (λ x. Off x unused) (above ++ (e ∷ below)) g.bound g.apart

  pub safe_e : Safe e
  safe_e = all_here Safe above e below safe

  pub safe_up : Safe (D TO-HEAD e)
  safe_up = all_prev Safe (D TO-HEAD) (D TO-HEAD 0) above e below safe_0 safe g.ring.bwd

  pub safe_down : Safe (D TO-TAIL e)
  safe_down = all_next Safe (D TO-TAIL) (D TO-TAIL 0) above e below safe_0 safe g.ring.fwd

  pub safe_head : Safe (stack_out D e TO-TAIL 0)
  safe_head =
      all_head Safe (stack_out D e TO-TAIL) (stack_out D e TO-TAIL 0) (above ++ below) safe_0 (all_less Safe above e below safe)
      (remove (D TO-TAIL) (D TO-HEAD) above e below g.ring).fwd

  -- of the resident that comes to stand where a section begins
  pub at_old : eqb (D SECTION e) 2 ≡ true → s.old ≤ length above
  at_old q =
      tells_yes (eqb (D SECTION e) 2) s.old (length above)
      (told_old s D above e below (D TO-HEAD 0) order once g.ring.bwd g.ring.some g.sections g.young g.elder) q

  pub at_new : not (eqb (D SECTION e) 0) ≡ true → s.new ≤ length above
  at_new q =
      tells_yes (not (eqb (D SECTION e) 0)) s.new (length above)
      (told_new s D above e below (D TO-HEAD 0) order once g.ring.bwd g.ring.some g.sections g.young g.elder) q

  safe_cross : (i k : ℕ) → D i 0 ≡ get_or (above ++ (e ∷ below)) k 0 → k ≤ length above → Safe (cross D e i)
  safe_cross i k q l =
      rw (crossed s D above e below (D TO-HEAD 0) order once g.ring.bwd g.ring.some g.sections g.young g.elder i k q l)
      (all_at Safe (e ∷ (above ++ below)) k (all_here Safe above e below safe, all_less Safe above e below safe)
      (omega (arith, length_us above e below, length_front above e below)))

  abbrev E : Fields
  E = front D e (D SECTION e)

  free' : Sll (E TO-TAIL) (E (in_header UNUSED) 0) unused
  free' =
      let n1 : ℕ → ℕ = upd (D TO-TAIL) (D TO-HEAD e) (D TO-TAIL e) in
      let n2 : ℕ → ℕ = upd n1 e (n1 0) in
      sll_keep n2 (D (in_header UNUSED) 0) unused 0 e g.free.some
      (sll_keep n1 (D (in_header UNUSED) 0) unused e (n1 0) safe_e.1
      (sll_keep (D TO-TAIL) (D (in_header UNUSED) 0) unused (D TO-HEAD e) (D TO-TAIL e) safe_up.1 g.free))

  -- unused entries keep their fields
  same_2 : Same (D SECTION) (E SECTION) unused
  same_2 =
      let f : ℕ → ℕ = shift (eqb (D SECTION e) 2) D e (in_header OLD-BOUNDARY) SECTION in
      same_trans (D SECTION) f (E SECTION) unused
      (same_pick (D SECTION) (higher (lower (D SECTION) e) (cross D e (in_header OLD-BOUNDARY))) (eqb (D SECTION e) 2) unused
      (λ q. two (D SECTION) (cross D e (in_header OLD-BOUNDARY)) (safe_cross (in_header OLD-BOUNDARY) s.old g.elder (at_old q)).1))
      (same_pick f (higher (lower f e) (cross D e (in_header NEW-BOUNDARY))) (not (eqb (D SECTION e) 0)) unused
      (λ q. two f (cross D e (in_header NEW-BOUNDARY)) (safe_cross (in_header NEW-BOUNDARY) s.new g.young (at_new q)).1))
    where
      two : (f : ℕ → ℕ) (n : ℕ) → Off n unused → Same f (higher (lower f e) n) unused
      two f n o =
          same_trans f (lower f e) (higher (lower f e) n) unused (same_upd f e (f e - 1) unused safe_e.1)
          (same_upd (lower f e) n (lower f e n + 1) unused o)

  same_4 : Same (D TO-HEAD) (E TO-HEAD) unused
  same_4 =
      let p1 : ℕ → ℕ = upd (D TO-HEAD) (D TO-TAIL e) (D TO-HEAD e) in
      let p2 : ℕ → ℕ = upd p1 e 0 in
      same_trans (D TO-HEAD) p1 (E TO-HEAD) unused (same_upd (D TO-HEAD) (D TO-TAIL e) (D TO-HEAD e) unused safe_down.1)
      (same_trans p1 p2 (E TO-HEAD) unused (same_upd p1 e 0 unused safe_e.1) (same_upd p2 (stack_out D e TO-TAIL 0) e unused safe_head.1))

  pub front_stack : StackOf s (front D e (D SECTION e)) (e ∷ (above ++ below)) unused
  front_stack =
      record {
        ring = to_front_lem (D TO-TAIL) (D TO-HEAD) above e below g.ring;
        free = free';
        full = sym (length_front above e below) ∙ g.full;
        whole = omega (arith, length_front above e below, g.whole);
        bound = (entry_e.1, all_less (λ x. x ≤ s.N) above e below g.bound);
        apart = (safe_e.1, all_less (λ x. Off x unused) above e below g.apart);
        idle = all_same2 (λ y u t. (y ≤ s.N) × (u ≡ 0) × (t ≡ 0)) (D TO-HEAD) (D SECTION) (E TO-HEAD) (E SECTION) unused same_4 same_2 g.idle;
        sections = second_shift s D above e below (D TO-HEAD 0) order once g.ring.bwd g.ring.some g.sections g.young g.elder;
        young = young_shift s D above e below (D TO-HEAD 0) order once g.ring.bwd g.ring.some g.sections g.young g.elder;
        elder = elder_shift s D above e below (D TO-HEAD 0) order once g.ring.bwd g.ring.some g.sections g.young g.elder;
      }
