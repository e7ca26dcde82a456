-- The stack and the unused list after a purge. Assumes nothing.
use Rattle.std.specs.Prelude.{ℕ, ◌+◌, ◌-◌, ◌≤◌, ◌<◌, ◌≡◌, Bool, true, false, not, List, ◌∷◌, ◌++◌, eqb, length, get_or}
use Rattle.std.proofs.Common.{◌∙◌, sym, ap, true≢false, arith}
use Rattle.std.proofs.Math.Seq.{get_or-append_seam}
use Rattle.basics.specs.Basics.{pick}
use Rattle.links.specs.Upd.{upd, upd_same}
use Rattle.links.specs.Off.{Off, Distinct, Same, distinct_less}
use Rattle.links.specs.Run.{same_upd}
use Rattle.links.specs.Ring.{remove, aside}
use Rattle.links.proofs.Sll.{sll_keep, sll_push}
use Rattle.links.specs.All.{all_map_off, all_less, all_at}
use Rattle.layout.specs.Addresses.{NEW-BOUNDARY, OLD-BOUNDARY, UNUSED, SECTION, TO-HEAD, TO-TAIL}
use Rattle.linkage.specs.Fields.{Shape, Fields, in_header}
use Rattle.linkage.specs.Positions.{mark, Sec, sec_ext}
use Rattle.linkage.specs.WellLinked.{StackOf, section}
use Rattle.word_ops.specs.Purge.{boundary_falls}
use Rattle.operations.specs.FieldOps.{lower, pull, pull_both, purge_stack}
use Rattle.operations.specs.Positions.{length_us, length_front}
use Rattle.operations.specs.PurgePlaces.{skip, skip_add, sec_out, sec_off, Pulls, sec_pull, word_pull, pulls_is}
use Rattle.operations.specs.HitPlaces.{tells_old, tells_new}
use Rattle.operations.specs.Agree.{same_trans, same_pick, all_same2}
use Rattle.operations.specs.Front.{entry_e, off_e, safe_e, safe_up, safe_down}

module _ (s : Shape) (D : Fields) (above : List ℕ) (e : ℕ) (below unused : List ℕ) (order : s.new ≤ s.old)
    (g : StackOf s D (above ++ (e ∷ below)) unused) where
  off : Off e (above ++ below)
  off = (off_e s D above e below unused order g).1

  idle_e : Off e unused
  idle_e = (safe_e s D above e below unused order g).1

  less : Distinct (above ++ below)
  less = distinct_less above e below g.ring.once

  here : D SECTION e ≡ mark s.new (length above) + mark s.old (length above)
  here = ap (D SECTION) (sym (get_or-append_seam above e below 0)) ∙ g.sections (length above) (length_us above e below)

  abbrev b2 : Bool
  b2 = boundary_falls (eqb (D SECTION e) 2) (D (in_header OLD-BOUNDARY) 0) e

  abbrev b1 : Bool
  b1 = boundary_falls (not (eqb (D SECTION e) 0)) (D (in_header NEW-BOUNDARY) 0) e

  pub pull_old : Pulls b2 s.old (length above) (length (above ++ (e ∷ below)))
  pull_old =
      pulls_is above e below s.old less off (eqb (D SECTION e) 2) (D (in_header OLD-BOUNDARY) 0) g.ring.some g.ring.once g.elder
      (tells_old s.new s.old (length above) (D SECTION e) order here)

  pub pull_new : Pulls b1 s.new (length above) (length (above ++ (e ∷ below)))
  pull_new =
      pulls_is above e below s.new less off (not (eqb (D SECTION e) 0)) (D (in_header NEW-BOUNDARY) 0) g.ring.some g.ring.once g.young
      (tells_new s.new s.old (length above) (D SECTION e) order here)

  abbrev f1 : ℕ → ℕ
  f1 = pull b2 D (in_header OLD-BOUNDARY) SECTION

  -- the two boundary entries, as the words name them
  sections_1 : Sec f1 (λ i. skip (mark s.new) (length above) i + mark s.old i) (above ++ below)
  sections_1 =
      let p : ℕ = length above in
      rw (← g.elder) at
      (sec_pull above e below s.old less off b2 (D SECTION) (skip (mark s.new) p) pull_old
      (sec_ext (D SECTION) (skip (λ i. mark s.new i + mark s.old i) p) (λ i. skip (mark s.new) p i + skip (mark s.old) p i)
      (above ++ below) (λ i l. skip_add (mark s.new) (mark s.old) p i)
      (sec_out (D SECTION) (λ i. mark s.new i + mark s.old i) above e below g.sections)))

  sections_2 : Sec (pull_both D e (D SECTION e) SECTION) (section s) (above ++ below)
  sections_2 =
      let p : ℕ = length above in
      let t : Sec (pick b1 (lower f1 (get_or (above ++ (e ∷ below)) s.new 0)) f1) (λ i. mark s.old i + mark s.new i) (above ++ below) =
      sec_pull above e below s.new less off b1 f1 (mark s.old) pull_new
      (sec_ext f1 (λ i. skip (mark s.new) p i + mark s.old i) (λ i. mark s.old i + skip (mark s.new) p i) (above ++ below)
      (λ i l. omega arith) sections_1) in
      sec_ext (pull_both D e (D SECTION e) SECTION) (λ i. mark s.old i + mark s.new i) (section s) (above ++ below) (λ i l. omega arith)
      (rw (← g.young) at t)

  -- the boundary entries are residents
  safe_at : (i k : ℕ) → D i 0 ≡ get_or (above ++ (e ∷ below)) k 0 → k < length (above ++ (e ∷ below)) → Off (D i 0) unused
  safe_at i k q l = rw q (all_at (λ x. Off x unused) (above ++ (e ∷ below)) k g.apart l)

  pub pulled : (b : Bool) (k : ℕ) → Pulls b k (length above) (length (above ++ (e ∷ below))) → b ≡ true → k < length (above ++ (e ∷ below))
  pulled true k t q = t.1
  pulled false k t q = absurd (true≢false (sym q))

  abbrev E : Fields
  E = purge_stack D e

  same_2 : Same (D SECTION) (E SECTION) unused
  same_2 =
      let f2 : ℕ → ℕ = pull_both D e (D SECTION e) SECTION in
      same_trans (D SECTION) f1 (E SECTION) unused (same_pick (D SECTION) (lower (D SECTION) (D (in_header OLD-BOUNDARY) 0)) b2 unused
      (λ q. same_upd (D SECTION) (D (in_header OLD-BOUNDARY) 0) (D SECTION (D (in_header OLD-BOUNDARY) 0) - 1) unused
      (safe_at 32 s.old g.elder (pulled b2 s.old pull_old q))))
      (same_trans f1 f2 (E SECTION) unused (same_pick f1 (lower f1 (D (in_header NEW-BOUNDARY) 0)) b1 unused
      (λ q. same_upd f1 (D (in_header NEW-BOUNDARY) 0) (f1 (D (in_header NEW-BOUNDARY) 0) - 1) unused
      (safe_at 31 s.new g.young (pulled b1 s.new pull_new q))))
      (same_upd f2 e 0 unused idle_e))

  same_4 : Same (D TO-HEAD) (E TO-HEAD) unused
  same_4 =
      let p1 : ℕ → ℕ = upd (D TO-HEAD) (D TO-TAIL e) (D TO-HEAD e) in
      same_trans (D TO-HEAD) p1 (E TO-HEAD) unused (same_upd (D TO-HEAD) (D TO-TAIL e) (D TO-HEAD e) unused
      (safe_down s D above e below unused order g).1) (same_upd p1 e 0 unused idle_e)

  pub purge_stack_lem : StackOf s (purge_stack D e) (above ++ below) (e ∷ unused)
  purge_stack_lem =
      let n1 : ℕ → ℕ = upd (D TO-TAIL) (D TO-HEAD e) (D TO-TAIL e) in
      let p1 : ℕ → ℕ = upd (D TO-HEAD) (D TO-TAIL e) (D TO-HEAD e) in
      let o : Off e (0 ∷ (above ++ below)) = off_e s D above e below unused order g in
      record {
        ring = aside n1 p1 (above ++ below) e (D (in_header UNUSED) 0) 0 o (remove (D TO-TAIL) (D TO-HEAD) above e below g.ring);
        free =
            sll_push n1 (D (in_header UNUSED) 0) e unused (o.0, idle_e)
            (sll_keep (D TO-TAIL) (D (in_header UNUSED) 0) unused (D TO-HEAD e) (D TO-TAIL e) (safe_up s D above e below unused order g).1 g.free);
        full = omega (arith, length_front above e below, g.full);
        whole = omega (arith, length_front above e below, g.whole);
        bound = all_less (λ x. x ≤ s.N) above e below g.bound;
        apart =
            all_map_off (λ x. Off x unused) (λ x. Off x (e ∷ unused)) e (above ++ below) (λ x n h. (n, h)) off
            (all_less (λ x. Off x unused) above e below g.apart);
        idle = (
          ((entry_e s D above e below unused order g).1, upd_same p1 e 0, upd_same (pull_both D e (D SECTION e) SECTION) e 0),
          all_same2
              (λ y u t. (y ≤ s.N) × (u ≡ 0) × (t ≡ 0)) (D TO-HEAD) (D SECTION) (E TO-HEAD) (E SECTION) unused same_4 same_2 g.idle,
        );
        sections = sec_off (pull_both D e (D SECTION e) SECTION) (section s) e 0 (above ++ below) off sections_2;
        young = word_pull above e below s.new less off b1 (D TO-TAIL) (D (in_header NEW-BOUNDARY)) (D TO-TAIL 0) pull_new g.ring.fwd g.young;
        elder = word_pull above e below s.old less off b2 (D TO-TAIL) (D (in_header OLD-BOUNDARY)) (D TO-TAIL 0) pull_old g.ring.fwd g.elder;
      }
