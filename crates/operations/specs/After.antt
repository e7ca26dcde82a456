-- The residents after each operation are those of the recency stack. Assumes nothing.
use Prim.Native.Nat.{ℕ, suc, ◌+◌, ◌≤◌}
use Rattle.std.specs.Prelude.{◌≡◌, ltb, length}
use Rattle.std.proofs.Math.Path.{refl, sym, ap, ap₂}
use Rattle.std.proofs.Common.{◌∙◌, arith, eq-eqb, ne_eqb, lt-ltb, le-ltb}
use Rattle.std.proofs.Math.Bool.{Bool, true, false}
use mathlib.Core.List.{List, [], ◌∷◌, ◌++◌, map}
use Rattle.std.proofs.Math.Decide.{dec_le}
use Rattle.basics.specs.Basics.{bit, pick, All, when◌then◌else◌}
use Rattle.basics.specs.AllLaws.{all_map}
use Rattle.links.specs.Upd.{upd, upd_same, upd_other}
use Rattle.links.specs.Off.{Off}
use Rattle.links.specs.All.{all_off}
use Rattle.settings.specs.declared.Settings.{Settings}
use Rattle.stack.specs.Counts.{is_new, victim}
use Rattle.stack.specs.Recency.{Resident, unmarked, asked_marks, counted, raise, halve, place, asked, removed, counts_pins}
use Rattle.layout.specs.Addresses.{BLOCK, COUNT, SECTION, MODIFIED, TO-HEAD}
use Rattle.layout.specs.ModifiedWord.{marks_in}
use Rattle.linkage.specs.Fields.{Shape, Fields}
use Rattle.linkage.specs.Positions.{mark, mark_in, mark_out}
use Rattle.linkage.specs.WellLinked.{WellLinked, Entry}
use Rattle.word_ops.specs.Hit.{raised_count}
use Rattle.word_ops.specs.Mark.{with_mark}
use Rattle.word_ops.specs.Halve.{half}
use Rattle.operations.specs.FieldOps.{hitD, purgeD, enterD, replaceD}
use Rattle.operations.specs.HalveSound.{halveD, halve_sound}
use Rattle.operations.specs.HalveKeeps.{halve_blocks, halve_modified}
use Rattle.operations.specs.HitPlaces.{here}
use Rattle.operations.specs.Front.{once}
use Rattle.operations.specs.Directory.{Directory}
use Rattle.operations.specs.Enter.{NoneHas}
use Rattle.operations.specs.Residents.{Of, resident, residents_of, Kept, residents_kept, off_rest}
use Rattle.operations.specs.Mark.{marked}
use Rattle.operations.specs.MarkLaws.{written_says, read_says, entered_says}
use Rattle.operations.specs.Places.{missing, place_hit, place_unused, place_replacing, removed_here}

-- ---- marks

mark_other : (b : Bool) (f : ℕ → ℕ) (e m x : ℕ) → ¬ (x ≡ e) → pick b (upd f e m) f x ≡ f x
mark_other true f e m x n = upd_other f e m x n
mark_other false f e m x n = refl

mark_asked : (b : Bool) (f : ℕ → ℕ) (e : ℕ) → marks_in (pick b (upd f e (with_mark (f e))) f e) ≡ asked_marks b (marks_in (f e))
mark_asked true f e = ap marks_in (upd_same f e (with_mark (f e))) ∙ written_says (f e)
mark_asked false f e = read_says (f e)

-- ---- a hit

module _ (t : Settings) (s : Shape) (D : Fields) (above : List ℕ) (e : ℕ) (below unused : List ℕ) (of : Of t s)
    (g : WellLinked s D (above ++ (e ∷ below)) unused) where
  section_e : D SECTION e ≡ mark s.new (length above) + mark s.old (length above)
  section_e =
      here s D above e below (D TO-HEAD 0) g.legal.order (once s D above e below unused g.legal.order g.stack) g.stack.ring.bwd
      g.stack.ring.some g.stack.sections g.stack.young g.stack.elder

  -- the count rises as defined
  count_is : raised_count (D SECTION e) (D COUNT e) ≡ (when is_new t (length above) then resident D e else raise (resident D e)).count
  unfolding raise
  count_is = go (dec_le (suc (length above)) s.new)
    where
      pick_if : (b : Bool) (c : ℕ) → pick b (c + 1) c ≡ (when b then c + 1 else c)
      pick_if true c = refl
      pick_if false c = refl

      go : Dec (suc (length above) ≤ s.new) → raised_count (D SECTION e)
          (D COUNT e) ≡ (when is_new t (length above) then resident D e else raise (resident D e)).count
      go (yes h) =
          let z : D SECTION e ≡ 0 = section_e ∙ omega (
            arith,
            mark_out s.new (length above) h,
            mark_out s.old (length above)
                (omega (arith, g.legal.order)),
          ) in
          rw (eq-eqb (D SECTION e) 0 z, lt-ltb (length above) t.nnew (omega (arith, of.new_is)))
      go (no h) =
          let z : ¬ (D SECTION e ≡ 0) = λ c. omega (arith, section_e, mark_in s.new (length above) (omega arith)) in
          rw (ne_eqb (D SECTION e) 0 z, le-ltb (length above) t.nnew (omega (arith, of.new_is))) (pick_if (ltb (D COUNT e) 65535) (D COUNT e))

  block_is : (b : Bool) → D BLOCK e ≡ (when b then resident D e else raise (resident D e)).block
  unfolding raise
  block_is true = refl
  block_is false = refl

  marks_are : (b : Bool) → marks_in (D MODIFIED e) ≡ (when b then resident D e else raise (resident D e)).marks
  unfolding raise
  marks_are true = refl
  marks_are false = refl

  held_is : (b : Bool) → e ≡ (when b then resident D e else raise (resident D e)).held
  unfolding raise
  held_is true = refl
  held_is false = refl

  -- the resident once it was asked for
  pub risen_is : (when is_new t (length above) then resident D e else raise (resident D e)) ≡ counted (raised_count (D SECTION e) (D COUNT e))
      (resident D e)
  risen_is =
      let b : Bool = is_new t (length above) in
      let p : counted (raised_count (D SECTION e) (D COUNT e)) (resident D e) ≡ (when b then resident D e else raise (resident D e)) =
      λ i. record { block = block_is b i; count = count_is i; marks = marks_are b i; held = held_is b i } in
      sym p

  pub hit_residents : (w : Bool) → residents_of (marked w (hitD s D e) e) (e ∷ (above ++ below)) ≡ asked (D BLOCK e) w e
      (place t (D BLOCK e) (residents_of D (above ++ (e ∷ below))))
  unfolding asked
  hit_residents w =
      let E : Fields = marked w (hitD s D e) e in
      let b : Bool = is_new t (length above) in
      let risen : Resident ℕ = when b then resident D e else raise (resident D e) in
      let c : D BLOCK e ≡ risen.block = block_is b in
      let n : E COUNT e ≡ risen.count = upd_same (D COUNT) e (raised_count (D SECTION e) (D COUNT e)) ∙ count_is in
      let m : marks_in (E MODIFIED e) ≡ asked_marks w risen.marks = mark_asked w (D MODIFIED) e ∙ ap (asked_marks w) (marks_are b) in
      let top : resident E e ≡ record { block = risen.block; count = risen.count; marks = asked_marks w risen.marks; held = e } =
      λ i. record { block = c i; count = n i; marks = m i; held = e } in
      let others : Kept D E e =
      record {
        block = λ x k. refl;
        count = λ x k. upd_other (D COUNT) e (raised_count (D SECTION e) (D COUNT e)) x k;
        mark = λ x k. mark_other w (D MODIFIED) e (with_mark (D MODIFIED e)) x k;
      } in
      ap₂ ◌∷◌ top (residents_kept D E e (above ++ below) others (off_rest s D above e below unused g))
      ∙ sym (ap (asked (D BLOCK e) w e) (place_hit s D above e below unused g t))

-- ---- a purge

module _ (s : Shape) (D : Fields) (above : List ℕ) (e : ℕ) (below unused : List ℕ) (g : WellLinked s D (above ++ (e ∷ below)) unused) where
  pub purge_residents : (q : ℕ) → residents_of (purgeD s D e q) (above ++ below) ≡ removed (D BLOCK e) (residents_of D (above ++ (e ∷ below)))
  purge_residents q =
      residents_kept D (purgeD s D e q) e (above ++ below) (record
      { block = λ x k. upd_other (D BLOCK) e 0 x k; count = λ x k. upd_other (D COUNT) e 0 x k; mark = λ x k. upd_other (D MODIFIED) e 0 x k })
      (off_rest s D above e below unused g)
      ∙ sym (removed_here s D above e below unused g)

-- ---- a block that enters, whatever entry it takes

first_is : (D E : Fields) (e n : ℕ) (w : Bool) (residents : List ℕ) → Kept D E e → Off e residents → E BLOCK e ≡ n → E COUNT e ≡ 1
    → marks_in (E MODIFIED e) ≡ asked_marks w unmarked
    → residents_of E (e ∷ residents) ≡ record { block = n; count = 1; marks = asked_marks w unmarked; held = e } ∷ residents_of D residents
first_is D E e n w residents k o a b c =
    let top : resident E e ≡ record { block = n; count = 1; marks = asked_marks w unmarked; held = e } =
    λ i. record { block = a i; count = b i; marks = c i; held = e } in
    ap₂ ◌∷◌ top (residents_kept D E e residents k o)

module _ (t : Settings) (s : Shape) (D : Fields) (residents : List ℕ) (e : ℕ) (unused : List ℕ) (n : ℕ) (of : Of t s) (absent : NoneHas s D n)
    (g : WellLinked s D residents (e ∷ unused)) where
  he : Entry s e
  he =
      let z : ¬ (0 ≡ e) = g.stack.free.some.0 in
      (omega arith, g.stack.idle.0.0)

  off : Off e residents
  off = all_off e residents (all_map (λ x. Off x (e ∷ unused)) (λ x. ¬ (e ≡ x)) residents (λ x o q. o.0 (sym q)) g.stack.apart)

  pub enter_residents : (written : Bool) → residents_of (enterD s D e n (bit written)) (e ∷ residents) ≡ asked n written e
      (place t n (residents_of D residents))
  unfolding asked
  enter_residents written =
      first_is D (enterD s D e n (bit written)) e n written residents
      (record {
        block = λ x k. upd_other (D BLOCK) e n x k;
        count = λ x k. upd_other (D COUNT) e 1 x k;
        mark = λ x k. upd_other (D MODIFIED) e (bit written) x k;
      }) off
      (upd_same (D BLOCK) e n) (upd_same (D COUNT) e 1) (ap marks_in (upd_same (D MODIFIED) e (bit written)) ∙ entered_says written)
      ∙ sym (ap (asked n written e) (place_unused t D n residents (missing s D residents (e ∷ unused) n g absent)
      (omega (arith, g.stack.whole, of.blocks_is))))

module _ (t : Settings) (s : Shape) (D : Fields) (above : List ℕ) (e : ℕ) (below unused : List ℕ) (n : ℕ) (of : Of t s) (absent : NoneHas s D n)
    (g : WellLinked s D (above ++ (e ∷ below)) unused) where
  pub replace_residents : length (above ++ (e ∷ below)) ≡ s.N → length above ≡ victim t (counts_pins (residents_of D (above ++ (e ∷ below))))
      → (q : ℕ) (written : Bool)
      → residents_of (replaceD s D e q n (bit written)) (e ∷ (above ++ below)) ≡ asked n written e (place t n (residents_of D (above ++ (e ∷ below))))
  unfolding asked
  replace_residents full v q written =
      first_is D (replaceD s D e q n (bit written)) e n written (above ++ below)
      (record {
        block = λ x k. upd_other (D BLOCK) e n x k;
        count = λ x k. upd_other (D COUNT) e 1 x k;
        mark = λ x k. upd_other (D MODIFIED) e (bit written) x k;
      })
      (off_rest s D above e below unused g) (upd_same (D BLOCK) e n) (upd_same (D COUNT) e 1)
      (ap marks_in (upd_same (D MODIFIED) e (bit written)) ∙ entered_says written)
      ∙ sym (ap (asked n written e) (place_replacing t D n above e below (missing s D (above ++ (e ∷ below)) unused n g absent)
      (full ∙ sym of.blocks_is) v))

-- ---- halving

halve_of : (D E : Fields) (residents : List ℕ) → ((x : ℕ) → E BLOCK x ≡ D BLOCK x) → ((x : ℕ) → E MODIFIED x ≡ D MODIFIED x)
    → All (λ x. E COUNT x ≡ half (D COUNT x)) residents → residents_of E residents ≡ map halve (residents_of D residents)
unfolding halve
halve_of D E [] p r a = refl
halve_of D E (x ∷ residents) p r a =
    let top : resident E x ≡ halve (resident D x) = λ i. record { block = p x i; count = a.0 i; marks = marks_in (r x i); held = x } in
    ap₂ ◌∷◌ top (halve_of D E residents p r a.1)

pub halve_residents : (s : Shape) (w : List ℕ) (D : Fields) (residents unused : List ℕ) → Directory s w D residents unused
    → residents_of (halveD s (length residents) D) residents ≡ map halve (residents_of D residents)
halve_residents s w D residents unused g =
    halve_of D (halveD s (length residents) D) residents (λ x. ap (λ (f : ℕ → ℕ). f x) (halve_blocks s (length residents) D))
    (λ x. ap (λ (f : ℕ → ℕ). f x) (halve_modified s (length residents) D)) (halve_sound s w D residents unused g).counts
