-- The numbers of the residents and of the header: the check, the facts and the definition.
-- Assumes nothing.
use Prim.Native.Nat.{ℕ, zero, suc, ◌+◌, ◌-◌, ◌*◌, ◌≤◌, ◌<◌}
use Rattle.std.proofs.Math.Path.{◌≡◌, sym, ap, subst}
use Rattle.std.specs.Prelude.{refl, ◌⊎◌, length, get_or, T, ltb}
use Rattle.std.proofs.Common.{◌∙◌, ap₂, inl, inr, arith, add-one}
use Rattle.std.proofs.Math.Logic.{⊎_elim}
use Rattle.std.proofs.Math.Bool.{Bool, true, false}
use mathlib.Core.List.{List, [], ◌∷◌, map}
use Rattle.std.proofs.Math.Nat.{zero-add}
use Rattle.std.proofs.Math.ListN.{get_or-eq_default}
use Rattle.std.proofs.Math.Dec.{leb, eqb, eqb→eq}
use borrow.Author.Tests.{lt-ltb, le-ltb, le-leb, lt-leb, eq-eqb}
use Rattle.std.proofs.Math.Facts.{yes_eqb, yes_and, and_yes, ltb_yes, ltb_no, leb_yes, yes_ltb, no_ltb, yes_leb}
use Rattle.basics.specs.Basics.{All, when◌then◌else◌, pick, total, within}
use Rattle.basics.specs.Lists.{all, distinct}
use Rattle.basics.specs.ListLaws.{all_yes, yes_all}
use Rattle.basics.specs.AllLaws.{all_map, all_both}
use Rattle.links.specs.Off.{Off, Distinct}
use Rattle.links.specs.Run.{Run}
use Rattle.words.specs.Words.{val}
use Rattle.stack.specs.Counts.{section}
use Rattle.layout.specs.Addresses.{CACHE-BLOCKS, NEW-BLOCKS, OLD-BLOCKS, AVERAGE-LIMIT, STORE-BLOCKS, RESIDENTS, SUM, HEAD, NEW-BOUNDARY, OLD-BOUNDARY, BLANK-14, BLANK-15, READS, WRITES, INS, OUTS, BLOCK, COUNT, SECTION, MODIFIED, TO-TAIL}
use Rattle.layout.specs.ModifiedWord.{is_modified_word}
use Rattle.layout.specs.Sound.{field, sections_right, settings_in}
use Rattle.check_model.specs.Tests.{section_at, field_test, nth_of, at_position, mark_bit, sum_of, total_of, numbers_test, totals_test}
use Rattle.check_model.specs.Bools.{pick_yes, yes_pick, pick_no, no_pick}
use Rattle.check_model.specs.Runs.{fields_on, sum_run, nth_run}
use Rattle.check_model.specs.Along.{fw, field_is}
use Rattle.check_model.specs.Membership.{all_some, distinct_yes, yes_distinct}

-- a number is below another, or not
pub less : (a b : ℕ) → (a < b) ⊎ (b ≤ a)
less a zero = inr (omega arith)
less zero (suc b) = inl (omega arith)
less (suc a) (suc b) = ⊎_elim (λ h. inl (omega arith)) (λ h. inr (omega arith)) (less a b)

-- ---- the residents' numbers

pub record Good (f : ℕ → ℕ → ℕ) (m e : ℕ) : Type 0 where
  pub block : f BLOCK e < m
  pub count : 1 ≤ f COUNT e
  pub most : f COUNT e ≤ 65535
  pub mark : T (is_modified_word (f MODIFIED e))

abbrev pub Sections : (ℕ → ℕ → ℕ) → ℕ → ℕ → ℕ → List ℕ → Type 0
Sections f new mid p [] = Unit {0}
Sections f new mid p (x ∷ xs) = (f SECTION x ≡ section_at new mid p) × Sections f new mid (p + 1) xs

module _ (f : ℕ → ℕ → ℕ) (m new mid : ℕ) where
  field_read : (e p : ℕ) → T (field_test f m new mid e p) → Good f m e × (f SECTION e ≡ section_at new mid p)
  unfolding field_test
  field_read e p h =
      let t3 : Bool = eqb (f SECTION e) (section_at new mid p) in
      let t2 : Bool = pick (is_modified_word (f MODIFIED e)) t3 false in
      let t1 : Bool = pick (ltb 65535 (f COUNT e)) false t2 in
      let a = pick_yes (ltb (f BLOCK e) m) (pick (ltb (f COUNT e) 1) false t1) h in
      let b = pick_no (ltb (f COUNT e) 1) t1 a.1 in
      let c = pick_no (ltb 65535 (f COUNT e)) t2 b.1 in
      let d = pick_yes (is_modified_word (f MODIFIED e)) t3 c.1 in
      (record { block = ltb_yes a.0; count = ltb_no b.0; most = ltb_no c.0; mark = d.0 }, eqb→eq (f SECTION e) (section_at new mid p) d.1)

  field_write : (e p : ℕ) → Good f m e → f SECTION e ≡ section_at new mid p → T (field_test f m new mid e p)
  unfolding field_test
  field_write e p g s =
      let t3 : Bool = eqb (f SECTION e) (section_at new mid p) in
      let t2 : Bool = pick (is_modified_word (f MODIFIED e)) t3 false in
      let t1 : Bool = pick (ltb 65535 (f COUNT e)) false t2 in
      yes_pick (ltb (f BLOCK e) m) (pick (ltb (f COUNT e) 1) false t1) (yes_ltb g.block)
      (no_pick (ltb (f COUNT e) 1) t1 (no_ltb g.count)
      (no_pick (ltb 65535 (f COUNT e)) t2 (no_ltb g.most)
      (yes_pick (is_modified_word (f MODIFIED e)) t3 g.mark (yes_eqb s))))

  pub fields_read : (xs : List ℕ) (p : ℕ) → T (fields_on f m new mid xs p) → All (Good f m) xs × Sections f new mid p xs
  unfolding fields_on
  fields_read [] p h = (tt, tt)
  fields_read (x ∷ xs) p h =
      let a = pick_yes (field_test f m new mid x p) (fields_on f m new mid xs (p + 1)) h in
      let b = field_read x p a.0 in
      let c = fields_read xs (p + 1) a.1 in
      ((b.0, c.0), (b.1, c.1))

  pub fields_write : (xs : List ℕ) (p : ℕ) → All (Good f m) xs → Sections f new mid p xs → T (fields_on f m new mid xs p)
  unfolding fields_on
  fields_write [] p g s = tt
  fields_write (x ∷ xs) p g s =
      yes_pick (field_test f m new mid x p) (fields_on f m new mid xs (p + 1)) (field_write x p g.0 s.0) (fields_write xs (p + 1) g.1 s.1)

module _ (w : List ℕ) where
  -- ---- sections

  pub section_is : (p : ℕ) → section (settings_in w) p ≡ section_at (val w NEW-BLOCKS) (val w CACHE-BLOCKS - val w OLD-BLOCKS) p
  unfolding settings_in section_at
  section_is p = ap (pick (ltb p (val w NEW-BLOCKS)) 0) (inner (val w CACHE-BLOCKS - val w OLD-BLOCKS))
    where
      inner : (mid : ℕ) → ◌≡◌ {A = ℕ} (when leb mid p then 2 else 1) (pick (ltb p mid) 1 2)
      inner mid = ⊎_elim (λ h. rw (lt-leb mid p h, lt-ltb p mid h)) (λ h. rw (le-leb mid p h, le-ltb p mid h)) (less p mid)

  pub sections_sound : (xs : List ℕ) (p : ℕ) → Off 0 xs → Sections (fw w) (val w NEW-BLOCKS) (val w CACHE-BLOCKS - val w OLD-BLOCKS) p xs
      → T (sections_right w p xs)
  unfolding sections_right
  sections_sound [] p o s = tt
  sections_sound (x ∷ xs) p o s =
      yes_and (eqb (field w SECTION x) (section (settings_in w) p)) (sections_right w (suc p) xs)
      (yes_eqb (field_is w 2 x (λ c. o.0 (sym c)) ∙ s.0 ∙ sym (section_is p)))
      (sections_sound xs (suc p) o.1 (subst (λ q. Sections (fw w) (val w NEW-BLOCKS) (val w CACHE-BLOCKS - val w OLD-BLOCKS) q xs) (add-one p)
      s.1))

  pub sound_sections : (xs : List ℕ) (p : ℕ) → Off 0 xs → T (sections_right w p xs)
      → Sections (fw w) (val w NEW-BLOCKS) (val w CACHE-BLOCKS - val w OLD-BLOCKS) p xs
  unfolding sections_right
  sound_sections [] p o h = tt
  sound_sections (x ∷ xs) p o h =
      let a = and_yes (eqb (field w SECTION x) (section (settings_in w) p)) (sections_right w (suc p) xs) h in (
        sym (field_is w 2 x (λ c. o.0 (sym c))) ∙ eqb→eq (field w SECTION x) (section (settings_in w) p) a.0 ∙ section_is p,
        subst (λ q. Sections (fw w) (val w NEW-BLOCKS) (val w CACHE-BLOCKS - val w OLD-BLOCKS) q xs) (sym (add-one p))
            (sound_sections xs (suc p) o.1 a.1),
      )

  -- ---- counts and marks

  abbrev pub block_at : ℕ → Bool
  block_at e = ltb (field w BLOCK e) (val w STORE-BLOCKS)

  abbrev pub count_at : ℕ → Bool
  count_at e = within 1 65535 (field w COUNT e)

  abbrev pub mark_at : ℕ → Bool
  mark_at e = is_modified_word (field w MODIFIED e)

  count_yes : (e : ℕ) → ¬ (e ≡ 0) → Good (fw w) (val w STORE-BLOCKS) e → T (count_at e)
  count_yes e z g = rw (field_is w 1 e z) (yes_and (leb 1 (fw w COUNT e)) (leb (fw w COUNT e) 65535) (yes_leb g.count) (yes_leb g.most))

  -- the definition's tests of each resident
  pub good_sound : (xs : List ℕ) → Off 0 xs → All (Good (fw w) (val w STORE-BLOCKS)) xs → T (all block_at xs) × T (all count_at xs) × T (all mark_at xs)
  good_sound xs o g = (
    yes_all block_at xs (all_some (Good (fw w) (val w STORE-BLOCKS)) (λ e. T (block_at e)) xs o (λ e z h. rw (field_is w 0 e z) (yes_ltb h.block))
        g),
    yes_all count_at xs (all_some (Good (fw w) (val w STORE-BLOCKS)) (λ e. T (count_at e)) xs o count_yes g),
    yes_all mark_at xs (all_some (Good (fw w) (val w STORE-BLOCKS)) (λ e. T (mark_at e)) xs o (λ e z h. rw (field_is w 3 e z) h.mark) g),
  )

  good_one : (e : ℕ) → ¬ (e ≡ 0) → T (block_at e) × T (count_at e) × T (mark_at e) → Good (fw w) (val w STORE-BLOCKS) e
  good_one e z h =
      let b : T (ltb (fw w BLOCK e) (val w STORE-BLOCKS)) = rw (field_is w 0 e z) at h.0 in
      let c : T (within 1 65535 (fw w COUNT e)) = rw (field_is w 1 e z) at h.1 in
      let q = and_yes (leb 1 (fw w COUNT e)) (leb (fw w COUNT e) 65535) c in
      record { block = ltb_yes b; count = leb_yes q.0; most = leb_yes q.1; mark = rw (field_is w 3 e z) at h.2 }

  pub sound_good : (xs : List ℕ) → Off 0 xs → T (all block_at xs) → T (all count_at xs) → T (all mark_at xs) → All (Good (fw w) (val w STORE-BLOCKS)) xs
  sound_good xs o b c m =
      all_some (λ e. T (block_at e) × T (count_at e) × T (mark_at e)) (Good (fw w) (val w STORE-BLOCKS)) xs o good_one
      (all_map (λ e. T (block_at e) × (T (count_at e) × T (mark_at e))) (λ e. T (block_at e) × T (count_at e) × T (mark_at e)) xs
      (λ e h. (h.0, h.1.0, h.1.1))
      (all_both (λ e. T (block_at e)) (λ e. T (count_at e) × T (mark_at e)) xs (all_yes block_at xs b)
      (all_both (λ e. T (count_at e)) (λ e. T (mark_at e)) xs (all_yes count_at xs c) (all_yes mark_at xs m))))

  -- the field of every entry of a list
  pub map_field : (k : ℕ → ℕ) (j : ℕ) (xs : List ℕ) → Off 0 xs → map (λ e. k (field w j e)) xs ≡ map (λ e. k (fw w j e)) xs
  map_field k j [] o = refl
  map_field k j (x ∷ xs) o = ap₂ ◌∷◌ (ap k (field_is w j x (λ c. o.0 (sym c)))) (map_field k j xs o.1)

  -- ---- blocks: all different

  pub blocks_sound : (xs : List ℕ) → Off 0 xs → Distinct (map (fw w BLOCK) xs) → T (distinct (map (field w BLOCK) xs))
  blocks_sound xs o d = rw (map_field (λ n. n) BLOCK xs o) (yes_distinct (map (fw w BLOCK) xs) d)

  pub sound_blocks : (xs : List ℕ) → Off 0 xs → T (distinct (map (field w BLOCK) xs)) → Distinct (map (fw w BLOCK) xs)
  sound_blocks xs o h = distinct_yes (map (fw w BLOCK) xs) (rw (map_field (λ n. n) BLOCK xs o) at h)

  -- ---- the header's numbers

  module _ (xs : List ℕ) (run : Run (fw w TO-TAIL) (val w HEAD) xs 0) (many : length xs ≡ val w RESIDENTS) (o : Off 0 xs) where
    pub sum_is : (k : ℕ → ℕ) (j : ℕ) → sum_of (fw w) (λ e. k (fw w j e)) (val w RESIDENTS) (val w HEAD) ≡ total (map (λ e. k (field w j e)) xs)
    unfolding sum_of
    sum_is k j =
        rw (← many, map_field k j xs o) (sum_run (fw w) (λ e. k (fw w j e)) xs (val w HEAD) 0 run ∙ zero-add (total (map (λ e. k (fw w j e)) xs)))

    pub position_is : (p : ℕ) → at_position (fw w) (val w RESIDENTS) (val w HEAD) p ≡ get_or xs p 0
    unfolding at_position nth_of
    position_is p =
        ⊎_elim (λ h. rw (lt-ltb p (val w RESIDENTS) h) (nth_run (fw w) xs (val w HEAD) p run (omega arith)))
        (λ h. rw (le-ltb p (val w RESIDENTS) h) (sym (get_or-eq_default xs 0 (omega arith)))) (less p (val w RESIDENTS))

    pub record Numbers : Type 0 where
      pub sum : val w SUM ≡ total (map (field w COUNT) xs)
      pub average : total (map (field w COUNT) xs) ≤ val w AVERAGE-LIMIT * val w CACHE-BLOCKS
      pub new : val w NEW-BOUNDARY ≡ get_or xs (val w NEW-BLOCKS) 0
      pub old : val w OLD-BOUNDARY ≡ get_or xs (val w CACHE-BLOCKS - val w OLD-BLOCKS) 0
      pub none : val w BLANK-14 ≡ 0
      pub none' : val w BLANK-15 ≡ 0

    pub numbers_read : T (numbers_test w (fw w) (val w CACHE-BLOCKS) (val w NEW-BLOCKS) (val w OLD-BLOCKS) (val w AVERAGE-LIMIT) (val w RESIDENTS)
        (val w HEAD)) → Numbers
    unfolding numbers_test
    numbers_read h =
        let s : ℕ = sum_of (fw w) (fw w 1) (val w RESIDENTS) (val w HEAD) in
        let t6 : Bool = pick (eqb (val w BLANK-15) 0) true false in
        let t5 : Bool = pick (eqb (val w BLANK-14) 0) t6 false in
        let t4 : Bool = pick (eqb (val w OLD-BOUNDARY) (at_position (fw w) (val w RESIDENTS) (val w HEAD) (val w CACHE-BLOCKS - val w OLD-BLOCKS))) t5
        false in
        let t3 : Bool = pick (eqb (val w NEW-BOUNDARY) (at_position (fw w) (val w RESIDENTS) (val w HEAD) (val w NEW-BLOCKS))) t4 false in
        let a = pick_yes (eqb (val w SUM) s) (pick (ltb (val w AVERAGE-LIMIT * val w CACHE-BLOCKS) s) false t3) h in
        let b = pick_no (ltb (val w AVERAGE-LIMIT * val w CACHE-BLOCKS) s) t3 a.1 in
        let c = pick_yes (eqb (val w NEW-BOUNDARY) (at_position (fw w) (val w RESIDENTS) (val w HEAD) (val w NEW-BLOCKS))) t4 b.1 in
        let d = pick_yes (eqb (val w OLD-BOUNDARY) (at_position (fw w) (val w RESIDENTS) (val w HEAD) (val w CACHE-BLOCKS - val w OLD-BLOCKS))) t5
        c.1 in
        let e = pick_yes (eqb (val w BLANK-14) 0) t6 d.1 in
        let g = pick_yes (eqb (val w BLANK-15) 0) true e.1 in
        record {
          sum = eqb→eq (val w SUM) s a.0 ∙ sum_is (λ n. n) 1;
          average = rw (sum_is (λ n. n) 1) at (ltb_no {a = val w AVERAGE-LIMIT * val w CACHE-BLOCKS} {b = s} b.0);
          new =
              eqb→eq (val w NEW-BOUNDARY) (at_position (fw w) (val w RESIDENTS) (val w HEAD) (val w NEW-BLOCKS)) c.0
              ∙ position_is (val w NEW-BLOCKS);
          old =
              eqb→eq (val w OLD-BOUNDARY) (at_position (fw w) (val w RESIDENTS) (val w HEAD) (val w CACHE-BLOCKS - val w OLD-BLOCKS)) d.0
              ∙ position_is (val w CACHE-BLOCKS - val w OLD-BLOCKS);
          none = eqb→eq (val w BLANK-14) 0 e.0;
          none' = eqb→eq (val w BLANK-15) 0 g.0;
        }

    pub numbers_write : Numbers → T (numbers_test w (fw w) (val w CACHE-BLOCKS) (val w NEW-BLOCKS) (val w OLD-BLOCKS) (val w AVERAGE-LIMIT)
        (val w RESIDENTS) (val w HEAD))
    unfolding numbers_test
    numbers_write n =
        rw (
          sum_is (λ n. n) 1,
          position_is (val w NEW-BLOCKS),
          position_is (val w CACHE-BLOCKS - val w OLD-BLOCKS),
          eq-eqb (val w SUM) (total (map (field w COUNT) xs)) n.sum,
          le-ltb (val w AVERAGE-LIMIT * val w CACHE-BLOCKS) (total (map (field w COUNT) xs)) n.average,
          eq-eqb (val w NEW-BOUNDARY) (get_or xs (val w NEW-BLOCKS) 0) n.new,
          eq-eqb (val w OLD-BOUNDARY) (get_or xs (val w CACHE-BLOCKS - val w OLD-BLOCKS) 0) n.old,
          eq-eqb (val w BLANK-14) 0 n.none,
          eq-eqb (val w BLANK-15) 0 n.none',
        ) tt

  -- ---- totals

  pub totals_read : T (totals_test w (fw w) (val w RESIDENTS) (val w HEAD))
      → (total_of w INS ≤ total_of w READS) × (total_of w OUTS + sum_of (fw w) (mark_bit (fw w)) (val w RESIDENTS) (val w HEAD) ≤ total_of w WRITES)
  unfolding totals_test
  totals_read h =
      let a =
      pick_no (ltb (total_of w READS) (total_of w INS))
      (pick (ltb (total_of w WRITES) (total_of w OUTS + sum_of (fw w) (mark_bit (fw w)) (val w RESIDENTS) (val w HEAD))) false true) h in
      let b = pick_no (ltb (total_of w WRITES) (total_of w OUTS + sum_of (fw w) (mark_bit (fw w)) (val w RESIDENTS) (val w HEAD))) true a.1 in
      let marked : ℕ = sum_of (fw w) (mark_bit (fw w)) (val w RESIDENTS) (val w HEAD) in
      (ltb_no {a = total_of w READS} {b = total_of w INS} a.0, ltb_no {a = total_of w WRITES} {b = total_of w OUTS + marked} b.0)

  pub totals_write : total_of w INS ≤ total_of w READS
      → total_of w OUTS + sum_of (fw w) (mark_bit (fw w)) (val w RESIDENTS) (val w HEAD) ≤ total_of w WRITES
      → T (totals_test w (fw w) (val w RESIDENTS) (val w HEAD))
  unfolding totals_test
  totals_write h k =
      no_pick (ltb (total_of w READS) (total_of w INS))
      (pick (ltb (total_of w WRITES) (total_of w OUTS + sum_of (fw w) (mark_bit (fw w)) (val w RESIDENTS) (val w HEAD))) false true) (no_ltb h)
      (no_pick (ltb (total_of w WRITES) (total_of w OUTS + sum_of (fw w) (mark_bit (fw w)) (val w RESIDENTS) (val w HEAD))) true (no_ltb k) tt)
