-- The marks of a resident change, and no link word: cleared once its bytes were written out, with one block out counted; a tick seen;
-- pinned or unpinned. Assumes nothing.
use Rattle.std.specs.Prelude.{ℕ, zero, suc, ◌+◌, ◌*◌, ◌%◌, ◌≤◌, ◌<◌, ◌≡◌, refl, Bool, true, false, List, [], ◌∷◌, T, eqb}
use Rattle.std.proofs.Common.{◌∙◌, sym, ap, ap₂, arith}
use Rattle.std.proofs.Math.Option.{some}
use Rattle.std.proofs.Math.ListN.{get_elem?}
use borrow.Author.Tests.{eqb-true}
use Rattle.basics.specs.Basics.{All, pick, when◌then◌else◌}
use Rattle.basics.specs.Basics as basics
use Rattle.links.specs.Upd.{upd}
use Rattle.words.specs.Words.{set_number, val}
use Rattle.words.specs.LinkLaws.{Within, within_none, within_then}
use Rattle.stack.specs.declared.Marks.{Marks}
use Rattle.stack.specs.Recency.{cleared, saw_tick, Resident, remarked, counts, pinned_as}
use Rattle.layout.specs.Addresses.{COUNT, MODIFIED, READS, WRITES, INS, OUTS}
use Rattle.layout.specs.ModifiedWord.{marks_in, is_modified_word}
use Rattle.layout.specs.Sound.{settings_in, totals_in, sound, residents_in, view}
use Rattle.layout.proofs.SoundLaws.{sound_kept}
use Rattle.promises.specs.DirectoryPromises.{marked_at, more_outs, Marked, Cleaned, TickSeen, Pinned}
use Rattle.linkage.specs.Fields.{Shape, base, Fields, put, entry, header, in_header, view_get}
use Rattle.linkage.specs.WellLinked.{Entry, Sum, total}
use Rattle.linkage.specs.WellLinkedLaws.{sum_bits}
use Rattle.linkage.specs.WordFields.{shape}
use Rattle.word_ops.specs.Lists.{word_of}
use Rattle.word_ops.specs.Clean.{cleaned as cleanedWords}
use Rattle.word_ops.specs.Mark.{tick_seen, without_write, with_seen, with_pin, pin_set}
use Rattle.operations.specs.Directory.{Directory}
use Rattle.operations.specs.Stores.{view_number}
use Rattle.operations.specs.Enter.{flags_mark}
use Rattle.operations.specs.Totals.{raise_total, out_total, out_sound}
use Rattle.operations.specs.Residents.{resident, residents_of, alive}
use Rattle.operations.specs.Counted.{totals_of, same_totals}
use Rattle.operations.specs.BoundParts.{marked_from}
use Rattle.operations.specs.Bounds.{outs_within}
use Rattle.operations.specs.MarkLaws.{word_small, seen_word, cleared_says, seen_says, cleared_word, pinned_word, pinned_says, pinned_bit}
use Rattle.operations.specs.Stands.{Given, Stands}
use Rattle.operations.specs.SoundWords.{stands_of_sound, read_off}

-- ---- the directory then

-- with another modified word at e, which says modified only where the one before did
module _ (s : Shape) (w : List ℕ) (D : Fields) (residents unused : List ℕ) (e : ℕ) (here : Entry s e) (live : 1 ≤ D COUNT e)
    (g : Directory s w D residents unused) where
  remarked_sound : (v : ℕ) → T (is_modified_word v) → v % 2 ≤ D MODIFIED e % 2
      → Directory s (set_number w (word_of (base s) e MODIFIED) v) (put D MODIFIED e v) residents unused
  remarked_sound v ok room =
      let k = g.linked in
      record {
        view =
            view_number s w D g.view MODIFIED e (word_of (base s) e MODIFIED) v (entry (omega arith) here.0 here.1 refl) refl
            (omega (arith, word_small v ok));
        linked = record {
          legal = k.legal;
          settled = k.settled;
          stack = k.stack;
          count = k.count;
          chain = k.chain;
          hash = k.hash;
          flags =
              flags_mark s (D COUNT) (D MODIFIED) (total D (in_header READS)) (total D (in_header WRITES)) (total D (in_header INS))
              (total D (in_header OUTS)) e v here live ok (omega (arith, k.flags.out_written)) k.flags;
        };
      }

  remarked_within : (v : ℕ) → Within 0 w (set_number w (word_of (base s) e MODIFIED) v)
  remarked_within v = marked_from s w D g.view e here 0 w v (within_none w)

  pub word_is : val w (word_of (base s) e MODIFIED) ≡ D MODIFIED e
  word_is = view_get s w D g.view MODIFIED e (word_of (base s) e MODIFIED) (entry (omega arith) here.0 here.1 refl)

  pub word_e : T (is_modified_word (D MODIFIED e))
  word_e = g.linked.flags.bits e here

  module _ (marked-e : D MODIFIED e % 2 ≡ 1) where
    abbrev E : Fields
    E = put D MODIFIED e (without_write (D MODIFIED e))

    unmarked : Directory s (set_number w (word_of (base s) e MODIFIED) (without_write (D MODIFIED e))) E residents unused
    unmarked = remarked_sound (without_write (D MODIFIED e)) (cleared_word (D MODIFIED e) word_e) (omega arith)

    -- a mark less than there was
    out_room : total D (in_header OUTS) + 1 + Sum s.N (λ x. upd (D MODIFIED) e (without_write (D MODIFIED e)) x % 2) ≤ total D (in_header WRITES)
    out_room =
        let none : without_write (D MODIFIED e) % 2 ≡ 0 = omega arith in
        omega (arith, sum_bits s.N (D MODIFIED) e (without_write (D MODIFIED e)) here.0 here.1, marked-e, g.linked.flags.out_written)

    small : (i : ℕ) → (15 < i) × (i < 24) → D (in_header i) 0 < 268435456
    small i h = g.view.small (in_header i) 0 i (header refl refl h.1 (omega arith) (omega arith))

    pub clean_sound : Directory s (cleanedWords w (base s) e) (raise_total E OUTS) residents unused
    unfolding cleanedWords
    clean_sound =
        rw word_is
        (out_sound s (set_number w (word_of (base s) e MODIFIED) (without_write (D MODIFIED e))) E residents unused unmarked
        (omega (arith, out_room, small WRITES (omega arith), small (WRITES + 1) (omega arith))) out_room)

    clean_within : Within 0 w (cleanedWords w (base s) e)
    unfolding cleanedWords
    clean_within =
        rw word_is
        (within_then 0 0 w _ _ (remarked_within (without_write (D MODIFIED e)))
        (outs_within s (set_number w (word_of (base s) e MODIFIED) (without_write (D MODIFIED e))) E unmarked.view))

-- ---- the residents then

remarked_seen : (change : Marks → Marks) (D : Fields) (e v : ℕ) → marks_in v ≡ change (marks_in (D MODIFIED e)) → (order : List ℕ)
    → residents_of (put D MODIFIED e v) order ≡ marked_at change e (residents_of D order)
unfolding upd
remarked_seen change D e v says [] = refl
remarked_seen change D e v says (x ∷ order) = ap₂ ◌∷◌ (one (eqb x e) (eqb-true x e)) (remarked_seen change D e v says order)
  where
    one : (b : Bool) → (b ≡ true → x ≡ e)
        → ◌≡◌ {A = Resident ℕ} (record { block = D 0 x; count = D 1 x; marks = marks_in (pick b v (D MODIFIED x)); held = x })
        (when b then remarked change (resident D x) else resident D x)
    one true h = λ i. record { block = D 0 x; count = D 1 x; marks = (says ∙ ap (λ y. change (marks_in (D MODIFIED y))) (sym (h refl))) i; held = x }
    one false h = refl

marked_sum : (change : Marks → Marks) (e : ℕ) (l : List (Resident ℕ)) → counts (marked_at change e l) ≡ counts l
marked_sum change e [] = refl
marked_sum change e (x ∷ l) = ap₂ ◌∷◌ (one (eqb x.held e)) (marked_sum change e l)
  where
    one : (b : Bool) → (when b then remarked change x else x).count ≡ x.count
    one true = refl
    one false = refl

-- what holds of every entry, of the one at a position; and the resident there is the fields'
at_position_lem : (D : Fields) (P : ℕ → Type 0) (order : List ℕ) (p : ℕ) (x : Resident ℕ) → get_elem? (residents_of D order) p ≡ some x → All P order
    → P x.held × (x ≡ resident D x.held)
at_position_lem D P [] p x q a = let z : ◌≡◌ {A = ℕ} 0 1 = cc in absurd (omega arith)
at_position_lem D P (e ∷ order) zero x q a = let r : resident D e ≡ x = cc in (rw (← r) a.0, rw (← r) refl)
at_position_lem D P (e ∷ order) (suc p) x q a = at_position_lem D P order p x q a.1

-- ---- the resident at a position

module _ (w : List ℕ) (h : T (sound w)) (p : ℕ) (x : Resident ℕ) (q : get_elem? (residents_in w) p ≡ some x) where
  g : Stands (settings_in w) (shape w) w (residents_in w) (totals_in w)
  g = stands_of_sound w h

  abbrev D : Fields
  D = g.fields

  abbrev e : ℕ
  e = x.held

  at : (Entry (shape w) e × (1 ≤ D COUNT e)) × (x ≡ resident D e)
  at =
      at_position_lem D (λ y. Entry (shape w) y × (1 ≤ D COUNT y)) g.order p x (ap (λ l. get_elem? l p) g.seen ∙ q)
      (alive (shape w) D g.order g.unused g.directory.linked)

  sums : basics.total (counts (residents_in w)) ≤ (settings_in w).amax * (settings_in w).n
  unfolding view
  sums = (sound_kept w h []).sums

  word_here : val w (word_of (base (shape w)) e MODIFIED) ≡ D MODIFIED e
  word_here = word_is (shape w) w D g.order g.unused e at.0.0 at.0.1 g.directory

  sound_here : T (is_modified_word (D MODIFIED e))
  sound_here = word_e (shape w) w D g.order g.unused e at.0.0 at.0.1 g.directory

  -- words in which e alone has another modified word, with so many blocks out more
  marked_of : (change : Marks → Marks) (outs v : ℕ) (u : List ℕ) (E : Fields) → Directory (shape w) u E g.order g.unused
      → residents_of E g.order ≡ residents_of (put D MODIFIED e v) g.order → marks_in v ≡ change (marks_in (D MODIFIED e))
      → totals_of E ≡ more_outs outs (totals_of D) → Given (settings_in w) E → Within 0 w u → Marked change outs w e u
  marked_of change outs v u E d same new counted given near =
      let after : Stands (settings_in w) (shape w) u (marked_at change e (residents_in w)) (more_outs outs (totals_in w)) =
      record {
        fields = E;
        order = g.order;
        unused = g.unused;
        directory = d;
        seen = same ∙ remarked_seen change D e v new g.order ∙ ap (marked_at change e) g.seen;
        counted = counted ∙ ap (more_outs outs) g.counted;
        given = given;
      } in
      let few : basics.total (counts (marked_at change e (residents_in w))) ≤ (settings_in w).amax * (settings_in w).n =
      rw (marked_sum change e (residents_in w)) sums in
      let a = read_off w h u (marked_at change e (residents_in w)) (more_outs outs (totals_in w)) after few in
      record { kept = a.kept; residents = a.residents_are; totals = a.totals_are; links_none = omega (arith, near.links) }

  -- by one store of a word that says modified only where the one before did
  stored : (change : Marks → Marks) (v : ℕ) → T (is_modified_word v) → v % 2 ≤ D MODIFIED e % 2 → marks_in v ≡ change (marks_in (D MODIFIED e))
      → Marked change 0 w e (set_number w (word_of (base (shape w)) e MODIFIED) v)
  stored change v ok room new =
      marked_of change 0 v (set_number w (word_of (base (shape w)) e MODIFIED) v) (put D MODIFIED e v)
      (remarked_sound (shape w) w D g.order g.unused e at.0.0 at.0.1 g.directory v ok room) refl new
      (same_totals _ _ _ _ _ _ _ _ refl refl refl (omega arith)) (record { average = g.given.average; bytes = g.given.bytes })
      (remarked_within (shape w) w D g.order g.unused e at.0.0 at.0.1 g.directory v)

  -- PINNED OR UNPINNED
  pub pin_pinned : (on : Bool) → Pinned on w x.held (pin_set w (base (shape w)) x.held on)
  unfolding pin_set
  pin_pinned on =
      rw word_here
      (stored (pinned_as on) (with_pin on (D MODIFIED e)) (pinned_word on (D MODIFIED e) sound_here) (omega (arith, pinned_bit on (D MODIFIED e)))
      (pinned_says on (D MODIFIED e)))

  -- ---- which is modified

  module _ (modified : x.marks.modified ≡ true) where
    bit_e : D MODIFIED e % 2 ≡ 1
    unfolding marks_in
    bit_e = eqb-true (D MODIFIED e % 2) 1 (sym (ap (λ (y : Resident ℕ). y.marks.modified) at.1) ∙ modified)

    -- CLEANED
    pub clean_cleaned : Cleaned w x.held (cleanedWords w (base (shape w)) x.held)
    clean_cleaned =
        let v : ℕ = without_write (D MODIFIED e) in
        marked_of cleared 1 v (cleanedWords w (base (shape w)) e) (raise_total (put D MODIFIED e v) OUTS)
        (clean_sound (shape w) w D g.order g.unused e at.0.0 at.0.1 g.directory bit_e) refl (cleared_says (D MODIFIED e))
        (same_totals _ _ _ _ _ _ _ _ refl refl refl (out_total (put D MODIFIED e v)))
        (record { average = g.given.average; bytes = g.given.bytes })
        (clean_within (shape w) w D g.order g.unused e at.0.0 at.0.1 g.directory bit_e)

    -- A TICK SEEN
    pub tick_seen_lem : TickSeen w x.held (tick_seen w (base (shape w)) x.held)
    unfolding tick_seen
    tick_seen_lem =
        rw word_here
        (stored saw_tick (with_seen (D MODIFIED e)) (seen_word (D MODIFIED e) sound_here) (omega (arith, bit_e)) (seen_says (D MODIFIED e) bit_e))
