-- A resident is marked modified, and keeps its seen mark. Assumes nothing.
use Rattle.std.specs.Prelude.{ℕ, refl, Bool, true, false, List, ◌∷◌}
use Rattle.std.proofs.Common.{arith}
use Rattle.basics.specs.Basics.{pick, bit}
use Rattle.links.specs.Upd.{upd}
use Rattle.layout.specs.Addresses.{COUNT, MODIFIED, READS, WRITES, INS, OUTS}
use Rattle.linkage.specs.Fields.{Shape, base, Fields, setF, Address, entry, in_header, view_get}
use Rattle.linkage.specs.WellLinked.{WellLinked, FlagsOf, total}
use Rattle.word_ops.specs.Lists.{word_of}
use Rattle.word_ops.specs.Mark.{with_mark, mark_written}
use Rattle.operations.specs.Directory.{Directory}
use Rattle.operations.specs.Stores.{view_id, view_number}
use Rattle.operations.specs.Enter.{Marks, flags_mark}
use Rattle.operations.specs.Residents.{alive}
use Rattle.operations.specs.MarkLaws.{word_small, written_word}

-- the entry e marked, where it was written
abbrev pub marked : Bool → Fields → ℕ → Fields
marked written D e = setF D MODIFIED (pick written (upd (D MODIFIED) e (with_mark (D MODIFIED e))) (D MODIFIED))

-- the words then
abbrev pub marked_words : Bool → Shape → List ℕ → ℕ → List ℕ
marked_words written s w e = pick written (mark_written w (base s) e) w

module _ (s : Shape) (D : Fields) (e : ℕ) (below unused : List ℕ) (g : WellLinked s D (e ∷ below) unused) where
  mark_flags : (written : Bool) → Marks s D (bit written) → FlagsOf s (marked written D e)
  mark_flags true marks =
      let a = (alive s D (e ∷ below) unused g).0 in
      flags_mark s (D COUNT) (D MODIFIED) (total D (in_header READS)) (total D (in_header WRITES)) (total D (in_header INS)) (total D (in_header OUTS)) e
      (with_mark (D MODIFIED e)) a.0 a.1 (written_word (D MODIFIED e) (g.flags.bits e a.0)) (omega (arith, marks.1)) g.flags
  mark_flags false marks = g.flags

  pub mark_linked : (written : Bool) → Marks s D (bit written) → WellLinked s (marked written D e) (e ∷ below) unused
  mark_linked written marks =
      record {
        legal = g.legal;
        settled = g.settled;
        stack = g.stack;
        count = g.count;
        chain = g.chain;
        hash = g.hash;
        flags =
            mark_flags written marks;
      }

-- THE MARK, where the write is counted already
pub mark_sound : (s : Shape) (w : List ℕ) (D : Fields) (e : ℕ) (below unused : List ℕ) (written : Bool) → Marks s D (bit written)
    → Directory s w D (e ∷ below) unused → Directory s (marked_words written s w e) (marked written D e) (e ∷ below) unused
unfolding mark_written
mark_sound s w D e below unused true marks g =
    let a = (alive s D (e ∷ below) unused g.linked).0 in
    let at : Address s MODIFIED e (word_of (base s) e MODIFIED) = entry (omega arith) a.0.0 a.0.1 refl in
    let small = word_small _ (written_word (D MODIFIED e) (g.linked.flags.bits e a.0)) in
    record {
      view =
          rw (view_get s w D g.view MODIFIED e (word_of (base s) e MODIFIED) at)
          (view_number s w D g.view MODIFIED e (word_of (base s) e MODIFIED) (with_mark (D MODIFIED e)) at refl (omega arith));
      linked = mark_linked s D e below unused g.linked true marks;
    }
mark_sound s w D e below unused false marks g =
    record { view = view_id s w D MODIFIED (D MODIFIED) refl g.view; linked = mark_linked s D e below unused g.linked false marks }
