-- A block that no resident has is read or written: the totals, then the entry or the replacement. Assumes nothing.
use Rattle.std.specs.Prelude.{ℕ, suc, ◌+◌, ◌*◌, ◌<◌, ◌-◌, ◌%◌, ◌^◌, ◌≡◌, Bool, List, ◌∷◌, ◌++◌}
use Rattle.std.proofs.Math.Path.{refl}
use Rattle.std.proofs.Math.Bool.{true, false}
use Rattle.std.proofs.Common.{arith, eqb-true}
use Rattle.basics.specs.Basics.{pick, bit}
use Rattle.layout.specs.Addresses.{SUM, HEAD, TAIL, READS, WRITES, INS, OUTS, BLOCK, MODIFIED}
use Rattle.linkage.specs.Fields.{Shape, base, Fields, header, in_header}
use Rattle.linkage.specs.WellLinked.{total}
use Rattle.word_ops.specs.Enter.{entered, replaced}
use Rattle.word_ops.specs.Mark.{is_marked}
use Rattle.word_ops.specs.Totals.{total_raised, access_counted, in_counted, out_counted}
use Rattle.operations.specs.Directory.{Directory}
use Rattle.operations.specs.FieldOps.{enterD, replaceD}
use Rattle.operations.specs.Purge.{prev_e}
use Rattle.operations.specs.Enter.{NoneHas, Marks, replace_outs}
use Rattle.operations.specs.EnterSound.{enter_sound}
use Rattle.operations.specs.MarkLaws.{entered_word}
use Rattle.operations.specs.ReplaceSound.{replace_sound}
use Rattle.operations.specs.Totals.{raise_total, read_total, write_total, read_sound, write_sound, in_sound, out_sound}

-- a read or a write is counted
abbrev pub accessD : Bool → Fields → Fields
accessD true D = raise_total D WRITES
accessD false D = raise_total D READS

-- and, where the block is read and no resident has it, a block in
abbrev pub missD : Bool → Fields → Fields
missD true D = raise_total D WRITES
missD false D = raise_total (raise_total D READS) INS

abbrev pub miss_counted : Bool → List ℕ → List ℕ
miss_counted written w = in_counted written (access_counted written w)

-- a block out, where the victim was modified
abbrev pub out_if : Bool → Fields → Fields
out_if true D = raise_total D OUTS
out_if false D = D

-- the totals of reads and writes have room for one more
abbrev pub Countable : Fields → Type 0
Countable D = (total D (in_header READS) < 2 ^ 56 - 1) × (total D (in_header WRITES) < 2 ^ 56 - 1)

module _ (s : Shape) (w : List ℕ) (D : Fields) (residents unused : List ℕ) (some : Countable D) (g : Directory s w D residents unused) where
  small : (i : ℕ) → i < 24 → ¬ (i ≡ HEAD) → ¬ (i ≡ TAIL) → D (in_header i) 0 < 268435456
  small i h1 h2 h3 = g.view.small (in_header i) 0 i (header refl refl h1 h2 h3)

  ins : total D (in_header INS) < 2 ^ 56 - 1
  ins = omega (arith, some.0, g.linked.flags.in_read)

  pub outs : total D (in_header OUTS) < 2 ^ 56 - 1
  outs = omega (arith, some.1, g.linked.flags.out_written)

  pub access_sound : (written : Bool) → Directory s (access_counted written w) (accessD written D) residents unused
  unfolding access_counted
  access_sound true = write_sound s w D residents unused g some.1
  access_sound false = read_sound s w D residents unused g some.0

  pub miss_sound : (written : Bool) → Directory s (miss_counted written w) (missD written D) residents unused
  unfolding access_counted in_counted
  miss_sound true = write_sound s w D residents unused g some.1
  miss_sound false =
      in_sound s (total_raised w READS (READS + 1)) (raise_total D READS) residents unused (read_sound s w D residents unused g some.0) ins
      (omega (arith, read_total D, g.linked.flags.in_read))

  -- a mark for a write has room
  pub access_marks : (written : Bool) → Marks s (accessD written D) (bit written)
  access_marks true = (entered_word true, omega (arith, write_total D, g.linked.flags.out_written))
  access_marks false = (entered_word false, omega (arith, g.linked.flags.out_written))

  pub miss_marks : (written : Bool) → Marks s (missD written D) (bit written)
  miss_marks true = (entered_word true, omega (arith, write_total D, g.linked.flags.out_written))
  miss_marks false = (entered_word false, omega (arith, g.linked.flags.out_written))

miss_none : (s : Shape) (D : Fields) (block : ℕ) (written : Bool) → NoneHas s D block → NoneHas s (missD written D) block
miss_none s D block true a = a
miss_none s D block false a = a

miss_sum : (D : Fields) (written : Bool) → D (in_header SUM) 0 < 268435455 → missD written D (in_header SUM) 0 < 268435455
miss_sum D true h = h
miss_sum D false h = h

-- ---- the words then

abbrev pub entered_for : Shape → List ℕ → ℕ → Bool → List ℕ
entered_for s w block written =
    entered (miss_counted written w) (base s) s.cmax s.new s.old (24 + 2 * s.cmax + s.hash block) block (bit written)

-- in entry e, whose block so far is `victim`
abbrev pub replaced_for : Shape → List ℕ → ℕ → ℕ → ℕ → Bool → List ℕ
replaced_for s w victim e block written =
    replaced (miss_counted written w) (base s) s.cmax (suc s.N) (24 + 2 * s.cmax + s.hash victim) (24 + 2 * s.cmax + s.hash block) e block
    (bit written)

-- AN UNUSED ENTRY IS LEFT
pub enter_miss : (s : Shape) (w : List ℕ) (D : Fields) (residents : List ℕ) (e : ℕ) (unused : List ℕ) (block : ℕ) (written : Bool) → Countable D
    → D (in_header SUM) 0 < 268435455 → block < s.M → NoneHas s D block → Directory s w D residents (e ∷ unused)
    → Directory s (entered_for s w block written) (enterD s (missD written D) e block (bit written)) (e ∷ residents) unused
enter_miss s w D residents e unused block written some sum room absent g =
    enter_sound s (miss_counted written w) (missD written D) residents e unused block (bit written) (miss_sum D written sum) room
    (miss_none s D block written absent) (miss_marks s w D residents (e ∷ unused) some g written)
    (miss_sound s w D residents (e ∷ unused) some g written)

-- THERE IS A VICTIM
module _ (s : Shape) (w : List ℕ) (D : Fields) (above : List ℕ) (e : ℕ) (below unused : List ℕ) (block : ℕ) (some : Countable D)
    (sum : D (in_header SUM) 0 < 268435455) (room : block < s.M) (absent : NoneHas s D block) (g : Directory s w D (above ++ (e ∷ below)) unused)
  where
    abbrev pub before_out : Bool → Fields
    before_out written =
        replaceD s (missD written D) e (prev_e s (missD written D) above e below unused
        (miss_sound s w D (above ++ (e ∷ below)) unused some g written).linked) block (bit written)

    pub replaced_sound : (written : Bool) → Directory s (replaced_for s w (D BLOCK e) e block written) (before_out written) (e ∷ (above ++ below)) unused
    replaced_sound true =
        replace_sound s (miss_counted true w) (missD true D) above e below unused block 1 sum room absent
        (miss_marks s w D (above ++ (e ∷ below)) unused some g true) (miss_sound s w D (above ++ (e ∷ below)) unused some g true)
    replaced_sound false =
        replace_sound s (miss_counted false w) (missD false D) above e below unused block 0 sum room absent
        (miss_marks s w D (above ++ (e ∷ below)) unused some g false) (miss_sound s w D (above ++ (e ∷ below)) unused some g false)

    counted_out : (written : Bool) → D MODIFIED e % 2 ≡ 1
        → Directory s (total_raised (replaced_for s w (D BLOCK e) e block written) OUTS (OUTS + 1)) (raise_total (before_out written) OUTS)
        (e ∷ (above ++ below)) unused
    counted_out true q =
        let h = replace_outs s (missD true D) above e below unused block 1 room absent (miss_marks s w D (above ++ (e ∷ below)) unused some g true)
        (miss_sound s w D (above ++ (e ∷ below)) unused some g true).linked in
        out_sound s (replaced_for s w (D BLOCK e) e block true) (before_out true) (e ∷ (above ++ below)) unused (replaced_sound true)
        (outs s w D (above ++ (e ∷ below)) unused some g) (omega (arith, h, q))
    counted_out false q =
        let h = replace_outs s (missD false D) above e below unused block 0 room absent (miss_marks s w D (above ++ (e ∷ below)) unused some g false)
        (miss_sound s w D (above ++ (e ∷ below)) unused some g false).linked in
        out_sound s (replaced_for s w (D BLOCK e) e block false) (before_out false) (e ∷ (above ++ below)) unused (replaced_sound false)
        (outs s w D (above ++ (e ∷ below)) unused some g) (omega (arith, h, q))

    pub replace_miss : (written : Bool)
        → Directory s (out_counted (D MODIFIED e) (replaced_for s w (D BLOCK e) e block written)) (out_if (is_marked (D MODIFIED e)) (before_out written))
        (e ∷ (above ++ below)) unused
    unfolding out_counted
    replace_miss written = go (is_marked (D MODIFIED e)) refl
      where
        go : (out : Bool) → is_marked (D MODIFIED e) ≡ out
            → Directory s
            (pick out (total_raised (replaced_for s w (D BLOCK e) e block written) OUTS (OUTS + 1)) (replaced_for s w (D BLOCK e) e block written))
            (out_if out (before_out written)) (e ∷ (above ++ below)) unused
        go true q = counted_out written (eqb-true (D MODIFIED e % 2) 1 q)
        go false q = replaced_sound written
