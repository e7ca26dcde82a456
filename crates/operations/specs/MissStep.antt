-- A block that no resident has is read or written, over the words of a directory, with the residents and totals of the stack
-- after it. Assumes nothing.
use Rattle.std.specs.Prelude.{None}
use Rattle.std.specs.Prelude.{ℕ, ◌+◌, ◌*◌, ◌≤◌, ◌<◌, ◌≡◌, refl, Bool, true, false, not, List, ◌∷◌, ◌++◌, length}
use Rattle.std.proofs.Common.{◌∙◌, ap, subst, arith}
use Rattle.std.proofs.Math.Path.{sym}
use Rattle.basics.specs.Basics.{All, bit}
use Rattle.links.specs.All.{all_here}
use Rattle.words.specs.Words.{val}
use Rattle.settings.specs.declared.Settings.{Settings}
use Rattle.stack.specs.Counts.{victim}
use Rattle.stack.specs.Recency.{Place, counts_pins, place, asked}
use Rattle.stack.specs.Stack.{Totals}
use Rattle.layout.specs.Addresses.{SUM, BLOCK, COUNT, MODIFIED}
use Rattle.layout.specs.ModifiedWord.{marks_in}
use Rattle.linkage.specs.Fields.{Shape, Fields, base, in_header, view_get}
use Rattle.linkage.specs.WellLinked.{Entry}
use Rattle.word_ops.specs.Lists.{word_of}
use Rattle.word_ops.specs.Buckets.{found}
use Rattle.word_ops.specs.Mark.{is_marked}
use Rattle.word_ops.specs.Totals.{out_counted}
use Rattle.operations.specs.Directory.{Directory}
use Rattle.operations.specs.FieldOps.{enterD}
use Rattle.operations.specs.Seen.{address}
use Rattle.operations.specs.Purge.{prev_e}
use Rattle.operations.specs.Enter.{NoneHas}
use Rattle.operations.specs.Miss.{missD, out_if, Countable, entered_for, replaced_for, before_out, miss_sound, enter_miss, replace_miss}
use Rattle.operations.specs.Residents.{Of, resident, residents_of, alive}
use Rattle.operations.specs.Places.{missing, place_unused, place_replacing}
use Rattle.operations.specs.Lookup.{Told, find_is}
use Rattle.operations.specs.VictimWords.{Chosen}
use Rattle.operations.specs.After.{enter_residents, replace_residents}
use Rattle.operations.specs.Counted.{totals_of, raised_by, same_totals, totals_after, after_unused, after_replacing, miss_totals, out_totals}
use Rattle.operations.specs.Stands.{Given, Stands}

-- a block out, where the victim was modified, changes no resident
out_residents : (D : Fields) (out : Bool) (residents : List ℕ) → residents_of (out_if out D) residents ≡ residents_of D residents
out_residents D true residents = refl
out_residents D false residents = refl

out_given : {t : Settings} (out : Bool) (D : Fields) → Given t D → Given t (out_if out D)
out_given true D g = record { average = g.average; bytes = g.bytes }
out_given false D g = g

raised_twice : (t : Totals) (a b c d : ℕ) → raised_by (raised_by t a b c 0) 0 0 0 d ≡ raised_by t a b c d
raised_twice t a b c d = same_totals _ _ _ _ _ _ _ _ (omega arith) (omega arith) (omega arith) (omega arith)

module _ (t : Settings) (s : Shape) (of : Of t s) (w : List ℕ) (D : Fields) (some : Countable D) (small : D (in_header SUM) 0 < 268435455)
    (given : Given t D) (block : ℕ) (room : block < s.M) where
  -- the words w' stand for the stack once the block was asked for, in entry e
  abbrev After : List ℕ → ℕ → Bool → List ℕ → Type 0
  After residents e written w' =
      let q = place t block (residents_of D residents) in
      Stands t s w' (asked block written e q) (totals_after written q (totals_of D))

  none_has : (residents unused : List ℕ) (links : ℕ) → Directory s w D residents unused → s.N ≤ links
      → found w (base s) links (24 + 2 * s.cmax + s.hash block) block ≡ None → NoneHas s D block
  none_has residents unused links g budget here = subst (Told s D block residents) here (find_is s w D residents unused block links g budget)

  -- ---- an unused entry is left

  module _ (residents : List ℕ) (e : ℕ) (unused : List ℕ) (absent : NoneHas s D block) (g : Directory s w D residents (e ∷ unused)) where
    place_is : (written : Bool) → raised_by (totals_of D) (bit (not written)) (bit written) (bit (not written)) 0 ≡ totals_after written
        (place t block (residents_of D residents)) (totals_of D)
    place_is written =
        after_unused written (residents_of D residents) (totals_of D)
        ∙ sym (ap (λ (q : Place ℕ). totals_after written q (totals_of D))
        (place_unused t D block residents (missing s D residents (e ∷ unused) block g.linked absent)
        (omega (arith, g.linked.stack.whole, of.blocks_is))))

    enter_here : (written : Bool) → After residents e written (entered_for s w block written)
    enter_here true =
        record {
          fields = enterD s (missD true D) e block 1;
          order = e ∷ residents;
          unused = unused;
          directory = enter_miss s w D residents e unused block true some small room absent g;
          seen =
              enter_residents t s (missD true D) residents e unused block of absent (miss_sound s w D residents (e ∷ unused) some g true).linked
              true;
          counted = miss_totals D true ∙ place_is true;
          given = record { average = given.average; bytes = given.bytes };
        }
    enter_here false =
        record {
          fields = enterD s (missD false D) e block 0;
          order = e ∷ residents;
          unused = unused;
          directory = enter_miss s w D residents e unused block false some small room absent g;
          seen =
              enter_residents t s (missD false D) residents e unused block of absent (miss_sound s w D residents (e ∷ unused) some g false).linked
              false;
          counted = miss_totals D false ∙ place_is false;
          given = record { average = given.average; bytes = given.bytes };
        }

  -- A MISS that enters the first unused entry
  pub enter_asked : (residents : List ℕ) (e : ℕ) (unused : List ℕ) (links : ℕ) (written : Bool) → Directory s w D residents (e ∷ unused)
      → s.N ≤ links → found w (base s) links (24 + 2 * s.cmax + s.hash block) block ≡ None
      → let q = place t block (residents_of D residents) in Stands t s (entered_for s w block written) (asked block written e q)
      (totals_after written q (totals_of D))
  enter_asked residents e unused links written g budget here =
      enter_here residents e unused (none_has residents (e ∷ unused) links g budget here) g written

  -- ---- there is a victim

  module _ (above : List ℕ) (e : ℕ) (below unused : List ℕ) (absent : NoneHas s D block) (g : Directory s w D (above ++ (e ∷ below)) unused)
      (full : length (above ++ (e ∷ below)) ≡ s.N)
      (chosen : length above ≡ victim t (counts_pins (residents_of D (above ++ (e ∷ below))))) where
    abbrev residents : List ℕ
    residents = above ++ (e ∷ below)

    place_is_old : (written : Bool)
        → raised_by (totals_of D) (bit (not written)) (bit written) (bit (not written)) (bit (is_marked (D MODIFIED e)))
        ≡ totals_after written (place t block (residents_of D residents)) (totals_of D)
    unfolding marks_in
    place_is_old written =
        after_replacing written (resident D e) (residents_of D (above ++ below)) (totals_of D)
        ∙ sym (ap (λ (q : Place ℕ). totals_after written q (totals_of D))
        (place_replacing t D block above e below (missing s D residents unused block g.linked absent) (full ∙ sym of.blocks_is) chosen))

    out_is : (written : Bool)
        → totals_of (out_if (is_marked (D MODIFIED e)) (before_out s w D above e below unused block some small room absent g written))
        ≡ raised_by (totals_of (missD written D)) 0 0 0 (bit (is_marked (D MODIFIED e)))
    out_is written = out_totals (before_out s w D above e below unused block some small room absent g written) (is_marked (D MODIFIED e))

    replace_here : (written : Bool) → After residents e written (out_counted (D MODIFIED e) (replaced_for s w (D BLOCK e) e block written))
    replace_here true =
        let out : Bool = is_marked (D MODIFIED e) in
        let E : Fields = before_out s w D above e below unused block some small room absent g true in
        let h = (miss_sound s w D residents unused some g true).linked in
        record {
          fields = out_if out E;
          order = e ∷ (above ++ below);
          unused = unused;
          directory = replace_miss s w D above e below unused block some small room absent g true;
          seen =
              out_residents E out (e ∷ (above ++ below)) ∙ replace_residents t s (missD true D) above e below unused block of absent h full chosen
              (prev_e s (missD true D) above e below unused h) true;
          counted =
              out_is true ∙ ap (λ (v : Totals). raised_by v 0 0 0 (bit out)) (miss_totals D true) ∙ raised_twice (totals_of D) 0 1 0 (bit out)
              ∙ place_is_old true;
          given = out_given (is_marked (D MODIFIED e)) E (record { average = given.average; bytes = given.bytes });
        }
    replace_here false =
        let out : Bool = is_marked (D MODIFIED e) in
        let E : Fields = before_out s w D above e below unused block some small room absent g false in
        let h = (miss_sound s w D residents unused some g false).linked in
        record {
          fields = out_if out E;
          order = e ∷ (above ++ below);
          unused = unused;
          directory = replace_miss s w D above e below unused block some small room absent g false;
          seen =
              out_residents E out (e ∷ (above ++ below)) ∙ replace_residents t s (missD false D) above e below unused block of absent h full chosen
              (prev_e s (missD false D) above e below unused h) false;
          counted =
              out_is false ∙ ap (λ (v : Totals). raised_by v 0 0 0 (bit out)) (miss_totals D false) ∙ raised_twice (totals_of D) 1 0 1 (bit out)
              ∙ place_is_old false;
          given = out_given (is_marked (D MODIFIED e)) E (record { average = given.average; bytes = given.bytes });
        }

  replace_at : (residents above : List ℕ) (e : ℕ) (below unused : List ℕ) (written : Bool) → residents ≡ above ++ (e ∷ below) → NoneHas s D block
      → Directory s w D residents unused → length residents ≡ s.N → length above ≡ victim t (counts_pins (residents_of D residents))
      → After residents e written (out_counted (D MODIFIED e) (replaced_for s w (D BLOCK e) e block written))
  replace_at residents above e below unused written q absent g full chosen =
      rw q (replace_here above e below unused absent (rw q at g) (rw q at full) (rw q at chosen) written)

  -- A MISS that replaces the block of entry e, where the victim stands: a block out is counted if it was modified
  pub replace_asked : (residents unused : List ℕ) (links looked e : ℕ) (written : Bool) → Directory s w D residents unused → s.N ≤ links
      → found w (base s) links (24 + 2 * s.cmax + s.hash block) block ≡ None → length residents ≡ s.N → Chosen t D residents looked e
      → let q = place t block (residents_of D residents) in
      Stands t s (out_counted (val w (word_of (base s) e MODIFIED)) (replaced_for s w (val w (word_of (base s) e BLOCK)) e block written))
      (asked block written e q) (totals_after written q (totals_of D))
  replace_asked residents unused links looked e written g budget here full k =
      let he : Entry s e = entry_of residents k.before k.behind k.whole (alive s D residents unused g.linked) in
      rw (
        view_get s w D g.view MODIFIED e (word_of (base s) e MODIFIED) (address s MODIFIED e (word_of (base s) e MODIFIED) (omega arith) he refl),
        view_get s w D g.view BLOCK e (word_of (base s) e BLOCK) (address s BLOCK e (word_of (base s) e BLOCK) (omega arith) he refl),
      )
      (replace_at residents k.before e k.behind unused written k.whole (none_has residents unused links g budget here) g full k.place)
    where
      entry_of : (residents above below : List ℕ) → residents ≡ above ++ (e ∷ below) → All (λ x. Entry s x × (1 ≤ D COUNT x)) residents → Entry s e
      entry_of residents above below q a = (all_here (λ x. Entry s x × (1 ≤ D COUNT x)) above e below (rw q at a)).0
