-- How many link words each operation changes, of words that stand for a stack. Where counts are halved besides, halving changes more.
-- Assumes nothing.
use Rattle.std.specs.Prelude.{Some, None}
use Rattle.std.specs.Prelude.{ℕ, suc, ◌+◌, ◌*◌, ◌≤◌, ◌<◌, ◌≡◌, refl, Bool, true, false, List, [], ◌∷◌, ◌++◌}
use Rattle.std.proofs.Common.{◌∙◌, subst, arith}
use Rattle.basics.specs.Basics.{All}
use Rattle.links.specs.All.{all_here}
use Rattle.words.specs.Words.{val}
use Rattle.words.specs.LinkLaws.{Within}
use Rattle.settings.specs.declared.Settings.{Settings}
use Rattle.stack.specs.Recency.{Resident}
use Rattle.stack.specs.Stack.{Totals}
use Rattle.layout.specs.Addresses.{SUM, UNUSED, BLOCK, COUNT, MODIFIED}
use Rattle.linkage.specs.Fields.{Shape, Fields, base, in_header, view_get}
use Rattle.linkage.specs.WellLinked.{Entry}
use Rattle.word_ops.specs.Lists.{word_of}
use Rattle.word_ops.specs.Victim.{victim_from}
use Rattle.word_ops.specs.Purge.{purged}
use Rattle.word_ops.specs.Totals.{access_counted, out_counted}
use Rattle.word_ops.specs.declared.Picked.{Picked}
use Rattle.operations.specs.Directory.{Directory}
use Rattle.operations.specs.Seen.{address}
use Rattle.operations.specs.Enter.{NoneHas}
use Rattle.operations.specs.Miss.{Countable, entered_for, replaced_for}
use Rattle.operations.specs.Bounds.{purge_within}
use Rattle.operations.specs.MissBounds.{access_within, read_hit_within, write_hit_within, enter_miss_within, replace_miss_within}
use Rattle.operations.specs.Residents.{Of, alive}
use Rattle.operations.specs.Lookup.{Holder, Told, find_is}
use Rattle.operations.specs.Stands.{Stands}
use Rattle.operations.specs.Step.{hit_for}
use Rattle.operations.specs.WordSteps.{Room, found_in, header_is, small, countable, chosen_word}

entry_of : (s : Shape) (D : Fields) (residents above : List ℕ) (e : ℕ) (below : List ℕ) → residents ≡ above ++ (e ∷ below)
    → All (λ x. Entry s x × (1 ≤ D COUNT x)) residents → Entry s e
entry_of s D residents above e below q a = (all_here (λ x. Entry s x × (1 ≤ D COUNT x)) above e below (rw q at a)).0

replace_at : (s : Shape) (w : List ℕ) (D : Fields) (residents above : List ℕ) (e : ℕ) (below unused : List ℕ) (block : ℕ) (written : Bool)
    → residents ≡ above ++ (e ∷ below) → Countable D → D (in_header SUM) 0 < 268435455 → block < s.M → NoneHas s D block
    → Directory s w D residents unused → Within 20 w (out_counted (D MODIFIED e) (replaced_for s w (D BLOCK e) e block written))
replace_at s w D residents above e below unused block written q some sum room absent g =
    replace_miss_within s w D above e below unused block some sum room absent (rw q at g) written

module _ (t : Settings) (s : Shape) (of : Of t s) (w : List ℕ) (l : List (Resident ℕ)) (totals : Totals) (g : Stands t s w l totals) where
  abbrev D : Fields
  D = g.fields

  told : (block links : ℕ) → s.N ≤ links → Told s D block g.order (found_in s w links block)
  told block links budget = find_is s w D g.order g.unused block links g.directory budget

  here : (block links e : ℕ) → s.N ≤ links → found_in s w links block ≡ Some e → Entry s e
  here block links e budget q =
      let k : Holder D block g.order e = subst (Told s D block g.order) q (told block links budget) in
      entry_of s D g.order k.before e k.behind k.whole (alive s D g.order g.unused g.directory.linked)

  pub hit_links : (block links e : ℕ) (written : Bool) → Room w → s.N ≤ links → found_in s w links block ≡ Some e → Within 16 w (hit_for s w e written)
  hit_links block links e true r budget q =
      write_hit_within s w D g.order g.unused (countable t s of w l totals g r) g.directory e (here block links e budget q)
  hit_links block links e false r budget q =
      read_hit_within s w D g.order g.unused (countable t s of w l totals g r) g.directory false e (here block links e budget q)

  pub enter_links : (block : ℕ) (written : Bool) → Room w → ¬ (val w UNUSED ≡ 0) → Within 15 w (entered_for s w block written)
  enter_links block written r left = go g.unused g.directory
    where
      go : (ys : List ℕ) → Directory s w D g.order ys → Within 15 w (entered_for s w block written)
      go [] d = absurd (left (header_is t s of w l totals g UNUSED (omega arith) (omega arith) (omega arith) ∙ d.linked.stack.free.fwd))
      go (e ∷ ys) d = enter_miss_within s w D g.order e ys block written (countable t s of w l totals g r) d

  pub replace_links : (block links reach : ℕ) (p : Picked) (written : Bool) → Room w → block < s.M → s.N ≤ links → s.N ≤ reach
      → found_in s w links block ≡ None → val w UNUSED ≡ 0 → victim_from w (base s) reach s.cmax 1 ≡ Some p
      → let e : ℕ = p.entry in
      Within 20 w (out_counted (val w (word_of (base s) e MODIFIED)) (replaced_for s w (val w (word_of (base s) e BLOCK)) e block written))
  replace_links block links reach p written r room budget enough q z v =
      let e : ℕ = p.entry in
      let k = chosen_word t s of w l totals g reach p enough z v in
      let he : Entry s e = entry_of s D g.order k.before e k.behind k.whole (alive s D g.order g.unused g.directory.linked) in
      rw (
        view_get s w D g.directory.view MODIFIED e (word_of (base s) e MODIFIED)
            (address s MODIFIED e (word_of (base s) e MODIFIED) (omega arith) he refl),
        view_get s w D g.directory.view BLOCK e
            (word_of (base s) e BLOCK) (address s BLOCK e (word_of (base s) e BLOCK) (omega arith) he refl),
      )
      (replace_at s w D g.order k.before e k.behind g.unused block written k.whole (countable t s of w l totals g r)
      (small t s of w l totals g r) room (subst (Told s D block g.order) q (told block links budget)) g.directory)

  -- A REFUSAL
  pub refused_links : (written : Bool) → Room w → Within 0 w (access_counted written w)
  refused_links written r = access_within s w D g.order g.unused (countable t s of w l totals g r) g.directory written

  pub purge_links : (block links e : ℕ) → s.N ≤ links → found_in s w links block ≡ Some e
      → Within 15 w (purged w (base s) s.cmax (suc s.N) (24 + 2 * s.cmax + s.hash block) e)
  purge_links block links e budget q =
      purge_within s w D g.directory.view (suc s.N) (24 + 2 * s.cmax + s.hash block) e (here block links e budget q)
