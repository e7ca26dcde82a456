-- What asking for a block comes to, read off words that stand for a stack: the answer and the totals follow from it.
-- Assumes nothing.
use Rattle.std.specs.Prelude.{Some, None}
use Rattle.std.specs.Prelude.{ℕ, ◌≤◌, ◌<◌, ◌≡◌, List, [], ◌∷◌, ◌++◌, length}
use Rattle.std.proofs.Common.{◌∙◌, sym, ap, ap₂, subst, arith}
use Rattle.words.specs.Words.{val}
use Rattle.settings.specs.declared.Settings.{Settings}
use Rattle.stack.specs.Counts.{victim}
use Rattle.stack.specs.Recency.{Resident, found, unused, replacing, all_pinned, counts_pins, counted, place, removed}
use Rattle.stack.specs.Stack.{Totals}
use Rattle.layout.specs.Addresses.{UNUSED, BLOCK, COUNT, SECTION}
use Rattle.linkage.specs.Fields.{Shape, Fields, base}
use Rattle.linkage.specs.WellLinked.{WellLinked, Entry}
use Rattle.word_ops.specs.Lists.{word_of}
use Rattle.word_ops.specs.Hit.{raised_count}
use Rattle.word_ops.specs.Victim.{victim_from}
use Rattle.word_ops.specs.declared.Picked.{Picked}
use Rattle.operations.specs.Seen.{section_word, count_word}
use Rattle.operations.specs.Enter.{NoneHas}
use Rattle.operations.specs.Residents.{Of, resident, residents_of}
use Rattle.operations.specs.Places.{missing, place_hit, place_unused, place_replacing, place_refused, removed_here}
use Rattle.operations.specs.Lookup.{Holder, Told, find_is}
use Rattle.operations.specs.After.{risen_is}
use Rattle.operations.specs.Stands.{Stands}
use Rattle.operations.specs.WordSteps.{found_in, resident_at, resident_word, entry_at, header_is, full_word, chosen_word, pinned_word}

-- ---- over the fields

found_at : (t : Settings) (s : Shape) (D : Fields) (residents above : List ℕ) (e : ℕ) (below free : List ℕ) (block : ℕ) → Of t s
    → residents ≡ above ++ (e ∷ below) → D BLOCK e ≡ block → WellLinked s D residents free
    → place t block (residents_of D residents) ≡ found (counted (raised_count (D SECTION e) (D COUNT e)) (resident D e))
    (removed block (residents_of D residents))
found_at t s D residents above e below free block of q c g = rw (q, ← c) (at (rw q at g))
  where
    at : WellLinked s D (above ++ (e ∷ below)) free → place t (D BLOCK e) (residents_of D (above ++ (e ∷ below))) ≡ found
        (counted (raised_count (D SECTION e) (D COUNT e)) (resident D e)) (removed (D BLOCK e) (residents_of D (above ++ (e ∷ below))))
    at g = place_hit s D above e below free g t ∙ ap₂ found (risen_is t s D above e below free of g) (sym (removed_here s D above e below free g))

replacing_at_lem : (t : Settings) (s : Shape) (D : Fields) (residents above : List ℕ) (e : ℕ) (below free : List ℕ) (block : ℕ) → Of t s
    → residents ≡ above ++ (e ∷ below) → NoneHas s D block → length residents ≡ s.N → length above ≡ victim t (counts_pins (residents_of D residents))
    → WellLinked s D residents free
    → place t block (residents_of D residents) ≡ replacing (resident D e) (removed (D BLOCK e) (residents_of D residents))
replacing_at_lem t s D residents above e below free block of q absent full v g = rw q (at (rw q at g) (rw q at full) (rw q at v))
  where
    at : WellLinked s D (above ++ (e ∷ below)) free → length (above ++ (e ∷ below)) ≡ s.N
        → length above ≡ victim t (counts_pins (residents_of D (above ++ (e ∷ below))))
        → place t block (residents_of D (above ++ (e ∷ below))) ≡ replacing (resident D e) (removed (D BLOCK e) (residents_of D (above ++ (e ∷ below))))
    at g full v =
        place_replacing t D block above e below (missing s D (above ++ (e ∷ below)) free block g absent) (full ∙ sym of.blocks_is) v
        ∙ ap (replacing (resident D e)) (sym (removed_here s D above e below free g))

-- ---- over the words

module _ (t : Settings) (s : Shape) (of : Of t s) (w : List ℕ) (l : List (Resident ℕ)) (totals : Totals) (g : Stands t s w l totals) where
  abbrev D : Fields
  D = g.fields

  told : (block links : ℕ) → s.N ≤ links → Told s D block g.order (found_in s w links block)
  told block links budget = find_is s w D g.order g.unused block links g.directory budget

  -- A HIT, and the count then
  pub place_found : (block links e : ℕ) → s.N ≤ links → found_in s w links block ≡ Some e
      → place t block l ≡ found (counted (raised_count (val w (word_of (base s) e SECTION)) (val w (word_of (base s) e COUNT))) (resident_at s w e))
      (removed block l)
  place_found block links e budget q =
      let k : Holder D block g.order e = subst (Told s D block g.order) q (told block links budget) in
      let he : Entry s e = entry_at t s of w l totals g k.before e k.behind k.whole in
      let r : place t block (residents_of D g.order) ≡ found (counted (raised_count (D SECTION e) (D COUNT e)) (resident D e))
      (removed block (residents_of D g.order)) = found_at t s D g.order k.before e k.behind g.unused block of k.whole k.block
      g.directory.linked in
      rw (section_word s w D e he g.directory.view, count_word s w D e he g.directory.view)
      (ap (place t block) (sym g.seen) ∙ r
      ∙ ap₂ (λ (x : Resident ℕ) (m : List (Resident ℕ)). found (counted (raised_count (D SECTION e) (D COUNT e)) x) (removed block m))
      (resident_word t s of w l totals g e he) g.seen)

  -- A MISS while an entry is unused
  pub place_entered : (block links : ℕ) → s.N ≤ links → found_in s w links block ≡ None → ¬ (val w UNUSED ≡ 0) → place t block l ≡ unused l
  place_entered block links budget q left =
      ap (place t block) (sym g.seen)
      ∙ place_unused t D block g.order (missing s D g.order g.unused block g.directory.linked
      (subst (Told s D block g.order) q (told block links budget))) (some g.unused g.directory.linked)
      ∙ ap unused g.seen
    where
      some : (ys : List ℕ) → WellLinked s D g.order ys → length g.order < t.n
      some [] d = absurd (left (header_is t s of w l totals g UNUSED (omega arith) (omega arith) (omega arith) ∙ d.stack.free.fwd))
      some (e ∷ ys) d = omega (arith, d.stack.whole, of.blocks_is)

  -- A MISS where none is, and the victim
  pub place_replaced : (block links reach : ℕ) (p : Picked) → s.N ≤ links → s.N ≤ reach → found_in s w links block ≡ None → val w UNUSED ≡ 0
      → victim_from w (base s) reach s.cmax 1 ≡ Some p
      → let e : ℕ = p.entry in
      place t block l ≡ replacing (resident_at s w e) (removed (resident_at s w e).block l)
  place_replaced block links reach p budget enough q z v =
      let e : ℕ = p.entry in
      let full : length g.order ≡ s.N = full_word t s of w l totals g z in
      let k = chosen_word t s of w l totals g reach p enough z v in
      let he : Entry s e = entry_at t s of w l totals g k.before e k.behind k.whole in
      let r : place t block (residents_of D g.order) ≡ replacing (resident D e) (removed (D BLOCK e) (residents_of D g.order)) =
      replacing_at_lem t s D g.order k.before e k.behind g.unused block of k.whole
      (subst (Told s D block g.order) q (told block links budget)) full k.place g.directory.linked in
      ap (place t block) (sym g.seen) ∙ r
      ∙ ap₂ (λ (x : Resident ℕ) (m : List (Resident ℕ)). replacing x (removed x.block m)) (resident_word t s of w l totals g e he) g.seen

  -- or none, as all are pinned
  pub place_bound : (block links reach : ℕ) → s.N ≤ links → s.N ≤ reach → found_in s w links block ≡ None → val w UNUSED ≡ 0
      → victim_from w (base s) reach s.cmax 1 ≡ None → place t block l ≡ all_pinned l
  place_bound block links reach budget enough q z v =
      ap (place t block) (sym g.seen)
      ∙ place_refused t D block g.order
      (missing s D g.order g.unused block g.directory.linked (subst (Told s D block g.order) q (told block links budget)))
      (full_word t s of w l totals g z ∙ sym of.blocks_is) (pinned_word t s of w l totals g reach enough z v).place
      ∙ ap all_pinned g.seen
