-- The directory's promises, of the words that the code leaves: reads and writes (a hit, an unused entry, the victim's) and purges, from
-- every sound directory. Assumes nothing.
use Rattle.std.specs.Prelude.{Option as Optional, Some, None}
use Prim.Native.Nat.{ℕ, suc, ◌+◌, ◌-◌, ◌*◌, ◌^◌, ◌≤◌, ◌<◌}
use Rattle.std.proofs.Math.Path.{◌≡◌, refl, ap, subst}
use Rattle.std.proofs.Common.{◌∙◌, sym}
use Rattle.std.specs.Prelude.{◌≢◌, Bool, not, ◌&&◌}
use Rattle.std.proofs.Math.Bool.{true, false}
use Rattle.std.proofs.Math.Option.{Option, none, some}
use mathlib.Core.List.{List, [], ◌∷◌}
use native.Mathlib.Omega.{arith}
use Rattle.std.proofs.Math.Nat.{mul-le-mul}
use Rattle.std.proofs.Math.Dec.{T}
use Rattle.basics.specs.Basics.{All, pick}
use Rattle.basics.specs.AllLaws.{all_map, all_image}
use Rattle.basics.specs.Basics as basics
use Rattle.links.specs.Off.{Off}
use Rattle.words.specs.Words.{val}
use Rattle.words.specs.Links.{links_changed}
use Rattle.words.specs.LinkLaws.{Within}
use Rattle.settings.specs.declared.Settings.{Settings}
use Rattle.stack.specs.Counts.{chains, exceeds}
use Rattle.stack.specs.Recency.{Resident, counts, position, refuses, halves, settled, lookup, removed, all_pinned, counts_pins, asked}
use Rattle.stack.specs.Stack.{Totals, Answer, hit, entered, replaced, access_totals, answering, miss_refused, halved}
use Rattle.stack.specs.Entries.{entry_for, PickAt, Unused}
use Rattle.stack.proofs.PlaceLaws.{Placed, placed}
use Rattle.stack.proofs.SumLaws.{is_full, full_calm, settled_sum}
use Rattle.stack.proofs.KeepLaws.{fewer, asked_few, Kept}
use Rattle.layout.specs.Addresses.{UNUSED, BLOCK, COUNT, SECTION, MODIFIED}
use Rattle.layout.specs.ModifiedWord.{marks_in}
use Rattle.layout.specs.Sound.{settings_in, totals_in, sound, resident_at, residents_in, view}
use Rattle.layout.proofs.SoundLaws.{sound_legal, sound_kept}
use Rattle.promises.specs.DirectoryPromises.{place_of, asked_of, halves_of, Accessed, Purged}
use Rattle.linkage.specs.Fields.{Shape, base}
use Rattle.linkage.specs.WordFields.{shape}
use Rattle.word_ops.specs.Lists.{word_of}
use Rattle.word_ops.specs.Hit.{raised_count}
use Rattle.word_ops.specs.Victim.{victim_from}
use Rattle.word_ops.specs.Purge.{purged}
use Rattle.word_ops.specs.Halve.{halved as halvedWords, over_average, settled as settledWords}
use Rattle.word_ops.specs.Mark.{is_marked}
use Rattle.word_ops.specs.Totals.{out_counted, access_counted}
use Rattle.word_ops.specs.declared.Picked.{Picked}
use Rattle.operations.specs.Directory.{Directory}
use Rattle.operations.specs.Residents.{Of, resident}
use Rattle.operations.specs.Stands.{Stands, stands_sum, settle_step}
use Rattle.operations.specs.Miss.{entered_for, replaced_for}
use Rattle.operations.specs.Counted.{after_refused}
use Rattle.operations.specs.Step.{hit_for}
use Rattle.operations.specs.SoundWords.{of_sound, stands_of_sound, read_off}
use Rattle.operations.specs.WordSteps.{Room, found_in, answered, header_is, lookup_word, hit_word, enter_word, replace_word, looked_word, exceeds_word, purge_word, refused_word}
use Rattle.operations.specs.WordBounds.{hit_links, enter_links, replace_links, purge_links, refused_links}
use Rattle.operations.specs.WordPlaces.{place_found, place_entered, place_replaced, place_bound}

module _ (w : List ℕ) (h : T (sound w)) where
  abbrev t : Settings
  t = settings_in w

  abbrev s : Shape
  s = shape w

  abbrev l : List (Resident ℕ)
  l = residents_in w

  of : Of t s
  of = of_sound w h

  g : Stands t s w l (totals_in w)
  g = stands_of_sound w h

  kept : Kept (record { settings = t; residents = l; store = []; totals = totals_in w })
  unfolding view
  kept = sound_kept w h []

  -- the totals and the sum have room for one more
  pub room : (totals_in w).reads < 2 ^ 56 - 1 → (totals_in w).writes < 2 ^ 56 - 1 → Room w
  unfolding totals_in
  room r x =
      let legal = sound_legal w h in
      let most : t.amax * t.n ≤ 1000 * 4096 = mul-le-mul legal.few_average legal.few_blocks in
      let few : basics.total (counts l) ≤ t.amax * t.n = kept.sums in
      record { sum = omega (arith, stands_sum t s w l (totals_in w) of g); reads = r; writes = x }

  -- ---- what the code's lookup finds

  found_of : (block e : ℕ) → lookup block l ≡ some (resident_at w e) → found_in s w s.N block ≡ Some e
  unfolding resident_at
  found_of block e here = go (found_in s w s.N block) (sym (lookup_word t s of w l (totals_in w) g block s.N (omega arith)) ∙ here)
    where
      go : (r : Optional ℕ) → answered s w r ≡ some (resident_at w e) → r ≡ Some e
      go None q = let z : ◌≡◌ {A = ℕ} 0 1 = cc in absurd (omega arith)
      go (Some e') q = ap Some (ap (λ o. held_of o) q)
        where
          held_of : Option (Resident ℕ) → ℕ
          held_of none = 0
          held_of (some x) = x.held

  absent_of : (block : ℕ) → lookup block l ≡ none → found_in s w s.N block ≡ None
  absent_of block gone = go (found_in s w s.N block) (sym (lookup_word t s of w l (totals_in w) g block s.N (omega arith)) ∙ gone)
    where
      go : (r : Optional ℕ) → answered s w r ≡ none → r ≡ None
      go None q = refl
      go (Some e') q = let z : ◌≡◌ {A = ℕ} 0 1 = cc in absurd (omega arith)

  -- ---- a read or a write, once the counts are looked at

  -- whether words exceed the average, and the words once the counts have been looked at
  abbrev pub over : List ℕ → Bool
  over u = over_average u t.amax

  abbrev pub settled_of : List ℕ → List ℕ
  settled_of u = settledWords u (base s) s.cmax t.amax

  -- Over the words u that stand for the stack with the block at its front, at entry e.
  module _ (k block e : ℕ) (written : Bool) (u : List ℕ) (gu : Stands t s u (asked_of w block written e)
      (access_totals (totals_in w) written (place_of w block))) (near : Within k w u)
      (entry_is : entry_for e (place_of w block) ≡ e) (entry_free : PickAt t.n e (place_of w block)) where
    abbrev next : List (Resident ℕ)
    next = asked_of w block written e

    abbrev counted : Totals
    counted = access_totals (totals_in w) written (place_of w block)

    -- after an answer other than 7 the test of the words is the one defined
    looked_at_lem : T (not (refuses (place_of w block))) → halves_of w block written e ≡ over u
    unfolding halves
    looked_at_lem c = go (refuses (place_of w block)) c ∙ exceeds_word t s of u next counted gu
      where
        go : (r : Bool) → T (not r) → (not r && exceeds t (counts next)) ≡ exceeds t (counts next)
        go true c = absurd c
        go false c = refl

    at : Placed t l (place_of w block)
    at = placed t l kept.some_old kept.old_fits kept.few_chains kept.few kept.legal block

    settled_few : basics.total (counts (settled (halves_of w block written e) next)) ≤ t.amax * t.n
    settled_few =
        settled_sum t l kept.sums block written e kept.legal kept.some_average (place_of w block) at
        (asked_few t l kept.few kept.legal block written e (place_of w block) at)

    -- Counts that are to be halved were, and no others.
    settled_accessed : (b : Bool) → halves_of w block written e ≡ b → (answer : Answer)
        → answering (chains t (counts_pins l)) b (place_of w block) ≡ answer → (T (not (halved answer)) → T (not b))
        → Accessed k w block written e answer (pick b (halvedWords u (base s) s.cmax) u)
    settled_accessed b is answer told calm =
        let after = read_off w h (pick b (halvedWords u (base s) s.cmax) u) (settled b next) counted (settle_step t s u next counted b gu)
        (subst (λ x. basics.total (counts (settled x next)) ≤ t.amax * t.n) is settled_few) in
        record {
          kept = after.kept;
          entry_is = entry_is;
          entry_free = entry_free;
          residents = after.residents_are ∙ ap (λ x. settled x next) (sym is);
          totals = after.totals_are;
          answer_is = ap (λ x. answering (chains t (counts_pins l)) x (place_of w block)) is ∙ told;
          links_few = λ c. few b (calm c);
        }
      where
        few : (b : Bool) → T (not b) → links_changed w (pick b (halvedWords u (base s) s.cmax) u) ≤ k
        few true c = absurd c
        few false c = near.links

    looked_accessed : T (not (refuses (place_of w block))) → (answer : Answer)
        → answering (chains t (counts_pins l)) (over u) (place_of w block) ≡ answer
        → (T (not (halved answer)) → T (not (over u))) → Accessed k w block written e answer (settled_of u)
    looked_accessed c = settled_accessed (over u) (looked_at_lem c)

    -- where N residents stay N
    full_accessed : T (is_full (place_of w block)) → (answer : Answer) → answering (chains t (counts_pins l)) false (place_of w block) ≡ answer
        → Accessed k w block written e answer u
    full_accessed full answer told =
        settled_accessed false (full_calm t l kept.legal kept.sums block written e (place_of w block) at full) answer told (λ c. tt)

  -- ---- a hit

  -- the words that it leaves before the counts are looked at
  abbrev pub hit_words : ℕ → Bool → List ℕ
  hit_words e written = hit_for s w e written

  -- A HIT of the block of resident entry e.
  pub hit_accessed : (block e : ℕ) (written : Bool) → Room w → lookup block l ≡ some (resident_at w e)
      → Accessed 16 w block written e (hit (raised_count (val w (word_of (base s) e SECTION)) (val w (word_of (base s) e COUNT)))
      (over (hit_words e written))) (settled_of (hit_words e written))
  unfolding entry_for answering refuses
  hit_accessed block e written r look =
      let here = found_of block e look in
      let q = place_found t s of w l (totals_in w) g block s.N e (omega arith) here in
      looked_accessed 16 block e written (hit_words e written) (hit_word t s of w l (totals_in w) g block s.N e written r (omega arith) here)
      (hit_links t s of w l (totals_in w) g block s.N e written r (omega arith) here)
      (rw q refl) (rw q tt) (rw q tt) (hit (raised_count (val w (word_of (base s) e SECTION)) (val w (word_of (base s) e COUNT)))
      (over (hit_words e written))) (rw q refl) (λ c. c)

  -- ---- an unused entry

  abbrev pub enter_words : ℕ → Bool → List ℕ
  enter_words block written = entered_for s w block written

  -- the first of the unused list is free
  first_unused : val w UNUSED ≢ 0 → Unused t.n l (val w UNUSED)
  unfolding settings_in
  first_unused left = go g.unused g.directory
    where
      go : (free : List ℕ) → Directory s w g.fields g.order free → Unused t.n l (val w UNUSED)
      go [] d = absurd (left (header_is t s of w l (totals_in w) g UNUSED (omega arith) (omega arith) (omega arith) ∙ d.linked.stack.free.fwd))
      go (e ∷ free) d =
          rw (header_is t s of w l (totals_in w) g UNUSED (omega arith) (omega arith) (omega arith) ∙ d.linked.stack.free.fwd.0)
          record {
            least = let z : ¬ (0 ≡ e) = d.linked.stack.free.some.0 in omega arith;
            most = d.linked.stack.idle.0.0;
            free =
                subst (All (λ x. x.held ≢ e)) g.seen
                (all_image (λ x. x.held ≢ e) (resident g.fields) g.order
                (all_map (λ x. Off x (e ∷ free)) (λ x. x ≢ e) g.order (λ x o. o.0) d.linked.stack.apart));
          }

  -- A BLOCK that no resident has ENTERS the first unused entry.
  pub enter_accessed : (block : ℕ) (written : Bool) → Room w → block < t.m → lookup block l ≡ none → val w UNUSED ≢ 0
      → Accessed 15 w block written (val w UNUSED) (entered (over (enter_words block written))) (settled_of (enter_words block written))
  unfolding entry_for answering refuses settings_in
  enter_accessed block written r inside gone left =
      let here = absent_of block gone in
      let q = place_entered t s of w l (totals_in w) g block s.N (omega arith) here left in
      looked_accessed 15 block (val w UNUSED) written (enter_words block written)
      (enter_word t s of w l (totals_in w) g block s.N written r inside (omega arith) here left)
      (enter_links t s of w l (totals_in w) g block written r left)
      (rw q refl) (rw q (first_unused left)) (rw q tt) (entered (over (enter_words block written))) (rw q refl) (λ c. c)

  -- ---- the victim's entry

  abbrev pub replace_words : ℕ → ℕ → Bool → List ℕ
  replace_words e block written = out_counted (val w (word_of (base s) e MODIFIED)) (replaced_for s w (val w (word_of (base s) e BLOCK)) e block written)

  -- A BLOCK that no resident has REPLACES the victim, where no entry is unused. Counts are not halved.
  pub replace_accessed : (block : ℕ) (p : Picked) (written : Bool) → Room w → block < t.m → lookup block l ≡ none → val w UNUSED ≡ 0
      → victim_from w (base s) (suc s.N) s.cmax 1 ≡ Some p
      → Accessed 20 w block written p.entry
      (replaced (val w (word_of (base s) p.entry BLOCK)) p.chains (is_marked (val w (word_of (base s) p.entry MODIFIED))))
      (replace_words p.entry block written)
  unfolding entry_for answering marks_in settings_in
  replace_accessed block p written r inside gone none_left v =
      let e : ℕ = p.entry in
      let here = absent_of block gone in
      let q = place_replaced t s of w l (totals_in w) g block s.N (suc s.N) p (omega arith) (omega arith) here none_left v in
      let gu = replace_word t s of w l (totals_in w) g block s.N (suc s.N) p written r inside (omega arith) (omega arith) here none_left v in
      full_accessed 20 block e written (replace_words e block written) gu
      (replace_links t s of w l (totals_in w) g block s.N (suc s.N) p written r inside (omega arith) (omega arith) here none_left v)
      (rw q refl) (rw q tt) (rw q tt) (replaced (val w (word_of (base s) e BLOCK)) p.chains (is_marked (val w (word_of (base s) e MODIFIED))))
      (rw (q, ← looked_word t s of w l (totals_in w) g (suc s.N) p (omega arith) none_left v) refl)

  -- IT IS REFUSED, where all are pinned: the read or the write is counted, and nothing else moves.
  pub refused_accessed : (block : ℕ) (written : Bool) → Room w → lookup block l ≡ none → val w UNUSED ≡ 0
      → victim_from w (base s) (suc s.N) s.cmax 1 ≡ None → Accessed 0 w block written 0 miss_refused (access_counted written w)
  unfolding entry_for answering asked settings_in
  refused_accessed block written r gone none_left v =
      let here = absent_of block gone in
      let q : place_of w block ≡ all_pinned l = place_bound t s of w l (totals_in w) g block s.N (suc s.N) (omega arith) (omega arith) here
      none_left v in
      let gu : Stands t s (access_counted written w) (asked_of w block written 0) (access_totals (totals_in w) written (place_of w block)) =
      rw (q, ← after_refused written l (totals_in w)) (refused_word t s of w l (totals_in w) g written r) in
      full_accessed 0 block 0 written (access_counted written w) gu (refused_links t s of w l (totals_in w) g written r) (rw q refl) (rw q tt)
      (rw q tt) miss_refused (rw q refl)

  -- ---- a purge

  abbrev pub purge_words : ℕ → ℕ → List ℕ
  purge_words block e = purged w (base s) s.cmax (suc s.N) (24 + 2 * s.cmax + s.hash block) e

  few_removed : (block : ℕ) → basics.total (counts (removed block l)) ≤ t.amax * t.n
  unfolding removed
  few_removed block = let a = fewer l (position block l) in let b = kept.sums in omega arith

  pub purge_purged : (block e : ℕ) → lookup block l ≡ some (resident_at w e) → Purged 15 w block (purge_words block e)
  purge_purged block e look =
      let here = found_of block e look in
      let a = read_off w h (purge_words block e) (removed block l) (totals_in w)
      (purge_word t s of w l (totals_in w) g block s.N e (omega arith) here) (few_removed block) in
      record {
        kept = a.kept;
        residents = a.residents_are;
        totals = a.totals_are;
        links_few =
            (purge_links t s of w l (totals_in w) g block s.N e (omega arith) here).links;
      }
