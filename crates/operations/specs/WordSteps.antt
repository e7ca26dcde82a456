-- Each operation from words that stand for a stack to words that stand for the stack after it: what is asked is asked of the words.
-- Assumes nothing.
use Rattle.std.specs.Prelude.{Option as Optional, Some, None}
use Rattle.std.specs.Prelude.{ℕ, suc, ◌+◌, ◌*◌, ◌≤◌, ◌<◌, ◌-◌, ◌^◌, ◌≡◌, refl, Bool, true, false, not, List, [], ◌∷◌, ◌++◌, length}
use Rattle.std.proofs.Common.{◌∙◌, ap, subst, arith}
use Rattle.std.proofs.Math.Path.{sym, ap₂}
use Rattle.std.proofs.Math.Option.{Option, none, some}
use Rattle.std.proofs.Math.Dec.{ltb}
use Rattle.std.proofs.lemmas.List.{length-map}
use Rattle.links.specs.All.{all_here}
use Rattle.basics.specs.Basics.{All, bit}
use Rattle.words.specs.Words.{val}
use Rattle.settings.specs.declared.Settings.{Settings}
use Rattle.stack.specs.Counts.{chains, exceeds}
use Rattle.stack.specs.Recency.{Resident, counts, counts_pins, place, asked, lookup, removed}
use Rattle.stack.specs.Stack.{Totals}
use Rattle.layout.specs.Addresses.{SUM, HEAD, TAIL, UNUSED, READS, WRITES, BLOCK, COUNT, MODIFIED}
use Rattle.layout.specs.ModifiedWord.{marks_in}
use Rattle.linkage.specs.Fields.{Shape, Fields, base, header, in_header, view_get}
use Rattle.linkage.specs.WellLinked.{Entry}
use Rattle.word_ops.specs.Lists.{word_of}
use Rattle.word_ops.specs.Buckets.{found}
use Rattle.word_ops.specs.Victim.{victim_from}
use Rattle.word_ops.specs.Purge.{purged}
use Rattle.word_ops.specs.Halve.{over_average}
use Rattle.word_ops.specs.Totals.{access_counted, out_counted}
use Rattle.word_ops.specs.declared.Picked.{Picked}
use Rattle.operations.specs.Directory.{Directory}
use Rattle.operations.specs.Seen.{address}
use Rattle.operations.specs.Miss.{Countable, accessD, access_sound, entered_for, replaced_for}
use Rattle.operations.specs.Residents.{Of, resident, residents_of, alive}
use Rattle.operations.specs.Lookup.{Told, as_option, find_is, find_seen}
use Rattle.operations.specs.VictimWords.{Chosen, Refused, Searched, found_victim}
use Rattle.operations.specs.Counted.{totals_of, raised_by, totals_after, access_totals_lem}
use Rattle.operations.specs.Stands.{Given, Stands, stands_sum, stands_many}
use Rattle.operations.specs.Step.{hit_for, hit_asked, purge_step}
use Rattle.operations.specs.MissStep.{enter_asked, replace_asked}

-- the sum and the totals of reads and writes have room for one more
pub record Room (w : List ℕ) : Type 0 where
  pub sum : val w SUM < 268435455
  pub reads : val w READS + 268435456 * val w (READS + 1) < 2 ^ 56 - 1
  pub writes : val w WRITES + 268435456 * val w (WRITES + 1) < 2 ^ 56 - 1

-- an entry, as the words have it
abbrev pub resident_at : Shape → List ℕ → ℕ → Resident ℕ
resident_at s w e =
    record {
      block = val w (word_of (base s) e BLOCK);
      count = val w (word_of (base s) e COUNT);
      marks = marks_in (val w (word_of (base s) e MODIFIED));
      held = e;
    }

-- what the code's lookup of a block yields
abbrev pub found_in : Shape → List ℕ → ℕ → ℕ → Optional ℕ
found_in s w links block = found w (base s) links (24 + 2 * s.cmax + s.hash block) block

abbrev pub answered : Shape → List ℕ → Optional ℕ → Option (Resident ℕ)
answered s w None = none
answered s w (Some e) = some (resident_at s w e)

module _ (t : Settings) (s : Shape) (of : Of t s) (w : List ℕ) (l : List (Resident ℕ)) (totals : Totals) (g : Stands t s w l totals) where
  abbrev D : Fields
  D = g.fields

  pub header_is : (i : ℕ) → i < 24 → ¬ (i ≡ HEAD) → ¬ (i ≡ TAIL) → val w i ≡ D (in_header i) 0
  header_is i h1 h2 h3 = view_get s w D g.directory.view (in_header i) 0 i (header refl refl h1 h2 h3)

  pub small : Room w → D (in_header SUM) 0 < 268435455
  small r = omega (arith, r.sum, header_is SUM (omega arith) (omega arith) (omega arith))

  pub countable : Room w → Countable D
  countable r = (
    omega (arith, r.reads, at READS (omega arith), at (READS + 1) (omega arith)),
    omega
        (arith, r.writes, at WRITES (omega arith), at (WRITES + 1) (omega arith)),
  )
    where
      at : (i : ℕ) → (15 < i) × (i < 24) → val w i ≡ D (in_header i) 0
      at i h = header_is i h.1 (omega arith) (omega arith)

  -- from the residents and totals of the fields to those that they are
  carry : (w' : List ℕ) (f : List (Resident ℕ) → List (Resident ℕ)) (h : List (Resident ℕ) → Totals → Totals)
      → Stands t s w' (f (residents_of D g.order)) (h (residents_of D g.order) (totals_of D)) → Stands t s w' (f l) (h l totals)
  carry w' f h k =
      subst (λ (m : List (Resident ℕ)). Stands t s w' (f m) (h m totals)) g.seen
      (subst (λ (v : Totals). Stands t s w' (f (residents_of D g.order)) (h (residents_of D g.order) v)) g.counted k)

  -- ---- the lookup

  pub resident_word : (e : ℕ) → Entry s e → resident D e ≡ resident_at s w e
  resident_word e he =
      λ i. record {
        block = word BLOCK (omega arith) i;
        count = word COUNT (omega arith) i;
        marks = marks_in (word MODIFIED (omega arith) i);
        held = e;
      }
    where
      word : (j : ℕ) → j < 9 → D j e ≡ val w (word_of (base s) e j)
      word j h = sym (view_get s w D g.directory.view j e (word_of (base s) e j) (address s j e (word_of (base s) e j) h he refl))

  pub entry_at : (above : List ℕ) (e : ℕ) (below : List ℕ) → g.order ≡ above ++ (e ∷ below) → Entry s e
  entry_at above e below q = go g.order q (alive s D g.order g.unused g.directory.linked)
    where
      go : (residents : List ℕ) → residents ≡ above ++ (e ∷ below) → All (λ x. Entry s x × (1 ≤ D COUNT x)) residents → Entry s e
      go residents q a = (all_here (λ x. Entry s x × (1 ≤ D COUNT x)) above e below (rw q at a)).0

  -- THE LOOKUP finds the resident of the block, or that there is none
  pub lookup_word : (block links : ℕ) → s.N ≤ links → lookup block l ≡ answered s w (found_in s w links block)
  lookup_word block links budget =
      ap (lookup block) (sym g.seen) ∙ find_seen s w D g.order g.unused block links g.directory budget
      ∙ go (found_in s w links block) (find_is s w D g.order g.unused block links g.directory budget)
    where
      go : (r : Optional ℕ) → Told s D block g.order r → as_option D r ≡ answered s w r
      go None k = refl
      go (Some e) k = ap some (resident_word e (entry_at k.before e k.behind k.whole))

  -- ---- a read or a write

  -- A HIT
  pub hit_word : (block links e : ℕ) (written : Bool) → Room w → s.N ≤ links → found_in s w links block ≡ Some e
      → Stands t s (hit_for s w e written) (asked block written e (place t block l)) (totals_after written (place t block l) totals)
  hit_word block links e written r budget here =
      carry (hit_for s w e written) (λ m. asked block written e (place t block m)) (λ m v. totals_after written (place t block m) v)
      (hit_asked t s of w D g.unused (countable r) (small r) g.given g.order block links e written g.directory budget here)

  -- A MISS while an entry is unused
  pub enter_word : (block links : ℕ) (written : Bool) → Room w → block < s.M → s.N ≤ links → found_in s w links block ≡ None → ¬ (val w UNUSED ≡ 0)
      → Stands t s (entered_for s w block written) (asked block written (val w UNUSED) (place t block l))
      (totals_after written (place t block l) totals)
  enter_word block links written r room budget here left =
      carry (entered_for s w block written) (λ m. asked block written (val w UNUSED) (place t block m))
      (λ m v. totals_after written (place t block m) v)
      (go g.unused g.directory)
    where
      go : (ys : List ℕ) → Directory s w D g.order ys → Stands t s (entered_for s w block written)
          (asked block written (val w UNUSED) (place t block (residents_of D g.order)))
          (totals_after written (place t block (residents_of D g.order)) (totals_of D))
      go [] d = absurd (left (header_is UNUSED (omega arith) (omega arith) (omega arith) ∙ d.linked.stack.free.fwd))
      go (e ∷ ys) d =
          rw (header_is UNUSED (omega arith) (omega arith) (omega arith) ∙ d.linked.stack.free.fwd.0)
          (enter_asked t s of w D (countable r) (small r) g.given block room g.order e ys links written d budget here)

  -- no unused entry is left: the stack is full
  pub full_word : val w UNUSED ≡ 0 → length g.order ≡ s.N
  full_word z = go g.unused g.directory
    where
      go : (unused : List ℕ) → Directory s w D g.order unused → length g.order ≡ s.N
      go [] d = omega (arith, d.linked.stack.whole)
      go (e ∷ unused) d =
          let q : D (in_header UNUSED) 0 ≡ e = d.linked.stack.free.fwd.0 in
          absurd (d.linked.stack.free.some.0 (sym z ∙ header_is UNUSED (omega arith) (omega arith) (omega arith) ∙ q))

  -- THE VICTIM, where the search finds one; the chains looked at are those defined
  pub chosen_word : (links : ℕ) (p : Picked) → s.N ≤ links → val w UNUSED ≡ 0 → victim_from w (base s) links s.cmax 1 ≡ Some p
      → Chosen t D g.order p.chains p.entry
  chosen_word links p budget z q =
      subst (Searched t D g.order) q (found_victim s w D g.order g.unused g.directory t of links budget (full_word z))

  pub looked_word : (links : ℕ) (p : Picked) → s.N ≤ links → val w UNUSED ≡ 0 → victim_from w (base s) links s.cmax 1 ≡ Some p
      → p.chains ≡ chains t (counts_pins l)
  looked_word links p budget z q =
      (chosen_word links p budget z q).looked ∙ ap (λ (m : List (Resident ℕ)). chains t (counts_pins m)) g.seen

  -- A MISS where no entry is unused: the victim's block, if modified, is counted out
  pub replace_word : (block links reach : ℕ) (p : Picked) (written : Bool) → Room w → block < s.M → s.N ≤ links → s.N ≤ reach
      → found_in s w links block ≡ None → val w UNUSED ≡ 0 → victim_from w (base s) reach s.cmax 1 ≡ Some p
      → let e : ℕ = p.entry in
      Stands t s (out_counted (val w (word_of (base s) e MODIFIED)) (replaced_for s w (val w (word_of (base s) e BLOCK)) e block written))
      (asked block written e (place t block l)) (totals_after written (place t block l) totals)
  replace_word block links reach p written r room budget enough here z q =
      let e : ℕ = p.entry in
      carry (out_counted (val w (word_of (base s) e MODIFIED)) (replaced_for s w (val w (word_of (base s) e BLOCK)) e block written))
      (λ m. asked block written e (place t block m)) (λ m v. totals_after written (place t block m) v)
      (replace_asked t s of w D (countable r) (small r) g.given block room g.order g.unused links p.chains e written g.directory budget
      here (full_word z) (chosen_word reach p enough z q))

  -- every resident is pinned, where it finds none
  pub pinned_word : (links : ℕ) → s.N ≤ links → val w UNUSED ≡ 0 → victim_from w (base s) links s.cmax 1 ≡ None → Refused t D g.order
  pinned_word links budget z q =
      subst (Searched t D g.order) q (found_victim s w D g.order g.unused g.directory t of links budget (full_word z))

  -- A REFUSAL: the read or the write is counted, and nothing else moves
  pub refused_word : (written : Bool) → Room w → Stands t s (access_counted written w) l (raised_by totals (bit (not written)) (bit written) 0 0)
  refused_word written r =
      record {
        fields = accessD written D;
        order = g.order;
        unused = g.unused;
        directory = access_sound s w D g.order g.unused (countable r) g.directory written;
        seen = same written ∙ g.seen;
        counted = access_totals_lem D written ∙ ap (λ (v : Totals). raised_by v (bit (not written)) (bit written) 0 0) g.counted;
        given = limits written;
      }
    where
      same : (b : Bool) → residents_of (accessD b D) g.order ≡ residents_of D g.order
      same true = refl
      same false = refl

      limits : (b : Bool) → Given t (accessD b D)
      limits true = record { average = g.given.average; bytes = g.given.bytes }
      limits false = record { average = g.given.average; bytes = g.given.bytes }

  pub exceeds_word : exceeds t (counts l) ≡ over_average w t.amax
  unfolding exceeds
  exceeds_word =
      ap₂ (λ (r sum : ℕ). ltb (t.amax * r) sum) (length-map l (λ x. x.count) ∙ sym (stands_many t s w l totals g))
      (sym (stands_sum t s w l totals of g))

  -- ---- a purge

  pub purge_word : (block links e : ℕ) → s.N ≤ links → found_in s w links block ≡ Some e
      → Stands t s (purged w (base s) s.cmax (suc s.N) (24 + 2 * s.cmax + s.hash block) e) (removed block l) totals
  purge_word block links e budget here =
      carry (purged w (base s) s.cmax (suc s.N) (24 + 2 * s.cmax + s.hash block) e) (removed block) (λ m v. v)
      (purge_step t s w D g.unused g.given g.order block links e g.directory budget here)
