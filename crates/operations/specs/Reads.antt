-- What is read off the words of a sound directory one at a time: how many residents there are, whether an entry is unused, what a
-- lookup finds, how many entries the search for a victim looks at, the residents along the stack. Assumes nothing.
use Rattle.std.specs.Prelude.{Option, Some, None}
use Rattle.std.specs.Prelude.{ℕ, zero, suc, ◌+◌, ◌*◌, ◌≤◌, ◌<◌, ◌≡◌, ◌≢◌, List, [], ◌∷◌, map, T, length, get_or}
use Rattle.std.proofs.Math.Path.{refl}
use Rattle.std.proofs.Common.{◌∙◌, sym, ap, arith}
use Rattle.std.proofs.lemmas.List.{length-map}
use Rattle.basics.specs.Basics.{All}
use Rattle.basics.specs.Lists.{those}
use Rattle.links.specs.Run.{Run}
use Rattle.words.specs.Words.{val}
use Rattle.stack.specs.Recency.{lookup}
use Rattle.layout.specs.Addresses.{CACHE-BLOCKS, RESIDENTS, HEAD, UNUSED, TO-TAIL}
use Rattle.layout.specs.Sound.{settings_in, totals_in, sound, resident_at, residents_in}
use Rattle.promises.specs.DirectoryPromises.{found_resident, entry_at}
use Rattle.linkage.specs.Fields.{Shape, Fields, base, ends, view_get}
use Rattle.linkage.specs.WellLinked.{Entry, WellLinked}
use Rattle.linkage.specs.WordFields.{shape}
use Rattle.word_ops.specs.Lists.{word_of}
use Rattle.victims.proofs.Short.{looked_from}
use Rattle.operations.specs.Seen.{address}
use Rattle.operations.specs.Residents.{resident, residents_of, alive}
use Rattle.operations.specs.VictimWords.{search_few}
use Rattle.operations.specs.Stands.{Stands, stands_many}
use Rattle.operations.specs.SoundWords.{of_sound, stands_of_sound}
use Rattle.operations.specs.WordSteps.{found_in, answered, header_is, lookup_word}

module _ (w : List ℕ) (h : T (sound w)) where
  abbrev s : Shape
  s = shape w

  g : Stands (settings_in w) s w (residents_in w) (totals_in w)
  g = stands_of_sound w h

  abbrev D : Fields
  D = g.fields

  many : length (residents_in w) ≡ length g.order
  many = ap length (sym g.seen) ∙ length-map g.order (resident D)

  -- r
  pub residents_word : val w RESIDENTS ≡ length (residents_in w)
  residents_word = stands_many (settings_in w) s w (residents_in w) (totals_in w) g

  first_word : val w UNUSED ≡ D (20 + UNUSED) 0
  first_word = header_is (settings_in w) s (of_sound w h) w (residents_in w) (totals_in w) g UNUSED (omega arith) (omega arith) (omega arith)

  -- an entry is unused while there are fewer residents than entries
  pub unused_left : length (residents_in w) < val w CACHE-BLOCKS → val w UNUSED ≢ 0
  unused_left few z = go g.unused g.directory.linked
    where
      go : (free : List ℕ) → WellLinked s D g.order free → ⊥
      go [] k = omega (arith, k.stack.whole, many)
      go (e ∷ free) k = k.stack.free.some.0 (sym z ∙ first_word ∙ k.stack.free.fwd.0)

  pub unused_none : length (residents_in w) ≡ val w CACHE-BLOCKS → val w UNUSED ≡ 0
  unused_none full = go g.unused g.directory.linked
    where
      go : (free : List ℕ) → WellLinked s D g.order free → val w UNUSED ≡ 0
      go [] k = first_word ∙ k.stack.free.fwd
      go (e ∷ free) k = absurd (omega (arith, k.stack.whole, many))

  -- THE LOOKUP, over the words
  pub lookup_found : (block : ℕ) → lookup block (residents_in w) ≡ found_resident w (found_in s w (val w CACHE-BLOCKS) block)
  unfolding resident_at
  lookup_found block =
      lookup_word (settings_in w) s (of_sound w h) w (residents_in w) (totals_in w) g block (val w CACHE-BLOCKS) (omega arith)
      ∙ go (found_in s w (val w CACHE-BLOCKS) block)
    where
      go : (r : Option ℕ) → answered s w r ≡ found_resident w r
      go None = refl
      go (Some e) = refl

  -- A replacement's search, from every sound directory: it looks at Cmax + 1 entries, and at two more for each pinned resident, at most.
  pub search_bound : looked_from w (base s) (suc s.N) s.cmax 1
      ≤ (settings_in w).cmax + 1 + 2 * length (those (λ x. x.marks.pinned) (residents_in w))
  search_bound =
      rw ((of_sound w h).cmax_is, ← g.seen)
      (search_few s w D g.order g.unused g.directory (settings_in w) (of_sound w h) (suc s.N) (omega arith))

  -- ---- along the stack

  held_is : (l : List ℕ) → map (λ x. x.held) (residents_of D l) ≡ l
  held_is [] = refl
  held_is (x ∷ l) = ap (λ (m : List ℕ). x ∷ m) (held_is l)

  entries_are : map (λ x. x.held) (residents_in w) ≡ g.order
  entries_are = ap (map (λ x. x.held)) (sym g.seen) ∙ held_is g.order

  -- the first entry of the stack, and the one behind an entry
  pub head_word : val w HEAD ≡ entry_at (residents_in w) 0
  head_word =
      view_get s w D g.directory.view TO-TAIL 0 HEAD (ends refl refl (omega arith) (omega arith))
      ∙ rw entries_are (at g.order g.directory.linked.stack.ring.fwd)
    where
      at : (l : List ℕ) → Run (D TO-TAIL) (D TO-TAIL 0) l 0 → D TO-TAIL 0 ≡ get_or l 0 0
      at [] r = r
      at (x ∷ l) r = r.0

  next_of : (n : ℕ → ℕ) (a : ℕ) (l : List ℕ) (p e : ℕ) → Run n a l 0 → p < length l → get_or l p 0 ≡ e → n e ≡ get_or l (p + 1) 0
  next_of n a [] p e r h q = absurd (omega arith)
  next_of n a (x ∷ l) zero e r h q = rw (← q) (at l r.1)
    where
      at : (l : List ℕ) → Run n (n x) l 0 → n x ≡ get_or l 0 0
      at [] r = r
      at (y ∷ l) r = r.0
  next_of n a (x ∷ l) (suc p) e r h q =
      let k : suc (p + 1) ≡ suc p + 1 = omega arith in next_of n (n x) l p e r.1 (omega arith) q ∙ ap (λ k. get_or (x ∷ l) k 0) k

  entry_of : (l : List ℕ) (p e : ℕ) → p < length l → get_or l p 0 ≡ e → All (λ x. Entry s x × (1 ≤ D 1 x)) l → Entry s e
  entry_of [] p e h q a = absurd (omega arith)
  entry_of (x ∷ l) zero e h q a = rw (← q) a.0.0
  entry_of (x ∷ l) (suc p) e h q a = entry_of l p e (omega arith) q a.1

  pub next_word : (p e : ℕ) → p < length (residents_in w) → entry_at (residents_in w) p ≡ e
      → val w (word_of (base s) e TO-TAIL) ≡ entry_at (residents_in w) (p + 1)
  next_word p e h q =
      let here : get_or g.order p 0 ≡ e = rw entries_are at q in
      let l : p < length g.order = omega (arith, many) in
      let a : Entry s e = entry_of g.order p e l here (alive s D g.order g.unused g.directory.linked) in
      view_get s w D g.directory.view TO-TAIL e (word_of (base s) e TO-TAIL) (address s TO-TAIL e (word_of (base s) e TO-TAIL) (omega arith) a refl)
      ∙ rw entries_are (next_of (D TO-TAIL) (D TO-TAIL 0) g.order p e g.directory.linked.stack.ring.fwd l here)
