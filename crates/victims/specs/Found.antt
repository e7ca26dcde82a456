-- What the search over the words finds: of a chain the entry at `last_of`, of the stack that at `least_recent`, in all that at `search`.
-- Assumes nothing.
use Rattle.std.specs.Prelude.{Some}
use Prim.Native.Nat.{ℕ, zero, suc, ◌+◌, ◌-◌, ◌≤◌, ◌<◌}
use Rattle.std.specs.Prelude.{◌≡◌, Bool, List, [], ◌∷◌, map, leb}
use Rattle.std.proofs.Math.Path.{refl, ap, ap₂}
use Rattle.std.proofs.Common.{◌∙◌, sym, add-one}
use Rattle.std.proofs.Math.Bool.{true, false, not, ◌&&◌}
use native.Mathlib.Omega.{arith}
use Rattle.std.proofs.Math.Decide.{dec_le}
use Rattle.std.proofs.Math.Dec.{ltb, eqb}
use Rattle.std.proofs.Math.ListN.{length, get_or}
use Rattle.std.proofs.lemmas.List.{length-map}
use borrow.Author.Tests.{leb-true, ne_eqb, lt-ltb, le-ltb, le-leb, lt-leb}
use Rattle.basics.specs.Basics.{All, pick, member}
use Rattle.basics.specs.AllLaws.{all_map, all_both}
use Rattle.links.specs.Off.{Same}
use Rattle.links.specs.Run.{Back, back_same}
use Rattle.links.specs.All.{all_at, off_all}
use Rattle.links.specs.Sift.{sift, put}
use Rattle.links.proofs.Chains.{chain, chain_sift, keyed, all_chain}
use Rattle.words.specs.Words.{val}
use Rattle.settings.specs.declared.Settings.{Settings}
use Rattle.stack.specs.Counts.{old, unpinned, count_at, unpinned_at, greatest, looked}
use Rattle.stack.proofs.SearchLaws.{victim_of, last_of, least_recent, search}
use Rattle.layout.specs.Addresses.{TAIL, COUNT, SECTION, MODIFIED, TO-HEAD, CHAIN-TO-HEAD, chain_tail}
use Rattle.layout.specs.ModifiedWord.{marks_in}
use Rattle.word_ops.specs.Lists.{word_of}
use Rattle.word_ops.specs.Mark.{is_pinned}
use Rattle.word_ops.specs.Victim.{reaches, is_pinned_entry, chain_last, stack_last, or_all_pinned, victim_from}
use Rattle.victims.specs.Lasts.{last_chain, last_greatest, at_end, Rising, rising_chain, rising_at}
use Rattle.victims.specs.OverPinned.{walk_last}
use Rattle.victims.specs.OldLast.{old_last}
use Rattle.victims.specs.Linked.{Linked, Worded}

-- counts and pinned marks of the residents, as `Recency.counts_pins` has them
abbrev pub counts_pins_of : (ℕ → ℕ → ℕ) → List ℕ → List (ℕ × Bool)
counts_pins_of D residents = map (λ e. (D COUNT e, (marks_in (D MODIFIED e)).pinned)) residents

pub pair_at : (D : ℕ → ℕ → ℕ) (residents : List ℕ) (p : ℕ) → p < length residents
    → get_or (counts_pins_of D residents) p (0, true) ≡ (D COUNT (get_or residents p 0), (marks_in (D MODIFIED (get_or residents p 0))).pinned)
pair_at D [] p h = absurd (omega arith)
pair_at D (x ∷ residents) zero h = refl
pair_at D (x ∷ residents) (suc p) h = pair_at D residents p (omega arith)

-- a chain is no longer than the stack
sift_short : (q : ℕ → Bool) (xs : List ℕ) → length (sift q xs) ≤ length xs
sift_short q [] = omega arith
sift_short q (x ∷ xs) = go (q x) (sift_short q xs)
  where
    go : (b : Bool) → length (sift q xs) ≤ length xs → length (put b x (sift q xs)) ≤ suc (length xs)
    go true h = omega arith
    go false h = omega arith

chain_short : (key : ℕ → ℕ) (i : ℕ) (xs : List ℕ) → length (chain key i xs) ≤ length xs
chain_short key i xs = rw (chain_sift key i xs) (sift_short (keyed key i) xs)

-- the section's number at a position, as `Linked` has it
abbrev section_at : ℕ → ℕ → ℕ → ℕ
section_at new old p = pick (leb new p) 1 0 + pick (leb old p) 1 0

-- it rises along the stack
section_rises : (new old p q : ℕ) → p ≤ q → section_at new old p ≤ section_at new old q
section_rises new old p q h = omega (arith, up new (dec_le new p), up old (dec_le old p))
  where
    up : (from : ℕ) → Dec (from ≤ p) → pick (leb from p) 1 0 ≤ pick (leb from q) 1 0
    up from (yes c) = rw (le-leb from p c, le-leb from q (omega arith)) (omega arith)
    up from (no c) = rw (lt-leb from p (omega arith)) (omega arith)

-- it is 2 from the old boundary on
section_old : (new old p : ℕ) → new ≤ old → leb 2 (section_at new old p) ≡ leb old p
section_old new old p h = go (dec_le old p) (dec_le new p)
  where
    go : Dec (old ≤ p) → Dec (new ≤ p) → leb 2 (section_at new old p) ≡ leb old p
    go (yes c) d = rw (le-leb old p c, le-leb new p (omega arith))
    go (no c) (yes d) = rw (lt-leb old p (omega arith), le-leb new p d)
    go (no c) (no d) = rw (lt-leb old p (omega arith), lt-leb new p (omega arith))

-- ---- over the words of a directory

module _ (t : Settings) (w : List ℕ) (at links N cmax : ℕ) (D : ℕ → ℕ → ℕ) (tail : ℕ) (tails : ℕ → ℕ) (residents : List ℕ)
    (g : Linked N t.nnew (t.n - t.nold) cmax D tail tails residents) (v : Worded N cmax D tail tails w at) (enough : N ≤ links) where
  abbrev xs : List (ℕ × Bool)
  xs = counts_pins_of D residents

  pub long : length xs ≡ length residents
  long = length-map residents (λ e. (D COUNT e, (marks_in (D MODIFIED e)).pinned))

  pub entries : All (λ x. (1 ≤ x) × (x ≤ N)) residents
  entries =
      all_map (λ x. (x ≤ N) × (¬ (0 ≡ x))) (λ x. (1 ≤ x) × (x ≤ N)) residents (λ x a. (let z : ¬ (0 ≡ x) = a.1 in omega arith, a.0))
      (all_both (λ x. x ≤ N) (λ x. ¬ (0 ≡ x)) residents g.bound (off_all 0 residents g.some))

  pub entry_at : (p : ℕ) → p < length residents → (1 ≤ get_or residents p 0) × (get_or residents p 0 ≤ N)
  entry_at p h = all_at (λ x. (1 ≤ x) × (x ≤ N)) residents p entries h

  -- links read from the words
  same_words : (k : ℕ) → k < 9 → (ys : List ℕ) → All (λ x. (1 ≤ x) × (x ≤ N)) ys → Same (D k) (λ e. val w (word_of at e k)) ys
  same_words k h [] a = tt
  same_words k h (y ∷ ys) a = (sym (v.entries k y h a.0.0 a.0.1), same_words k h ys a.1)

  pub stack_back : Back (λ e. val w (word_of at e TO-HEAD)) 0 residents (val w TAIL)
  stack_back =
      rw v.stack_end
      (back_same (D TO-HEAD) (λ e. val w (word_of at e TO-HEAD)) 0 residents tail (same_words TO-HEAD (omega arith) residents entries) g.stack)

  pub chain_back : (i : ℕ) → (1 ≤ i) × (i ≤ cmax)
      → Back (λ e. val w (word_of at e CHAIN-TO-HEAD)) 0 (chain (D COUNT) i residents) (val w (chain_tail i))
  chain_back i h =
      let a =
      all_chain (λ x. (1 ≤ x) × (x ≤ N)) (D COUNT) i residents
      (all_map (λ x. (1 ≤ x) × (x ≤ N)) (λ x. D COUNT x ≡ i → (1 ≤ x) × (x ≤ N)) residents (λ x l q. l) entries) in
      rw (v.chain_end i h)
      (back_same (D CHAIN-TO-HEAD) (λ e. val w (word_of at e CHAIN-TO-HEAD)) 0 (chain (D COUNT) i residents) (tails i)
      (same_words CHAIN-TO-HEAD (omega arith) (chain (D COUNT) i residents) a) (g.chains i h))

  -- sections and pinned marks read from the words
  reached_at : (section p : ℕ) → p < length residents
      → reaches w at section (get_or residents p 0) ≡ leb section (section_at t.nnew (t.n - t.nold) p)
  unfolding reaches
  reached_at section p h =
      let e = entry_at p h in
      let o = v.entries SECTION (get_or residents p 0) (omega arith) e.0 e.1 ∙ g.sections p h in
      rw (ne_eqb (get_or residents p 0) 0 (λ q. omega (arith, e.0)), o)

  rising : (section : ℕ) → Rising (λ e. reaches w at section e) residents
  rising section = rising_at (λ e. reaches w at section e) residents λ p q l h r.
      let here : section ≤ section_at t.nnew (t.n - t.nold) p =
      leb-true section (section_at t.nnew (t.n - t.nold) p) (sym (reached_at section p (omega arith)) ∙ r) in
      reached_at section q h
      ∙ le-leb section (section_at t.nnew (t.n - t.nold) q) (omega (arith, here, section_rises t.nnew (t.n - t.nold) p q (omega arith)))

  free_at : (p : ℕ) → p < length residents → unpinned_at xs p ≡ not (is_pinned_entry w at (get_or residents p 0))
  unfolding is_pinned_entry marks_in
  free_at p h =
      let e = entry_at p h in
      ap (λ x. not x.1) (pair_at D residents p h)
      ∙ ap (λ x. not (is_pinned x)) (sym (v.entries MODIFIED (get_or residents p 0) (omega arith) e.0 e.1))

  pub count_at_lem : (p : ℕ) → p < length residents → count_at xs p ≡ D COUNT (get_or residents p 0)
  count_at_lem p h = ap (λ x. x.0) (pair_at D residents p h)

  -- what a walk looks for
  abbrev reached_free : ℕ → ℕ → Bool
  reached_free section e = reaches w at section e && not (is_pinned_entry w at e)

  -- the last unpinned old one of a chain, and the last unpinned one of the stack
  chain_last_lem : (i : ℕ) → (1 ≤ i) × (i ≤ cmax) → chain_last w at links i ≡ get_or residents (last_of t xs i) 0
  unfolding chain_last last_of
  chain_last_lem i h =
      walk_last w at 2 CHAIN-TO-HEAD links (chain (D COUNT) i residents) (val w (chain_tail i))
      (omega (arith, chain_short (D COUNT) i residents, g.few)) (chain_back i h)
      (rising_chain (λ e. reaches w at 2 e) (D COUNT) i residents (rising 2))
      ∙ last_chain (reached_free 2) (D COUNT) i residents 0
      ∙ last_greatest (λ e. reached_free 2 e && eqb (D COUNT e) i) (victim_of t xs i) residents same
      ∙ ap (λ n. get_or residents (greatest (victim_of t xs i) n n) 0) (sym long)
    where
      same : (p : ℕ) → p < length residents → victim_of t xs i p ≡ (reached_free 2 (get_or residents p 0) && eqb (D COUNT (get_or residents p 0)) i)
      same p l =
          ap₂ (λ b c. b && eqb c i)
          (ap₂ ◌&&◌ (sym (reached_at 2 p l ∙ section_old t.nnew (t.n - t.nold) p g.order)) (free_at p l)) (count_at_lem p l)

  stack_last_lem : stack_last w at links ≡ get_or residents (least_recent xs) 0
  unfolding stack_last least_recent
  stack_last_lem =
      walk_last w at 0 TO-HEAD links residents (val w TAIL) (omega (arith, g.few)) stack_back (rising 0)
      ∙ last_greatest (reached_free 0) (unpinned_at xs) residents same
      ∙ ap (λ n. get_or residents (greatest (unpinned_at xs) n n) 0) (sym long)
    where
      same : (p : ℕ) → p < length residents → unpinned_at xs p ≡ reached_free 0 (get_or residents p 0)
      same p l = rw (reached_at 0 p l, le-leb 0 (section_at t.nnew (t.n - t.nold) p) (omega arith)) (free_at p l)

  -- there is no entry past the residents alone
  none_at : (p : ℕ) → eqb (get_or residents p 0) 0 ≡ not (ltb p (length xs))
  none_at p = go (dec_le (length residents) p)
    where
      go : Dec (length residents ≤ p) → eqb (get_or residents p 0) 0 ≡ not (ltb p (length xs))
      go (yes h) = rw (at_end residents p h, le-ltb p (length xs) (omega (arith, long)))
      go (no h) =
          rw (ne_eqb (get_or residents p 0) 0 (λ q. omega (arith, (entry_at p (omega arith)).0)), lt-ltb p (length xs) (omega (arith, long)))

  -- whether count i has an unpinned old resident
  abbrev has : ℕ → Bool
  has i = member i (unpinned (old t xs))

  -- THE SEARCH, of any stack, full or not
  pub search_from : (more i : ℕ) → 1 ≤ i → i + more ≡ cmax + 1
      → victim_from w at links more i ≡ or_all_pinned (i - 1 + looked has i more) (get_or residents (search t xs i more) 0)
  unfolding victim_from search looked or_all_pinned
  search_from zero i o q =
      let n : i - 1 + 0 ≡ i - 1 = omega arith in
      rw (n, stack_last_lem)
  search_from (suc more) i o q =
      rw (chain_last_lem i (o, omega arith), none_at (last_of t xs i), ← old_last t xs i)
      (go (ltb (last_of t xs i) (length xs)) refl (search_from more (i + 1) (omega arith) (omega arith)))
    where
      go : (b : Bool) → ltb (last_of t xs i) (length xs) ≡ b
          → victim_from w at links more (i + 1) ≡ or_all_pinned (i + 1 - 1 + looked has (i + 1) more) (get_or residents (search t xs (i + 1) more) 0)
          → pick (not b) (victim_from w at links more (i + 1)) (Some (record { chains = i; entry = get_or residents (last_of t xs i) 0 }))
          ≡ or_all_pinned (i - 1 + pick b 1 (looked has (suc i) more + 1)) (get_or residents (pick b (last_of t xs i) (search t xs (suc i) more)) 0)
      go true e rest =
          let n : i - 1 + 1 ≡ i = omega arith in
          rw (n, none_at (last_of t xs i), e)
      go false e rest =
          let n : suc i - 1 + looked has (suc i) more ≡ i - 1 + (looked has (suc i) more + 1) = omega arith in
          rest
          ∙ ap (λ j. or_all_pinned (j - 1 + looked has j more) (get_or residents (search t xs j more) 0)) (add-one i)
          ∙ ap (λ c. or_all_pinned c (get_or residents (search t xs (suc i) more) 0)) n
