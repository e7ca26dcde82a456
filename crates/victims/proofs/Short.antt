-- How many entries the search looks at: the ends of Cmax chains and of the stack, and of the pinned residents each once in its chain and
-- once in the stack at most. Assumes nothing.
use Prim.Native.Nat.{ℕ, zero, suc, ◌+◌, ◌-◌, ◌*◌, ◌≤◌}
use Rattle.std.specs.Prelude.{◌≡◌, Bool, ◌&&◌, leb, eqb, length}
use Rattle.std.proofs.Math.Path.{refl, sym, ap, ap₂}
use Rattle.std.proofs.Common.{◌∙◌, eq-eqb, ne_eqb, le-leb}
use Rattle.std.proofs.Math.Bool.{true, false}
use mathlib.Core.List.{List, [], ◌∷◌, map}
use native.Mathlib.Omega.{arith}
use Rattle.std.proofs.Math.Decide.{dec_le}
use Rattle.std.proofs.lemmas.Bool.{lt-leb}
use Rattle.basics.specs.Basics.{All, pick, bit}
use Rattle.basics.specs.Lists.{those}
use Rattle.basics.specs.ListLaws.{length_those}
use Rattle.links.specs.Run.{Back}
use Rattle.links.specs.Sift.{sift, put}
use Rattle.links.proofs.Chains.{chain, chain_sift, keyed}
use Rattle.words.specs.Words.{val}
use Rattle.settings.specs.declared.Settings.{Settings}
use Rattle.stack.specs.Recency.{Resident}
use Rattle.layout.specs.Addresses.{TAIL, COUNT, MODIFIED, TO-HEAD, CHAIN-TO-HEAD, chain_tail}
use Rattle.layout.specs.ModifiedWord.{marks_in}
use Rattle.word_ops.specs.Lists.{word_of}
use Rattle.word_ops.specs.Mark.{is_pinned}
use Rattle.word_ops.specs.Victim.{reaches, is_pinned_entry, chain_last}
use Rattle.victims.specs.Linked.{Linked, Worded}
use Rattle.victims.specs.Found.{entries, stack_back, chain_back}

-- the entries that a walk of `Victim.over_pinned` looks at: the pinned ones that it passes, and what it ends at, be it the list's end
unfoldable pub looked_over : List ℕ → ℕ → ℕ → ℕ → ℕ → ℕ → ℕ
looked_over w at section k zero e = 0
looked_over w at section k (suc links) e =
    let further = looked_over w at section k links (val w (word_of at e k)) in
    pick (reaches w at section e && is_pinned_entry w at e) (further + 1) 1

-- those of the search, `Victim.victim_from`: in `more` chains from that of count i on, up to the first with a victim; else in the stack too
unfoldable pub looked_from : List ℕ → ℕ → ℕ → ℕ → ℕ → ℕ
unfolding looked_over
looked_from w at links zero i = looked_over w at 0 TO-HEAD links (val w TAIL)
looked_from w at links (suc more) i =
    let here = looked_over w at 2 CHAIN-TO-HEAD links (val w (chain_tail i)) in
    let further = looked_from w at links more (i + 1) in
    pick (eqb (chain_last w at links i) 0) (here + further) here

-- how many pass a test
abbrev number : (ℕ → Bool) → List ℕ → ℕ
number test xs = length (sift test xs)

length_put : (b : Bool) (x : ℕ) (xs : List ℕ) → length (put b x xs) ≡ bit b + length xs
length_put true x xs = omega arith
length_put false x xs = omega arith

number_put : (test : ℕ → Bool) (b : Bool) (x : ℕ) (xs : List ℕ) → number test (put b x xs) ≡ bit (test x && b) + number test xs
number_put test true x xs = go (test x)
  where
    go : (t : Bool) → length (put t x (sift test xs)) ≡ bit (t && true) + number test xs
    go true = omega arith
    go false = omega arith
number_put test false x xs = go (test x)
  where
    go : (t : Bool) → number test xs ≡ bit (t && false) + number test xs
    go true = omega arith
    go false = omega arith

-- ---- one walk

module _ (w : List ℕ) (at section k : ℕ) where
  -- passes no more pinned ones than the list has
  walk_from_lem : (ys : List ℕ) (a t n : ℕ) → 1 ≤ n → ((links : ℕ) → looked_over w at section k links a ≤ n)
      → Back (λ e. val w (word_of at e k)) a ys t
      → (links : ℕ) → looked_over w at section k links t ≤ number (is_pinned_entry w at) ys + n
  unfolding looked_over
  walk_from_lem [] a t n some h b links = rw b (omega (arith, h links))
  walk_from_lem (e ∷ ys) a t n some h b links =
      let more = length_put (is_pinned_entry w at e) e (sift (is_pinned_entry w at) ys) in
      omega (arith, more, walk_from_lem ys e t (bit (is_pinned_entry w at e) + n) (omega arith) at_e b.1 links)
    where
      at_e : (links : ℕ) → looked_over w at section k links e ≤ bit (is_pinned_entry w at e) + n
      at_e zero = omega arith
      at_e (suc links) = rw b.0 (go (reaches w at section e) (is_pinned_entry w at e) (h links))
        where
          go : (r p : Bool) → looked_over w at section k links a ≤ n → pick (r && p) (looked_over w at section k links a + 1) 1 ≤ bit p + n
          go true true l = omega arith
          go true false l = omega arith
          go false p l = omega arith

  -- A WALK IS SHORT
  walk_short : (ys : List ℕ) (t links : ℕ) → Back (λ e. val w (word_of at e k)) 0 ys t
      → looked_over w at section k links t ≤ number (is_pinned_entry w at) ys + 1
  unfolding looked_over reaches
  walk_short ys t links b = walk_from_lem ys 0 t 1 (omega arith) at_none b links
    where
      at_none : (links : ℕ) → looked_over w at section k links 0 ≤ 1
      at_none zero = omega arith
      at_none (suc links) = omega arith

-- ---- chain after chain

-- those of key i, and those of a greater one
split_key : (test : ℕ → Bool) (key : ℕ → ℕ) (i : ℕ) (xs : List ℕ)
    → number test (chain key i xs) + number (λ x. test x && leb (i + 1) (key x)) xs ≤ number (λ x. test x && leb i (key x)) xs
split_key test key i xs = rw (chain_sift key i xs) (go xs)
  where
    -- a key is i, or greater, or neither
    keys : (n : ℕ) → Dec (i ≤ n) → Dec (i + 1 ≤ n) → bit (eqb n i) + bit (leb (i + 1) n) ≤ bit (leb i n)
    keys n (no a) (yes c) = absurd (omega arith)
    keys n (no a) (no c) = rw (ne_eqb n i (λ e. omega arith), lt-leb i n (omega arith), lt-leb (i + 1) n (omega arith)) (omega arith)
    keys n (yes a) (yes c) = rw (ne_eqb n i (λ e. omega arith), le-leb i n a, le-leb (i + 1) n c) (omega arith)
    keys n (yes a) (no c) = rw (eq-eqb n i (omega arith), le-leb i n a, lt-leb (i + 1) n (omega arith)) (omega arith)

    go : (xs : List ℕ)
        → number test (sift (keyed key i) xs) + number (λ x. test x && leb (i + 1) (key x)) xs ≤ number (λ x. test x && leb i (key x)) xs
    go [] = omega arith
    go (x ∷ xs) =
        rw (
          number_put test (keyed key i x) x (sift (keyed key i) xs),
          length_put (test x && leb (i + 1) (key x)) x (sift (λ x. test x && leb (i + 1) (key x)) xs),
          length_put (test x && leb i (key x)) x (sift (λ x. test x && leb i (key x)) xs),
        ) (by_test (test x) (go xs))
      where
        by_test : (t : Bool)
            → number test (sift (keyed key i) xs) + number (λ x. test x && leb (i + 1) (key x)) xs ≤ number (λ x. test x && leb i (key x)) xs
            → bit (t && keyed key i x) + number test (sift (keyed key i) xs)
            + (bit (t && leb (i + 1) (key x)) + number (λ x. test x && leb (i + 1) (key x)) xs)
            ≤ bit (t && leb i (key x)) + number (λ x. test x && leb i (key x)) xs
        by_test true h = omega (arith, keys (key x) (dec_le i (key x)) (dec_le (i + 1) (key x)))
        by_test false h = omega arith

-- some of those that pass a test
number_some : (test some : ℕ → Bool) (xs : List ℕ) → number (λ x. test x && some x) xs ≤ number test xs
number_some test some [] = omega arith
number_some test some (x ∷ xs) = go (test x) (some x) (number_some test some xs)
  where
    go : (t b : Bool) → number (λ x. test x && some x) xs ≤ number test xs
        → length (put (t && b) x (sift (λ x. test x && some x) xs)) ≤ length (put t x (sift test xs))
    go true true h = omega arith
    go true false h = omega arith
    go false b h = h

-- ---- the search

module _ (t : Settings) (w : List ℕ) (at links N cmax : ℕ) (D : ℕ → ℕ → ℕ) (tail : ℕ) (tails : ℕ → ℕ) (residents : List ℕ)
    (g : Linked N t.nnew (t.n - t.nold) cmax D tail tails residents) (v : Worded N cmax D tail tails w at) (enough : N ≤ links) where
  -- the pinned residents, and those of them whose count is i or more
  abbrev pinned_ones : ℕ
  pinned_ones = number (is_pinned_entry w at) residents

  abbrev pinned_from : ℕ → ℕ
  pinned_from i = number (λ e. is_pinned_entry w at e && leb i (D COUNT e)) residents

  short_from : (more i : ℕ) → 1 ≤ i → i + more ≡ cmax + 1 → looked_from w at links more i ≤ more + 1 + pinned_from i + pinned_ones
  unfolding looked_from
  short_from zero i o q =
      omega
      (arith, walk_short w at 0 TO-HEAD residents (val w TAIL) links (stack_back t w at links N cmax D tail tails residents g v enough))
  short_from (suc more) i o q =
      go (eqb (chain_last w at links i) 0)
      (walk_short w at 2 CHAIN-TO-HEAD (chain (D COUNT) i residents) (val w (chain_tail i)) links
      (chain_back t w at links N cmax D tail tails residents g v enough i (o, omega arith)))
      (short_from more (i + 1) (omega arith) (omega arith))
    where
      here : ℕ
      here = looked_over w at 2 CHAIN-TO-HEAD links (val w (chain_tail i))

      go : (none : Bool) → here ≤ number (is_pinned_entry w at) (chain (D COUNT) i residents) + 1
          → looked_from w at links more (i + 1) ≤ more + 1 + pinned_from (i + 1) + pinned_ones
          → pick none (here + looked_from w at links more (i + 1)) here ≤ suc more + 1 + pinned_from i + pinned_ones
      go true h further = omega (arith, split_key (is_pinned_entry w at) (D COUNT) i residents)
      go false h further = omega (arith, split_key (is_pinned_entry w at) (D COUNT) i residents)

  -- the residents r e that the fields stand for, those of them that are pinned
  module _ (r : ℕ → Resident ℕ) (marks_are : (e : ℕ) → (r e).marks.pinned ≡ (marks_in (D MODIFIED e)).pinned) where
    pinned_same : (ys : List ℕ) → All (λ x. (1 ≤ x) × (x ≤ N)) ys
        → number (is_pinned_entry w at) ys ≡ length (those (λ x. x.marks.pinned) (map r ys))
    unfolding is_pinned_entry marks_in those
    pinned_same [] a = refl
    pinned_same (e ∷ ys) a =
        let word_is = v.entries MODIFIED e (omega arith) a.0.0 a.0.1 in
        let mark : is_pinned_entry w at e ≡ (r e).marks.pinned = ap is_pinned word_is ∙ sym (marks_are e) in
        length_put (is_pinned_entry w at e) e (sift (is_pinned_entry w at) ys)
        ∙ ap₂ (λ b n. bit b + n) mark (pinned_same ys a.1)
        ∙ sym (length_those (λ x. x.marks.pinned) (r e) (map r ys))

    -- THE SEARCH IS SHORT
    pub search_short : looked_from w at links cmax 1 ≤ cmax + 1 + 2 * length (those (λ x. x.marks.pinned) (map r residents))
    search_short =
        omega (
          arith,
          short_from cmax 1 (omega arith) (omega arith),
          number_some (is_pinned_entry w at) (λ e. leb 1 (D COUNT e)) residents,
          pinned_same residents (entries t w at links N cmax D tail tails residents g v enough),
        )
