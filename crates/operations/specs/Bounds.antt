-- How many link words an operation changes, of words that the fields of a directory stand in. Assumes nothing.
use Prim.Native.Nat.{ℕ, ◌+◌, ◌<◌}
use Rattle.std.specs.Prelude.{◌≡◌, Bool, true, false, not, eqb, leb}
use Rattle.std.proofs.Math.Path.{refl}
use mathlib.Core.List.{List}
use Rattle.std.proofs.Common.{arith}
use Rattle.basics.specs.Basics.{pick}
use Rattle.words.specs.Words.{val, set_number}
use Rattle.words.specs.LinkLaws.{Within, within_none, within_then, and_number}
use Rattle.layout.specs.Addresses.{RESIDENTS, HEAD, TAIL, NEW-BOUNDARY, OLD-BOUNDARY, UNUSED, READS, WRITES, INS, OUTS, COUNT, SECTION, TO-HEAD, CHAIN-TO-HEAD, chain_head, chain_tail}
use Rattle.linkage.specs.Fields.{Shape, base, Fields, kind, header, in_header, View}
use Rattle.linkage.specs.WellLinked.{Entry}
use Rattle.word_ops.specs.Lists.{word_of, unlinked, pushed, moved_to_front}
use Rattle.word_ops.specs.Hit.{raised_count, boundary_up, old_boundary_up, new_boundary_up, boundaries_up, chain_left, count_set, chain_joined, recounted, to_front, hit_from, hit}
use Rattle.word_ops.specs.Purge.{boundary_down, boundaries_down, unused_first, stack_left, chain_links_cleared, unchained, purged_from, purged}
use Rattle.word_ops.specs.Buckets.{bucket_left}
use Rattle.word_ops.specs.Enter.{stack_entered, entered_as, entered, replaced_from, replaced}
use Rattle.word_ops.specs.Totals.{total_raised}
use Rattle.operations.specs.BoundParts.{number_word, and_if, unlinked_within, pushed_within, chain_joined_within, bucket_left_within, boundary_down_within, chain_links_cleared_within, boundary_up_from, count_set_from, filled_from, stack_entered_from, unused_first_from, blanked_from}

module _ (s : Shape) (w : List ℕ) (D : Fields) (g : View s w D) where
  -- a resident goes to the front, and takes another count
  recounted_within : (e section count count' : ℕ) → Entry s e
      → Within 16 w (recounted (to_front w (base s) e section) (base s) s.cmax e count count')
  unfolding recounted to_front boundaries_up old_boundary_up new_boundary_up moved_to_front chain_left
  recounted_within e section count count' he =
      let at : ℕ = base s in
      let w1 : List ℕ = old_boundary_up w at e section in
      let w2 : List ℕ = new_boundary_up w1 at e section in
      let w3 : List ℕ = unlinked w2 HEAD TAIL (at + TO-HEAD) e in
      let w4 : List ℕ = pushed w3 HEAD TAIL (at + TO-HEAD) e in
      let w5 : List ℕ = chain_left w4 at s.cmax e count in
      let w6 : List ℕ = count_set w5 at e count count' in
      let w7 : List ℕ = chain_joined w6 at s.cmax e count' in
      let a0 : Within 0 w w = within_none w in
      let a1 : Within 2 w w1 = and_if 0 2 (eqb section 2) w w (boundary_up w at e OLD-BOUNDARY) (omega arith) a0
      (boundary_up_from s w D g e he 0 w OLD-BOUNDARY a0) in
      let a2 : Within 4 w w2 = and_if 2 4 (not (eqb section 0)) w w1 (boundary_up w1 at e NEW-BOUNDARY) (omega arith) a1
      (boundary_up_from s w D g e he 2 w1 NEW-BOUNDARY a1) in
      let a3 : Within 6 w w3 = within_then 4 2 w w2 w3 a2 (unlinked_within w2 HEAD TAIL (at + TO-HEAD) e) in
      let a4 : Within 10 w w4 = within_then 6 4 w w3 w4 a3 (pushed_within w3 HEAD TAIL (at + TO-HEAD) e) in
      let a5 : Within 12 w w5 = and_if 10 12 (leb count s.cmax) w w4 (unlinked w4 (chain_head count) (chain_tail count) (at + CHAIN-TO-HEAD) e)
      (omega arith) a4 (within_then 10 2 w w4 _ a4 (unlinked_within w4 (chain_head count) (chain_tail count) (at + CHAIN-TO-HEAD) e)) in
      let a6 : Within 12 w w6 = count_set_from s w D g e he 12 w5 count count' a5 in
      within_then 12 4 w w6 w7 a6 (chain_joined_within w6 at s.cmax e count')

  -- A HIT: 14 stores of links, and 2 of section numbers
  pub hit_within : (e : ℕ) → Entry s e → Within 16 w (hit w (base s) s.cmax e)
  unfolding hit hit_from
  hit_within e he =
      let section : ℕ = val w (word_of (base s) e SECTION) in
      let count : ℕ = val w (word_of (base s) e COUNT) in
      recounted_within e section count (raised_count section count) he

  -- A REPLACEMENT: 18 stores of links, and 2 of section numbers
  pub replace_within : (links from to e block mark : ℕ) → Entry s e → Within 20 w (replaced w (base s) s.cmax links from to e block mark)
  unfolding replaced replaced_from
  replace_within links from to e block mark he =
      let at : ℕ = base s in
      let section : ℕ = val w (word_of at e SECTION) in
      let count : ℕ = val w (word_of at e COUNT) in
      let w1 : List ℕ = recounted (to_front w at e section) at s.cmax e count 1 in
      let w2 : List ℕ = bucket_left w1 at links from e in
      filled_from s w D g e he 18 w2 to block mark (within_then 16 2 w w1 w2 (recounted_within e section count 1 he)
      (bucket_left_within w1 at links from e))

  -- AN ENTRY: 13 stores of links, and 2 of section numbers
  pub enter_within : (new old bucket block mark : ℕ) → Entry s (val w UNUSED) → Within 15 w (entered w (base s) s.cmax new old bucket block mark)
  unfolding entered entered_as
  enter_within new old bucket block mark he =
      let at : ℕ = base s in
      let e : ℕ = val w UNUSED in
      let w1 : List ℕ = stack_entered w at new old e (val w RESIDENTS) in
      let w2 : List ℕ = count_set w1 at e 0 1 in
      let w3 : List ℕ = chain_joined w2 at s.cmax e 1 in
      let a2 : Within 9 w w2 = count_set_from s w D g e he 9 w1 0 1 (stack_entered_from s w D g e he new old (val w RESIDENTS)) in
      filled_from s w D g e he 13 w3 bucket block mark (within_then 9 4 w w2 w3 a2 (chain_joined_within w2 at s.cmax e 1))

  -- A PURGE: 13 stores of links, and 2 of section numbers
  pub purge_within : (links bucket e : ℕ) → Entry s e → Within 15 w (purged w (base s) s.cmax links bucket e)
  unfolding purged purged_from stack_left boundaries_down unchained chain_left
  purge_within links bucket e he =
      let at : ℕ = base s in
      let section : ℕ = val w (word_of at e SECTION) in
      let count : ℕ = val w (word_of at e COUNT) in
      let w1 : List ℕ = boundary_down w at OLD-BOUNDARY (eqb section 2) e in
      let w2 : List ℕ = boundary_down w1 at NEW-BOUNDARY (not (eqb section 0)) e in
      let w3 : List ℕ = unlinked w2 HEAD TAIL (at + TO-HEAD) e in
      let w4 : List ℕ = unused_first w3 at e in
      let w5 : List ℕ = chain_left w4 at s.cmax e count in
      let w6 : List ℕ = chain_links_cleared w5 at e in
      let w7 : List ℕ = bucket_left w6 at links bucket e in
      let a2 : Within 4 w w2 = within_then 2 2 w w1 w2 (boundary_down_within w at OLD-BOUNDARY (eqb section 2) e)
      (boundary_down_within w1 at NEW-BOUNDARY (not (eqb section 0)) e) in
      let a3 : Within 6 w w3 = within_then 4 2 w w2 w3 a2 (unlinked_within w2 HEAD TAIL (at + TO-HEAD) e) in
      let a4 : Within 9 w w4 = unused_first_from s w D g e he 6 w3 a3 in
      let a5 : Within 11 w w5 = and_if 9 11 (leb count s.cmax) w w4 (unlinked w4 (chain_head count) (chain_tail count) (at + CHAIN-TO-HEAD) e)
      (omega arith) a4 (within_then 9 2 w w4 _ a4 (unlinked_within w4 (chain_head count) (chain_tail count) (at + CHAIN-TO-HEAD) e)) in
      let a6 : Within 13 w w6 = within_then 11 2 w w5 w6 a5 (chain_links_cleared_within w5 at e) in
      let a7 : Within 15 w w7 = within_then 13 2 w w6 w7 a6 (bucket_left_within w6 at links bucket e) in
      blanked_from s w D g e he 15 w7 count a7

  -- A TOTAL: its words are numbers
  pub total_within : (low : ℕ) → 15 < low → low + 1 < 24 → kind (in_header low) ≡ 1 → kind (in_header (low + 1)) ≡ 1
      → Within 0 w (total_raised w low (low + 1))
  unfolding total_raised
  total_within low h1 h2 k1 k2 = go (eqb (val w low) 268435455)
    where
      one : (v : ℕ) → Within 0 w (set_number w low v)
      one v =
          and_number 0 w w low v (number_word s w D (in_header low) 0 low g (header refl refl (omega arith) (omega arith) (omega arith)) k1)
          (within_none w)

      go : (b : Bool) → Within 0 w (pick b (set_number (set_number w low 0) (low + 1) (val w (low + 1) + 1)) (set_number w low (val w low + 1)))
      go true =
          and_number 0 w _ (low + 1) _ (number_word s w D (in_header (low + 1)) 0 (low + 1) g (header refl refl h2 (omega arith) (omega arith)) k2)
          (one 0)
      go false = one (val w low + 1)

  pub reads_within : Within 0 w (total_raised w READS (READS + 1))
  reads_within = total_within READS (omega arith) (omega arith) refl refl

  pub writes_within : Within 0 w (total_raised w WRITES (WRITES + 1))
  writes_within = total_within WRITES (omega arith) (omega arith) refl refl

  pub ins_within : Within 0 w (total_raised w INS (INS + 1))
  ins_within = total_within INS (omega arith) (omega arith) refl refl

  pub outs_within : Within 0 w (total_raised w OUTS (OUTS + 1))
  outs_within = total_within OUTS (omega arith) (omega arith) refl refl
