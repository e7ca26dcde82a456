-- How many link words the parts of an operation change: stores of numbers where numbers stood are none, those of the sections of
-- residents that cross a boundary are counted with the links. Assumes nothing.
use Prim.Native.Nat.{ℕ, ◌+◌, ◌*◌, ◌/◌, ◌≤◌, ◌<◌}
use Rattle.std.specs.Prelude.{◌≡◌, refl, Bool, true, false, leb, get_or}
use Rattle.std.proofs.Common.{◌∙◌, ap, arith}
use mathlib.Core.List.{List}
use Rattle.basics.specs.Basics.{pick}
use Rattle.words.specs.Words.{val, set_link, set_number}
use Rattle.words.specs.Links.{is_link}
use Rattle.words.specs.LinkLaws.{Within, within_then, within_more, within_if, one_link, one_number, and_number}
use Rattle.layout.specs.Addresses.{RESIDENTS, SUM, HEAD, TAIL, NEW-BOUNDARY, OLD-BOUNDARY, UNUSED, BLOCK, COUNT, SECTION, MODIFIED, TO-HEAD, TO-TAIL, CHAIN-TO-HEAD, CHAIN-TO-TAIL, chain_head, chain_tail}
use Rattle.linkage.specs.Fields.{Shape, base, Fields, kind, Address, header, in_header, View}
use Rattle.linkage.specs.WellLinked.{Entry}
use Rattle.word_ops.specs.Lists.{unlinked, joined, pushed, put_before, word_of}
use Rattle.word_ops.specs.Hit.{boundary_to, boundary_past, boundary_up, count_set, chain_joined}
use Rattle.word_ops.specs.Purge.{boundary_falls, boundary_down_from, boundary_down, unused_first, chain_links_cleared, blanked}
use Rattle.word_ops.specs.Buckets.{bucket_joined, bucket_left, bucket_left_after}
use Rattle.word_ops.specs.Enter.{boundary_pushed, boundary_pushed_if, stack_entered, filled}
use Rattle.operations.specs.Seen.{address}

-- a word that holds a number
pub number_word : (s : Shape) (w : List ℕ) (D : Fields) (k e a : ℕ) → View s w D → Address s k e a → kind k ≡ 1 → is_link (get_or w a 0) ≡ false
number_word s w D k e a g p h =
    let small : D k e < 268435456 = g.small k e a p in
    let is : get_or w a 0 ≡ 268435456 + D k e = g.holds k e a p ∙ ap (λ (t : ℕ). t * 268435456 + D k e) h in
    let q : (268435456 + D k e) / 268435456 ≡ 1 = omega arith in
    rw (is, q)

pub and_if : (k j : ℕ) (b : Bool) (u v w : List ℕ) → k ≤ j → Within k u v → Within j u w → Within j u (pick b w v)
and_if k j true u v w l g h = h
and_if k j false u v w l g h = within_more k j u v l g

-- ---- of any words

pub unlinked_within : (w : List ℕ) (head tail at e : ℕ) → Within 2 w (unlinked w head tail at e)
unfolding unlinked joined
unlinked_within w head tail at e = within_then 1 1 w _ _ (one_link w _ _) (one_link _ _ _)

pub pushed_within : (w : List ℕ) (head tail at e : ℕ) → Within 4 w (pushed w head tail at e)
unfolding pushed put_before
pushed_within w head tail at e =
    within_then 3 1 w _ _ (within_then 2 1 w _ _ (within_then 1 1 w _ _ (one_link w _ _) (one_link _ _ _)) (one_link _ _ _)) (one_link _ _ _)

pub chain_joined_within : (w : List ℕ) (at cmax e count : ℕ) → Within 4 w (chain_joined w at cmax e count)
unfolding chain_joined
chain_joined_within w at cmax e count = go (leb count cmax)
  where
    go : (b : Bool) → Within 4 w (pick b (pushed w (chain_head count) (chain_tail count) (at + CHAIN-TO-HEAD) e)
        (set_link (set_link w (word_of at e CHAIN-TO-HEAD) 0) (word_of at e CHAIN-TO-TAIL) 0))
    go true = pushed_within w (chain_head count) (chain_tail count) (at + CHAIN-TO-HEAD) e
    go false = within_more 2 4 w _ (omega arith) (within_then 1 1 w _ _ (one_link w _ _) (one_link _ _ _))

pub bucket_left_within : (w : List ℕ) (at links bucket e : ℕ) → Within 2 w (bucket_left w at links bucket e)
unfolding bucket_left bucket_left_after
bucket_left_within w at links bucket e = within_then 1 1 w _ _ (one_link w _ _) (one_link _ _ _)

pub boundary_pushed_within : (w : List ℕ) (at boundary position r : ℕ) → Within 2 w (boundary_pushed_if w at boundary position r)
unfolding boundary_pushed_if boundary_pushed boundary_to
boundary_pushed_within w at boundary position r =
    within_if 2 (leb position r) w _ (within_then 1 1 w _ _ (one_number w _ _) (one_link _ _ _))

pub boundary_down_within : (w : List ℕ) (at boundary : ℕ) (inside : Bool) (e : ℕ) → Within 2 w (boundary_down w at boundary inside e)
unfolding boundary_down boundary_down_from
boundary_down_within w at boundary inside e =
    within_if 2 (boundary_falls inside (val w boundary) e) w _ (within_then 1 1 w _ _ (one_number w _ _) (one_link _ _ _))

pub chain_links_cleared_within : (w : List ℕ) (at e : ℕ) → Within 2 w (chain_links_cleared w at e)
unfolding chain_links_cleared
chain_links_cleared_within w at e = within_then 1 1 w _ _ (one_link w _ _) (one_link _ _ _)

-- ---- since words u that a directory's fields stand in, of one entry

module _ (s : Shape) (u : List ℕ) (D : Fields) (g : View s u D) (e : ℕ) (he : Entry s e) where
  own : (k : ℕ) → k < 9 → kind k ≡ 1 → is_link (get_or u (word_of (base s) e k) 0) ≡ false
  own k l q = number_word s u D k e (word_of (base s) e k) g (address s k e (word_of (base s) e k) l he refl) q

  header_word : (i : ℕ) → i < 24 → ¬ (i ≡ HEAD) → ¬ (i ≡ TAIL) → kind (in_header i) ≡ 1 → is_link (get_or u i 0) ≡ false
  header_word i h1 h2 h3 q = number_word s u D (in_header i) 0 i g (header refl refl h1 h2 h3) q

  pub boundary_up_from : (k : ℕ) (w : List ℕ) (boundary : ℕ) → Within k u w → Within (k + 2) u (boundary_up w (base s) e boundary)
  unfolding boundary_up boundary_past boundary_to
  boundary_up_from k w boundary h =
      within_then k 2 u _ _ (and_number k u w (word_of (base s) e SECTION) _ (own SECTION (omega arith) refl) h)
      (within_then 1 1 _ _ _ (one_number _ _ _) (one_link _ _ _))

  pub count_set_from : (k : ℕ) (w : List ℕ) (count count' : ℕ) → Within k u w → Within k u (count_set w (base s) e count count')
  unfolding count_set
  count_set_from k w count count' h =
      and_number k u _ SUM _ (header_word SUM (omega arith) (omega arith) (omega arith) refl)
      (and_number k u w (word_of (base s) e COUNT) count' (own COUNT (omega arith) refl) h)

  pub marked_from : (k : ℕ) (w : List ℕ) (mark : ℕ) → Within k u w → Within k u (set_number w (word_of (base s) e MODIFIED) mark)
  marked_from k w mark h = and_number k u w (word_of (base s) e MODIFIED) mark (own MODIFIED (omega arith) refl) h

  pub filled_from : (k : ℕ) (w : List ℕ) (bucket block mark : ℕ) → Within k u w → Within (k + 2) u (filled w (base s) bucket e block mark)
  unfolding filled bucket_joined
  filled_from k w bucket block mark h =
      within_then k 2 u _ _ (and_number k u _ (word_of (base s) e BLOCK) block (own BLOCK (omega arith) refl) (marked_from k w mark h))
      (within_then 1 1 _ _ _ (one_link _ _ _) (one_link _ _ _))

  pub stack_entered_from : (new old r : ℕ) → Within 9 u (stack_entered u (base s) new old e r)
  unfolding stack_entered
  stack_entered_from new old r =
      let at : ℕ = base s in
      let w1 : List ℕ = set_link u UNUSED (val u (word_of at e TO-TAIL)) in
      let w2 : List ℕ = pushed w1 HEAD TAIL (at + TO-HEAD) e in
      let w3 : List ℕ = boundary_pushed_if w2 at OLD-BOUNDARY old r in
      let w4 : List ℕ = boundary_pushed_if w3 at NEW-BOUNDARY new r in
      let a2 : Within 5 u w2 = within_then 1 4 u w1 w2 (one_link u _ _) (pushed_within w1 HEAD TAIL (at + TO-HEAD) e) in
      let a3 : Within 7 u w3 = within_then 5 2 u w2 w3 a2 (boundary_pushed_within w2 at OLD-BOUNDARY old r) in
      let a4 : Within 9 u w4 = within_then 7 2 u w3 w4 a3 (boundary_pushed_within w3 at NEW-BOUNDARY new r) in
      and_number 9 u w4 RESIDENTS (r + 1) (header_word RESIDENTS (omega arith) (omega arith) (omega arith) refl) a4

  pub unused_first_from : (k : ℕ) (w : List ℕ) → Within k u w → Within (k + 3) u (unused_first w (base s) e)
  unfolding unused_first
  unused_first_from k w h =
      and_number (k + 3) u _ RESIDENTS _ (header_word RESIDENTS (omega arith) (omega arith) (omega arith) refl)
      (within_then k 3 u _ _ (and_number k u w (word_of (base s) e SECTION) 0 (own SECTION (omega arith) refl) h)
      (within_then 2 1 _ _ _ (within_then 1 1 _ _ _ (one_link _ _ _) (one_link _ _ _)) (one_link _ _ _)))

  pub blanked_from : (k : ℕ) (w : List ℕ) (count : ℕ) → Within k u w → Within k u (blanked w (base s) e count)
  unfolding blanked
  blanked_from k w count h =
      and_number k u _ SUM _ (header_word SUM (omega arith) (omega arith) (omega arith) refl)
      (and_number k u _ (word_of (base s) e COUNT) 0 (own COUNT (omega arith) refl)
      (and_number k u _ (word_of (base s) e MODIFIED) 0 (own MODIFIED (omega arith) refl)
      (and_number k u w (word_of (base s) e BLOCK) 0 (own BLOCK (omega arith) refl) h)))
