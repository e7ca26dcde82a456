-- A hit as stores, in the order of the code. `at` is where the entries' words go up from. Assumes nothing.
use Rattle.std.specs.Prelude.{ℕ, ◌+◌, ◌-◌, not, List, eqb, leb, ltb}
use Rattle.basics.specs.Basics.{pick}
use Rattle.words.specs.Words.{val, set_link, set_number}
use Rattle.layout.specs.Addresses.{SUM, HEAD, TAIL, NEW-BOUNDARY, OLD-BOUNDARY, COUNT, SECTION, TO-HEAD, CHAIN-TO-HEAD, CHAIN-TO-TAIL, chain_head, chain_tail}
use Rattle.word_ops.specs.Lists.{word_of, unlinked, pushed, moved_to_front}

-- e1, or e2 where e1 is none
abbrev pub or_else : ℕ → ℕ → ℕ
or_else e1 e2 = pick (eqb e1 0) e2 e1

-- the count after a hit on a resident of a section
abbrev pub raised_count : ℕ → ℕ → ℕ
raised_count section count = pick (eqb section 0) count (pick (ltb count 65535) (count + 1) count)

-- ---- boundaries: words 11 and 12

-- the section that begins at a boundary now begins with n, which crosses into it
unfoldable pub boundary_to : List ℕ → ℕ → ℕ → ℕ → List ℕ
boundary_to w at boundary n = set_link (set_number w (word_of at n SECTION) (val w (word_of at n SECTION) + 1)) boundary n

-- and e, from there or below, crosses out of it
unfoldable pub boundary_past : List ℕ → ℕ → ℕ → ℕ → ℕ → List ℕ
boundary_past w at e boundary n = boundary_to (set_number w (word_of at e SECTION) (val w (word_of at e SECTION) - 1)) at boundary n

-- e goes to the front from the boundary or below: the boundary moves one resident towards the head, or to e where there is none
unfoldable pub boundary_up : List ℕ → ℕ → ℕ → ℕ → List ℕ
boundary_up w at e boundary = boundary_past w at e boundary (or_else (val w (word_of at (val w boundary) TO-HEAD)) e)

unfoldable pub new_boundary_up : List ℕ → ℕ → ℕ → ℕ → List ℕ
new_boundary_up w at e section = pick (not (eqb section 0)) (boundary_up w at e NEW-BOUNDARY) w

unfoldable pub old_boundary_up : List ℕ → ℕ → ℕ → ℕ → List ℕ
old_boundary_up w at e section = pick (eqb section 2) (boundary_up w at e OLD-BOUNDARY) w

unfoldable pub boundaries_up : List ℕ → ℕ → ℕ → ℕ → List ℕ
boundaries_up w at e section = new_boundary_up (old_boundary_up w at e section) at e section

-- ---- counts and chains

-- e taken out of the chain of its count, if that has one
unfoldable pub chain_left : List ℕ → ℕ → ℕ → ℕ → ℕ → List ℕ
chain_left w at cmax e count = pick (leb count cmax) (unlinked w (chain_head count) (chain_tail count) (at + CHAIN-TO-HEAD) e) w

-- the count of e, and the sum with it
unfoldable pub count_set : List ℕ → ℕ → ℕ → ℕ → ℕ → List ℕ
count_set w at e count count' = set_number (set_number w (word_of at e COUNT) count') SUM (val w SUM + count' - count)

-- e the first of the chain of its count, or in none
unfoldable pub chain_joined : List ℕ → ℕ → ℕ → ℕ → ℕ → List ℕ
chain_joined w at cmax e count =
    pick (leb count cmax) (pushed w (chain_head count) (chain_tail count) (at + CHAIN-TO-HEAD) e)
    (set_link (set_link w (word_of at e CHAIN-TO-HEAD) 0) (word_of at e CHAIN-TO-TAIL) 0)

unfoldable pub recounted : List ℕ → ℕ → ℕ → ℕ → ℕ → ℕ → List ℕ
recounted w at cmax e count count' = chain_joined (count_set (chain_left w at cmax e count) at e count count') at cmax e count'

-- ---- the hit

-- e, of that section, to the front of the stack
unfoldable pub to_front : List ℕ → ℕ → ℕ → ℕ → List ℕ
to_front w at e section = moved_to_front (boundaries_up w at e section) HEAD TAIL (at + TO-HEAD) e

unfoldable pub hit_from : List ℕ → ℕ → ℕ → ℕ → ℕ → ℕ → List ℕ
hit_from w at cmax e section count = recounted (to_front w at e section) at cmax e count (raised_count section count)

unfoldable pub hit : List ℕ → ℕ → ℕ → ℕ → List ℕ
hit w at cmax e = hit_from w at cmax e (val w (word_of at e SECTION)) (val w (word_of at e COUNT))
