-- A purge as stores, in the order of the code. Assumes nothing.
use Rattle.std.specs.Prelude.{ℕ, ◌+◌, ◌-◌, Bool, not, ◌&&◌, ◌||◌, List, eqb}
use Rattle.basics.specs.Basics.{pick}
use Rattle.words.specs.Words.{val, set_link, set_number}
use Rattle.layout.specs.Addresses.{RESIDENTS, SUM, HEAD, TAIL, NEW-BOUNDARY, OLD-BOUNDARY, UNUSED, BLOCK, COUNT, SECTION, MODIFIED, TO-HEAD, TO-TAIL, CHAIN-TO-HEAD, CHAIN-TO-TAIL}
use Rattle.word_ops.specs.Lists.{word_of, unlinked}
use Rattle.word_ops.specs.Hit.{chain_left}
use Rattle.word_ops.specs.Buckets.{bucket_left}

-- whether the boundary at resident b moves when e leaves: e stands at it, or above it (`inside` says that e is at it or below)
abbrev pub boundary_falls : Bool → ℕ → ℕ → Bool
boundary_falls inside b e = not (eqb b 0) && (not inside || eqb b e)

-- the boundary moves one resident towards the tail, and b crosses out of its section
unfoldable pub boundary_down_from : List ℕ → ℕ → ℕ → ℕ → List ℕ
boundary_down_from w at boundary b =
    set_link (set_number w (word_of at b SECTION) (val w (word_of at b SECTION) - 1)) boundary (val w (word_of at b TO-TAIL))

unfoldable pub boundary_down : List ℕ → ℕ → ℕ → Bool → ℕ → List ℕ
boundary_down w at boundary inside e = pick (boundary_falls inside (val w boundary) e) (boundary_down_from w at boundary (val w boundary)) w

unfoldable pub boundaries_down : List ℕ → ℕ → ℕ → ℕ → List ℕ
boundaries_down w at e section =
    boundary_down (boundary_down w at OLD-BOUNDARY (eqb section 2) e) at NEW-BOUNDARY (not (eqb section 0)) e

-- e, out of the stack, becomes the first unused entry
unfoldable pub unused_first : List ℕ → ℕ → ℕ → List ℕ
unused_first w at e =
    set_number
    (set_link
    (set_link (set_link (set_number w (word_of at e SECTION) 0) (word_of at e TO-HEAD) 0) (word_of at e TO-TAIL) (val w UNUSED))
    UNUSED e)
    RESIDENTS (val w RESIDENTS - 1)

unfoldable pub stack_left : List ℕ → ℕ → ℕ → ℕ → List ℕ
stack_left w at e section = unused_first (unlinked (boundaries_down w at e section) HEAD TAIL (at + TO-HEAD) e) at e

-- its chain links 0
unfoldable pub chain_links_cleared : List ℕ → ℕ → ℕ → List ℕ
chain_links_cleared w at e = set_link (set_link w (word_of at e CHAIN-TO-HEAD) 0) (word_of at e CHAIN-TO-TAIL) 0

unfoldable pub unchained : List ℕ → ℕ → ℕ → ℕ → ℕ → List ℕ
unchained w at cmax e count = chain_links_cleared (chain_left w at cmax e count) at e

-- block, modified word and count 0
unfoldable pub blanked : List ℕ → ℕ → ℕ → ℕ → List ℕ
blanked w at e count =
    set_number (set_number (set_number (set_number w (word_of at e BLOCK) 0) (word_of at e MODIFIED) 0) (word_of at e COUNT) 0) SUM (val w SUM - count)

unfoldable pub purged_from : List ℕ → ℕ → ℕ → ℕ → ℕ → ℕ → ℕ → ℕ → List ℕ
purged_from w at cmax links bucket e section count =
    blanked (bucket_left (unchained (stack_left w at e section) at cmax e count) at links bucket e) at e count

-- entry e, whose block is in the bucket at that word, becomes unused
unfoldable pub purged : List ℕ → ℕ → ℕ → ℕ → ℕ → ℕ → List ℕ
purged w at cmax links bucket e =
    purged_from w at cmax links bucket e (val w (word_of at e SECTION)) (val w (word_of at e COUNT))
