-- A block enters an unused entry, or that of the victim, as stores in the order of the code. Assumes nothing.
use Rattle.std.specs.Prelude.{ℕ, ◌+◌, List, leb}
use Rattle.basics.specs.Basics.{pick}
use Rattle.words.specs.Words.{val, set_link, set_number}
use Rattle.layout.specs.Addresses.{RESIDENTS, HEAD, TAIL, NEW-BOUNDARY, OLD-BOUNDARY, UNUSED, COUNT, SECTION, MODIFIED, TO-HEAD, TO-TAIL}
use Rattle.word_ops.specs.Lists.{word_of, slot_of, pushed}
use Rattle.word_ops.specs.Hit.{boundary_to, count_set, chain_joined, recounted, to_front}
use Rattle.word_ops.specs.Buckets.{bucket_joined, bucket_left}

-- ---- an unused entry

-- One more stands above the resident at a boundary: the boundary moves to the one above that, or to the tail where there was none.
unfoldable pub boundary_pushed : List ℕ → ℕ → ℕ → List ℕ
boundary_pushed w at boundary = boundary_to w at boundary (val w (slot_of TAIL (at + TO-HEAD) (val w boundary) 0))

-- where the section begins at a position, and r stood in the stack
unfoldable pub boundary_pushed_if : List ℕ → ℕ → ℕ → ℕ → ℕ → List ℕ
boundary_pushed_if w at boundary position r = pick (leb position r) (boundary_pushed w at boundary) w

-- the first unused entry, e, goes to the front of a stack of r
unfoldable pub stack_entered : List ℕ → ℕ → ℕ → ℕ → ℕ → ℕ → List ℕ
stack_entered w at new old e r =
    set_number
    (boundary_pushed_if
    (boundary_pushed_if (pushed (set_link w UNUSED (val w (word_of at e TO-TAIL))) HEAD TAIL (at + TO-HEAD) e) at OLD-BOUNDARY old r)
    at NEW-BOUNDARY new r)
    RESIDENTS (r + 1)

-- the modified word and the block of e
unfoldable pub filled : List ℕ → ℕ → ℕ → ℕ → ℕ → ℕ → List ℕ
filled w at bucket e block mark = bucket_joined (set_number w (word_of at e MODIFIED) mark) at bucket e block

unfoldable pub entered_as : List ℕ → ℕ → ℕ → ℕ → ℕ → ℕ → ℕ → ℕ → ℕ → ℕ → List ℕ
entered_as w at cmax new old bucket e r block mark =
    filled (chain_joined (count_set (stack_entered w at new old e r) at e 0 1) at cmax e 1) at bucket e block mark

-- a block, with the head of its bucket, enters the first unused entry
unfoldable pub entered : List ℕ → ℕ → ℕ → ℕ → ℕ → ℕ → ℕ → ℕ → List ℕ
entered w at cmax new old bucket block mark = entered_as w at cmax new old bucket (val w UNUSED) (val w RESIDENTS) block mark

-- ---- the victim's entry

unfoldable pub replaced_from : List ℕ → ℕ → ℕ → ℕ → ℕ → ℕ → ℕ → ℕ → ℕ → ℕ → ℕ → List ℕ
replaced_from w at cmax links from to e section count block mark =
    filled (bucket_left (recounted (to_front w at e section) at cmax e count 1) at links from e) at to e block mark

-- a block, whose bucket's head is the word `to`, takes over entry e, whose block is in the bucket at the word `from`
unfoldable pub replaced : List ℕ → ℕ → ℕ → ℕ → ℕ → ℕ → ℕ → ℕ → ℕ → List ℕ
replaced w at cmax links from to e block mark =
    replaced_from w at cmax links from to e (val w (word_of at e SECTION)) (val w (word_of at e COUNT)) block mark
