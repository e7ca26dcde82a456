-- A doubly linked list in words: the link of entry e towards the head stands at `at + 9 × e`, the one towards the tail in the next
-- word; head and tail of the list are words of their own. Assumes nothing.
use Rattle.std.specs.Prelude.{ℕ, ◌+◌, ◌*◌, List, eqb}
use Rattle.basics.specs.Basics.{pick}
use Rattle.words.specs.Words.{val, set_link}

-- word k of entry e, where the entries' words go up from `at`
abbrev pub word_of : ℕ → ℕ → ℕ → ℕ
word_of at e k = at + 9 * e + k

-- the same, or the anchor where e is none
unfoldable pub slot_of : ℕ → ℕ → ℕ → ℕ → ℕ
slot_of anchor at e k = pick (eqb e 0) anchor (word_of at e k)

-- `up` and `down` made neighbours
unfoldable pub joined : List ℕ → ℕ → ℕ → ℕ → ℕ → ℕ → List ℕ
joined w head tail at up down = set_link (set_link w (slot_of head at up 1) down) (slot_of tail at down 0) up

-- the list without e
unfoldable pub unlinked : List ℕ → ℕ → ℕ → ℕ → ℕ → List ℕ
unlinked w head tail at e = joined w head tail at (val w (word_of at e 0)) (val w (word_of at e 1))

-- e put before `old`, the first so far
unfoldable pub put_before : List ℕ → ℕ → ℕ → ℕ → ℕ → ℕ → List ℕ
put_before w head tail at e old =
    set_link (set_link (set_link (set_link w (word_of at e 0) 0) (word_of at e 1) old) (slot_of tail at old 0) e) head e

-- the list with e at its head
unfoldable pub pushed : List ℕ → ℕ → ℕ → ℕ → ℕ → List ℕ
pushed w head tail at e = put_before w head tail at e (val w head)

-- the list with e moved to its head
unfoldable pub moved_to_front : List ℕ → ℕ → ℕ → ℕ → ℕ → List ℕ
moved_to_front w head tail at e = pushed (unlinked w head tail at e) head tail at e
