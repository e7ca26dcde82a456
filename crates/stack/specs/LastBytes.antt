-- The last bytes of every block (SCOPE, "Reads that don't depend on settings"), and what reads give by them: from work words, the bytes
-- that they bring and the first store alone. No cache has a part in it. Assumes nothing.
use Rattle.std.specs.Prelude.{ℕ, ◌*◌, ◌/◌, ◌^◌, Bool, true, false, List, [], ◌∷◌, ◌++◌, map, take, drop, eqb}
use Rattle.basics.specs.Basics.{when◌then◌else◌, bit, total, block_at}
use Rattle.stack.specs.Stack.{Work, read, write, purge, flush, tick, pin, unpin, invalid}
use Rattle.stack.specs.Batch.{is_write}

-- ---- which lists

-- 1 for a word that may give up modified bytes: a purge
abbrev pub gives_up : Work → ℕ
gives_up (read b) = 0
gives_up (write b) = 0
gives_up (purge b) = 1
gives_up flush = 0
gives_up tick = 0
gives_up (pin b) = 0
gives_up (unpin b) = 0
gives_up invalid = 0

-- how many of these answer words are of kind 7
unfoldable pub sevens : List ℕ → ℕ
unfolding total
sevens answers = total (map (λ a. bit (eqb (a / 2 ^ 28) 7)) answers)

-- whether a word is a flush
abbrev pub is_flush : Work → Bool
is_flush (read b) = false
is_flush (write b) = false
is_flush (purge b) = false
is_flush flush = true
is_flush tick = false
is_flush (pin b) = false
is_flush (unpin b) = false
is_flush invalid = false

-- whether the last of these words is a flush; if there are none, `was`
unfoldable pub ends_in_flush : Bool → List Work → Bool
ends_in_flush was [] = was
ends_in_flush was (w ∷ ws) = ends_in_flush (is_flush w) ws

-- ---- last bytes

-- Of every block the bytes written to it last, or the first store's if none were.
abbrev pub Last : Type 0
Last = ℕ → List ℕ

-- before the first word, B bytes a block
abbrev pub first_bytes : ℕ → List ℕ → Last
first_bytes B store b = block_at B b store

-- whether a word writes block b
abbrev pub writes_to : ℕ → Work → Bool
writes_to b (read c) = false
writes_to b (write c) = eqb c b
writes_to b (purge c) = false
writes_to b flush = false
writes_to b tick = false
writes_to b (pin c) = false
writes_to b (unpin c) = false
writes_to b invalid = false

-- after a word, which brings these bytes if it is a write
abbrev pub last_after : Last → Work → List ℕ → Last
last_after last w bytes b = when writes_to b w then bytes else last b

-- what a word gives: a read the last bytes of its block, every other word nothing
abbrev pub last_given : Last → Work → List (List ℕ)
last_given last (read b) = last b ∷ []
last_given last (write b) = []
last_given last (purge b) = []
last_given last flush = []
last_given last tick = []
last_given last (pin b) = []
last_given last (unpin b) = []
last_given last invalid = []

-- ---- words in order, each write taking the next B bytes of the incoming ones

-- the last bytes after them
unfoldable pub last_then : ℕ → Last → List Work → List ℕ → Last
last_then B last [] incoming = last
last_then B last (w ∷ ws) incoming = last_then B (last_after last w (take B incoming)) ws (drop (is_write w * B) incoming)

-- what they give, a read after another
unfoldable pub last_reads : ℕ → Last → List Work → List ℕ → List (List ℕ)
last_reads B last [] incoming = []
last_reads B last (w ∷ ws) incoming =
    last_given last w ++ last_reads B (last_after last w (take B incoming)) ws (drop (is_write w * B) incoming)
