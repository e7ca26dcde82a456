-- The modified word of an entry, modified + 2 × seen + 4 × pinned: tests and stores of it. Assumes nothing.
use Rattle.std.specs.Prelude.{ℕ, ◌+◌, ◌*◌, ◌-◌, ◌/◌, ◌%◌, Bool, List, eqb}
use Rattle.basics.specs.Basics.{bit}
use Rattle.words.specs.Words.{val, set_number}
use Rattle.layout.specs.Addresses.{MODIFIED}
use Rattle.word_ops.specs.Lists.{word_of}

-- whether it says modified
abbrev pub is_marked : ℕ → Bool
is_marked mark = eqb (mark % 2) 1

-- modified and seen: due at the next tick
abbrev pub DUE-WORD : ℕ
DUE-WORD = 3

-- whether it says pinned
abbrev pub is_pinned : ℕ → Bool
is_pinned mark = eqb (mark / 4 % 2) 1

-- it with the modified mark, the others kept
abbrev pub with_mark : ℕ → ℕ
with_mark mark = mark - mark % 2 + 1

-- it without the two marks of a write, and with both, the pinned mark kept
abbrev pub without_write : ℕ → ℕ
without_write mark = mark - mark % 4

abbrev pub with_seen : ℕ → ℕ
with_seen mark = mark - mark % 4 + DUE-WORD

-- it with the pinned mark or without it, the others kept
abbrev pub with_pin : Bool → ℕ → ℕ
with_pin on mark = mark % 4 + 4 * bit on

-- entry e was written
unfoldable pub mark_written : List ℕ → ℕ → ℕ → List ℕ
mark_written w at e = set_number w (word_of at e MODIFIED) (with_mark (val w (word_of at e MODIFIED)))

-- entry e, which is modified, has seen a tick
unfoldable pub tick_seen : List ℕ → ℕ → ℕ → List ℕ
tick_seen w at e = set_number w (word_of at e MODIFIED) (with_seen (val w (word_of at e MODIFIED)))

-- entry e is pinned or unpinned
unfoldable pub pin_set : List ℕ → ℕ → ℕ → Bool → List ℕ
pin_set w at e on = set_number w (word_of at e MODIFIED) (with_pin on (val w (word_of at e MODIFIED)))
