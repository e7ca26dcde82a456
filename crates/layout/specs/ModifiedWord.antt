-- The modified word of an entry (SCOPE, "The directory"): modified + 2 × seen + 4 × pinned, where seen needs modified. Assumes nothing.
use Rattle.std.specs.Prelude.{ℕ, ◌+◌, ◌*◌, ◌/◌, ◌%◌, Bool, ◌&&◌, ◌||◌, not, eqb}
use Rattle.basics.specs.Basics.{bit}
use Rattle.stack.specs.declared.Marks.{Marks}

-- the word of some marks
unfoldable pub modified_word : Marks → ℕ
modified_word m = bit m.modified + 2 * bit m.seen + 4 * bit m.pinned

-- the marks that a word says
unfoldable pub marks_in : ℕ → Marks
marks_in w = record { modified = eqb (w % 2) 1; seen = eqb (w / 2 % 2) 1; pinned = eqb (w / 4 % 2) 1 }

-- seen needs modified
unfoldable pub seen_modified : Marks → Bool
seen_modified m = m.modified || not m.seen

-- whether it is the word of such marks: 0, 1, 3, 4, 5 or 7
unfoldable pub is_modified_word : ℕ → Bool
unfolding modified_word marks_in seen_modified
is_modified_word w = eqb (modified_word (marks_in w)) w && seen_modified (marks_in w)
