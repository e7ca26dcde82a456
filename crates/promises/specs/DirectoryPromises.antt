-- What the directory promises the cache, operation by operation: from the words before to the words after. The cache relies on these
-- alone. Every promise gives the residents with their entries, read off along the stack links, by the recency stack's definitions;
-- settings, totals and the words past the directory; that the words are sound again; and how many link words changed at most.
-- Statements only.
use Rattle.promises.specs.declared.Replaced.{Replaced}
use Rattle.std.specs.Prelude.{Option as Optional, Some, None}
use Rattle.std.specs.Prelude.{ℕ, ◌+◌, ◌≤◌, ◌<◌, ◌≡◌, Bool, not, List, map, length, drop, get_or, T, eqb}
use Rattle.std.proofs.Math.Option.{Option, none, some}
use Rattle.basics.specs.Basics.{when◌then◌else◌}
use Rattle.words.specs.Links.{links_changed}
use Rattle.settings.specs.Buckets.{directory_length}
use Rattle.stack.specs.Counts.{chains}
use Rattle.stack.specs.declared.Marks.{Marks}
use Rattle.stack.specs.Recency.{cleared, saw_tick, Resident, remarked, Place, place, asked, halves, settled, removed, pinned_as, counts_pins}
use Rattle.stack.specs.Stack.{Totals, Answer, replaced, miss_refused, halved, access_totals, answering}
use Rattle.stack.specs.Entries.{entry_for, PickAt}
use Rattle.layout.specs.Addresses.{TO-TAIL}
use Rattle.layout.specs.Sound.{settings_in, totals_in, field, sound, resident_at, residents_in}

-- What a lookup yields, as the resident that it found.
abbrev pub found_resident : List ℕ → Optional ℕ → Option (Resident ℕ)
found_resident words None = none
found_resident words (Some entry) = some (resident_at words entry)

-- What every operation keeps.
pub record Kept (before after : List ℕ) : Type 0 where
  pub sound_after : T (sound after)
  pub settings_kept : settings_in after ≡ settings_in before
  pub past_kept : drop (directory_length (settings_in before)) after ≡ drop (directory_length (settings_in before)) before

-- ---- a read or a write: a hit, a block that enters an unused entry, or a replacement

-- where the block stands
abbrev pub place_of : List ℕ → ℕ → Place ℕ
place_of words block = place (settings_in words) block (residents_in words)

-- the residents once it is at position 0, at an entry
abbrev pub asked_of : List ℕ → ℕ → Bool → ℕ → List (Resident ℕ)
asked_of words block written entry = asked block written entry (place_of words block)

-- whether counts are halved then
abbrev pub halves_of : List ℕ → ℕ → Bool → ℕ → Bool
halves_of words block written entry = halves (settings_in words) (place_of words block) (asked_of words block written entry)

-- the answer, by the recency stack
abbrev pub answer_of : List ℕ → ℕ → Bool → ℕ → Answer
answer_of words block written entry =
    answering (chains (settings_in words) (counts_pins (residents_in words))) (halves_of words block written entry) (place_of words block)

-- The block was asked for, and is then at that entry: its own, the victim's, or an unused one; or it was refused, at none (0).
pub record Accessed (links : ℕ) (before : List ℕ) (block : ℕ) (written : Bool) (entry : ℕ) (answer : Answer) (after : List ℕ) : Type 0 where
  pub kept : Kept before after
  pub entry_is : entry_for entry (place_of before block) ≡ entry
  pub entry_free : PickAt (settings_in before).n entry (place_of before block)
  pub residents : residents_in after ≡ settled (halves_of before block written entry) (asked_of before block written entry)
  pub totals : totals_in after ≡ access_totals (totals_in before) written (place_of before block)
  pub answer_is : answer_of before block written entry ≡ answer
  pub links_few : T (not (halved answer)) → links_changed before after ≤ links

-- A replacement, of a block that no resident has where no entry is unused: the victim gave way, or the block was refused.
abbrev pub Replaces : List ℕ → ℕ → Bool → List ℕ → Optional Replaced → Type 0
Replaces before block written after (Some r) = Accessed 20 before block written r.entry (replaced r.victim r.chains r.out) after
Replaces before block written after None = Accessed 0 before block written 0 miss_refused after

-- ---- a purge; the cache asks it of unpinned residents only

pub record Purged (links : ℕ) (before : List ℕ) (block : ℕ) (after : List ℕ) : Type 0 where
  pub kept : Kept before after
  pub residents : residents_in after ≡ removed block (residents_in before)
  pub totals : totals_in after ≡ totals_in before
  pub links_few : links_changed before after ≤ links

-- ---- a resident whose marks change: cleared once its bytes were written out, a tick seen, pinned or unpinned

-- the one at an entry
abbrev pub marked_at : (Marks → Marks) → ℕ → List (Resident ℕ) → List (Resident ℕ)
marked_at change entry = map (λ x. when eqb x.held entry then remarked change x else x)

abbrev pub more_outs : ℕ → Totals → Totals
more_outs n t = record { reads = t.reads; writes = t.writes; ins = t.ins; outs = t.outs + n }

-- with so many blocks out; no link word changes
pub record Marked (change : Marks → Marks) (outs : ℕ) (before : List ℕ) (entry : ℕ) (after : List ℕ) : Type 0 where
  pub kept : Kept before after
  pub residents : residents_in after ≡ marked_at change entry (residents_in before)
  pub totals : totals_in after ≡ more_outs outs (totals_in before)
  pub links_none : links_changed before after ≡ 0

-- its bytes were written out, a block out
abbrev pub Cleaned : List ℕ → ℕ → List ℕ → Type 0
Cleaned = Marked cleared 1

-- it has seen a tick
abbrev pub TickSeen : List ℕ → ℕ → List ℕ → Type 0
TickSeen = Marked saw_tick 0

abbrev pub Pinned : Bool → List ℕ → ℕ → List ℕ → Type 0
Pinned on = Marked (pinned_as on) 0

-- ---- reading along the stack

-- the entry of the resident at a position, 0 where there is none
abbrev pub entry_at : List (Resident ℕ) → ℕ → ℕ
entry_at l p = get_or (map (λ x. x.held) l) p 0

-- What `next` gives for entry e, whatever e is: its stack-towards-tail link. Behind a resident's entry that is the next resident's, 0
-- where there is none.
pub record NextOf (words : List ℕ) (e next : ℕ) : Type 0 where
  pub link_is : next ≡ field words TO-TAIL e
  pub along_stack : (p : ℕ) → p < length (residents_in words) → entry_at (residents_in words) p ≡ e → next ≡ entry_at (residents_in words) (p + 1)
