-- A store of the wrong size (SCOPE, "When a call declines", "Looking at a block"): 12 of a batch and of a look, and what they accept.
-- Statements only.
use Rattle.std.specs.Prelude.{ℕ, ◌*◌, ◌≡◌, List, [], length, T}
use Rattle.stack.specs.StoreSize.{LongStore, TwelveWhere}
use Rattle.layout.specs.Sound.{settings_in, sound}
use Rattle.promises.specs.Promises.{Slices, number_of}
use Rattle.promises.specs.Looks.{look_number, look_bytes}

-- Lent words, data and a store longer than M × B, where neither 6 nor 7 holds: the directory is sound, and data is not short.
abbrev pub LentLong : List ℕ → List ℕ → List ℕ → Type 0
LentLong words bytes store = T (sound words) × LongStore (settings_in words) (length bytes) (length store)

-- exactly M × B bytes of store
abbrev pub LentExactly : List ℕ → List ℕ → Type 0
LentExactly words store = length store ≡ (settings_in words).m * (settings_in words).b

-- whatever the words, the other buffers and the totals
abbrev pub BatchTwelve : Type 0
BatchTwelve = (words incoming : List ℕ) (t : Slices) → TwelveWhere (number_of words incoming t) (LentLong t.directory t.bytes t.store)

abbrev pub BatchInsists : Type 0
BatchInsists = (words incoming : List ℕ) (t : Slices) → number_of words incoming t ≡ 0 → LentExactly t.directory t.store

-- whatever the block; the part is then empty
abbrev pub LookTwelve : Type 0
LookTwelve =
    (words bytes store : List ℕ) (block : ℕ)
    → TwelveWhere (look_number words bytes store block) (LentLong words bytes store)
    × (LentLong words bytes store → look_bytes words bytes store block ≡ [])

abbrev pub LookInsists : Type 0
LookInsists = (words bytes store : List ℕ) (block : ℕ) → look_number words bytes store block ≡ 0 → LentExactly words store
