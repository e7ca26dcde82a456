-- Pins over a batch of the code, from every sound directory (SCOPE, "The plain stack"): what its answer words and the directory then
-- show. Statements only.
use Rattle.std.specs.Prelude.{ℕ, ◌*◌, ◌/◌, ◌^◌, ◌≡◌, ◌≢◌, List, [], ◌∷◌, map, take, drop}
use Rattle.basics.specs.Basics.{All}
use Rattle.settings.specs.declared.Settings.{Settings}
use Rattle.stack.specs.Stack.{Plain, Work, unpin, miss_refused, answer_word, plain_step}
use Rattle.stack.specs.Batch.{work, is_write}
use Rattle.stack.specs.Entries.{plain}
use Rattle.stack.specs.Pins.{Misses, AllPinned, Refusing, Holds, Sparing}
use Rattle.layout.specs.Sound.{settings_in, residents_in}
use Rattle.promises.specs.EachWord.{EachWord}
use Rattle.promises.specs.Promises.{Slices, behind, Batch}

-- An answer word is of kind 7 exactly if its word misses while all N residents are pinned.
abbrev pub Seventh : Plain → Work → ℕ → Type 0
Seventh k w a = (a / 2 ^ 28 ≡ 7 → Misses k w × AllPinned k) × (Misses k w → AllPinned k → a ≡ answer_word miss_refused)

-- all answer words to the words of a run, B bytes a block, each with the plain stack before its word
abbrev pub AllSeventh : ℕ → Plain → List Work → List ℕ → List ℕ → Type 0
AllSeventh B k [] incoming answers = Unit {0}
AllSeventh B k (w ∷ ws) incoming [] = ⊥
AllSeventh B k (w ∷ ws) incoming (a ∷ answers) =
    Seventh k w a × AllSeventh B (plain_step k w (take B incoming)).after ws (drop (is_write w * B) incoming) answers

-- Answer 7 exactly if all N residents are pinned.
abbrev pub BatchRefuses : Type 0
BatchRefuses =
    (words incoming : List ℕ) (before : Slices) (after : Slices)
    → Batch words incoming before 0 after
    → let s : Settings = settings_in before.directory in
    AllSeventh s.b (plain (behind before)) (map (work s) words) incoming after.answers

-- A pinned resident is there and pinned after a batch that doesn't unpin it.
abbrev pub BatchSpares : Type 0
BatchSpares =
    (words incoming : List ℕ) (before : Slices) (after : Slices) (b : ℕ)
    → Batch words incoming before 0 after
    → All (λ w. work (settings_in before.directory) w ≢ unpin b) words
    → Holds b (residents_in before.directory)
    → Holds b (residents_in after.directory)

-- A refused miss changes its total alone and gives zeros; a pinned resident is no victim, nor purged.
abbrev pub BatchPins : Type 0
BatchPins = EachWord (λ k w now. Refusing k w now × Sparing k w now)
