-- What is said of each word of a batch of the code, from every sound directory. Statement only.
use Rattle.std.specs.Prelude.{ℕ, ◌≡◌, List, map}
use Rattle.settings.specs.declared.Settings.{Settings}
use Rattle.stack.specs.Stack.{Plain, Work, Step, answer_word}
use Rattle.stack.specs.Batch.{work, plain_run, EachStep, Ran}
use Rattle.stack.specs.Entries.{plain}
use Rattle.layout.specs.Sound.{settings_in}
use Rattle.promises.specs.Promises.{Slices, behind, Batch, over}

-- P holds of each word, from the plain stack behind the directory to the one behind it then. What the words answer and give is what the
-- batch leaves in its slices.
abbrev pub EachWord : (Plain → Work → Step Plain → Type 0) → Type 0
EachWord P =
    (words incoming : List ℕ) (before : Slices) (after : Slices)
    → Batch words incoming before 0 after
    → let s : Settings = settings_in before.directory in
    let k : Plain = plain (behind before) in
    let ran : Ran Plain = plain_run k (map (work s) words) incoming in
    EachStep P s.b k (map (work s) words) incoming
    × (plain (behind after) ≡ ran.after)
    × (after.answers ≡ over (map answer_word ran.answers) before.answers)
    × (after.outgoing ≡ over ran.outgoing before.outgoing)
