-- What one work word and all words of a batch start from, and what they come to. Statements only.
use Rattle.std.specs.Prelude.{ℕ, ◌+◌, ◌*◌, ◌≤◌, ◌≡◌, List, ◌++◌, map, length}
use Rattle.basics.specs.Basics.{block_at}
use Rattle.settings.specs.declared.Settings.{Settings}
use Rattle.stack.specs.Stack.{Work, Answer, answer_word}
use Rattle.stack.proofs.ForgetLaws.{InStore}
use Rattle.stack.specs.Batch.{work, is_read, is_write, batch_number}
use Rattle.layout.specs.Sound.{totals_in}
use Rattle.promises.specs.Promises.{over, Slices, call_of}
use Rattle.promises.specs.Demand3.{Memory}
use Rattle.cache_steps.specs.Carried.{settings_of, Ready, Carried}
use Rattle.cache_steps.specs.Runs.{Chain}
use Rattle.cache_steps.specs.Accepts.{memory_in}
use Rattle.promises.specs.DirectoryReady.{Countable}
use Rattle.cache.specs.declared.Passed.{Passed}

-- what a batch is lent and may write
abbrev pub slices : (directory bytes store answers outgoing : List ℕ) → Slices
slices directory bytes store answers outgoing =
    record { directory = directory; bytes = bytes; store = store; answers = answers; outgoing = outgoing }

-- ---- one word

-- a word of a block of the store, with room for what it takes and gives
pub record WordReady (m : Memory) (s : Settings) (w : Work) (passed : Passed) (incoming outgoing : List ℕ) : Type 0 where
  pub ready : Ready m
  pub settings_are : s ≡ settings_of m
  pub inside : InStore s.m w
  pub countable : Countable m.directory
  pub incoming_room : passed.writes * s.b + is_write w * s.b ≤ length incoming
  pub outgoing_room : passed.reads * s.b + is_read w * s.b ≤ length outgoing

-- It was carried out with the next block of incoming; what it gives follows what was given.
pub record WordDone (m : Memory) (s : Settings) (w : Work) (passed : Passed) (incoming outgoing : List ℕ) (r : ℕ) (after : Memory)
    (gave : List ℕ) : Type 0 where
  pub answer : Answer
  pub given : List ℕ
  pub carried : Carried m w (block_at s.b passed.writes incoming) after answer given
  pub word_is : r ≡ answer_word answer
  pub gave_is : (front buffer : List ℕ) → length front ≡ passed.reads * s.b → outgoing ≡ over front buffer → gave ≡ over (front ++ given) buffer

-- ---- all words

-- the batch was not declined
pub record RunReady (before : Slices) (words incoming : List ℕ) (s : Settings) : Type 0 where
  pub ready : Ready (memory_in before)
  pub settings_are : s ≡ settings_of (memory_in before)
  pub number : batch_number (settings_of (memory_in before)) (totals_in before.directory) (call_of words incoming before) ≡ 0

-- They were carried out one after the other; answers and outgoing hold what they answered and gave.
pub record RunDone (before : Slices) (words incoming : List ℕ) (s : Settings) (after : Slices) : Type 0 where
  pub answered : List Answer
  pub given : List ℕ
  pub chain : Chain s.b (memory_in before) (map (work s) words) incoming (memory_in after) answered given
  pub answers_are : after.answers ≡ over (map answer_word answered) before.answers
  pub outgoing_is : after.outgoing ≡ over given before.outgoing
