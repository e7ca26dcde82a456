-- What belt cycle gives: the plain stack's number, answers, read bytes, store and totals for one batch over a zero store.
use Rattle.std.specs.Prelude.{ℕ, ◌+◌, ◌≡◌, List, map, length, replicate}
use Rattle.stack.specs.Stack.{Plain, answer_word, empty}
use Rattle.stack.specs.Batch.{Call, Result, batch}
use Rattle.stack.specs.Examples.{belt}
use Rattle.layout.specs.Sound.{totals_in}
use Rattle.promises.specs.Promises.{over}
use Rattle.belt.specs.Belt.{incoming_bytes}
use Rattle.std.specs.Prelude.{Result as Returned}
use Rattle.refusals.specs.declared.Refusal.{Refusal}
use Rattle.refusals.specs.Refusals.{outcome}
use Rattle.belt.specs.declared.Outcome.{Outcome}

-- the plain stack at the start
unfoldable pub belt_start : Plain
belt_start = empty belt (replicate 512 0)

-- Data and store as Belt has them, and bytes and room for as many writes and reads as a batch may have.
abbrev pub belt_call : List ℕ → ℕ → Call
belt_call words answers =
    record { words = words; incoming = incoming_bytes; data_length = 32; store_length = 512; answers_length = answers; outgoing_length = 8192 }

-- what the plain stack does with words, where so many answer words are lent
unfoldable pub belt_result : List ℕ → ℕ → Result
unfolding belt_start incoming_bytes batch
belt_result words answers = batch belt_start (belt_call words answers)

-- The slices that the cycle leaves.
pub record Left : Type 0 where
  pub answers : List ℕ
  pub store : List ℕ
  pub outgoing : List ℕ

-- What it gives, with the answer words and outgoing bytes that it is lent; of the store lent only the room is used. A refused batch has no
-- answers and no read bytes, totals of 0, and leaves the zero store.
module _ (work lentAnswers lentOutgoing : List ℕ) where
  abbrev o : Result
  o = belt_result work (length lentAnswers)

  pub record Cycled (c : Outcome) (after : Left) : Type 0 where
    pub number : outcome c.batch ≡ o.number
    pub words : c.words ≡ length work
    pub answered : outcome c.batch ≡ 0 → c.words ≡ length o.ran.answers
    pub answers : after.answers ≡ over (map answer_word o.ran.answers) lentAnswers
    pub outgoing : after.outgoing ≡ over o.ran.outgoing lentOutgoing
    pub store : after.store ≡ o.ran.after.store
    pub moves : c.moves ≡ o.ran.after.totals.ins + o.ran.after.totals.outs
    pub references : c.references ≡ o.ran.after.totals.reads + o.ran.after.totals.writes

-- What is read off the words d of the directory that a batch left, which returned r.
pub record ReadOff (work d : List ℕ) (r : Returned (Unit {0}) Refusal) (c : Outcome) : Type 0 where
  pub returned : c.batch ≡ r
  pub words : c.words ≡ length work
  pub moves : c.moves ≡ (totals_in d).ins + (totals_in d).outs
  pub references : c.references ≡ (totals_in d).reads + (totals_in d).writes
