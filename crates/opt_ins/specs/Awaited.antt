-- OPT's code as pure functions of the words `awaited`, one for each position of the trace: 1 where the read there is the next one of a
-- resident, else 0. `waiting` is how many of those to come are 1.
use Rattle.std.specs.Prelude.{ℕ, ◌+◌, ◌-◌, ◌≤◌, ◌<◌, ◌≢◌, List, length, get_or, set, drop, eqb, ltb}
use Rattle.basics.specs.Basics.{when◌then◌else◌, index_of}
use Rattle.stack.specs.Counts.{greatest}
use Rattle.opt.specs.Ins.{block_of, trace_of, most_reads}

-- the last position below len that is awaited, or 0
abbrev pub last_awaited : List ℕ → ℕ → ℕ
unfolding greatest
last_awaited awaited len = greatest (λ p. eqb (get_or awaited p 0) 1) len 0

-- A miss costs the last that is awaited, where as many are awaited as there are blocks.
unfoldable pub room_awaited : List ℕ → ℕ → ℕ → ℕ → ℕ → List ℕ
unfolding greatest
room_awaited awaited i len waiting n =
    when eqb (get_or awaited i 0) 0 then (when ltb waiting n then awaited else set awaited (last_awaited awaited len) 0) else awaited

unfoldable pub room_waiting : List ℕ → ℕ → ℕ → ℕ → ℕ
room_waiting awaited i waiting n = when eqb (get_or awaited i 0) 0 then (when ltb waiting n then waiting else waiting - 1) else waiting - 1

-- The block read is awaited again at its next read.
unfoldable pub note_awaited : List ℕ → ℕ → ℕ → List ℕ
note_awaited awaited next len = when ltb next len then set awaited next 1 else awaited

unfoldable pub note_waiting : ℕ → ℕ → ℕ → ℕ
note_waiting next len waiting = when ltb next len then waiting + 1 else waiting

-- where the block at position i is read next; the length where it never is
unfoldable pub next_at : List ℕ → ℕ → ℕ
unfolding index_of
next_at trace i = i + 1 + index_of (block_of (get_or trace i 0)) (drop (i + 1) (trace_of trace))

unfoldable pub step_awaited : List ℕ → List ℕ → ℕ → ℕ → ℕ → List ℕ
unfolding room_awaited note_awaited next_at
step_awaited awaited trace i waiting n = note_awaited (room_awaited awaited i (length trace) waiting n) (next_at trace i) (length trace)

unfoldable pub step_waiting : List ℕ → List ℕ → ℕ → ℕ → ℕ → ℕ
unfolding room_waiting note_waiting next_at
step_waiting awaited trace i waiting n = note_waiting (next_at trace i) (length trace) (room_waiting awaited i waiting n)

-- ---- what the functions ask

pub record RoomReady (awaited : List ℕ) (i len waiting n : ℕ) : Type 0 where
  pub inside : i < len
  pub enough : len ≤ length awaited
  pub some_blocks : 1 ≤ n
  pub one_waiting : get_or awaited i 0 ≢ 0 → 1 ≤ waiting

pub record StepReady (awaited trace : List ℕ) (i waiting n : ℕ) : Type 0 where
  pub room : RoomReady awaited i (length trace) waiting n
  pub few : length trace ≤ most_reads
  pub few_waiting : room_waiting awaited i waiting n ≤ 4096

-- a trace, and a number of cache blocks
pub record TraceReady (trace : List ℕ) (n : ℕ) : Type 0 where
  pub short : length trace ≤ most_reads
  pub some_blocks : 1 ≤ n
  pub few_blocks : n ≤ 4096
