-- Demand 3 (SCOPE, "The demands"): every list of calls that begins with an accepted fresh and goes on with batches, each
-- linked to the next by its promise alone, beside the plain stack over the same list. Statements only.
use Rattle.std.specs.Prelude.{ℕ, ◌*◌, ◌≤◌, ◌≡◌, ◌≢◌, not, List, [], ◌∷◌, ◌++◌, map, length, take, drop, T}
use Rattle.basics.specs.Basics.{All}
use Rattle.words.specs.Links.{links_changed}
use Rattle.settings.specs.declared.Settings.{Settings}
use Rattle.stack.specs.Stack.{Plain, answer_word, empty, halved}
use Rattle.stack.specs.Batch.{Call, Result, work, AllReported, batch}
use Rattle.stack.specs.Entries.{Cache, plain}
use Rattle.layout.specs.Layout.{fresh_words}
use Rattle.layout.specs.Sound.{settings_in, sound}
use Rattle.promises.specs.Promises.{over, Fresh, Slices, cache_in, behind, call_of, is_still, Batch}

-- ---- the calls of a list

-- The memory that the calls share.
pub record Memory : Type 0 where
  pub directory : List ℕ
  pub bytes : List ℕ  -- the data buffer
  pub store : List ℕ

-- A call of a batch: how far it lends data and store, and what it brings of its own.
pub record Lending : Type 0 where
  pub words : List ℕ
  pub incoming : List ℕ
  pub answers : List ℕ
  pub outgoing : List ℕ
  pub bytes_length : ℕ
  pub store_length : ℕ

-- The directory whole, data and store from their first byte.
abbrev pub lends : Memory → Lending → Slices
lends m c =
    record {
      directory = m.directory;
      bytes = take c.bytes_length m.bytes;
      store = take c.store_length m.store;
      answers = c.answers;
      outgoing = c.outgoing;
    }

abbrev pub leaves : Memory → Lending → Slices → Memory
leaves m c after =
    record {
      directory = after.directory;
      bytes = after.bytes ++ drop c.bytes_length m.bytes;
      store = after.store ++ drop c.store_length m.store;
    }

-- Batches that met their promises, from a memory on, with what each returned and left. Only they write the memory.
pub data Linked : Memory → List Lending → List (ℕ × Slices) → Type 0 where
  end : {m : Memory} → Linked m [] []
  call : {m : Memory} {c : Lending} {cs : List Lending} {n : ℕ} {after : Slices} {ts : List (ℕ × Slices)}
      → c.bytes_length ≤ length m.bytes
      → c.store_length ≤ length m.store
      → Batch c.words c.incoming (lends m c) n after
      → Linked (leaves m c after) cs ts
      → Linked m (c ∷ cs) ((n, after) ∷ ts)

-- ---- the plain stack beside them

-- what it is given of a call
abbrev pub as_call : Lending → Call
as_call c =
    record {
      words = c.words;
      incoming = c.incoming;
      data_length = c.bytes_length;
      store_length = c.store_length;
      answers_length = length c.answers;
      outgoing_length = length c.outgoing;
    }

-- the plain stack at the start: its store is the front of M blocks
abbrev pub starts : Settings → List ℕ → Plain
starts s store = empty s (take (s.m * s.b) store)

-- The cache that a memory shows: its store is the front of M blocks, exactly what an accepted batch is lent, whatever lies behind.
abbrev pub shown : Memory → Cache
shown m = cache_in m.directory m.bytes (take ((settings_in m.directory).m * (settings_in m.directory).b) m.store)

-- The directory is sound; settings, totals, store and residents are the plain stack's, these in the same order, each with the same
-- block, count, marks and bytes; and behind the front of M blocks the store is `rest`.
pub record Alike (m : Memory) (k : Plain) (rest : List ℕ) : Type 0 where
  pub is_sound : T (sound m.directory)
  pub same : plain (shown m) ≡ k
  pub past : drop (k.settings.m * k.settings.b) m.store ≡ rest

-- One call: the same number, answer words and read bytes; in every replacement the chains reported are the smaller of the victim's
-- count and Cmax, except where the victim isn't in the old section: then Cmax.
pub record Agrees (c : Lending) (n : ℕ) (after : Slices) (k : Plain) (o : Result) : Type 0 where
  pub number : n ≡ o.number
  pub answers : after.answers ≡ over (map answer_word o.ran.answers) c.answers
  pub outgoing : after.outgoing ≡ over o.ran.outgoing c.outgoing
  pub chains : n ≡ 0 → AllReported k.settings.b k (map (work k.settings) c.words) c.incoming after.answers

-- All calls, and the memory alike before, between and after them.
pub data Follows (rest : List ℕ) : Memory → Plain → List Lending → List (ℕ × Slices) → Type 0 where
  end : {m : Memory} {k : Plain} → Alike m k rest → Follows rest m k [] []
  call : {m : Memory} {k : Plain} {c : Lending} {cs : List Lending} {n : ℕ} {after : Slices} {ts : List (ℕ × Slices)}
      → Alike m k rest
      → Agrees c n after k (batch k (as_call c))
      → Follows rest (leaves m c after) (batch k (as_call c)).ran.after cs ts
      → Follows rest m k (c ∷ cs) ((n, after) ∷ ts)

-- ---- demand 3

abbrev pub Demand3 : Type 0
Demand3 =
    (s : Settings) (before directory bytes store : List ℕ) (cs : List Lending) (ts : List (ℕ × Slices))
    → Fresh s before 0 directory
    → Linked (record { directory = directory; bytes = bytes; store = store }) cs ts
    → Follows (drop (s.m * s.b) store) (record { directory = directory; bytes = bytes; store = store }) (starts s store) cs ts

-- ---- the link bound

-- from every sound directory: a batch of one word, of whatever kind, that doesn't halve the counts
abbrev pub LinkBound : Type 0
LinkBound =
    (w : ℕ) (incoming : List ℕ) (before : Slices) (n : ℕ) (after : Slices)
    → T (sound before.directory)
    → Batch (w ∷ []) incoming before n after
    → All (λ a. T (not (halved a))) (batch (plain (behind before)) (call_of (w ∷ []) incoming before)).ran.answers
    → links_changed before.directory after.directory ≤ 20

-- and a flush, a tick, a pin or an unpin changes no link word
abbrev pub LinksStay : Type 0
LinksStay =
    (w : ℕ) (incoming : List ℕ) (before : Slices) (n : ℕ) (after : Slices)
    → Batch (w ∷ []) incoming before n after
    → T (is_still (work (settings_in before.directory) w))
    → links_changed before.directory after.directory ≡ 0

-- ---- when a directory is past fresh

-- Calls that carried out no word: declined batches and empty ones.
pub data Idle : List Lending → List (ℕ × Slices) → Type 0 where
  end : Idle [] []
  refused : {c : Lending} {cs : List Lending} {n : ℕ} {after : Slices} {ts : List (ℕ × Slices)} → n ≢ 0 → Idle cs ts
      → Idle (c ∷ cs) ((n, after) ∷ ts)
  wordless : {c : Lending} {cs : List Lending} {n : ℕ} {after : Slices} {ts : List (ℕ × Slices)} → c.words ≡ [] → Idle cs ts
      → Idle (c ∷ cs) ((n, after) ∷ ts)

-- the memory after a list of calls
abbrev pub memory_left : Memory → List Lending → List (ℕ × Slices) → Memory
memory_left m [] ts = m
memory_left m (c ∷ cs) [] = m
memory_left m (c ∷ cs) ((n, after) ∷ ts) = memory_left (leaves m c after) cs ts

-- the plain stack after them
abbrev pub stack_left : Plain → List Lending → Plain
stack_left k [] = k
stack_left k (c ∷ cs) = stack_left (batch k (as_call c)).ran.after cs

-- Until a word is carried out the directory is as fresh made it, the unused list's rising order too, and data and store are as they were.
abbrev pub StillFresh : Type 0
StillFresh =
    (s : Settings) (before directory bytes store : List ℕ) (cs : List Lending) (ts : List (ℕ × Slices))
    → Fresh s before 0 directory
    → Linked (record { directory = directory; bytes = bytes; store = store }) cs ts
    → Idle cs ts
    → memory_left (record { directory = directory; bytes = bytes; store = store }) cs ts
    ≡ record { directory = over (fresh_words s) before; bytes = bytes; store = store }
