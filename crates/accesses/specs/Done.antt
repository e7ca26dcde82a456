-- What one read, write, purge or pin starts from, and what it comes to: the word is carried out, and its answer word is that of the answer.
-- Statements only.
use Rattle.std.specs.Prelude.{ℕ, ◌<◌, ◌≤◌, ◌≡◌, ◌⊎◌, Bool, true, false, not, List, [], T, Option, Some, None}
use Rattle.basics.specs.Basics.{All, put_block}
use Rattle.settings.specs.declared.Settings.{Settings}
use Rattle.stack.specs.Recency.{Resident}
use Rattle.stack.specs.Stack.{Work, read, write, purge, Answer, answer_word, is_refused}
use Rattle.stack.specs.Stack.{hit, entered, replaced, purged, absent, flushed, miss_refused, pinned, purge_refused}
use Rattle.layout.specs.Sound.{sound, residents_in}
use Rattle.promises.specs.DirectoryPromises.{Accessed}
use Rattle.promises.specs.Demand3.{Memory}
use Rattle.cache_steps.specs.Carried.{settings_of, memory, Ready, Carried}
use Rattle.cache_steps.specs.PinStep.{pin_work}
use Rattle.cache_steps.specs.Told.{store_after}
use Rattle.promises.specs.DirectoryReady.{Countable}
use Rattle.accesses.specs.declared.Asked.{Asked}

-- ---- before

-- residents of which none is modified
abbrev pub Clean : List (Resident ℕ) → Type 0
Clean = All (λ x. T (not x.marks.modified))

-- A block of the store may be asked for. Data and store are lent, or there is no need of them: no resident is modified.
pub record AskReady (m : Memory) (s : Settings) (block : ℕ) : Type 0 where
  pub is_sound : T (sound m.directory)
  pub settings_are : s ≡ settings_of m
  pub inside : block < (settings_of m).m
  pub countable : Countable m.directory
  pub lent : Ready m ⊎ Clean (residents_in m.directory)

-- a block of the store may be read or written
pub record AccessReady (m : Memory) (s : Settings) (block : ℕ) : Type 0 where
  pub ready : Ready m
  pub settings_are : s ≡ settings_of m
  pub inside : block < (settings_of m).m
  pub countable : Countable m.directory

-- ---- after

abbrev pub is_hit : Answer → Bool
is_hit (hit n h) = true
is_hit (entered h) = false
is_hit (replaced v n o) = false
is_hit (purged d) = false
is_hit absent = false
is_hit (flushed n) = false
is_hit miss_refused = false
is_hit (pinned on) = false
is_hit purge_refused = false

-- The block was asked for and is at an entry; the store holds a modified victim's bytes. The data buffer is as before.
pub record AskedDone (m : Memory) (block : ℕ) (written : Bool) (r : Asked) (directory store : List ℕ) : Type 0 where
  pub answer : Answer
  pub links : ℕ
  pub few : links ≤ 20
  pub accessed : Accessed links m.directory block written r.entry answer directory
  pub taken : T (not (is_refused answer))
  pub word_is : r.answer ≡ answer_word answer
  pub resident_is : r.resident ≡ is_hit answer
  pub store_is : store ≡ store_after m block r.entry answer

-- It was asked for while all are pinned: it is at no entry, and the store is as before too.
pub record PinnedDone (m : Memory) (block : ℕ) (written : Bool) (directory store : List ℕ) : Type 0 where
  pub accessed : Accessed 0 m.directory block written 0 miss_refused directory
  pub store_is : store ≡ m.store

abbrev pub AccessDone : Memory → ℕ → Bool → List ℕ → List ℕ → Option Asked → Type 0
AccessDone m block written directory store (Some r) = AskedDone m block written r directory store
AccessDone m block written directory store None = PinnedDone m block written directory store

-- A read was carried out: what it gives is block j of the outgoing bytes.
pub record ReadDone (m : Memory) (block : ℕ) (after : Memory) (r B j : ℕ) (before outgoing : List ℕ) : Type 0 where
  pub answer : Answer
  pub given : List ℕ
  pub carried : (incoming : List ℕ) → Carried m (read block) incoming after answer given
  pub word_is : r ≡ answer_word answer
  pub outgoing_is : outgoing ≡ put_block B j given before

-- A write was carried out.
pub record WriteDone (m : Memory) (block : ℕ) (incoming : List ℕ) (after : Memory) (r : ℕ) : Type 0 where
  pub answer : Answer
  pub carried : Carried m (write block) incoming after answer []
  pub word_is : r ≡ answer_word answer

-- A word that moves no bytes was carried out, whatever the data and the store.
pub record Rearranged (w : Work) (before after : List ℕ) (r : ℕ) : Type 0 where
  pub answer : Answer
  pub carried : (bytes store incoming : List ℕ) → Ready (memory before bytes store)
      → Carried (memory before bytes store) w incoming (memory after bytes store) answer []
  pub word_is : r ≡ answer_word answer

abbrev pub PurgeDone : List ℕ → ℕ → List ℕ → ℕ → Type 0
PurgeDone before block after r = Rearranged (purge block) before after r

abbrev pub PinDone : Bool → List ℕ → ℕ → List ℕ → ℕ → Type 0
PinDone on before block after r = Rearranged (pin_work on block) before after r
