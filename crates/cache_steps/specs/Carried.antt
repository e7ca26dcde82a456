-- One work word carried out over directory, data buffer and store: what it leaves, answers and gives is a step of the machine over
-- entries. Statements only.
use Rattle.std.specs.Prelude.{ℕ, ◌*◌, ◌≤◌, ◌≡◌, not, List, length, drop, T}
use Rattle.words.specs.Links.{links_changed}
use Rattle.settings.specs.declared.Settings.{Settings}
use Rattle.settings.specs.Buckets.{directory_length}
use Rattle.stack.specs.Stack.{Work, Answer, halved}
use Rattle.stack.specs.Entries.{Cache, entry_step, Pick}
use Rattle.layout.specs.Sound.{settings_in, sound}
use Rattle.promises.specs.Promises.{cache_in, is_still}
use Rattle.promises.specs.Demand3.{Memory}

abbrev pub cache_of : Memory → Cache
cache_of m = cache_in m.directory m.bytes m.store

abbrev pub settings_of : Memory → Settings
settings_of m = settings_in m.directory

abbrev pub memory : List ℕ → List ℕ → List ℕ → Memory
memory directory bytes store = record { directory = directory; bytes = bytes; store = store }

-- A memory that a word may start from: the directory is sound, data and store have room for N and M blocks.
pub record Ready (m : Memory) : Type 0 where
  pub is_sound : T (sound m.directory)
  pub bytes_long : (settings_of m).n * (settings_of m).b ≤ length m.bytes
  pub store_long : (settings_of m).m * (settings_of m).b ≤ length m.store

-- at most 20 link words changed by a word that doesn't halve the counts, none by a flush, a tick, a pin or an unpin
pub record LinksKept (w : Work) (answer : Answer) (before after : List ℕ) : Type 0 where
  pub few : T (not (halved answer)) → links_changed before after ≤ 20
  pub none : T (is_still w) → links_changed before after ≡ 0

-- The word w, whose incoming bytes are these, from one memory to the next.
pub record Carried (before : Memory) (w : Work) (incoming : List ℕ) (after : Memory) (answer : Answer) (given : List ℕ) : Type 0 where
  pub pick : ℕ
  pub picked : Pick (cache_of before) w pick
  pub step_is : entry_step (cache_of before) (w, pick) incoming ≡ record { after = cache_of after; answer = answer; given = given }
  pub ready : Ready after
  pub settings_kept : settings_of after ≡ settings_of before
  pub words_past : drop (directory_length (settings_of before)) after.directory ≡ drop (directory_length (settings_of before)) before.directory
  pub bytes_past : drop ((settings_of before).n * (settings_of before).b) after.bytes ≡ drop ((settings_of before).n * (settings_of before).b)
      before.bytes
  pub bytes_same : length after.bytes ≡ length before.bytes
  pub store_same : length after.store ≡ length before.store
  pub links : LinksKept w answer before.directory after.directory
