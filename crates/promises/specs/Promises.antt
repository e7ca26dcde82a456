-- What fresh and a batch promise (SCOPE, "When a call declines", "What every call owes"), over the directory's words, the data
-- buffer, the store, answers and outgoing. Every word and byte stands in an equation; open are the entries picked, the unused
-- list's order and that of synonyms.
use Rattle.std.specs.Prelude.{ℕ, ◌*◌, ◌≤◌, ◌≡◌, ◌≢◌, Bool, true, false, not, List, [], ◌∷◌, ◌++◌, map, length, take, drop, T}
use Rattle.basics.specs.Basics.{All, when◌then◌else◌}
use Rattle.words.specs.Links.{links_changed}
use Rattle.settings.specs.declared.Settings.{Settings}
use Rattle.settings.specs.Buckets.{directory_length}
use Rattle.stack.specs.Stack.{Work, read, write, purge, flush, tick, invalid, answer_word, pin, unpin, halved}
use Rattle.stack.specs.Batch.{Call, Ran, work, batch_number}
use Rattle.stack.specs.Entries.{Cache, entry_run, Picks}
use Rattle.layout.specs.Layout.{fresh_words, fresh_number}
use Rattle.layout.specs.Sound.{settings_in, totals_in, sound, view}

-- A buffer whose front was written, the rest untouched.
abbrev pub over : {A : Type 0} → List A → List A → List A
over front buffer = front ++ drop (length front) buffer

-- ---- fresh

pub record Fresh (s : Settings) (before : List ℕ) (n : ℕ) (after : List ℕ) : Type 0 where
  pub returned : n ≡ fresh_number s (length before)
  pub accepted : n ≡ 0 → after ≡ over (fresh_words s) before
  pub declined : n ≢ 0 → after ≡ before  -- every word of the slice

-- ---- a batch

-- The slices that a batch may write, before it or after it.
pub record Slices : Type 0 where
  pub directory : List ℕ
  pub bytes : List ℕ  -- the data buffer
  pub store : List ℕ
  pub answers : List ℕ
  pub outgoing : List ℕ

-- The cache behind words, data and store: of the data N blocks, the store whole.
abbrev pub cache_in : List ℕ → List ℕ → List ℕ → Cache
cache_in words bytes store =
    record {
      stack = view words store;
      bytes = take ((settings_in words).n * (settings_in words).b) bytes;
    }

abbrev pub behind : Slices → Cache
behind t = cache_in t.directory t.bytes t.store

-- what the number goes by
abbrev pub call_of : List ℕ → List ℕ → Slices → Call
call_of words incoming t =
    record {
      words = words;
      incoming = incoming;
      data_length = length t.bytes;
      store_length = length t.store;
      answers_length = length t.answers;
      outgoing_length = length t.outgoing;
    }

-- 6 to 12, or 0
unfoldable pub number_of : List ℕ → List ℕ → Slices → ℕ
unfolding sound settings_in totals_in batch_number
number_of words incoming t =
    let next = batch_number (settings_in t.directory) (totals_in t.directory) (call_of words incoming t) in
    when sound t.directory then next else 6

-- whether a word leaves all link words as they are: a flush, a tick, a pin or an unpin
abbrev pub is_still : Work → Bool
is_still = elim [ read b ↦ false | write b ↦ false | purge b ↦ false | flush ↦ true | tick ↦ true | pin b ↦ true | unpin b ↦ true | invalid ↦ false ]

-- An accepted batch, with the entries picked: one beside each word, of weight where its block enters an unused entry.
module _ (words incoming : List ℕ) (before after : Slices) (picked : List (Work × ℕ)) where
  abbrev s : Settings
  s = settings_in before.directory

  -- what the machine over entries does
  abbrev pub ran : Ran Cache
  ran = entry_run (behind before) picked incoming

  pub record Accepted : Type 0 where
    pub words_picked : map (λ wp. wp.0) picked ≡ map (work s) words
    pub picks : Picks s.b (behind before) picked incoming
    pub cache : behind after ≡ ran.after
    pub sound_after : T (sound after.directory)
    pub answers : after.answers ≡ over (map answer_word ran.answers) before.answers
    pub outgoing : after.outgoing ≡ over ran.outgoing before.outgoing
    pub words_past : drop (directory_length s) after.directory ≡ drop (directory_length s) before.directory
    pub bytes_past : drop (s.n * s.b) after.bytes ≡ drop (s.n * s.b) before.bytes
    -- an empty batch changes nothing, what is left open neither
    pub empty_batch : words ≡ [] → after ≡ before
    -- one word, of whatever kind, that doesn't halve the counts
    pub links : (w : ℕ) → words ≡ w ∷ [] → All (λ a. T (not (halved a))) ran.answers → links_changed before.directory after.directory ≤ 20
    -- one flush, tick, pin or unpin
    pub links_stay : (w : ℕ) → words ≡ w ∷ [] → T (is_still (work s w)) → links_changed before.directory after.directory ≡ 0

pub record Batch (words incoming : List ℕ) (before : Slices) (n : ℕ) (after : Slices) : Type 0 where
  pub returned : n ≡ number_of words incoming before
  pub accepted : n ≡ 0 → (picked : List (Work × ℕ)) × Accepted words incoming before after picked
  pub declined : n ≢ 0 → after ≡ before  -- every word and byte of the five slices
