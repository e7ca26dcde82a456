-- How a word is shown to be carried out: an operation of the directory that kept what it promises, beside data whose front became the data
-- of the machine over entries, and a store that became its store.
use Rattle.std.specs.Prelude.{ℕ, ◌*◌, ◌≡◌, refl, List, [], length, take}
use Rattle.std.proofs.Common.{sym, ◌∙◌, arith}
use Rattle.std.proofs.Math.Path.{ap}
use Rattle.settings.specs.declared.Settings.{Settings}
use Rattle.stack.specs.Stack.{Work, Answer}
use Rattle.stack.specs.Entries.{Cache, entry_step, Pick}
use Rattle.layout.specs.Sound.{totals_in, residents_in, view}
use Rattle.promises.specs.DirectoryPromises.{Kept}
use Rattle.promises.specs.Demand3.{Memory}
use Rattle.cache_steps.specs.Carried.{cache_of, settings_of, memory, Ready, LinksKept, Carried}
use Rattle.cache_steps.specs.MovedLaws.{Moved, unmoved}
use Rattle.words.specs.LinkLaws.{changed_same}

-- the cache with these settings, the residents and totals of a directory, this front of data and this store
abbrev pub cache_with : Settings → List ℕ → List ℕ → List ℕ → Cache
cache_with s directory bytes store =
    record {
      stack = record { settings = s; residents = residents_in directory; store = store; totals = totals_in directory };
      bytes = bytes;
    }

module _ (m : Memory) (ready : Ready m) (directory bytes store : List ℕ) (kept : Kept m.directory directory) where
  abbrev s : Settings
  s = settings_of m

  pub ready_after : length bytes ≡ length m.bytes → length store ≡ length m.store → Ready (memory directory bytes store)
  ready_after e e' =
      record {
        is_sound = kept.sound_after;
        bytes_long = rw (kept.settings_kept, e) ready.bytes_long;
        store_long = rw (kept.settings_kept, e') ready.store_long;
      }

  -- settings that were kept may stand for those after
  cache_after : cache_with s directory (take (s.n * s.b) bytes) store ≡ cache_of (memory directory bytes store)
  unfolding view
  cache_after = ap (λ (t : Settings). cache_with t directory (take (t.n * t.b) bytes) store) (sym kept.settings_kept)

  module _ {first_bytes_lem : List ℕ} (in_bytes : Moved (s.n * s.b) first_bytes_lem m.bytes bytes)
      (store_same : length store ≡ length m.store) where
    pub carry : (w : Work) (incoming : List ℕ) (answer : Answer) (given : List ℕ) (pick : ℕ) → Pick (cache_of m) w pick
        → entry_step (cache_of m) (w, pick) incoming
        ≡ record { after = cache_with (settings_of m) directory first_bytes_lem store; answer = answer; given = given }
        → LinksKept w answer m.directory directory
        → Carried m w incoming (memory directory bytes store) answer given
    carry w incoming answer given pick picked step_is links =
        record {
          pick = pick;
          picked = picked;
          step_is =
              step_is
              ∙ ap (λ (c : Cache). record { after = c; answer = answer; given = given })
              (sym (ap (λ front. cache_with s directory front store) in_bytes.first) ∙ cache_after);
          ready = ready_after in_bytes.same store_same;
          settings_kept = kept.settings_kept;
          words_past = kept.past_kept;
          bytes_past = in_bytes.past;
          bytes_same = in_bytes.same;
          store_same = store_same;
          links = links;
        }

-- a word that changes nothing
pub idle_carried : (m : Memory) → Ready m → (w : Work) (incoming : List ℕ) (answer : Answer) → Pick (cache_of m) w 0
    → entry_step (cache_of m) (w, 0) incoming ≡ record { after = cache_of m; answer = answer; given = [] } → Carried m w incoming m answer []
unfolding view
idle_carried m ready w incoming answer picked is =
    carry m ready m.directory m.bytes m.store (record { sound_after = ready.is_sound; settings_kept = refl; past_kept = refl })
    (unmoved _ m.bytes) refl w incoming answer [] 0 picked is
    (record { few = λ calm. rw (changed_same m.directory) (omega arith); none = λ still. changed_same m.directory })
