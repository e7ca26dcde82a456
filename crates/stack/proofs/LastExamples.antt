-- Last bytes at work (SCOPE, "Reads that don't depend on settings"): two caches that give and store them, and a list each for why those
-- with a purge or an answer 7 are left out. Blocks of 2 bytes, and 3 of them in the store.
use Rattle.std.specs.Prelude.{ℕ, ◌*◌, ◌≡◌, refl, Bool, true, false, length}
use mathlib.Core.List.{List, [], ◌∷◌, map, flatten}
use Rattle.basics.specs.Basics.{word}
use Rattle.settings.specs.declared.Settings.{Settings}
use Rattle.stack.specs.Stack.{answer_word, empty}
use Rattle.stack.specs.Batch.{Call, Result, work, how_many, batch}
use Rattle.stack.specs.LastBytes.{gives_up, sevens, first_bytes, last_reads, last_then, ends_in_flush}

abbrev two : Settings
two = record { n = 2; nnew = 0; nold = 1; cmax = 1; amax = 1; b = 2; m = 3 }

abbrev three : Settings
three = record { n = 3; nnew = 1; nold = 2; cmax = 2; amax = 10; b = 2; m = 3 }

abbrev one : Settings
one = record { n = 1; nnew = 0; nold = 1; cmax = 1; amax = 10; b = 2; m = 3 }

abbrev store : List ℕ
store = 1 ∷ 2 ∷ 3 ∷ 4 ∷ 5 ∷ 6 ∷ []

abbrev calling : List ℕ → List ℕ → Call
calling words incoming =
    record { words = words; incoming = incoming; data_length = 6; store_length = 6; answers_length = length words; outgoing_length = 2 * length words }

-- What an example shows of a batch over a fresh cache, and of the last bytes over the same words.
pub record Beside : Type 0 where
  pub number : ℕ
  pub purges : ℕ
  pub refused : ℕ  -- answers 7
  pub given : List ℕ
  pub last : List ℕ  -- what the last bytes say of it
  pub closing : Bool  -- whether a flush comes last
  pub stored : List ℕ
  pub last_stored : List (List ℕ)

unfoldable pub beside : Settings → List ℕ → List ℕ → Beside
unfolding batch work answer_word sevens last_reads last_then ends_in_flush flatten
beside s words incoming =
    let o : Result = batch (empty s store) (calling words incoming) in
    let ws = map (work s) words in
    let first = first_bytes s.b store in
    record {
      number = o.number;
      purges = how_many gives_up ws;
      refused = sevens (map answer_word o.ran.answers);
      given = o.ran.outgoing;
      last = flatten (last_reads s.b first ws incoming);
      closing = ends_in_flush false ws;
      stored = o.ran.after.store;
      last_stored = map (last_then s.b first ws incoming) (0 ∷ 1 ∷ 2 ∷ []);
    }

-- ---- of this kind

-- read 1, write 1, read 0, pin 0, write 2, tick, read 1, unpin 0, write 1, read 1, read 2, flush
abbrev words : List ℕ
words =
    word 1 1 ∷ word 2 1 ∷ word 1 0 ∷ word 6 0 ∷ word 2 2 ∷ word 5 0 ∷ word 1 1 ∷ word 7 0 ∷ word 2 1 ∷ word 1 1 ∷ word 1 2 ∷ word 4 0 ∷ []

abbrev outcome : Beside
outcome =
    record {
      number = 0;
      purges = 0;
      refused = 0;
      given = 3 ∷ 4 ∷ 1 ∷ 2 ∷ 9 ∷ 8 ∷ 5 ∷ 5 ∷ 7 ∷ 7 ∷ [];
      last = 3 ∷ 4 ∷ 1 ∷ 2 ∷ 9 ∷ 8 ∷ 5 ∷ 5 ∷ 7 ∷ 7 ∷ [];
      closing = true;
      stored = 1 ∷ 2 ∷ 5 ∷ 5 ∷ 7 ∷ 7 ∷ [];
      last_stored = (1 ∷ 2 ∷ []) ∷ (5 ∷ 5 ∷ []) ∷ (7 ∷ 7 ∷ []) ∷ [];
    }

pub two_example : beside two words (9 ∷ 8 ∷ 7 ∷ 7 ∷ 5 ∷ 5 ∷ []) ≡ outcome
unfolding beside
two_example = refl

pub three_example : beside three words (9 ∷ 8 ∷ 7 ∷ 7 ∷ 5 ∷ 5 ∷ []) ≡ outcome
unfolding beside
three_example = refl

-- ---- of another kind

-- write 1, purge 1, read 1: the bytes written were given up
pub purge_example : beside three (word 2 1 ∷ word 3 1 ∷ word 1 1 ∷ []) (9 ∷ 8 ∷ [])
    ≡ record {
      number = 0;
      purges = 1;
      refused = 0;
      given = 3 ∷ 4 ∷ [];
      last = 9 ∷ 8 ∷ [];
      closing = false;
      stored = store;
      last_stored = (1 ∷ 2 ∷ []) ∷ (9 ∷ 8 ∷ []) ∷ (5 ∷ 6 ∷ []) ∷ [];
    }
unfolding beside
purge_example = refl

-- read 0, pin 0, write 1, unpin 0, read 1: with N 1 the write is refused,
abbrev pinning : List ℕ
pinning = word 1 0 ∷ word 6 0 ∷ word 2 1 ∷ word 7 0 ∷ word 1 1 ∷ []

pub refused_example : beside one pinning (9 ∷ 8 ∷ [])
    ≡ record {
      number = 0;
      purges = 0;
      refused = 1;
      given = 1 ∷ 2 ∷ 3 ∷ 4 ∷ [];
      last = 1 ∷ 2 ∷ 9 ∷ 8 ∷ [];
      closing = false;
      stored = store;
      last_stored = (1 ∷ 2 ∷ []) ∷ (9 ∷ 8 ∷ []) ∷ (5 ∷ 6 ∷ []) ∷ [];
    }
unfolding beside
refused_example = refl

-- with N 3 it isn't
pub taken_example : beside three pinning (9 ∷ 8 ∷ [])
    ≡ record {
      number = 0;
      purges = 0;
      refused = 0;
      given = 1 ∷ 2 ∷ 9 ∷ 8 ∷ [];
      last = 1 ∷ 2 ∷ 9 ∷ 8 ∷ [];
      closing = false;
      stored = store;
      last_stored = (1 ∷ 2 ∷ []) ∷ (9 ∷ 8 ∷ []) ∷ (5 ∷ 6 ∷ []) ∷ [];
    }
unfolding beside
taken_example = refl
