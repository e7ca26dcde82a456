-- Nothing is left out. The words of a sound directory are fixed by settings, totals, residents in stack order with their entries, the
-- words past the directory, and the orders that are left open (SCOPE, "What every call owes": entry numbers, synonyms, the unused list).
-- And so two outcomes of one call, with what is left open the same, are equal in every word and byte. Statements only.
use Rattle.std.specs.Prelude.{ℕ, ◌<◌, ◌≡◌, ◌≢◌, List, drop, T}
use Rattle.words.specs.Words.{val}
use Rattle.settings.specs.declared.Settings.{Settings}
use Rattle.settings.specs.Buckets.{buckets, directory_length}
use Rattle.stack.specs.Stack.{Work}
use Rattle.layout.specs.Addresses.{NEXT-SYNONYM, bucket_word}
use Rattle.layout.specs.Sound.{settings_in, totals_in, walk, unused_entries, residents_in, sound}
use Rattle.promises.specs.Promises.{Fresh, Slices, Accepted, Batch}

-- ---- two directories

-- The orders left open: of the unused list, and of each bucket's synonyms.
pub record SameOrders (u w : List ℕ) : Type 0 where
  pub unused : unused_entries u ≡ unused_entries w
  pub synonyms : (b : ℕ) → b < buckets (settings_in w).n
      → walk u NEXT-SYNONYM (val u (bucket_word (settings_in u) b)) ≡ walk w NEXT-SYNONYM (val w (bucket_word (settings_in w) b))

pub record Alike (u w : List ℕ) : Type 0 where
  pub settings : settings_in u ≡ settings_in w
  pub totals : totals_in u ≡ totals_in w
  pub residents : residents_in u ≡ residents_in w  -- with their entries
  pub past : drop (directory_length (settings_in w)) u ≡ drop (directory_length (settings_in w)) w
  pub orders : SameOrders u w

-- No word of a sound directory is free beside these.
abbrev pub Complete : Type 0
Complete = (u w : List ℕ) → T (sound u) → T (sound w) → Alike u w → u ≡ w

-- ---- two outcomes of one call

-- of a fresh: nothing is left open
abbrev pub WholeFresh : Type 0
WholeFresh = (s : Settings) (before : List ℕ) (m n : ℕ) (a b : List ℕ) → Fresh s before m a → Fresh s before n b → (m ≡ n) × (a ≡ b)

-- of a batch: declined, nothing; accepted, the entries picked and the two orders
pub record SameOutcome (words incoming : List ℕ) (before : Slices) (m : ℕ) (a : Slices) (n : ℕ) (b : Slices) : Type 0 where
  pub number : m ≡ n
  pub declined : m ≢ 0 → a ≡ b
  pub accepted : m ≡ 0 → (picked : List (Work × ℕ)) → Accepted words incoming before a picked → Accepted words incoming before b picked
      → SameOrders a.directory b.directory → a ≡ b

abbrev pub WholeBatch : Type 0
WholeBatch =
    (words incoming : List ℕ) (before : Slices) (m n : ℕ) (a b : Slices)
    → Batch words incoming before m a → Batch words incoming before n b → SameOutcome words incoming before m a n b
