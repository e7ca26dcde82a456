-- A test load that anybody can repeat (SCOPE, "A test load"): work words drawn from xorshift's states, number 13, and what the two calls
-- promise; then what is proved of a load. Assumes nothing.
use Rattle.std.specs.Prelude.{ℕ, zero, suc, ◌+◌, ◌/◌, ◌%◌, ◌≤◌, ◌<◌, ◌≡◌, ◌≢◌, ◌⊎◌, Bool, ◌||◌, not, List, [], ◌∷◌, ◌++◌, map, length, T, ltb, eqb}
use Rattle.basics.specs.Basics.{All, when◌then◌else◌, word}
use Rattle.settings.specs.declared.Settings.{Settings}
use Rattle.settings.specs.Numbers.{legal_store}
use Rattle.stack.specs.Stack.{Work, read, write, purge, flush, tick, pin, unpin, invalid}
use Rattle.stack.specs.Batch.{work}
use Rattle.layout.specs.Sound.{settings_in}
use Rattle.promises.specs.Promises.{over, Slices, number_of}
use Rattle.load.specs.Xorshift.{State, step}

-- ---- the words

-- n new states, each stepped from the one before: the seed is stepped before the first
unfoldable pub states : ℕ → ℕ → List ℕ
unfolding step
states seed zero = []
states seed (suc n) = step seed ∷ states (step seed) n

-- the work word of a state: a write, kind 2, if the state mod 4 is 0, else a read, kind 1; the block is (state div 4) mod M
unfoldable pub load_word : ℕ → ℕ → ℕ
load_word m x = word (when eqb (x % 4) 0 then 2 else 1) (x / 4 % m)

-- n words from a seed
unfoldable pub load : ℕ → ℕ → ℕ → List ℕ
unfolding states load_word
load m seed n = map (load_word m) (states seed n)

-- the last of n new states, or the seed: what the words that follow are drawn from
unfoldable pub state_after : ℕ → ℕ → ℕ
unfolding step
state_after seed zero = seed
state_after seed (suc n) = state_after (step seed) n

-- ---- the calls

-- over 1,024 words are asked for
abbrev pub too_many : ℕ → Bool
too_many count = ltb 1024 count

-- the seed is 0, M is outside its limits, too many words are asked for or the lent slice is shorter
unfoldable pub declines : ℕ → ℕ → ℕ → ℕ → Bool
declines seed m count room = eqb seed 0 || not (legal_store m) || too_many count || ltb room count

-- then 13
unfoldable pub load_number : ℕ → ℕ → ℕ → ℕ → ℕ
unfolding declines
load_number seed m count room = when declines seed m count room then 13 else 0

-- What a call returns, and every word of the lent slice.
pub record Load (seed m count : ℕ) (before : List ℕ) (n : ℕ) (after : List ℕ) : Type 0 where
  pub returned : n ≡ load_number seed m count (length before)
  pub accepted : n ≡ 0 → after ≡ over (load m seed count) before
  pub declined : n ≢ 0 → after ≡ before

-- What the companion returns: the state after count words, or 0 for too many.
unfoldable pub load_state : ℕ → ℕ → ℕ
unfolding state_after
load_state seed count = when too_many count then 0 else state_after seed count

-- ---- what is proved of a load

-- the promise leaves out nothing: two outcomes of one call are equal
abbrev pub WholeLoad : Type 0
WholeLoad =
    (seed m count : ℕ) (before : List ℕ) (n n' : ℕ) (after after' : List ℕ)
    → Load seed m count before n after → Load seed m count before n' after' → (n ≡ n') × (after ≡ after')

-- a read or a write of a block below m
abbrev pub Accesses : ℕ → Work → Type 0
Accesses m (read b) = b < m
Accesses m (write b) = b < m
Accesses m (purge b) = ⊥
Accesses m flush = ⊥
Accesses m tick = ⊥
Accesses m (pin b) = ⊥
Accesses m (unpin b) = ⊥
Accesses m invalid = ⊥

-- blocks of a store of M, within its limits: as many as it has, or fewer
abbrev pub Blocks : ℕ → ℕ → Type 0
Blocks m M = (1 ≤ m) × (m ≤ M) × T (legal_store M)

-- what a batch takes the word of a state for
abbrev pub WordSays : Type 0
WordSays = (s : Settings) (m x : ℕ) → Blocks m s.m → work s (load_word m x) ≡ (when eqb (x % 4) 0 then write (x / 4 % m) else read (x / 4 % m))

-- every word of a load is a read or a write of a block below m
abbrev pub AllAccesses : Type 0
AllAccesses = (s : Settings) (m seed n : ℕ) → Blocks m s.m → All (λ w. Accesses m (work s w)) (load m seed n)

-- so no batch of its words, of all or of some in a row, over a store of m blocks or more, gets 9, whatever else is lent
abbrev pub NeverNine : Type 0
NeverNine =
    (m seed n : ℕ) (front words rest : List ℕ) → front ++ words ++ rest ≡ load m seed n
    → (incoming : List ℕ) (t : Slices) → 1 ≤ m → m ≤ (settings_in t.directory).m → number_of words incoming t ≢ 9

-- a load goes on from the state that the companion gives: batch after batch is one load
abbrev pub GoesOn : Type 0
GoesOn = (m seed j k : ℕ) → j ≤ 1024 → load m seed (j + k) ≡ load m seed j ++ load m (load_state seed j) k

-- the companion gives 0 exactly where seed or count are declined: a load has no state 0
abbrev pub ZeroDeclines : Type 0
ZeroDeclines =
    (seed count : ℕ) → State seed
    → (load_state seed count ≡ 0 → (seed ≡ 0) ⊎ (1024 < count)) × ((seed ≡ 0) ⊎ (1024 < count) → load_state seed count ≡ 0)

-- the first state that comes again is the seed: until then all differ
abbrev pub ComesRound : Type 0
ComesRound = (seed j k : ℕ) → State seed → state_after seed (k + j) ≡ state_after seed j → state_after seed k ≡ seed
