-- Writing out on the tick (SCOPE, "The plain stack"): that a block which stays resident is written out at the second tick after its
-- first unsaved write at the latest, whatever words stand between; and what of a block can be lost with the power. Statements only.
use Rattle.std.specs.Prelude.{ℕ, ◌*◌, ◌≤◌, ◌<◌, ◌≡◌, ◌⊎◌, List, [], ◌∷◌, ◌++◌, map, length, take, drop, T}
use Rattle.std.proofs.Math.Option.{Option, none, some}
use Rattle.basics.specs.Basics.{All, Any, block_at}
use Rattle.stack.specs.Recency.{cleared, Resident, remarked, lookup}
use Rattle.stack.specs.Stack.{Plain, Work, read, write, purge, flush, tick, invalid, plain_step, empty, pin, unpin}
use Rattle.settings.specs.declared.Settings.{Settings}
use Rattle.settings.specs.Numbers.{settings_number}
use Rattle.stack.specs.Batch.{work, is_write, how_many, plain_run}

-- ---- words one after another

-- A word carried out, with the plain stack before and after it.
pub record Turn : Type 0 where
  pub before : Plain
  pub word : Work
  pub after : Plain

-- the words of a run, each write taking the next B bytes of the incoming ones
unfoldable pub turns : ℕ → Plain → List Work → List ℕ → List Turn
turns B k [] incoming = []
turns B k (w ∷ ws) incoming =
    let after = (plain_step k w (take B incoming)).after in
    record { before = k; word = w; after = after } ∷ turns B after ws (drop (is_write w * B) incoming)

abbrev pub is_tick : Work → ℕ
is_tick = elim [ read b ↦ 0 | write b ↦ 0 | purge b ↦ 0 | flush ↦ 0 | tick ↦ 1 | pin b ↦ 0 | unpin b ↦ 0 | invalid ↦ 0 ]

abbrev pub ticks : List Turn → ℕ
ticks run = how_many is_tick (map (λ t. t.word) run)

-- ---- a block over them

-- the bytes of a resident, if there is one, or else those stored
unfoldable pub bytes_if : List ℕ → Option (Resident (List ℕ)) → List ℕ
bytes_if stored none = stored
bytes_if stored (some x) = x.held

module _ (b : ℕ) where
  abbrev pub Resides : Plain → Type 0
  Resides k = (x : Resident (List ℕ)) × (lookup b k.residents ≡ some x)

  -- resident and modified: the store may lack its bytes
  abbrev pub Unsaved : Plain → Type 0
  Unsaved k = (x : Resident (List ℕ)) × (lookup b k.residents ≡ some x) × T x.marks.modified

  -- A flush or a tick at which it was written out, and stayed: its modified and seen marks were cleared, and the store then held its
  -- bytes. (A victim is written out as it leaves.)
  pub record WrittenOut (t : Turn) : Type 0 where
    pub word : (t.word ≡ flush) ⊎ (t.word ≡ tick)
    pub resident : Resident (List ℕ)
    pub here : lookup b t.before.residents ≡ some resident
    pub unsaved : T resident.marks.modified
    pub cleared_then : lookup b t.after.residents ≡ some (remarked cleared resident)
    pub stored_then : block_at t.after.settings.b b t.after.store ≡ resident.held

  -- before the first word of a run
  abbrev pub UnsavedAtFirst : List Turn → Type 0
  UnsavedAtFirst [] = ⊥
  UnsavedAtFirst (t ∷ run) = Unsaved t.before

  -- the bytes that the block has: its resident's, or the store's
  abbrev pub present_in : Plain → List ℕ
  present_in k = bytes_if (block_at k.settings.b b k.store) (lookup b k.residents)

-- ---- the statements, of the words of a list one after another

-- In any part of the list through which a block stays resident, unsaved before its first word, and which has two ticks, the block is
-- written out at one of these words.
abbrev pub SecondTick : List Turn → Type 0
SecondTick all =
    (b : ℕ) (early run late : List Turn)
    → all ≡ early ++ (run ++ late)
    → UnsavedAtFirst b run
    → All (λ t. Resides b t.after) run
    → 2 ≤ ticks run
    → Any (WrittenOut b) run

-- After words with two ticks among them the store has, of every block by itself, bytes that the block had after one of these words: of
-- its writes at most those of two tick periods are lost with the power.
abbrev pub LossBound : ℕ → List Turn → List ℕ → Type 0
LossBound m all store =
    (b : ℕ) (early recent : List Turn)
    → b < m
    → all ≡ early ++ recent
    → 2 ≤ ticks recent
    → Any (λ t. block_at t.after.settings.b b store ≡ present_in b t.after) recent

-- ---- of the plain stack, from no residents on, over any work words that bring their bytes

abbrev pub PlainSecondTick : Type 0
PlainSecondTick =
    (s : Settings) (store words incoming : List ℕ)
    → settings_number s ≡ 0
    → s.m * s.b ≤ length store
    → how_many is_write (map (work s) words) * s.b ≤ length incoming
    → SecondTick (turns s.b (empty s store) (map (work s) words) incoming)

abbrev pub PlainLossBound : Type 0
PlainLossBound =
    (s : Settings) (store words incoming : List ℕ)
    → settings_number s ≡ 0
    → s.m * s.b ≤ length store
    → how_many is_write (map (work s) words) * s.b ≤ length incoming
    → LossBound s.m (turns s.b (empty s store) (map (work s) words) incoming)
    (plain_run (empty s store) (map (work s) words) incoming).after.store
