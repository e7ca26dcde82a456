-- Writing out on the tick: the two statements, of words carried out one after another from a sure plain stack.
use Prim.Native.Nat.{ℕ, ◌+◌, ◌*◌, ◌≤◌, ◌<◌}
use Rattle.std.proofs.Common.{arith, sym, subst, ◌∙◌}
use Rattle.std.specs.Prelude.{◌≡◌, refl, ◌⊎◌, length, take, drop, T}
use Rattle.std.proofs.Math.Path.{ap}
use Rattle.std.proofs.Math.Logic.{inl, inr}
use mathlib.Core.List.{List, [], ◌∷◌, ◌++◌, map}
use Rattle.std.proofs.Math.Option.{Option, none, some}
use Rattle.std.proofs.Math.Facts.{T_not}
use Rattle.basics.specs.Basics.{All, Any, bit, total, block_at}
use Rattle.basics.specs.TestLaws.{split, bit_small}
use Rattle.settings.specs.declared.Settings.{Settings}
use Rattle.settings.specs.Numbers.{settings_number}
use Rattle.settings.specs.NumbersLaws.{legal_settings}
use Rattle.stack.specs.Recency.{cleared, remarked, lookup}
use Rattle.stack.specs.Stack.{Plain, Work, plain_step, empty}
use Rattle.stack.specs.Batch.{work, is_write, how_many, run, plain_run}
use Rattle.stack.proofs.ForgetLaws.{InStore}
use Rattle.stack.proofs.RunLaws.{brings_first, rest_room}
use Rattle.stack.proofs.BatchLaws.{works_inside}
use Rattle.stack.proofs.FateLaws.{Holder, Swept, Fate, away, entered, left, stayed, out}
use Rattle.stack.proofs.SureLaws.{Faithful, Sure, empty_sure, Stepped, stepped}
use Rattle.stack.specs.Ticks.{Turn, turns, is_tick, ticks, Resides, Unsaved, WrittenOut, UnsavedAtFirst, bytes_if, present_in}
use Rattle.stack.specs.Ticks.{SecondTick, LossBound, PlainSecondTick, PlainLossBound}

-- ---- words one after another

pub data Story (s : Settings) : Plain → List Turn → Plain → Type 0 where
  end : {k : Plain} → Story s k [] k
  word : {k after last : Plain} {w : Work} {later : List Turn} → Stepped s k w after → Story s after later last
      → Story s k (record { before = k; word = w; after = after } ∷ later) last

module _ (s : Settings) where
  pub join : {k middle last : Plain} {early late : List Turn} → Story s k early middle → Story s middle late last → Story s k (early ++ late) last
  join end story = story
  join (word now later) story = word now (join later story)

  cut : {k last : Plain} (early late : List Turn) → Story s k (early ++ late) last
      → (middle : Plain) × Story s k early middle × Story s middle late last
  cut {k} [] late story = (k, end, story)
  cut (t ∷ early) late (word now later) = let (middle, one, two) = cut early late later in (middle, word now one, two)

  pub last_sure : {k last : Plain} {all : List Turn} → Sure s k → Story s k all last → Sure s last
  last_sure sure end = sure
  last_sure sure (word now later) = last_sure now.sure later

  -- the words of a run
  pub run_story : (k : Plain) (ws : List Work) (incoming : List ℕ) → Sure s k → s.m * s.b ≤ length k.store → All (InStore s.m) ws
      → how_many is_write ws * s.b ≤ length incoming → Story s k (turns s.b k ws incoming) (run plain_step (λ w. w) s.b k ws incoming).after
  unfolding turns run total
  run_story k [] incoming sure room inside fits = end
  run_story k (w ∷ ws) incoming sure room inside fits =
      let n : ℕ = how_many is_write ws in
      let now = stepped s k sure room w (take s.b incoming) inside.0 (brings_first s.b w n incoming fits) in
      word now
      (run_story (plain_step k w (take s.b incoming)).after ws (drop (is_write w * s.b) incoming) now.sure (rw now.long room) inside.1 (rest_room s.b (is_write w) n incoming fits))

-- ---- a word, seen from one block

-- 1 where the block's resident has seen a tick
abbrev seen_in : Option Holder → ℕ
seen_in none = 0
seen_in (some x) = bit x.marks.seen

seen_small : (o : Option Holder) → seen_in o ≤ 1
seen_small none = omega arith
seen_small (some x) = bit_small x.marks.seen

module _ {b : ℕ} {w : Work} {before after : List ℕ} where
  -- A block unsaved before is unsaved after, and has seen one more tick if the word was one; or the word wrote it out.
  unsaved_or_out : {x y : Holder} → Fate b w before after (some x) (some y) → T x.marks.modified
      → (T y.marks.modified × (bit x.marks.seen + is_tick w ≤ bit y.marks.seen))
      ⊎ (Swept w × (y ≡ remarked cleared x) × (after ≡ x.held))
  unsaved_or_out (stayed x y e same filled rises) m =
      split y.marks.modified (λ t. inl (t, rises t)) (λ t. absurd (T_not x.marks.modified m (same t)))
  unsaved_or_out (out x swept m e) t = inr (swept, refl, e)

  seen_rises : {o : Option Holder} {y : Holder} → Fate b w before after o (some y)
      → T y.marks.modified → seen_in o + is_tick w ≤ bit y.marks.seen
  seen_rises (entered y e z filled) t = omega (arith, z)
  seen_rises (stayed x y e same filled rises) t = rises t
  seen_rises (out x swept m e) t = absurd t

  -- its bytes in the store stay, or are then those that it had before
  kept_or_saved : {o o' : Option Holder} (stored : List ℕ) → Fate b w before after o o' → (after ≡ before) ⊎ (after ≡ bytes_if stored o)
  unfolding bytes_if
  kept_or_saved stored (away e) = inl e
  kept_or_saved stored (entered y e z filled) = inl e
  kept_or_saved stored (left x (inl e)) = inl e.0
  kept_or_saved stored (left x (inr e)) = inr e
  kept_or_saved stored (stayed x y e same filled rises) = inl e
  kept_or_saved stored (out x swept m e) = inr e

-- ---- the second tick

module _ (s : Settings) (b : ℕ) where
  -- two ticks, or one that the block has seen and another
  writes_out : {k last : Plain} {all : List Turn} → Story s k all last → (x : Holder) → lookup b k.residents ≡ some x → T x.marks.modified
      → All (λ t. Resides b t.after) all → 2 ≤ ticks all + bit x.marks.seen → Any (WrittenOut b) all
  unfolding total
  writes_out end x here m stays h = absurd (omega (arith, bit_small x.marks.seen))
  writes_out (word now later) x here m ((y, there), stays) h =
      elim (unsaved_or_out (rw (here, there) at (now.fate b)) m) [
        | inl (t, up) ↦ inr (writes_out later y there t stays (omega (arith, up)))
        | inr (swept, same, saved) ↦ inl (record {
          word = swept;
          resident = x;
          here = here;
          unsaved = m;
          cleared_then = there ∙ ap some same;
          stored_then = rw now.sure.settings saved;
        })
      ]

  from_first : {k last : Plain} {all : List Turn} → Story s k all last → UnsavedAtFirst b all → All (λ t. Resides b t.after) all
      → 2 ≤ ticks all → Any (WrittenOut b) all
  from_first end first stays h = absurd first
  from_first (word now later) (x, here, m) stays h = writes_out (word now later) x here m stays (omega arith)

pub second_tick : {s : Settings} {k last : Plain} {all : List Turn} → Story s k all last → SecondTick all
second_tick {s} {k} {last} story b early part late e first stays h =
    let (before, one, more) = cut s early (part ++ late) (subst (λ all. Story s k all last) e story) in
    let (after, two, three) = cut s part late more in
    from_first s b two first stays h

-- ---- what can be lost

-- a sure plain stack's store has the bytes of a block, unless it is unsaved
saved_or_not : (s : Settings) (b : ℕ) (k : Plain) → Sure s k → Unsaved b k ⊎ (block_at s.b b k.store ≡ present_in b k)
unfolding bytes_if
saved_or_not s b k sure = go (lookup b k.residents) refl (sure.clean b)
  where
    go : (o : Option Holder) → lookup b k.residents ≡ o → Faithful (block_at s.b b k.store) o
        → Unsaved b k ⊎ (block_at s.b b k.store ≡ bytes_if (block_at k.settings.b b k.store) o)
    go none e clean = inr (rw sure.settings)
    go (some x) e clean = split x.marks.modified (λ t. inl (x, e, t)) (λ t. inr (sym (clean t)))

module _ (s : Settings) (b : ℕ) (store : List ℕ) where
  -- a store has the bytes that the block has in a plain stack
  abbrev Has : Plain → Type 0
  Has k = block_at k.settings.b b store ≡ present_in b k

  has : {k : Plain} → Sure s k → block_at s.b b store ≡ present_in b k → Has k
  has sure e = ap (λ (t : Settings). block_at t.b b store) sure.settings ∙ e

  -- The bytes that the last store has are the first store's, or those that the block had before the words or after one of them.
  stood : {k last : Plain} {all : List Turn} → Story s k all last → block_at s.b b store ≡ block_at s.b b last.store
      → (block_at s.b b store ≡ block_at s.b b k.store) ⊎ ((block_at s.b b store ≡ present_in b k) ⊎ Any (λ t. Has t.after) all)
  stood end e = inl e
  stood (word {k = k} now later) e = elim (stood later e) [
    | inl same ↦ elim (kept_or_saved (block_at k.settings.b b k.store) (now.fate b)) [ inl g ↦ inl (same ∙ g) | inr g ↦ inr (inl (same ∙ g)) ]
    | inr (inl g) ↦ inr (inr (inl (has now.sure g)))
    | inr (inr any) ↦ inr (inr (inr any))
  ]

  -- With two ticks, or one that the block has seen and another: the last store has bytes that the block had after one of the words.
  had : {k last : Plain} {all : List Turn} → Story s k all last → block_at s.b b store ≡ block_at s.b b last.store
      → 2 ≤ ticks all + seen_in (lookup b k.residents) → Any (λ t. Has t.after) all
  unfolding total
  had (end {k = k}) e h = absurd (omega (arith, seen_small (lookup b k.residents)))
  had (word {k = k} {after = after} {w = w} now later) e h = elim (saved_or_not s b after now.sure) [
    | inl (y, there, t) ↦
        let up : seen_in (lookup b k.residents) + is_tick w ≤ bit y.marks.seen = seen_rises (rw there at (now.fate b)) t in
        inr (had later e (rw there (omega arith)))
    | inr saved ↦ elim (stood later e) [
      | inl same ↦ inl (has now.sure (same ∙ saved))
      | inr (inl g) ↦ inl (has now.sure g)
      | inr (inr any) ↦ inr any
    ]
  ]

-- of a store that has of every block below m what the last plain stack's store has
pub loss_bound : {s : Settings} {k last : Plain} {all : List Turn} → Story s k all last → (m : ℕ) (store : List ℕ)
    → ((b : ℕ) → b < m → block_at s.b b store ≡ block_at s.b b last.store) → LossBound m all store
loss_bound {s} {k} {last} story m store same b early recent inside e h =
    let (before, one, two) = cut s early recent (subst (λ all. Story s k all last) e story) in
    had s b store two (same b inside) (omega arith)

-- ---- from no residents on

module _ (s : Settings) (store words incoming : List ℕ) (legal : settings_number s ≡ 0) (room : s.m * s.b ≤ length store)
    (fits : how_many is_write (map (work s) words) * s.b ≤ length incoming) where
  plain_story : Story s (empty s store) (turns s.b (empty s store) (map (work s) words) incoming)
      (plain_run (empty s store) (map (work s) words) incoming).after
  unfolding plain_run
  plain_story =
      run_story s (empty s store) (map (work s) words) incoming (empty_sure s store (legal_settings s legal)) room (works_inside s words) fits

pub plain_second_tick : PlainSecondTick
plain_second_tick s store words incoming legal room fits = second_tick (plain_story s store words incoming legal room fits)

pub plain_loss_bound : PlainLossBound
plain_loss_bound s store words incoming legal room fits = loss_bound (plain_story s store words incoming legal room fits) s.m _ (λ b h. refl)
