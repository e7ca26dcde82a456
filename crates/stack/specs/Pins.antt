-- Blocks held by pins (SCOPE, "The plain stack"): when a miss is refused and what is left then, that a pinned resident stays, and what
-- is found where nothing is pinned. Statements only.
use Rattle.std.specs.Prelude.{ℕ, ◌+◌, ◌-◌, ◌*◌, ◌≤◌, ◌≡◌, ◌≢◌, Bool, false, ◌&&◌, List, map, length, drop, replicate, get_or, leb, eqb, T}
use Rattle.std.proofs.Math.Option.{none, some}
use Rattle.basics.specs.Basics.{All, when◌then◌else◌, member}
use Rattle.settings.specs.declared.Settings.{Settings}
use Rattle.settings.specs.Numbers.{settings_number}
use Rattle.stack.specs.Counts.{is_old, least, greatest, victim, looked, chains}
use Rattle.stack.specs.Recency.{Resident, lookup}
use Rattle.stack.specs.Stack.{Plain, empty, Work, read, write, purge, flush, tick, pin, unpin, invalid, replaced, miss_refused, purge_refused, Step, idle}
use Rattle.stack.specs.Batch.{work, is_read, is_write, EachStep}

-- ---- answer 7

-- a read or a write of a block that no resident has
abbrev pub Misses : Plain → Work → Type 0
Misses k (read b) = lookup b k.residents ≡ none
Misses k (write b) = lookup b k.residents ≡ none
Misses k (purge b) = ⊥
Misses k flush = ⊥
Misses k tick = ⊥
Misses k (pin b) = ⊥
Misses k (unpin b) = ⊥
Misses k invalid = ⊥

-- all N residents are pinned
abbrev pub AllPinned : Plain → Type 0
AllPinned k = (length k.residents ≡ k.settings.n) × All (λ x. T x.marks.pinned) k.residents

-- only the total of reads or writes has risen
abbrev pub only_counted : Plain → Work → Plain
only_counted k w =
    let t = k.totals in
    record {
      settings = k.settings;
      residents = k.residents;
      store = k.store;
      totals = record { reads = t.reads + is_read w; writes = t.writes + is_write w; ins = t.ins; outs = t.outs };
    }

-- A miss gets answer 7 exactly if all N residents are pinned; then only its total of reads or writes rises, and a read's bytes are zeros.
pub record Refusing (k : Plain) (w : Work) (now : Step Plain) : Type 0 where
  pub only : now.answer ≡ miss_refused → Misses k w × AllPinned k
  pub always : Misses k w → AllPinned k
      → now ≡ record { after = only_counted k w; answer = miss_refused; given = replicate (is_read w * k.settings.b) 0 }

-- ---- a pinned resident

-- the block is resident and pinned
abbrev pub Holds : {A : Type 0} → ℕ → List (Resident A) → Type 0
Holds {A} b l = (x : Resident A) × (lookup b l ≡ some x) × T x.marks.pinned

-- It is never a victim, nor purged; it stays, and stays pinned, unless it is unpinned.
pub record Sparing (k : Plain) (w : Work) (now : Step Plain) : Type 0 where
  pub never_victim : (v n : ℕ) (out : Bool) → now.answer ≡ replaced v n out → ¬ Holds v k.residents
  pub never_purged : (b : ℕ) → w ≡ purge b → Holds b k.residents → now ≡ idle k purge_refused
  pub stays : (b : ℕ) → w ≢ unpin b → Holds b k.residents → Holds b now.after.residents

-- ---- of the plain stack, from no residents on, over any work words

abbrev pub PlainPins : Type 0
PlainPins =
    (s : Settings) (store words incoming : List ℕ)
    → settings_number s ≡ 0
    → EachStep (λ k w now. Refusing k w now × Sparing k w now) s.b (empty s store) (map (work s) words) incoming

-- ---- without pins

-- the victim and the chains looked at as they were before there were pins, by the counts of a full stack alone
unfoldable pub victim_by_counts : Settings → List ℕ → ℕ
unfolding least greatest
victim_by_counts s cs =
    let c = least 65535 (drop (s.n - s.nold) cs) in
    when leb c s.cmax then greatest (λ p. is_old s p && eqb (get_or cs p 0) c) (length cs) 0 else s.n - 1

unfoldable pub chains_by_counts : Settings → List ℕ → ℕ
unfolding looked member
chains_by_counts s cs = looked (λ i. member i (drop (s.n - s.nold) cs)) 1 s.cmax

-- Where nothing is pinned they are the ones defined.
abbrev pub WithoutPins : Type 0
WithoutPins =
    (s : Settings) (cs : List ℕ)
    → settings_number s ≡ 0
    → length cs ≡ s.n
    → All (λ c. 1 ≤ c) cs
    → let unpinned : List (ℕ × Bool) = map (λ c. (c, false)) cs in
    (victim s unpinned ≡ victim_by_counts s cs) × (chains s unpinned ≡ chains_by_counts s cs)
