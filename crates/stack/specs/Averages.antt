-- The average over residents (SCOPE, "The plain stack"): when a word halves the counts, by the sum of counts and r before it, and what
-- every count is then. Statements only.
use Rattle.std.specs.Prelude.{ℕ, ◌+◌, ◌*◌, ◌/◌, ◌≤◌, ◌≡◌, Bool, List, map, length, drop, ltb}
use Rattle.std.proofs.Math.Option.{some}
use Rattle.basics.specs.Basics.{when◌then◌else◌, total}
use Rattle.settings.specs.declared.Settings.{Settings}
use Rattle.settings.specs.Numbers.{settings_number}
use Rattle.stack.specs.Recency.{Resident, counts, lookup, removed}
use Rattle.stack.specs.Stack.{Plain, empty, Step, Work, read, write, purge, flush, tick, pin, unpin, invalid, Answer, hit, entered, replaced, halved}
use Rattle.stack.specs.Batch.{work, EachStep}

-- a read or a write of the block
abbrev pub Asks : ℕ → Work → Type 0
Asks b (read c) = c ≡ b
Asks b (write c) = c ≡ b
Asks b (purge c) = ⊥
Asks b flush = ⊥
Asks b tick = ⊥
Asks b (pin c) = ⊥
Asks b (unpin c) = ⊥
Asks b invalid = ⊥

-- a count then: where counts were halved C/2 rounded up, once
abbrev pub count_then : Bool → ℕ → ℕ
count_then halved c = when halved then (c + 1) / 2 else c

-- Of a word with the stack k before it, its answer, and the residents after it.
module _ (k : Plain) where
  abbrev sum : ℕ
  sum = total (counts k.residents)

  -- Amax times so many
  abbrev limit : ℕ → ℕ
  limit n = k.settings.amax * n

  abbrev r : ℕ
  r = length k.residents

  pub record Averaging (w : Work) (answer : Answer) (after : List (Resident (List ℕ))) : Type 0 where
    -- Where a block enters, it is one of the residents, with count 1.
    pub entering : (h : Bool) → answer ≡ entered h → h ≡ ltb (limit (r + 1)) (sum + 1)
    -- Where resident x is hit, its count is n then, risen or not.
    pub hitting : (b n : ℕ) (h : Bool) (x : Resident (List ℕ)) → Asks b w → lookup b k.residents ≡ some x → answer ≡ hit n h
        → h ≡ ltb (limit r + x.count) (sum + n)
    -- One halving a word, whatever the sum is then: of the block that is hit, and of every other resident.
    pub hit_once : (b n : ℕ) (h : Bool) (y : Resident (List ℕ)) → Asks b w → answer ≡ hit n h → lookup b after ≡ some y
        → y.count ≡ count_then (halved answer) n
    pub others_once : (b : ℕ) (x y : Resident (List ℕ)) → ¬ Asks b w → lookup b k.residents ≡ some x → lookup b after ≡ some y
        → y.count ≡ count_then (halved answer) x.count
    -- A replacement never halves: behind the block that entered, the others are as they were.
    pub replacing_calm : (v n : ℕ) (out : Bool) → answer ≡ replaced v n out → drop 1 after ≡ removed v k.residents
    -- The sum stays at most Amax × N.
    pub bounded : total (counts after) ≤ limit k.settings.n

abbrev pub Averages : Plain → Work → Step Plain → Type 0
Averages k w now = Averaging k w now.answer now.after.residents

-- Of the plain stack, from no residents on, over any work words.
abbrev pub PlainAverages : Type 0
PlainAverages =
    (s : Settings) (store words incoming : List ℕ)
    → settings_number s ≡ 0
    → EachStep Averages s.b (empty s store) (map (work s) words) incoming
