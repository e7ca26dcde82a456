-- What is proved of OPT, of schemes and of the plain stack (SCOPE, "What the new rule gains"). Statements only.
use Rattle.std.specs.Prelude.{ℕ, ◌-◌, ◌≤◌, ◌<◌, ◌≡◌, ◌⊎◌, true, false, List, [], map, length}
use Rattle.basics.specs.Basics.{All, member}
use Rattle.settings.specs.declared.Settings.{Settings}
use Rattle.settings.specs.Numbers.{settings_number}
use Rattle.stack.specs.Counts.{victim as stackVictim}
use Rattle.stack.specs.Recency.{blocks}
use Rattle.stack.specs.Stack.{Plain, read, empty, plain_step}
use Rattle.stack.specs.Batch.{plain_run}
use Rattle.opt.specs.Opt.{next, victim, opt_ins}
use Rattle.opt.specs.Ins.{lru, ins_of}
use Rattle.opt.specs.Schemes.{Loads, Runs, Rule, Names, rule_ins}

-- ---- whom OPT replaces

-- v rather than x: its next read is further, or they are equally far and v is no higher
abbrev pub Rather : List ℕ → ℕ → ℕ → Type 0
Rather t v x = (next x t < next v t) ⊎ ((next x t ≡ next v t) × (v ≤ x))

-- a resident, and it rather than any other
abbrev pub VictimFurthest : Type 0
VictimFurthest =
    (t C : List ℕ) → 0 < length C → (member (victim t C) C ≡ true) × ((x : ℕ) → member x C ≡ true → Rather t (victim t C) x)

-- a block that is never read is further than one that is
abbrev pub NeverFurthest : Type 0
NeverFurthest = (t : List ℕ) (never read : ℕ) → member never t ≡ false → member read t ≡ true → next read t < next never t

-- ---- no scheme that starts empty has fewer ins

abbrev pub OptFewest : Type 0
OptFewest = (N : ℕ) → 1 ≤ N → (t : List ℕ) (ins : ℕ) → Runs N t [] ins → opt_ins N t ≤ ins

-- nor has any rule, by whatever past and future
abbrev pub RulesNoFewer : Type 0
RulesNoFewer = (rule : Rule) → Names rule → (N : ℕ) → 1 ≤ N → (t : List ℕ) → opt_ins N t ≤ rule_ins rule N [] t []

-- OPT goes by a rule, so it is one of the schemes
abbrev pub opt_rule : Rule
unfolding victim
opt_rule past coming C = victim coming C

abbrev pub OptIsARule : Type 0
OptIsARule = Names opt_rule × ((N : ℕ) (t : List ℕ) → rule_ins opt_rule N [] t [] ≡ opt_ins N t)

-- ---- the plain stack is a scheme, so it has no fewer: under the chosen settings, and as LRU

-- the same residents, in whatever order
abbrev pub SameBlocks : List ℕ → List ℕ → Type 0
SameBlocks C D = ((x : ℕ) → member x C ≡ member x D) × (length C ≡ length D)

-- what a read of block b may do to a scheme's residents: a hit leaves them, a miss loads the block
pub record SchemeStep (N b : ℕ) (C D : List ℕ) : Type 0 where
  pub at_hit : member b C ≡ true → SameBlocks C D
  pub at_miss : member b C ≡ false → (L : List ℕ) × Loads N b C L × SameBlocks L D

-- the plain stack once a trace was read, from empty
abbrev pub after : Settings → List ℕ → Plain
unfolding plain_run
after s t = (plain_run (empty s []) (map read t) []).after

-- every read of the plain stack is such a step
abbrev pub StackIsAScheme : Type 0
StackIsAScheme =
    (s : Settings) → settings_number s ≡ 0 → (t : List ℕ) (b : ℕ)
    → SchemeStep s.n b (blocks (after s t).residents) (blocks (plain_step (after s t) (read b) []).after.residents)

-- and it has as many ins as that scheme
abbrev pub StackRuns : Type 0
StackRuns = (s : Settings) → settings_number s ≡ 0 → (t : List ℕ) → Runs s.n t [] (ins_of s t)

abbrev pub OptAtMost : Type 0
OptAtMost = (s : Settings) → settings_number s ≡ 0 → (t : List ℕ) → (opt_ins s.n t ≤ ins_of s t) × (opt_ins s.n t ≤ ins_of (lru s) t)

-- ---- LRU replaces the least recent: among N residents without pins, of whatever counts, the one at position N − 1

abbrev pub LruLeastRecent : Type 0
LruLeastRecent =
    (s : Settings) → settings_number s ≡ 0 → (cs : List ℕ) → length cs ≡ s.n → All (λ c. 1 ≤ c) cs
    → stackVictim (lru s) (map (λ c. (c, false)) cs) ≡ s.n - 1

-- ---- the plain stack's ins are the same over any store

abbrev pub AnyStore : Type 0
AnyStore = (s : Settings) (store t : List ℕ) → (plain_run (empty s store) (map read t) []).after.totals.ins ≡ ins_of s t
