-- What the new rule gains on a trace of reads (SCOPE, "What the new rule gains"): the number of a comparison and its five figures; then what
-- is proved of them. Assumes nothing.
use Rattle.std.specs.Prelude.{ℕ, ◌+◌, ◌-◌, ◌≤◌, ◌≡◌, ◌≢◌, Bool, ◌||◌, not, List, [], map, length, ℤ, pos, ◌-ℤ◌, eqb, ltb, Result, Ok, Err}
use Rattle.std.specs.Int.Signed.{mag}
use Rattle.basics.specs.Basics.{when◌then◌else◌}
use Rattle.basics.specs.Lists.{all}
use Rattle.settings.specs.declared.Settings.{Settings}
use Rattle.settings.specs.Numbers.{settings_number}
use Rattle.stack.specs.Stack.{empty}
use Rattle.stack.specs.Batch.{work, is_read, plain_run}
use Rattle.opt.specs.Opt.{opt_ins}
use Rattle.opt.specs.Ins.{trace_of, most_reads, ins_of, lru}
use Rattle.refusals.specs.declared.Refusal.{Refusal}
use Rattle.refusals.specs.Refusals.{number}
use Rattle.compare.specs.declared.Figures.{Figures}

-- ---- the number

-- a read of a block below M
abbrev pub is_trace_read : Settings → ℕ → Bool
unfolding work
is_trace_read s w = eqb (is_read (work s w)) 1

-- a trace over 4,096 words, or with a word other than a read of a block below M
unfoldable pub is_no_trace : Settings → List ℕ → Bool
unfolding work all
is_no_trace s words = ltb most_reads (length words) || not (all (is_trace_read s) words)

-- 1 to 4, then 14, or 0
unfoldable pub compare_number : Settings → List ℕ → ℕ
unfolding settings_number is_no_trace
compare_number s words =
    let refused = settings_number s in
    let untraced = is_no_trace s words in
    when eqb refused 0 then (when untraced then 14 else 0) else refused

-- ---- the figures

-- The number of a comparison and its five figures.
pub record Compared : Type 0 where
  pub number : ℕ
  pub lru : ℕ
  pub chosen : ℕ
  pub opt : ℕ
  pub gain : ℤ
  pub possible : ℕ

-- The ins under LRU, under the chosen settings and under OPT; LRU − chosen, which may be negative, and LRU − OPT. If the latter is 0, no
-- improvement is given and both are 0.
unfoldable pub figures : ℕ → ℕ → ℕ → Compared
figures l c o =
    when eqb l o
    then record { number = 0; lru = l; chosen = c; opt = o; gain = pos 0; possible = 0 }
    else record { number = 0; lru = l; chosen = c; opt = o; gain = pos l -ℤ pos c; possible = l - o }

-- any refusal has all figures 0
abbrev pub declined : ℕ → Compared
declined n = record { number = n; lru = 0; chosen = 0; opt = 0; gain = pos 0; possible = 0 }

-- what a call returns, as this table has it
abbrev pub shown : Result Figures Refusal → Compared
shown (Ok f) = record { number = 0; lru = f.lru; chosen = f.chosen; opt = f.opt; gain = f.gain; possible = f.possible }
shown (Err why) = declined (number why)

unfoldable pub compared : Settings → List ℕ → Compared
unfolding compare_number figures ins_of opt_ins
compared s words =
    let n = compare_number s words in
    let t = trace_of words in
    let given = figures (ins_of (lru s) t) (ins_of s t) (opt_ins s.n t) in
    when eqb n 0 then given else declined n

-- ---- what is proved of them

-- where it is accepted, the ins are those of the plain stack when it runs the words themselves, over any store: as chosen, and as LRU
abbrev pub InsOfWords : Type 0
InsOfWords =
    (s : Settings) (words store : List ℕ) → compare_number s words ≡ 0
    → ((plain_run (empty s store) (map (work s) words) []).after.totals.ins ≡ (compared s words).chosen)
    × ((plain_run (empty (lru s) store) (map (work s) words) []).after.totals.ins ≡ (compared s words).lru)

-- LRU − OPT is a whole number that is never negative, and OPT has no more ins than the chosen settings
abbrev pub NoFewerThanOpt : Type 0
NoFewerThanOpt =
    (s : Settings) (words : List ℕ) → let c = compared s words in (c.opt + c.possible ≡ c.lru) × (c.opt ≤ c.chosen)

-- where it is 0 no improvement is given
abbrev pub NoneGiven : Type 0
NoneGiven = (s : Settings) (words : List ℕ) → let c = compared s words in c.possible ≡ 0 → c.gain ≡ pos 0

-- and where it isn't, the improvement is that of the ins
abbrev pub Given : Type 0
Given = (s : Settings) (words : List ℕ) → let c = compared s words in c.possible ≢ 0 → c.gain ≡ pos c.lru -ℤ pos c.chosen

-- figures that an i32 holds
pub record Small (c : Compared) : Type 0 where
  pub lru_few : c.lru ≤ 4096
  pub chosen_few : c.chosen ≤ 4096
  pub opt_few : c.opt ≤ 4096
  pub gain_few : mag c.gain ≤ 4096
  pub possible_few : c.possible ≤ 4096
