-- What the occupancy call promises (SCOPE, "Occupancy by count class"): its number, and the table of the residents read off along the
-- stack links. It only reads. Then what is proved of the table. Statements only.
use Rattle.std.specs.Prelude.{ℕ, ◌≤◌, ◌≡◌, List, [], ◌∷◌, map, get_or, T}
use Rattle.basics.specs.Basics.{when◌then◌else◌, total}
use Rattle.basics.specs.Lists.{counting}
use Rattle.words.specs.Words.{val}
use Rattle.settings.specs.declared.Settings.{Settings}
use Rattle.stack.specs.Stack.{Plain, modified_count}
use Rattle.stack.specs.Occupancy.{having, class_of, Table, table}
use Rattle.layout.specs.Addresses.{RESIDENTS}
use Rattle.layout.specs.Sound.{settings_in, sound, resident_at, residents_in}
use Rattle.promises.specs.Promises.{Fresh, Slices}
use Rattle.promises.specs.Demand3.{Memory, Lending, Linked, starts, memory_left, stack_left}

-- ---- the call

-- 6 where the directory is not sound, as in a batch
unfoldable pub occupancy_number : List ℕ → ℕ
unfolding sound
occupancy_number words = when sound words then 0 else 6

-- and then all sixteen figures are 0
abbrev pub no_figures : Table
no_figures = record { residents = 0 ∷ 0 ∷ 0 ∷ 0 ∷ 0 ∷ 0 ∷ 0 ∷ 0 ∷ []; modified = 0 ∷ 0 ∷ 0 ∷ 0 ∷ 0 ∷ 0 ∷ 0 ∷ 0 ∷ [] }

unfoldable pub table_in : List ℕ → Table
unfolding sound
table_in words = let shown = table (residents_in words) in when sound words then shown else no_figures

-- ---- every count from 1 to 65,535 has exactly one class

-- and it is the one at the place read off
abbrev pub OneClass : Type 0
OneClass = (count : ℕ) → 1 ≤ count → count ≤ 65535 → (total (having count) ≡ 1) × (get_or (having count) (class_of count) 0 ≡ 1)

-- ---- the columns add up, for every sound directory

-- the modified marks of all N entries
abbrev pub modified_in : List ℕ → ℕ
modified_in words = modified_count (map (resident_at words) (counting 1 (settings_in words).n))

-- to r, word 7, and to the number of modified marks in the directory
abbrev pub AddsUp : Type 0
AddsUp =
    (words : List ℕ) → T (sound words)
    → (total (table_in words).residents ≡ val words RESIDENTS) × (total (table_in words).modified ≡ modified_in words)

-- ---- after every list of calls, as in demand 3, the table is the plain stack's

abbrev pub TableAlike : Memory → Plain → Type 0
TableAlike m k = (occupancy_number m.directory ≡ 0) × (table_in m.directory ≡ table k.residents)

abbrev pub PlainTable : Type 0
PlainTable =
    (s : Settings) (before directory bytes store : List ℕ) (cs : List Lending) (ts : List (ℕ × Slices))
    → Fresh s before 0 directory
    → Linked (record { directory = directory; bytes = bytes; store = store }) cs ts
    → TableAlike (memory_left (record { directory = directory; bytes = bytes; store = store }) cs ts) (stack_left (starts s store) cs)
