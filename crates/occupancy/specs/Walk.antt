-- Where the walk along the stack stands. Statements only.
use Rattle.std.specs.Prelude.{ℕ, ◌≤◌, ◌≡◌, List, get_or, take}
use Rattle.stack.specs.Counts.{Legal}
use Rattle.stack.specs.Occupancy.{table}
use Rattle.stack.specs.Occupancy as stack
use Rattle.layout.specs.Sound.{residents_in}
use Rattle.promises.specs.DirectoryPromises.{entry_at}
use Rattle.occupancy.specs.declared.Table.{Table}

-- the columns are these
pub record Shows (t : Table) (figures : stack.Table) : Type 0 where
  pub residents_are : t.residents ≡ figures.residents
  pub modified_are : t.modified ≡ figures.modified

-- a count with a class, and room for one more in every figure
pub record Room (t : Table) (count : ℕ) : Type 0 where
  pub legal : Legal count
  pub residents_few : (i : ℕ) → get_or t.residents i 0 ≤ 4096
  pub modified_few : (i : ℕ) → get_or t.modified i 0 ≤ 4096

-- p residents are counted, and entry e is that of the next
pub record Walked (words : List ℕ) (p : ℕ) (t : Table) (e : ℕ) : Type 0 where
  pub shows : Shows t (table (take p (residents_in words)))
  pub entry : e ≡ entry_at (residents_in words) p
