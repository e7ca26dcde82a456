-- Where a flush stands along the stack. Statements only.
use Rattle.std.specs.Prelude.{ℕ, ◌<◌, ◌≡◌, List, length}
use Rattle.layout.specs.Sound.{residents_in}
use Rattle.promises.specs.DirectoryPromises.{entry_at}
use Rattle.promises.specs.Demand3.{Memory}
use Rattle.cache_steps.specs.Carried.{settings_of, Ready}

-- entry e is that of the resident at position p
pub record Standing (words : List ℕ) (p e : ℕ) : Type 0 where
  pub inside : p < length (residents_in words)
  pub entry : entry_at (residents_in words) p ≡ e

-- entry e is that of a resident, and blocks have this size
pub record EntryReady (m : Memory) (size e : ℕ) : Type 0 where
  pub ready : Ready m
  pub size_is : size ≡ (settings_of m).b
  pub position : ℕ
  pub standing : Standing m.directory position e
