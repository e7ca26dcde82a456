-- What the directory asks of the cache before an operation: the other half of its promises. Statements only.
use Rattle.std.specs.Prelude.{ℕ, ◌-◌, ◌^◌, ◌<◌, ◌≡◌, true, List, length, T}
use Rattle.std.proofs.Math.Option.{none, some}
use Rattle.std.proofs.Math.ListN.{get_elem?}
use Rattle.stack.specs.Recency.{Resident, lookup}
use Rattle.layout.specs.Sound.{settings_in, totals_in, sound, resident_at, residents_in}

-- entry e holds the resident of a block
pub record ResidentAt (words : List ℕ) (e : ℕ) : Type 0 where
  pub block : ℕ
  pub here : lookup block (residents_in words) ≡ some (resident_at words e)

-- one read or write more can be counted
pub record Countable (words : List ℕ) : Type 0 where
  pub reads : (totals_in words).reads < 2 ^ 56 - 1
  pub writes : (totals_in words).writes < 2 ^ 56 - 1

pub record HitReady (words : List ℕ) (e : ℕ) : Type 0 where
  pub is_sound : T (sound words)
  pub resident : ResidentAt words e
  pub countable : Countable words

-- no resident has the block
pub record MissReady (words : List ℕ) (block : ℕ) : Type 0 where
  pub is_sound : T (sound words)
  pub inside : block < (settings_in words).m
  pub absent : lookup block (residents_in words) ≡ none
  pub countable : Countable words

pub record EnterReady (words : List ℕ) (block : ℕ) : Type 0 where
  pub miss : MissReady words block
  pub unused : length (residents_in words) < (settings_in words).n

pub record ReplaceReady (words : List ℕ) (block : ℕ) : Type 0 where
  pub miss : MissReady words block
  pub full : length (residents_in words) ≡ (settings_in words).n

-- of a purge, a pin or an unpin
pub record ResidentReady (words : List ℕ) (e : ℕ) : Type 0 where
  pub is_sound : T (sound words)
  pub resident : ResidentAt words e

-- entry e is that of a modified resident, which was written out or has seen a tick
pub record ModifiedReady (words : List ℕ) (e : ℕ) : Type 0 where
  pub is_sound : T (sound words)
  pub position : ℕ
  pub resident : Resident ℕ
  pub here : get_elem? (residents_in words) position ≡ some resident
  pub entry : resident.held ≡ e
  pub modified : resident.marks.modified ≡ true
