-- The blocks that a bucket can have: as far as the check searches for a second resident.
use Rattle.std.specs.Prelude.{ℕ, ◌%◌, List, eqb}
use Rattle.basics.specs.Lists.{counting}
use Rattle.links.specs.Sift.{sift}
use Rattle.fnv.specs.Fnv.{fnv}

-- the blocks below m of bucket b
unfoldable pub bucket_blocks : ℕ → ℕ → ℕ → List ℕ
bucket_blocks nb b m = sift (λ v. eqb (fnv v % nb) b) (counting 0 m)
