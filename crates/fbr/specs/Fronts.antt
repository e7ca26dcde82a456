-- What the calls with an `out` leave there (SCOPE, "Occupancy by count class", "What the new rule gains", "The library's own calls"): what
-- they give stands at its front and the rest stays, or nothing is written where it is longer than out. Assumes nothing.
use Rattle.std.specs.Prelude.{ℕ, List, length, leb}
use Rattle.basics.specs.Basics.{when◌then◌else◌}
use Rattle.promises.specs.Promises.{over}

-- the part at the front of out, or out as it was where it is shorter than the part
abbrev pub fitted : {A : Type 0} → List A → List A → List A
fitted part out = when leb (length part) (length out) then over part out else out

-- The number that a call returns with its figures: 10 before any other where out is shorter than they are.
abbrev pub figures_number : {A : Type 0} → List A → ℕ → List A → ℕ
figures_number figures number out = when leb (length figures) (length out) then number else 10
