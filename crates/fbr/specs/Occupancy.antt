-- What `fbr_occupancy` writes and returns (SCOPE, "Occupancy by count class"). Assumes nothing.
use Rattle.std.specs.Prelude.{ℕ, List, ◌++◌}
use Rattle.promises.specs.Occupancy.{occupancy_number, table_in}
use Rattle.fbr.specs.Fronts.{figures_number}

-- the residents of the eight classes, then the modified ones
abbrev pub occupancy_figures : List ℕ → List ℕ
occupancy_figures words = (table_in words).residents ++ (table_in words).modified

-- 10, 6 or 0
abbrev pub occupancy_returns : List ℕ → List ℕ → ℕ
occupancy_returns words out = figures_number (occupancy_figures words) (occupancy_number words) out
