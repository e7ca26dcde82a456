-- What `fbr_totals` writes (SCOPE, "The library's own calls"): the totals of a sound directory, or four 0s. Assumes nothing.
use Rattle.std.specs.Prelude.{ℕ, List, [], ◌∷◌}
use Rattle.basics.specs.Basics.{when◌then◌else◌, pick}
use Rattle.stack.specs.Stack.{Totals}
use Rattle.layout.specs.Sound.{sound, totals_in}
use Rattle.fbr.specs.Fronts.{figures_number}

-- in the order of the directory's header
abbrev pub totals_words : Totals → List ℕ
totals_words t = t.reads ∷ t.writes ∷ t.ins ∷ t.outs ∷ []

abbrev pub no_totals : Totals
no_totals = record { reads = 0; writes = 0; ins = 0; outs = 0 }

abbrev pub totals_figures : List ℕ → List ℕ
totals_figures words = totals_words (when sound words then totals_in words else no_totals)

-- 10, 6 or 0
abbrev pub totals_number : List ℕ → List ℕ → ℕ
totals_number words out = figures_number (totals_figures words) (pick (sound words) 0 6) out
