-- What `fbr_compare` writes and returns (SCOPE, "What the new rule gains"). Assumes nothing.
use Rattle.std.specs.Prelude.{ℕ, List, [], ◌∷◌, ℤ, pos}
use Rattle.settings.specs.declared.Settings.{Settings}
use Rattle.compare.specs.Compare.{Compared, compared}
use Rattle.fbr.specs.Fronts.{figures_number}

-- ins under LRU, under the chosen settings and under OPT, LRU − chosen, LRU − OPT
abbrev pub compared_figures : Compared → List ℤ
compared_figures c = pos c.lru ∷ pos c.chosen ∷ pos c.opt ∷ c.gain ∷ pos c.possible ∷ []

-- 10, 1 to 4, 14 or 0
abbrev pub compared_returns : Settings → List ℕ → List ℤ → ℕ
compared_returns s words out = figures_number (compared_figures (compared s words)) (compared s words).number out
