-- Comparisons, computed. Theorems that help to believe the definitions.
use Rattle.std.specs.Prelude.{ℕ, ◌≡◌, refl, List, [], ◌∷◌, map, pos, negsuc}
use Rattle.basics.specs.Basics.{word}
use Rattle.settings.specs.declared.Settings.{Settings}
use Rattle.compare.specs.Compare.{declined, compared}

abbrev reads : List ℕ → List ℕ
reads = map (λ b. word 1 b)

abbrev old : ℕ → ℕ → Settings
old n nold = record { n = n; nnew = 0; nold = nold; cmax = 3; amax = 100; b = 1; m = 8 }

-- the new rule is as good as OPT
pub better : compared (old 2 2) (reads (1 ∷ 1 ∷ 0 ∷ 2 ∷ 5 ∷ 1 ∷ 5 ∷ 3 ∷ 1 ∷ 4 ∷ 4 ∷ 5 ∷ []))
    ≡ record { number = 0; lru = 9; chosen = 7; opt = 7; gain = pos 2; possible = 2 }
unfolding compared
better = refl

-- or worse than LRU: −1
pub worse : compared (old 4 2) (reads (4 ∷ 5 ∷ 4 ∷ 3 ∷ 5 ∷ 0 ∷ 4 ∷ 3 ∷ 0 ∷ 2 ∷ 5 ∷ 3 ∷ []))
    ≡ record { number = 0; lru = 6; chosen = 7; opt = 5; gain = negsuc 0; possible = 1 }
unfolding compared
worse = refl

-- LRU is as good as OPT: no improvement is given, though the chosen settings are worse
pub even : compared (old 3 3) (reads (4 ∷ 4 ∷ 5 ∷ 1 ∷ 0 ∷ 5 ∷ 5 ∷ 2 ∷ 3 ∷ 2 ∷ 5 ∷ 2 ∷ []))
    ≡ record { number = 0; lru = 6; chosen = 8; opt = 6; gain = pos 0; possible = 0 }
unfolding compared
even = refl

-- a block that is not below M; a write; settings first
pub outside : compared (old 3 3) (reads (4 ∷ 8 ∷ [])) ≡ declined 14
unfolding compared
outside = refl

pub written : compared (old 3 3) (word 2 1 ∷ []) ≡ declined 14
unfolding compared
written = refl

pub settings_first : compared (old 3 0) (word 2 1 ∷ []) ≡ declined 2
unfolding compared
settings_first = refl
