-- The residents of a stack with what they hold forgotten, and a trace of reads over them.
use Rattle.std.specs.Prelude.{ℕ, ◌+◌, false, List, [], ◌∷◌}
use mathlib.Core.List.{map}
use Rattle.settings.specs.declared.Settings.{Settings}
use Rattle.stack.specs.Recency.{Resident, hold, Place, place, asked, halves, settled}
use Rattle.stack.specs.Stack.{entering}

-- ---- residents that hold nothing

abbrev pub Bare : Type 0
Bare = Resident (Unit {0})

abbrev pub nothing : {A : Type 0} → A → Unit {0}
nothing a = tt

abbrev pub bare : {A : Type 0} → List (Resident A) → List Bare
bare l = map (hold nothing) l

-- after a read of block b, which then holds a
abbrev pub read_at : {A : Type 0} → Settings → ℕ → A → Place A → List (Resident A)
read_at s b a q = settled (halves s q (asked b false a q)) (asked b false a q)

unfoldable pub after_read : Settings → ℕ → List Bare → List Bare
unfolding place asked halves settled
after_read s b l = read_at s b tt (place s b l)

-- the ins of a trace
unfoldable pub ins_from : Settings → List Bare → List ℕ → ℕ
unfolding entering place after_read
ins_from s l [] = 0
ins_from s l (b ∷ t) = entering (place s b l) + ins_from s (after_read s b l) t
