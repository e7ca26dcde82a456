-- How many link words differ between two states of a directory (SCOPE, "The demands": a link word is changed if its
-- value after the batch is another than before). Assumes nothing.
use Rattle.std.specs.Prelude.{ℕ, ◌+◌, ◌/◌, ◌^◌, Bool, not, ◌&&◌, List, [], ◌∷◌, eqb}
use Rattle.basics.specs.Basics.{bit}

abbrev pub is_link : ℕ → Bool
is_link word = eqb (word / 2 ^ 28) 2

-- 1 where a link word was changed
abbrev pub link_differs : ℕ → ℕ → ℕ
link_differs before after = bit (is_link before && not (eqb before after))

unfoldable pub links_changed : List ℕ → List ℕ → ℕ
links_changed [] after = 0
links_changed (x ∷ before) [] = 0
links_changed (x ∷ before) (y ∷ after) = link_differs x y + links_changed before after
