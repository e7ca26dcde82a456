-- Occupancy by count class (SCOPE, "Occupancy by count class"): the classes, and the table of a list of residents, whatever these hold.
-- Assumes nothing.
use Rattle.std.specs.Prelude.{ℕ, Bool, true, ◌&&◌}
use mathlib.Core.List.{List, [], ◌∷◌, map}
use Rattle.basics.specs.Basics.{bit, within, total, index_of}
use Rattle.stack.specs.Recency.{Resident}

-- ---- the classes

-- 1, 2, 3 to 4, 5 to 8, 9 to 16, 17 to 64, 65 to 1,000 and above, each by its least count and its greatest (no count exceeds 65,535)
abbrev pub classes : List (ℕ × ℕ)
classes = (1, 1) ∷ (2, 2) ∷ (3, 4) ∷ (5, 8) ∷ (9, 16) ∷ (17, 64) ∷ (65, 1000) ∷ (1001, 65535) ∷ []

abbrev pub in_class : ℕ → ℕ × ℕ → Bool
in_class count class = within class.0 class.1 count

-- 1 for each class that has a count, 0 for the others
abbrev pub having : ℕ → List ℕ
having count = map (λ class. bit (in_class count class)) classes

-- the class of a count, by its place among them, from 0 on (8 for a number that is no count)
unfoldable pub class_of : ℕ → ℕ
unfolding index_of
class_of count = index_of 1 (having count)

-- ---- the table

module _ {A : Type 0} where
  -- how many residents pass a test
  abbrev pub tally : (Resident A → Bool) → List (Resident A) → ℕ
  tally test l = total (map (λ x. bit (test x)) l)

  -- for each class, how many of its residents pass a test
  unfoldable pub column : (Resident A → Bool) → List (Resident A) → List ℕ
  unfolding total
  column test l = map (λ class. tally (λ x. test x && in_class x.count class) l) classes

-- Two columns of eight figures: the residents of each class, and how many of these are modified.
pub record Table : Type 0 where
  pub residents : List ℕ
  pub modified : List ℕ

abbrev pub table : {A : Type 0} → List (Resident A) → Table
table l = record { residents = column (λ x. true) l; modified = column (λ x. x.marks.modified) l }
