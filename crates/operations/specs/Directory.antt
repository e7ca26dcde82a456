-- A sound directory: its words, the fields that they hold, and the entries of the residents and the unused ones. Assumes nothing.
use Rattle.std.specs.Prelude.{ℕ, List}
use Rattle.linkage.specs.Fields.{Shape, Fields, View}
use Rattle.linkage.specs.WellLinked.{WellLinked}

pub record Directory (s : Shape) (w : List ℕ) (D : Fields) (residents unused : List ℕ) : Type 0 where
  pub view : View s w D
  pub linked : WellLinked s D residents unused
