use Prim.Native.Nat.{◌+◌}
use mathlib.Core.Path.{ap₂}
use Rattle.layout.specs.Sound.{totals_in}
use Rattle.words.specs.WordLaws.{val_small}
use native.Mathlib.Omega.{arith}
use Rattle.belt.proofs.moves.Goals as goal

pub overflow_add-result : goal.overflow_add-result
overflow_add-result c = let d = c.args.dir.now in omega (arith, val_small d 20, val_small d 21, val_small d 22, val_small d 23)

pub returns : goal.returns
unfolding totals_in
returns c = ap₂ (λ a b. a + b) c.total_at.ensures c.total_at-2.ensures
