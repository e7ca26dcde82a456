-- Of the fields that the stack is read from, halving changes the counts alone. Assumes nothing.
use Rattle.std.specs.Prelude.{ℕ, zero, suc, ◌≡◌, refl}
use Rattle.std.proofs.Common.{◌∙◌}
use Rattle.layout.specs.Addresses.{BLOCK, MODIFIED, TO-HEAD}
use Rattle.linkage.specs.Fields.{Shape, Fields}
use Rattle.operations.specs.FieldOps.{clear, halve_one, halve_up}
use Rattle.operations.specs.HalveSound.{halveD}

-- ---- the other fields

pub halve_keeps : (s : Shape) (j : ℕ) → ((D : Fields) (x : ℕ) → halve_one s D x j ≡ D j) → (n x : ℕ) (D : Fields) → halve_up s n x D j ≡ D j
unfolding halve_up
halve_keeps s j h zero x D = refl
halve_keeps s j h (suc n) x D = halve_keeps s j h n (D TO-HEAD x) (halve_one s D x) ∙ h D x

pub halve_blocks : (s : Shape) (n : ℕ) (D : Fields) → halveD s n D BLOCK ≡ D BLOCK
halve_blocks s n D = halve_keeps s BLOCK (λ D x. refl) n (D TO-HEAD 0) (clear s.cmax D)

pub halve_modified : (s : Shape) (n : ℕ) (D : Fields) → halveD s n D MODIFIED ≡ D MODIFIED
halve_modified s n D = halve_keeps s MODIFIED (λ D x. refl) n (D TO-HEAD 0) (clear s.cmax D)
