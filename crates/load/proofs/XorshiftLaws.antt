-- Xorshift steps one to one: `back` undoes `step` and `step` undoes `back`, over all states. So no two states step to one, and none but 0
-- steps to 0.
use Rattle.std.specs.Prelude.{ℕ, ◌+◌, ◌*◌, ◌/◌, ◌%◌, ◌^◌, ◌≡◌}
use Rattle.std.proofs.Common.{arith, add_comm, add-zero, mul_assoc, mul_comm, add-mul, div-add-mod', sym, ap, ap₂, ◌∙◌, pow_pos, pow-add, shr-shr}
use Rattle.std.proofs.Math.Nat.{mul-mod_left, mul-add-mod_self_right, div-eq_of_lt}
use Rattle.std.proofs.lemmas.Nat.{xor_block, xor_mod, xor_shr}
use Rattle.std.specs.Int.Bits.{bit_xor, xor_zero_r}
use Rattle.load.specs.Xorshift.{State, left, right, mixed, step, back, NeverToZero, OneToOne, Inverse}
use Rattle.load.proofs.StateLaws.{left_state, step_state, back_state}
use Rattle.load.proofs.XorLaws.{xor_swap, xor_cancel}

-- ---- mixes

-- a shift that passes through exclusive or, and of which two in a row add up
record Shifts (shift : ℕ → ℕ → ℕ) : Type 0 where
  pub through : (k a b : ℕ) → shift k (bit_xor a b) ≡ bit_xor (shift k a) (shift k b)
  pub adds : (j k x : ℕ) → shift j (shift k x) ≡ shift (k + j) x

module _ (shift : ℕ → ℕ → ℕ) (s : Shifts shift) where
  mix_mix : (j k x : ℕ) → mixed shift j (mixed shift k x) ≡ bit_xor (bit_xor x (shift k x)) (bit_xor (shift j x) (shift (k + j) x))
  mix_mix j k x =
      ap (λ (y : ℕ). bit_xor (bit_xor x (shift k x)) y) (s.through j x (shift k x) ∙ ap (λ (y : ℕ). bit_xor (shift j x) y) (s.adds j k x))

  mix_twice : (k x : ℕ) → mixed shift k (mixed shift k x) ≡ mixed shift (k + k) x
  mix_twice k x = mix_mix k k x ∙ xor_cancel x (shift k x) (shift (k + k) x)

  mix_order : (j k x : ℕ) → mixed shift j (mixed shift k x) ≡ mixed shift k (mixed shift j x)
  mix_order j k x =
      mix_mix j k x ∙ xor_swap x (shift k x) (shift j x) (shift (k + j) x)
      ∙ ap (λ (n : ℕ). bit_xor (bit_xor x (shift j x)) (bit_xor (shift k x) (shift n x))) (add_comm k j) ∙ sym (mix_mix k j x)

-- nothing is mixed in where the shift leaves nothing
mix_nothing : (shift : ℕ → ℕ → ℕ) (k x : ℕ) → shift k x ≡ 0 → mixed shift k x ≡ x
mix_nothing shift k x e = ap (λ (y : ℕ). bit_xor x y) e ∙ xor_zero_r x

-- ---- the two shifts

xor_shl : (k a b : ℕ) → bit_xor a b * 2 ^ k ≡ bit_xor (a * 2 ^ k) (b * 2 ^ k)
xor_shl k a b =
    sym (add-zero (bit_xor a b * 2 ^ k))
    ∙ sym (xor_block k a b 0 0 (pow_pos k) (pow_pos k))
    ∙ ap₂ bit_xor (add-zero (a * 2 ^ k)) (add-zero (b * 2 ^ k))

-- a factor may be cut first
cut_first : (w x p : ℕ) → x % w * p % w ≡ x * p % w
cut_first w x p =
    sym (mul-add-mod_self_right (x / w * p) w (x % w * p))
    ∙ ap (λ (y : ℕ). y % w)
    (ap (λ (y : ℕ). y + x % w * p) (mul_assoc (x / w) p w ∙ ap (λ (y : ℕ). x / w * y) (mul_comm p w) ∙ sym (mul_assoc (x / w) w p))
    ∙ sym (add-mul (x / w * w) (x % w) p) ∙ ap (λ (y : ℕ). y * p) (div-add-mod' x w))

left_shifts : Shifts left
unfolding left
left_shifts =
    record {
      through = λ k a b. ap (λ (x : ℕ). x % 2 ^ 32) (xor_shl k a b) ∙ xor_mod (a * 2 ^ k) (b * 2 ^ k) 32;
      adds = λ j k x.
          cut_first (2 ^ 32) (x * 2 ^ k) (2 ^ j)
          ∙ ap (λ (y : ℕ). y % 2 ^ 32) (mul_assoc x (2 ^ k) (2 ^ j) ∙ ap (λ (y : ℕ). x * y) (sym (pow-add 2 k j)));
    }

right_shifts : Shifts right
unfolding right
right_shifts = record { through = λ k a b. xor_shr a b k; adds = λ j k x. shr-shr x k j }

-- by 32 or more to the left, nothing is left
left_out : (k x : ℕ) → left (k + 32) x ≡ 0
unfolding left
left_out k x =
    ap (λ (y : ℕ). y % 2 ^ 32) (ap (λ (y : ℕ). x * y) (pow-add 2 k 32) ∙ sym (mul_assoc x (2 ^ k) (2 ^ 32)))
    ∙ mul-mod_left (x * 2 ^ k) (2 ^ 32)

left_twice : (k x : ℕ) → mixed left k (mixed left k x) ≡ mixed left (k + k) x
left_twice = mix_twice left left_shifts

left_order : (j k x : ℕ) → mixed left j (mixed left k x) ≡ mixed left k (mixed left j x)
left_order = mix_order left left_shifts

left_nothing : (k x : ℕ) → mixed left (k + 32) x ≡ x
left_nothing k x = mix_nothing left (k + 32) x (left_out k x)

-- ---- states

-- ---- each mix undone

undo_13 : (x : ℕ) → mixed left 26 (mixed left 13 (mixed left 13 x)) ≡ x
undo_13 x = ap (mixed left 26) (left_twice 13 x) ∙ left_twice 26 x ∙ left_nothing 20 x

undo_5 : (x : ℕ) → mixed left 20 (mixed left 10 (mixed left 5 (mixed left 5 x))) ≡ x
undo_5 x =
    ap (λ (y : ℕ). mixed left 20 (mixed left 10 y)) (left_twice 5 x)
    ∙ ap (mixed left 20) (left_twice 10 x) ∙ left_twice 20 x ∙ left_nothing 8 x

undo_17 : (x : ℕ) → State x → mixed right 17 (mixed right 17 x) ≡ x
unfolding right
undo_17 x h = mix_twice right right_shifts 17 x ∙ mix_nothing right 34 x (div-eq_of_lt (omega arith))

-- the other way round
redo_13 : (x : ℕ) → mixed left 13 (mixed left 26 (mixed left 13 x)) ≡ x
redo_13 x = left_order 13 26 (mixed left 13 x) ∙ undo_13 x

redo_5 : (x : ℕ) → mixed left 5 (mixed left 20 (mixed left 10 (mixed left 5 x))) ≡ x
redo_5 x =
    left_order 5 20 (mixed left 10 (mixed left 5 x))
    ∙ ap (mixed left 20) (left_order 5 10 (mixed left 5 x)) ∙ undo_5 x

-- ---- the theorems

back_step : (x : ℕ) → State x → back (step x) ≡ x
unfolding step back
back_step x h =
    ap (λ (y : ℕ). mixed left 26 (mixed left 13 (mixed right 17 y))) (undo_5 (mixed right 17 (mixed left 13 x)))
    ∙ ap (λ (y : ℕ). mixed left 26 (mixed left 13 y)) (undo_17 (mixed left 13 x) (left_state 13 x h))
    ∙ undo_13 x

step_back : (x : ℕ) → State x → step (back x) ≡ x
unfolding step back
step_back x h =
    let y = mixed left 20 (mixed left 10 (mixed left 5 x)) in
    ap (λ (z : ℕ). mixed left 5 (mixed right 17 z)) (redo_13 (mixed right 17 y))
    ∙ ap (mixed left 5) (undo_17 y (left_state 20 _ (left_state 10 _ (left_state 5 x h))))
    ∙ redo_5 x

pub inverse : Inverse
inverse x h = ((step_state x h, back_step x h), (back_state x h, step_back x h))

pub step_injective : (x y : ℕ) → State x → State y → step x ≡ step y → x ≡ y
step_injective x y h l e = sym (back_step x h) ∙ ap back e ∙ back_step y l

pub one_to_one : OneToOne
one_to_one x y h l other e = other (step_injective x y h l e)

-- 0 is stepped to by 0, and by no other
pub never_to_zero : NeverToZero
unfolding step left right
never_to_zero x h = one_to_one x 0 h (omega arith)
