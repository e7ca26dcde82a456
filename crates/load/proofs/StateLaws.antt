-- States stay states: a step and its inverse keep to 32 bits.
use Rattle.std.specs.Prelude.{ℕ, ◌*◌, ◌/◌, ◌%◌, ◌^◌}
use Rattle.std.proofs.Common.{mod-lt, lt_of_le_of_lt, pow_pos}
use Rattle.std.proofs.lemmas.Nat.{shr_le, xor_lt}
use Rattle.load.specs.Xorshift.{State, left, right, mixed, step, back}

pub left_state : (k x : ℕ) → State x → State (mixed left k x)
unfolding left
left_state k x h = xor_lt 32 x (x * 2 ^ k % 2 ^ 32) h (mod-lt (x * 2 ^ k) (pow_pos 32))

pub right_state : (k x : ℕ) → State x → State (mixed right k x)
unfolding right
right_state k x h = xor_lt 32 x (x / 2 ^ k) h (lt_of_le_of_lt (shr_le x k) h)

pub step_state : (x : ℕ) → State x → State (step x)
unfolding step
step_state x h = left_state 5 (mixed right 17 (mixed left 13 x)) (right_state 17 (mixed left 13 x) (left_state 13 x h))

pub back_state : (x : ℕ) → State x → State (back x)
unfolding back
back_state x h =
    left_state 26 _ (left_state 13 _ (right_state 17 _ (left_state 20 _ (left_state 10 _ (left_state 5 x h)))))
