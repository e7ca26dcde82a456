-- Marsaglia's 32-bit xorshift of 2003 (SCOPE, "A test load"): its step, the step back, and what is proved of them. Assumes nothing.
use Rattle.std.specs.Prelude.{ℕ, ◌*◌, ◌/◌, ◌%◌, ◌^◌, ◌<◌, ◌≡◌, ◌≢◌}
use Rattle.std.specs.Int.Bits.{bit_xor}

-- a state: a number of 32 bits
abbrev pub State : ℕ → Type 0
State x = x < 2 ^ 32

-- a shift to the left, cut to 32 bits, and one to the right
unfoldable pub left : ℕ → ℕ → ℕ
left k x = x * 2 ^ k % 2 ^ 32

unfoldable pub right : ℕ → ℕ → ℕ
right k x = x / 2 ^ k

-- a number mixed by exclusive or with itself shifted
abbrev pub mixed : (ℕ → ℕ → ℕ) → ℕ → ℕ → ℕ
mixed shift k x = bit_xor x (shift k x)

-- the next state: shifts left 13, right 17, left 5
unfoldable pub step : ℕ → ℕ
unfolding left right
step x = mixed left 5 (mixed right 17 (mixed left 13 x))

-- The state before. Mixed twice by a shift is mixed once by twice that shift, and a shift by 32 or more leaves nothing. So left 5 is
-- undone by left 5, 10 and 20, right 17 by itself, left 13 by left 13 and 26.
unfoldable pub back : ℕ → ℕ
unfolding left right
back x = mixed left 26 (mixed left 13 (mixed right 17 (mixed left 20 (mixed left 10 (mixed left 5 x)))))

-- ---- what is proved of them

-- no nonzero state steps to 0
abbrev pub NeverToZero : Type 0
NeverToZero = (x : ℕ) → State x → x ≢ 0 → step x ≢ 0

-- two different states never step to the same one
abbrev pub OneToOne : Type 0
OneToOne = (x y : ℕ) → State x → State y → x ≢ y → step x ≢ step y

-- both lead from states to states, and each undoes the other: every state has exactly one before it
abbrev pub Inverse : Type 0
Inverse = (x : ℕ) → State x → (State (step x) × (back (step x) ≡ x)) × (State (back x) × (step (back x) ≡ x))
