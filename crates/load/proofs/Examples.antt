-- The first states from the seed 2463534242, the one of Marsaglia's paper, and the first words of a load. Theorems that help to believe the
-- definitions.
use Rattle.std.specs.Prelude.{◌≡◌, refl, [], ◌∷◌}
use Rattle.load.specs.Xorshift.{back}
use Rattle.load.specs.Load.{states, load, state_after}

pub first_states : states 2463534242 3 ≡ 723471715 ∷ 2497366906 ∷ 2064144800 ∷ []
unfolding states
first_states = refl

-- the last of them is what a load goes on from
pub third_state : state_after 2463534242 3 ≡ 2064144800
unfolding state_after
third_state = refl

-- and one step back
pub back_to_the_seed : back 723471715 ≡ 2463534242
unfolding back
back_to_the_seed = refl

-- over 100 blocks: reads of blocks 28 and 26, a write of block 0
pub first_words : load 100 2463534242 3 ≡ 268435484 ∷ 268435482 ∷ 536870912 ∷ []
unfolding load
first_words = refl
