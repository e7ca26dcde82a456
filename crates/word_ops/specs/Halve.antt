-- Halving as stores, in the order of the code: the chains are emptied, and filled again from the stack's tail up; and the test that
-- comes before it, by Amax × r. Assumes nothing.
use Rattle.std.specs.Prelude.{ℕ, zero, suc, ◌+◌, ◌*◌, ◌/◌, Bool, List, ltb}
use Rattle.basics.specs.Basics.{pick}
use Rattle.words.specs.Words.{val, set_link}
use Rattle.layout.specs.Addresses.{RESIDENTS, SUM, TAIL, COUNT, TO-HEAD, chain_head, chain_tail}
use Rattle.word_ops.specs.Lists.{word_of}
use Rattle.word_ops.specs.Hit.{count_set, chain_joined}

-- C/2 rounded up
abbrev pub half : ℕ → ℕ
half count = (count + 1) / 2

-- chains 1 to i emptied
unfoldable pub chains_cleared : List ℕ → ℕ → List ℕ
chains_cleared w zero = w
chains_cleared w (suc i) = set_link (set_link (chains_cleared w i) (chain_head (suc i)) 0) (chain_tail (suc i)) 0

unfoldable pub halved_to : List ℕ → ℕ → ℕ → ℕ → ℕ → ℕ → List ℕ
halved_to w at cmax e count count' = chain_joined (count_set w at e count count') at cmax e count'

-- the count of e halved, and e put before those of its chain that are below it in the stack
unfoldable pub halved_entry : List ℕ → ℕ → ℕ → ℕ → List ℕ
halved_entry w at cmax e = halved_to w at cmax e (val w (word_of at e COUNT)) (half (val w (word_of at e COUNT)))

-- n residents, from e towards the head
unfoldable pub halved_up : List ℕ → ℕ → ℕ → ℕ → ℕ → List ℕ
halved_up w at cmax zero e = w
halved_up w at cmax (suc n) e = halved_up (halved_entry w at cmax e) at cmax n (val w (word_of at e TO-HEAD))

unfoldable pub halved : List ℕ → ℕ → ℕ → List ℕ
halved w at cmax = halved_up (chains_cleared w cmax) at cmax (val w RESIDENTS) (val w TAIL)

-- whether the sum of counts exceeds Amax × r
abbrev pub over_average : List ℕ → ℕ → Bool
over_average w amax = ltb (amax * val w RESIDENTS) (val w SUM)

-- the counts looked at, once
abbrev pub settled : List ℕ → ℕ → ℕ → ℕ → List ℕ
settled w at cmax amax = pick (over_average w amax) (halved w at cmax) w
