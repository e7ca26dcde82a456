-- "Of this kind" at work (SCOPE, "Reads that don't depend on settings"): calls of one, two and three words, with what they came to.
use Rattle.std.specs.Prelude.{ℕ, ◌≡◌, refl, Bool, true, false, List, [], ◌∷◌}
use Rattle.basics.specs.Basics.{word}
use Rattle.stack.specs.Examples.{belt}
use Rattle.promises.specs.Reads.{of_this_kind}

-- a call with these words that returned this number and left these answer words
abbrev came : List ℕ → ℕ → List ℕ → Bool
came words n answers =
    of_this_kind belt (record { words = words; incoming = []; answers = []; outgoing = []; bytes_length = 32; store_length = 512 }) n
    (record { directory = []; bytes = []; store = []; answers = answers; outgoing = [] })

-- read 3, pin 3, flush; an answer slice that is longer than the words, with an old 7 behind
pub accepted_example : came (word 1 3 ∷ word 6 3 ∷ word 4 0 ∷ []) 0 (word 2 0 ∷ word 8 1 ∷ word 6 0 ∷ word 7 0 ∷ []) ≡ true
unfolding of_this_kind
accepted_example = refl

-- read 3, purge 4, though block 4 is absent
pub purge_example : came (word 1 3 ∷ word 3 4 ∷ []) 0 (word 2 0 ∷ word 5 0 ∷ []) ≡ false
unfolding of_this_kind
purge_example = refl

-- write 3, refused
pub seven_example : came (word 2 3 ∷ []) 0 (word 7 0 ∷ []) ≡ false
unfolding of_this_kind
seven_example = refl

-- a batch that was declined
pub declined_example : came (word 1 3 ∷ []) 10 (0 ∷ []) ≡ false
unfolding of_this_kind
declined_example = refl
