-- The examples of the plain stack, by computing.
use Rattle.std.specs.Prelude.{◌≡◌, refl, [], ◌∷◌, map}
use Rattle.stack.specs.Examples.{belt, r, w, p, tick, pin, unpin, fresh, is, does, done, expected}

pub examples : done ≡ expected
unfolding done
examples = refl

-- The first tick marks block 10, the second writes it out, though it was written between, and the third has nothing to do.
pub tick_example : does (fresh belt) ((w 10 ∷ tick ∷ w 10 ∷ tick ∷ tick ∷ []) ∷ [])
    ≡ is ((2, 0) ∷ (6, 0) ∷ (1, 1) ∷ (6, 1) ∷ (6, 0) ∷ []) 0 2 0 1 ((10, 1) ∷ []) ∷ []
unfolding does
tick_example = refl

-- Both old residents are pinned: 12, in the middle, leaves, with all 3 chains looked through. Once all are pinned a read, a purge and a
-- write are refused; once 10 is unpinned, it leaves.
pub pin_example : does (fresh belt) (
    (r 10 ∷ r 11 ∷ r 12 ∷ r 13 ∷ pin 10 ∷ pin 11 ∷ r 14 ∷ [])
    ∷ (pin 14 ∷ pin 13 ∷ r 15 ∷ p 13 ∷ w 15 ∷ [])
    ∷ (unpin 10 ∷ unpin 9 ∷ r 15 ∷ [])
    ∷ []
    )
    ≡ is ((2, 0) ∷ (2, 0) ∷ (2, 0) ∷ (2, 0) ∷ (8, 1) ∷ (8, 1) ∷ (3, 786444) ∷ []) 5 0 5 0 ((14, 1) ∷ (13, 1) ∷ (11, 1) ∷ (10, 1) ∷ [])
    ∷ is ((8, 1) ∷ (8, 1) ∷ (7, 0) ∷ (9, 0) ∷ (7, 0) ∷ []) 6 1 5 0 ((14, 1) ∷ (13, 1) ∷ (11, 1) ∷ (10, 1) ∷ [])
    ∷ is ((8, 0) ∷ (5, 0) ∷ (3, 262154) ∷ []) 7 1 6 0 ((15, 1) ∷ (14, 1) ∷ (13, 1) ∷ (11, 1) ∷ [])
    ∷ []
unfolding does
pin_example = refl

-- All residents are pinned, though not N of them.
pub unused_example : does (fresh belt) ((r 10 ∷ pin 10 ∷ r 11 ∷ []) ∷ []) ≡ is ((2, 0) ∷ (8, 1) ∷ (2, 0) ∷ []) 2 0 2 0 ((11, 1) ∷ (10, 1) ∷ []) ∷ []
unfolding does
unused_example = refl

-- The sections of one block each, and Amax 2: at most 6 with three residents, 2 with one. Once 1 and 2 are purged 0 is alone with count 3;
-- 5 enters and counts as a resident, so nothing is halved; once it is purged, a hit of 0 in the new section raises nothing and halves.
pub average_example : does (fresh (record { n = 3; nnew = 1; nold = 1; cmax = 3; amax = 2; b = 8; m = 64 })) (
    (r 0 ∷ r 1 ∷ r 2 ∷ r 0 ∷ r 1 ∷ r 0 ∷ []) ∷ (p 1 ∷ p 2 ∷ r 5 ∷ p 5 ∷ r 0 ∷ []) ∷ [])
    ≡ is ((2, 0) ∷ (2, 0) ∷ (2, 0) ∷ (1, 2) ∷ (1, 2) ∷ (1, 3) ∷ []) 6 0 3 0 ((0, 3) ∷ (1, 2) ∷ (2, 1) ∷ [])
    ∷ is ((4, 0) ∷ (4, 0) ∷ (2, 0) ∷ (4, 0) ∷ (1, 67108867) ∷ []) 8 0 4 0 ((0, 2) ∷ [])
    ∷ []
unfolding does
average_example = refl

-- One halving a word: 11 becomes 6, though 6 exceeds Amax × 1, 4, as well; the next two reads halve again.
pub still_over_example : does (fresh (record { n = 4; nnew = 0; nold = 1; cmax = 1; amax = 4; b = 8; m = 64 })) (
    (r 0 ∷ r 1 ∷ r 2 ∷ r 3 ∷ r 0 ∷ r 0 ∷ r 0 ∷ r 0 ∷ r 0 ∷ r 0 ∷ r 0 ∷ r 0 ∷ r 0 ∷ [])
    ∷ (p 1 ∷ p 2 ∷ p 3 ∷ r 0 ∷ [])
    ∷ (r 0 ∷ r 0 ∷ [])
    ∷ []
    )
    ≡ is ((2, 0) ∷ (2, 0) ∷ (2, 0) ∷ (2, 0) ∷ map (λ n. (1, n)) (2 ∷ 3 ∷ 4 ∷ 5 ∷ 6 ∷ 7 ∷ 8 ∷ 9 ∷ 10 ∷ [])) 13 0 4 0
    ((0, 10) ∷ (3, 1) ∷ (2, 1) ∷ (1, 1) ∷ [])
    ∷ is ((4, 0) ∷ (4, 0) ∷ (4, 0) ∷ (1, 67108875) ∷ []) 14 0 4 0 ((0, 6) ∷ [])
    ∷ is ((1, 67108871) ∷ (1, 67108869) ∷ []) 16 0 4 0 ((0, 3) ∷ [])
    ∷ []
unfolding does
still_over_example = refl
