-- OPT and the plain stack on traces, computed. Theorems that help to believe the definitions.
use Rattle.std.specs.Prelude.{ℕ, ◌≡◌, refl, List, [], ◌∷◌, map}
use Rattle.settings.specs.declared.Settings.{Settings}
use Rattle.opt.specs.Opt.{victim, opt_ins}
use Rattle.opt.specs.Ins.{lru, ins_of}

-- ---- whom OPT replaces

-- 9 is read after 7 and 7; 4 is never read
pub never : victim (7 ∷ 7 ∷ 9 ∷ []) (9 ∷ 4 ∷ 7 ∷ []) ≡ 4
unfolding victim
never = refl

-- of 5, 3 and 8, which are never read, the lowest
pub lowest : victim (7 ∷ []) (5 ∷ 7 ∷ 3 ∷ 8 ∷ []) ≡ 3
unfolding victim
lowest = refl

-- ---- block ins

-- the trace on which a larger FIFO cache has more misses
abbrev textbook : List ℕ
textbook = 1 ∷ 2 ∷ 3 ∷ 4 ∷ 1 ∷ 2 ∷ 5 ∷ 1 ∷ 2 ∷ 3 ∷ 4 ∷ 5 ∷ []

pub textbook_opt : map (λ N. opt_ins N textbook) (1 ∷ 2 ∷ 3 ∷ 4 ∷ 5 ∷ []) ≡ 12 ∷ 9 ∷ 7 ∷ 6 ∷ 5 ∷ []
unfolding opt_ins
textbook_opt = refl

abbrev three : Settings
three = record { n = 3; nnew = 0; nold = 3; cmax = 3; amax = 100; b = 1; m = 8 }

pub textbook_lru : ins_of (lru three) textbook ≡ 10
unfolding ins_of
textbook_lru = refl

-- between the two: blocks 0 and 1 stay, by their counts
abbrev mixed : List ℕ
mixed = 3 ∷ 6 ∷ 1 ∷ 1 ∷ 0 ∷ 4 ∷ 0 ∷ 5 ∷ 6 ∷ 1 ∷ 2 ∷ 0 ∷ 6 ∷ 4 ∷ 7 ∷ 1 ∷ 1 ∷ 0 ∷ 2 ∷ 0 ∷ 3 ∷ 0 ∷ 1 ∷ 7 ∷ []

abbrev four : Settings
four = record { n = 4; nnew = 0; nold = 3; cmax = 3; amax = 100; b = 1; m = 8 }

pub mixed_ins : ins_of (lru four) mixed ∷ ins_of four mixed ∷ opt_ins 4 mixed ∷ [] ≡ 17 ∷ 13 ∷ 10 ∷ []
unfolding ins_of opt_ins
mixed_ins = refl
