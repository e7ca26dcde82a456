-- OPT (SCOPE, "What the new rule gains"): whom it replaces, and its block ins on a trace of reads. A trace is the list of the blocks read.
-- Assumes nothing.
use Rattle.std.specs.Prelude.{ℕ, suc, true, false, List, [], ◌∷◌, length, eqb, leb, ltb}
use Rattle.basics.specs.Basics.{when◌then◌else◌, member, index_of}

-- the list without the first v in it
unfoldable pub remove : ℕ → List ℕ → List ℕ
remove v [] = []
remove v (x ∷ xs) = let more = x ∷ remove v xs in when eqb x v then xs else more

-- How far off the next read of block b is, `t` being still to come: the reads before it. Never is furthest of all: as many as are to come.
abbrev pub next : ℕ → List ℕ → ℕ
next b t = index_of b t

-- which of two residents OPT replaces: the one whose next read is further, of equals the lower block
unfoldable pub further : List ℕ → ℕ → ℕ → ℕ
unfolding index_of
further t a b = when ltb (next b t) (next a t) then a else when ltb (next a t) (next b t) then b else when leb a b then a else b

-- and which of all
unfoldable pub victim : List ℕ → List ℕ → ℕ
unfolding further
victim t [] = 0
victim t (a ∷ []) = a
victim t (a ∷ (b ∷ C)) = further t a (victim t (b ∷ C))

-- the residents that stay when OPT loads a block: it replaces one only when full
unfoldable pub kept : ℕ → List ℕ → List ℕ → List ℕ
unfolding remove victim
kept N t C = when ltb (length C) N then C else remove (victim t C) C

-- the block ins of OPT with N blocks, from residents C
unfoldable pub opt : ℕ → List ℕ → List ℕ → ℕ
unfolding member kept
opt N [] C = 0
opt N (b ∷ t) C = elim (member b C) [ true ↦ opt N t C | false ↦ suc (opt N t (b ∷ kept N t C)) ]

-- from an empty cache
unfoldable pub opt_ins : ℕ → List ℕ → ℕ
unfolding opt
opt_ins N t = opt N t []
