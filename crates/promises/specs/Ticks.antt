-- Writing out on the tick over every list of calls, as in demand 3 (SCOPE, "The plain stack"). Statements only.
use Rattle.std.specs.Prelude.{ℕ, List, [], ◌∷◌, ◌++◌, map, eqb}
use Rattle.basics.specs.Basics.{when◌then◌else◌}
use Rattle.settings.specs.declared.Settings.{Settings}
use Rattle.stack.specs.Stack.{Plain}
use Rattle.stack.specs.Batch.{work, batch}
use Rattle.stack.specs.Ticks.{Turn, turns, SecondTick, LossBound}
use Rattle.promises.specs.Promises.{Fresh, Slices}
use Rattle.promises.specs.Demand3.{Lending, Linked, as_call, starts, memory_left}

-- The words that the calls of a list carried out: those of the batches that returned 0, in order, with the plain stack beside them.
abbrev pub turns_of : Plain → List Lending → List (ℕ × Slices) → List Turn
turns_of k [] ts = []
turns_of k (c ∷ cs) [] = []
turns_of k (c ∷ cs) ((n, after) ∷ ts) =
    let these = turns k.settings.b k (map (work k.settings) c.words) c.incoming in
    (when eqb n 0 then these else []) ++ turns_of (batch k (as_call c)).ran.after cs ts

-- A block that stays resident is written out at the second tick after its first unsaved write at the latest: in the plain stack beside
-- the calls, with which the memory agrees after each of them (demand 3).
abbrev pub AllSecondTick : Type 0
AllSecondTick =
    (s : Settings) (before directory bytes store : List ℕ) (cs : List Lending) (ts : List (ℕ × Slices))
    → Fresh s before 0 directory
    → Linked (record { directory = directory; bytes = bytes; store = store }) cs ts
    → SecondTick (turns_of (starts s store) cs ts)

-- The memory's own store: where the calls carried out two ticks, it has, of every block by itself, bytes that the block had since the
-- second last of them.
abbrev pub AllLossBound : Type 0
AllLossBound =
    (s : Settings) (before directory bytes store : List ℕ) (cs : List Lending) (ts : List (ℕ × Slices))
    → Fresh s before 0 directory
    → Linked (record { directory = directory; bytes = bytes; store = store }) cs ts
    → LossBound s.m (turns_of (starts s store) cs ts) (memory_left (record { directory = directory; bytes = bytes; store = store }) cs ts).store
