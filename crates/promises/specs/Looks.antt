-- What a look promises (SCOPE, "Looking at a block"): the number of its companion, and the part of data or of store that holds
-- the block's present bytes, by its bytes and by its place. Nothing is written. Statements only.
use Rattle.std.specs.Prelude.{ℕ, ◌+◌, ◌-◌, ◌*◌, Bool, not, List, [], ◌∷◌, ◌++◌, length, leb, eqb}
use Rattle.std.proofs.Math.Option.{Option, none, some}
use Rattle.basics.specs.Basics.{when◌then◌else◌, first, block_at}
use Rattle.stack.specs.Recency.{Resident, lookup}
use Rattle.stack.specs.Batch.{memory_tests}
use Rattle.layout.specs.Sound.{settings_in, sound, residents_in}

-- 6, 7, 12 and 9, in the order in which they are checked
unfoldable pub look_tests : List ℕ → List ℕ → List ℕ → ℕ → List (Bool × ℕ)
unfolding sound settings_in
look_tests words bytes store block =
    let s = settings_in words in
    (not (sound words), 6)
    ∷ (memory_tests s (length bytes) (length store)
    ++ ((leb s.m block, 9) ∷ []))

-- 0 where there is a part
unfoldable pub look_number : List ℕ → List ℕ → List ℕ → ℕ → ℕ
unfolding look_tests
look_number words bytes store block = first (look_tests words bytes store block)

-- the part that is block i of a buffer begins there, given where the buffer does: a piece of memory, and a byte of it
abbrev pub place_at : ℕ → ℕ → ℕ × ℕ → ℕ × ℕ
place_at size i start = (start.0, i * size + start.1)

-- the resident's part of data if there is one, else the block's part of the store
abbrev pub present : {A B : Type 0} → (ℕ → A → B) → A → A → ℕ → Option (Resident ℕ) → B
present part inData inStore block none = part block inStore
present part inData inStore block (some x) = part (x.held - 1) inData

-- the bytes of the part; none where the number is not 0
unfoldable pub look_bytes : List ℕ → List ℕ → List ℕ → ℕ → List ℕ
unfolding look_number settings_in lookup
look_bytes words bytes store block =
    let part = present (block_at (settings_in words).b) bytes store block (lookup block (residents_in words)) in
    when eqb (look_number words bytes store block) 0 then part else []

-- where the part begins, given where data and store do; the empty part is at the front of data
unfoldable pub look_place : List ℕ → List ℕ → List ℕ → ℕ → ℕ × ℕ → ℕ × ℕ → ℕ × ℕ
unfolding look_number settings_in lookup
look_place words bytes store block inData inStore =
    let place = present (place_at (settings_in words).b) inData inStore block (lookup block (residents_in words)) in
    when eqb (look_number words bytes store block) 0 then place else inData
