-- A front of whole blocks of a longer buffer: a block put within it stands in the front, and what follows stays.
use Rattle.std.specs.Prelude.{ℕ, ◌+◌, ◌*◌, ◌≤◌, ◌<◌, ◌≡◌, List, ◌++◌, length, take, drop}
use Rattle.std.proofs.Common.{arith, sym, ap, ◌∙◌, append_assoc, take-append-drop, length-take-le, take_at, drop_at, take-add}
use Rattle.std.proofs.lemmas.List.{take-append-le, drop-append-le}
use Rattle.basics.specs.Basics.{block_at, put_block}
use Rattle.stack.proofs.BufferLaws.{block_ends, length_put_block}

-- ---- a block within the first of two parts

module _ (B i : ℕ) (u v : List ℕ) (h : i * B + B ≤ length u) where
  put_append : (bytes : List ℕ) → put_block B i bytes (u ++ v) ≡ put_block B i bytes u ++ v
  put_append bytes =
      let g : i * B ≤ length u = omega arith in
      rw (take-append-le (i * B) u v g, drop-append-le (i * B + B) u v h, append_assoc (take (i * B) u ++ bytes) (drop (i * B + B) u) v)

-- ---- the first n blocks

module _ (B i n : ℕ) (buffer : List ℕ) (h : i < n) (long : n * B ≤ length buffer) where
  abbrev front : List ℕ
  front = take (n * B) buffer

  abbrev rest : List ℕ
  rest = drop (n * B) buffer

  front_holds : i * B + B ≤ length front
  front_holds = let g = block_ends B i n h in let e = length-take-le (n * B) buffer long in omega arith

  -- such a block ends within the buffer
  pub block_room : i * B + B ≤ length buffer
  block_room = let g = block_ends B i n h in omega arith

  module _ (bytes : List ℕ) (sized : length bytes ≡ B) where
    parts : put_block B i bytes buffer ≡ put_block B i bytes front ++ rest
    parts = ap (put_block B i bytes) (sym (take-append-drop (n * B) buffer)) ∙ put_append B i front rest front_holds bytes

    front_length : length (put_block B i bytes front) ≡ n * B
    front_length = length_put_block B i bytes front sized front_holds ∙ length-take-le (n * B) buffer long

    pub put_front : take (n * B) (put_block B i bytes buffer) ≡ put_block B i bytes (take (n * B) buffer)
    put_front = ap (take (n * B)) parts ∙ take_at (put_block B i bytes front) rest (n * B) front_length

    pub put_past : drop (n * B) (put_block B i bytes buffer) ≡ drop (n * B) buffer
    put_past = ap (drop (n * B)) parts ∙ drop_at (put_block B i bytes front) rest (n * B) front_length

-- ---- a block put where it stands

pub put_own : (B i : ℕ) (buffer : List ℕ) → put_block B i (block_at B i buffer) buffer ≡ buffer
put_own B i buffer = ap (λ l. l ++ drop (i * B + B) buffer) (sym (take-add (i * B) B buffer)) ∙ take-append-drop (i * B + B) buffer
