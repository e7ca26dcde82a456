-- What number 0 gives a batch's loop: no word is invalid, and there is room for what the first words take and give.
use Prim.Native.Nat.{ℕ, zero, suc, ◌+◌, ◌*◌, ◌≤◌, ◌<◌}
use Rattle.std.proofs.Common.{add-mul, mul-le-mul_right}
use native.Mathlib.Omega.{arith}
use Rattle.std.specs.Prelude.{◌≡◌, length, take, get_or}
use mathlib.Core.List.{List, [], ◌∷◌, map}
use Rattle.basics.specs.Basics.{total}
use Rattle.settings.specs.declared.Settings.{Settings}
use Rattle.stack.specs.Stack.{Totals, Work}
use Rattle.stack.specs.Batch.{work, is_read, is_write, is_invalid, how_many, Call, batch_number}
use Rattle.stack.proofs.BatchLaws.{allowed}

-- ---- the words up to one of them

module _ (s : Settings) (f : Work → ℕ) where
  -- those before it and itself are no more than all
  pub up_to : (words : List ℕ) (i : ℕ) → i < length words → how_many f (map (work s) (take i words)) + f (work s (get_or words i 0)) ≤ how_many f
      (map (work s) words)
  unfolding total
  up_to [] i h = absurd (omega arith)
  up_to (w ∷ words) zero h = omega arith
  up_to (w ∷ words) (suc i) h = let g = up_to words i (omega arith) in omega arith

  -- and one more of them adds itself
  pub one_more : (words : List ℕ) (i : ℕ) → i < length words
      → how_many f (map (work s) (take (suc i) words)) ≡ how_many f (map (work s) (take i words)) + f (work s (get_or words i 0))
  unfolding total
  one_more [] i h = absurd (omega arith)
  one_more (w ∷ words) zero h = omega arith
  one_more (w ∷ words) (suc i) h = let g = one_more words i (omega arith) in omega arith

  -- in blocks
  pub blocks_up_to : (words : List ℕ) (i : ℕ) → i < length words → (n : ℕ) → how_many f (map (work s) words) * s.b ≤ n
      → how_many f (map (work s) (take i words)) * s.b + f (work s (get_or words i 0)) * s.b ≤ n
  blocks_up_to words i h n room =
      let g = mul-le-mul_right s.b (up_to words i h) in let e =
      add-mul (how_many f (map (work s) (take i words))) (f (work s (get_or words i 0))) s.b in omega arith

module _ (s : Settings) (t : Totals) (c : Call) (e : batch_number s t c ≡ 0) (i : ℕ) (h : i < length c.words) where
  abbrev w : Work
  w = work s (get_or c.words i 0)

  -- no word is invalid
  pub valid_at : is_invalid (work s (get_or c.words i 0)) ≡ 0
  valid_at = let g = (allowed s t c e).valid in let u = up_to s is_invalid c.words i h in omega arith

  -- what the words before it took and gave, and it itself, are there
  pub incoming_at : how_many is_write (map (work s) (take i c.words)) * s.b + is_write (work s (get_or c.words i 0)) * s.b ≤ length c.incoming
  incoming_at = blocks_up_to s is_write c.words i h (length c.incoming) (allowed s t c e).incoming

  pub outgoing_at : how_many is_read (map (work s) (take i c.words)) * s.b + is_read (work s (get_or c.words i 0)) * s.b ≤ c.outgoing_length
  outgoing_at = blocks_up_to s is_read c.words i h c.outgoing_length (allowed s t c e).outgoing
