-- A tally grows word by word, and no part of it exceeds the words.
use Prim.Native.Nat.{ℕ, suc, ◌≤◌, ◌<◌}
use native.Mathlib.Omega.{arith}
use Rattle.std.specs.Prelude.{◌≡◌, length, take, get_or}
use mathlib.Core.List.{List, [], ◌∷◌, map}
use Rattle.basics.specs.Basics.{total}
use Rattle.settings.specs.declared.Settings.{Settings}
use Rattle.stack.specs.Stack.{Work, read, write, purge, flush, tick, invalid, pin, unpin}
use Rattle.stack.specs.Batch.{work, is_read, is_write, is_invalid, how_many}
use Rattle.cache_steps.specs.BatchFacts.{one_more}
use Rattle.batch_number.specs.declared.Tally.{Tally}
use Rattle.batch_number.specs.Tallies.{plus, tally}

-- ---- the words up to one of them

pub tally_more : (s : Settings) (words : List ℕ) (i : ℕ) → i < length words
    → plus (tally s (take i words)) (work s (get_or words i 0)) ≡ tally s (take (suc i) words)
unfolding tally
tally_more s words i h = rw (one_more s is_read words i h, one_more s is_write words i h, one_more s is_invalid words i h)

-- of what each word is once at most
module _ (f : Work → ℕ) (once : (w : Work) → f w ≤ 1) (s : Settings) where
  few : (words : List ℕ) → how_many f (map (work s) words) ≤ length words
  unfolding total
  few [] = omega arith
  few (w ∷ words) = let g = few words in let h = once (work s w) in omega arith

pub record Few (k : ℕ) (t : Tally) : Type 0 where
  pub few_reads : t.reads ≤ k
  pub few_writes : t.writes ≤ k
  pub few_invalid : t.invalid ≤ k

pub tally_few : (s : Settings) (words : List ℕ) → Few (length words) (tally s words)
unfolding tally
tally_few s words =
    record {
      few_reads = few is_read reads_once s words;
      few_writes = few is_write writes_once s words;
      few_invalid = few is_invalid invalid_once s words;
    }
  where
    reads_once : (w : Work) → is_read w ≤ 1
    reads_once (read b) = omega arith
    reads_once (write b) = omega arith
    reads_once (purge b) = omega arith
    reads_once flush = omega arith
    reads_once tick = omega arith
    reads_once (pin b) = omega arith
    reads_once (unpin b) = omega arith
    reads_once invalid = omega arith

    writes_once : (w : Work) → is_write w ≤ 1
    writes_once (read b) = omega arith
    writes_once (write b) = omega arith
    writes_once (purge b) = omega arith
    writes_once flush = omega arith
    writes_once tick = omega arith
    writes_once (pin b) = omega arith
    writes_once (unpin b) = omega arith
    writes_once invalid = omega arith

    invalid_once : (w : Work) → is_invalid w ≤ 1
    invalid_once (read b) = omega arith
    invalid_once (write b) = omega arith
    invalid_once (purge b) = omega arith
    invalid_once flush = omega arith
    invalid_once tick = omega arith
    invalid_once (pin b) = omega arith
    invalid_once (unpin b) = omega arith
    invalid_once invalid = omega arith
