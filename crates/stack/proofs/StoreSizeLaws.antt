-- Number 12 in a table that begins with the tests of data and store: exactly where the store is longer.
use Rattle.std.specs.Prelude.{ℕ, ◌+◌, ◌*◌, ◌≡◌, ◌≢◌, Bool, true, false, ◌||◌, not, List, ◌∷◌, ◌++◌, T, ltb}
use Rattle.std.proofs.Common.{arith, lt-ltb, le-ltb}
use Rattle.std.proofs.Math.Facts.{or_no, ltb_yes, ltb_no}
use Rattle.basics.specs.Basics.{All, first}
use Rattle.basics.specs.TestLaws.{first_other}
use Rattle.settings.specs.declared.Settings.{Settings}
use Rattle.stack.specs.Stack.{Totals}
use Rattle.stack.specs.Batch.{Call, lengths_of, memory_tests, word_tests, batch_tests, batch_number, batch}
use Rattle.stack.proofs.BatchLaws.{allowed}
use Rattle.stack.specs.StoreSize.{LongStore, TwelveWhere, PlainTwelve, PlainInsists}

module _ (s : Settings) (bytes store : ℕ) (rest : List (Bool × ℕ)) (others : All (λ t. t.1 ≢ 12) rest) where
  long : LongStore s bytes store → first (memory_tests s bytes store ++ rest) ≡ 12
  long (enough, more) = rw (le-ltb bytes (s.n * s.b) enough, le-ltb store (s.m * s.b) (omega arith), lt-ltb (s.m * s.b) store more)

  its_line : (a b : Bool) → first ((a, 7) ∷ (b, 12) ∷ rest) ≡ 12 → T (not a) × T b
  its_line true b e = absurd (omega (arith, e))
  its_line false true e = (tt, tt)
  its_line false false e = absurd (first_other 12 (λ z. omega (arith, z)) rest others e)

  pub twelve_where : TwelveWhere (first (memory_tests s bytes store ++ rest)) (LongStore s bytes store)
  twelve_where = (
    long,
    λ e.
        let (passed, taken) = its_line (ltb bytes (s.n * s.b) || ltb store (s.m * s.b)) (ltb (s.m * s.b) store) e in
        (ltb_no (or_no (ltb bytes (s.n * s.b)) (ltb store (s.m * s.b)) passed).0, ltb_yes taken),
  )

-- ---- the plain stack

pub number_twelve : (s : Settings) (t : Totals) (c : Call) → TwelveWhere (batch_number s t c) (LongStore s c.data_length c.store_length)
unfolding batch_number batch_tests word_tests
number_twelve s t c =
    twelve_where s c.data_length c.store_length (word_tests s (t.reads + t.writes) c.words (lengths_of c))
    ((λ e. omega (arith, e)), ((λ e. omega (arith, e)), ((λ e. omega (arith, e)), ((λ e. omega (arith, e)), tt))))

pub plain_twelve : PlainTwelve
unfolding batch
plain_twelve k c = number_twelve k.settings k.totals c

pub plain_insists : PlainInsists
unfolding batch
plain_insists k c e = (allowed k.settings k.totals c e).memory.store_exact
