-- Laws of a batch's number: an accepted batch has room, no word of it is invalid, and their blocks are below M.
use Prim.Native.Nat.{ℕ, suc, ◌+◌, ◌-◌, ◌*◌, ◌/◌, ◌%◌, ◌^◌, ◌≤◌, ◌<◌}
use Rattle.std.proofs.Common.{arith, sym, subst, ◌∙◌, le-ltb}
use Rattle.std.specs.Prelude.{◌≡◌, ◌≢◌, Bool, true, false, ◌&&◌, ◌||◌, not, length, take, drop, T, ltb, eqb}
use Rattle.std.proofs.Math.Path.{refl, ap}
use mathlib.Core.List.{List, [], ◌∷◌, ◌++◌, map}
use Rattle.std.proofs.lemmas.List.{length-map}
use Rattle.std.proofs.Math.Dec.{eqb-suc-zero}
use Rattle.std.proofs.Math.Facts.{or_no, ltb_yes, ltb_no}
use Rattle.basics.specs.Basics.{All, when◌then◌else◌, first}
use Rattle.basics.specs.TestLaws.{first_zero, first_front, first_never}
use Rattle.settings.specs.declared.Settings.{Settings}
use Rattle.stack.specs.Stack.{Totals, Plain, Step, plain_step, Work, read, write, purge, flush, tick, invalid, pin, unpin}
use Rattle.stack.specs.Batch.{work, is_read, is_write, is_invalid, how_many, Call, lengths_of, nothing, memory_tests, word_tests, batch_tests, batch_number, run, plain_run, batch}
use Rattle.stack.proofs.FitLaws.{Fits, fits}
use Rattle.stack.proofs.ForgetLaws.{InStore}

-- ---- data and store

module _ (s : Settings) (bytes store : ℕ) where
  pub fits_zero : first (memory_tests s bytes store) ≡ 0 → Fits s bytes store
  fits_zero e = (fits s bytes store (first_zero (memory_tests s bytes store) e)).0

  -- a table's number is then that of what follows
  pub memory_passed : Fits s bytes store → (rest : List (Bool × ℕ)) → first (memory_tests s bytes store ++ rest) ≡ first rest
  memory_passed f rest =
      let e = f.store_exact in
      rw (le-ltb bytes (s.n * s.b) f.bytes_long, le-ltb store (s.m * s.b) (omega (arith, e)), le-ltb (s.m * s.b) store (omega (arith, e)))

  -- as code asks it: its own number first, and where that is 0 the number of what follows
  module _ {r : ℕ} (rest : List (Bool × ℕ)) (is : r ≡ first (memory_tests s bytes store)) where
    pub memory_declined : r ≢ 0 → r ≡ first (memory_tests s bytes store ++ rest)
    memory_declined h = is ∙ sym (first_front (memory_tests s bytes store) rest (subst (λ n. n ≢ 0) is h))

    pub memory_accepted : r ≡ 0 → {n : ℕ} → n ≡ first rest → n ≡ first (memory_tests s bytes store ++ rest)
    memory_accepted z e = e ∙ sym (memory_passed (fits_zero (sym is ∙ z)) rest)

-- ---- an accepted batch

pub record Allowed (s : Settings) (t : Totals) (c : Call) : Type 0 where
  pub memory : Fits s c.data_length c.store_length
  pub few : length c.words ≤ 1024
  pub valid : how_many is_invalid (map (work s) c.words) ≡ 0
  pub answers : length c.words ≤ c.answers_length
  pub incoming : how_many is_write (map (work s) c.words) * s.b ≤ length c.incoming
  pub outgoing : how_many is_read (map (work s) c.words) * s.b ≤ c.outgoing_length
  pub totals : t.reads + t.writes + length c.words ≤ 2 ^ 56 - 1

-- the tests of its number, failed
pub allowed : (s : Settings) (t : Totals) (c : Call) → batch_number s t c ≡ 0 → Allowed s t c
unfolding batch_number batch_tests word_tests
allowed s t c e =
    let ws = map (work s) c.words in
    let few-answers = ltb c.answers_length (length c.words) in
    let short-incoming = ltb (length c.incoming) (how_many is_write ws * s.b) in
    let short-outgoing = ltb c.outgoing_length (how_many is_read ws * s.b) in
    let tests = batch_tests s (t.reads + t.writes) c.words (lengths_of c) in
    let (memory, later) = fits s c.data_length c.store_length (first_zero tests e) in
    let b = or_no (few-answers || short-incoming) short-outgoing later.1.1.0 in
    let d = or_no few-answers short-incoming b.0 in
    record {
      memory = memory;
      few = ltb_no later.0;
      valid = let h : how_many is_invalid ws ≤ 0 = ltb_no later.1.0 in omega arith;
      answers = ltb_no d.0;
      incoming = ltb_no d.1;
      outgoing = ltb_no b.1;
      totals = ltb_no later.1.1.1.0;
    }

-- 9 is for invalid words alone
pub number_nine : (s : Settings) (t : Totals) (c : Call) → how_many is_invalid (map (work s) c.words) ≡ 0 → batch_number s t c ≢ 9
unfolding batch_number batch_tests word_tests
number_nine s t c valid =
    first_never 9 (λ z. omega (arith, z)) (batch_tests s (t.reads + t.writes) c.words (lengths_of c)) (
      (λ p e. omega (arith, e)),
      (
        (λ p e. omega (arith, e)),
        (
          (λ p e. omega (arith, e)),
          ((λ p e. absurd (some_invalid p)), ((λ p e. omega (arith, e)), ((λ p e. omega (arith, e)), tt))),
        ),
      ),
    )
  where
    some_invalid : T (ltb 0 (how_many is_invalid (map (work s) c.words))) → ⊥
    some_invalid p = let h : 0 < how_many is_invalid (map (work s) c.words) = ltb_yes p in omega (arith, h, valid)

-- one that is declined changes nothing
pub batch_declined : (k : Plain) (c : Call) (n : ℕ) → batch_number k.settings k.totals c ≡ suc n → (batch k c).ran ≡ nothing k
unfolding batch
batch_declined k c n e = rw (e, eqb-suc-zero)

pub batch_accepted : (k : Plain) (c : Call) → batch_number k.settings k.totals c ≡ 0
    → (batch k c).ran ≡ plain_run k (map (work k.settings) c.words) c.incoming
unfolding batch
batch_accepted k c e = rw e

-- ---- as many answers as words

module _ {K W : Type 0} (doing : K → W → List ℕ → Step K) (workOf : W → Work) (B : ℕ) where
  run_answers : (k : K) (ws : List W) (incoming : List ℕ) → length (run doing workOf B k ws incoming).answers ≡ length ws
  unfolding run
  run_answers k [] incoming = refl
  run_answers k (w ∷ ws) incoming = ap suc (run_answers (doing k w (take B incoming)).after ws (drop (is_write (workOf w) * B) incoming))

pub batch_answers : (k : Plain) (c : Call) → (batch k c).number ≡ 0 → length (batch k c).ran.answers ≡ length c.words
unfolding batch plain_run
batch_answers k c e =
    ap (λ r. length r.answers) (batch_accepted k c e)
    ∙ run_answers plain_step (λ w. w) k.settings.b k (map (work k.settings) c.words) c.incoming
    ∙ length-map c.words (work k.settings)

-- ---- words

work_inside : (s : Settings) (w : ℕ) → InStore s.m (work s w)
unfolding work
work_inside s w =
    choose (read v) _ (eqb kind 1) (ltb v s.m) ltb_yes
    (choose (write v) _ (eqb kind 2) (ltb v s.m) ltb_yes
    (choose (purge v) _ (eqb kind 3) (ltb v s.m) ltb_yes
    (choose flush _ (eqb kind 4) (eqb v 0) (λ t. tt)
    (choose tick _ (eqb kind 5) (eqb v 0) (λ t. tt)
    (choose (pin v) _ (eqb kind 6) (ltb v s.m) ltb_yes
    (choose (unpin v) invalid (eqb kind 7) (ltb v s.m) ltb_yes tt))))))
  where
    kind : ℕ
    kind = w / 2 ^ 28

    v : ℕ
    v = w % 2 ^ 28

    choose : (x y : Work) (a b : Bool) → (T b → InStore s.m x) → InStore s.m y → InStore s.m (when a && b then x else y)
    choose x y true true f g = f tt
    choose x y true false f g = g
    choose x y false b f g = g

pub works_inside : (s : Settings) (words : List ℕ) → All (InStore s.m) (map (work s) words)
works_inside s [] = tt
works_inside s (w ∷ ws) = (work_inside s w, works_inside s ws)
