-- What the code tests and writes as the definitions have it, its two loops, and the promise by the way that was taken.
use Prim.Native.Nat.{ℕ, zero, suc, ◌+◌, ◌-◌, ◌/◌, ◌%◌, ◌≤◌, ◌<◌}
use native.Mathlib.Nat.{not-suc-le-zero}
use native.Mathlib.Omega.{arith}
use native.Mathlib.Numerals.{add-one, sub-one}
use mathlib.Core.Path.{◌≡◌, refl, sym, ap, ◌∙◌}
use mathlib.Core.Logic.{◌≢◌}
use mathlib.Core.Bool.{true, false}
use mathlib.Core.List.{List, [], ◌++◌, append-nil}
use lib.ListN.{length, take, drop, set, drop_of_length-le}
use lib.Seq.{length-take-le}
use lib.Dec.{T, ltb}
use borrow.Author.Tests.{lt-ltb, le-ltb, eq-eqb, ne_eqb}
use Rattle.basics.specs.Basics.{word}
use Rattle.settings.specs.Numbers.{legal_store}
use Rattle.basics.specs.WriteLaws.{write_step, write_end, write_length}
use Rattle.load.specs.Xorshift.{step}
use Rattle.load.specs.Load.{load_word, load, state_after, declines, load_number, Load}
use Rattle.load.proofs.LoadLaws.{load_length, load_at, after_suc, legal_load}

-- ---- the word of a state

pub write_word : (m x : ℕ) → x % 4 ≡ 0 → word 2 (x / 4 % m) ≡ load_word m x
unfolding load_word
write_word m x e = rw (eq-eqb (x % 4) 0 e)

pub read_word : (m x : ℕ) → x % 4 ≢ 0 → word 1 (x / 4 % m) ≡ load_word m x
unfolding load_word
read_word m x other = rw (ne_eqb (x % 4) 0 other)

-- ---- whether a load is declined, test by test

module _ (seed m count room : ℕ) where
  pub by_seed : seed ≡ 0 → true ≡ declines seed m count room
  unfolding declines
  by_seed e = rw (eq-eqb seed 0 e)

  pub by_store : seed ≢ 0 → legal_store m ≡ false → true ≡ declines seed m count room
  unfolding declines
  by_store some e = rw (ne_eqb seed 0 some, e)

  pub by_count : seed ≢ 0 → legal_store m ≡ true → 1024 < count → true ≡ declines seed m count room
  unfolding declines
  by_count some legal many = rw (ne_eqb seed 0 some, legal, lt-ltb 1024 count many)

  pub by_room : seed ≢ 0 → legal_store m ≡ true → count ≤ 1024 → ltb room count ≡ declines seed m count room
  unfolding declines
  by_room some legal few = rw (ne_eqb seed 0 some, legal, le-ltb 1024 count few)

-- ---- the loop that writes the words

-- with i words written: as in the load so far, and as before from there on
pub record Filling (seed m : ℕ) (before words : List ℕ) (state i : ℕ) : Type 0 where
  pub blocks : T (legal_store m)
  pub written : words ≡ take i (load m seed (length before)) ++ drop i before
  pub state_is : state ≡ state_after seed i
  pub inside : i ≤ length before

module _ (seed m : ℕ) (before words : List ℕ) (state i : ℕ) (f : Filling seed m before words state i) where
  abbrev all : List ℕ
  all = load m seed (length before)

  pub filling_length : length words ≡ length before
  filling_length =
      let a = load_length m seed (length before) in
      let b = f.inside in
      ap length f.written ∙ write_length all before i (omega arith) (omega arith)

  pub filling_step : (next w : ℕ) → i < length words → next ≡ step state → w ≡ load_word m next → Filling seed m before (set words i w) next (i + 1)
  filling_step next w h e g =
      let a = load_length m seed (length before) in
      let l = filling_length in
      let n : next ≡ state_after seed (i + 1) = e ∙ ap step f.state_is ∙ sym (after_suc seed i) ∙ ap (state_after seed) (sym (add-one i)) in
      let v : w ≡ _ = g ∙ ap (load_word m) (n ∙ ap (state_after seed) (add-one i)) ∙ sym (load_at m seed (length before) i (omega arith)) in
      record {
        blocks = f.blocks;
        written = rw (f.written, v) (write_step all before i (omega arith) (omega arith));
        state_is = n;
        inside = omega arith;
      }

  pub filling_end : length words ≤ i → words ≡ all
  filling_end h =
      let a = load_length m seed (length before) in
      let l = filling_length in
      let b = f.inside in
      let none : drop (length all) before ≡ [] = drop_of_length-le before {i = length all} (omega arith) in
      f.written ∙ write_end all before i (omega arith) ∙ ap (λ rest. all ++ rest) none ∙ append-nil all

-- ---- the loop that steps the state

pub one_less : (x n y : ℕ) → 0 < n → y ≡ step x → state_after x n ≡ state_after y (n - 1)
unfolding state_after
one_less x zero y h e = absurd (not-suc-le-zero h)
one_less x (suc n) y h e = rw (e, sub-one (suc n))

pub none_left : (x n : ℕ) → n ≤ 0 → state_after x n ≡ x
unfolding state_after
none_left x zero h = refl
none_left x (suc n) h = absurd (not-suc-le-zero h)

-- ---- the promise, by the way that was taken

module _ (seed m count : ℕ) (before : List ℕ) where
  pub load_declined : declines seed m count (length before) ≡ true → Load seed m count before 13 before
  unfolding load_number
  load_declined e = record { returned = rw e; accepted = λ z. absurd (omega (arith, z)); declined = λ z. refl }

  -- the front filled, as long as was asked for
  pub load_accepted : (front : List ℕ) → declines seed m count (length before) ≡ false
      → front ≡ load m seed (length (take count before)) → Load seed m count before 0 (front ++ drop count before)
  unfolding load_number
  load_accepted front e f =
      let asked : length (take count before) ≡ count = length-take-le count before (legal_load seed m count (length before) e).fits in
      let drawn : front ≡ load m seed count = f ∙ ap (load m seed) asked in
      let long : count ≡ length (load m seed count) = sym (load_length m seed count) in
      record {
        returned = rw e;
        accepted = λ z. rw drawn (ap (λ (k : ℕ). load m seed count ++ drop k before) long);
        declined = λ z. absurd (z refl);
      }
