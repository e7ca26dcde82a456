-- What the loops keep, and the words decoded as the front of a longer slice.
use Prim.Native.Nat.{ℕ, ◌+◌, ◌*◌, ◌/◌, ◌%◌, ◌≤◌, ◌<◌, min}
use native.Mathlib.Omega.{arith}
use mathlib.Core.Path.{◌≡◌, refl, sym, ap, subst, ◌∙◌}
use mathlib.Core.List.{List, [], ◌++◌, append-nil}
use lib.ListN.{length, get_or, take, drop, set, drop_of_length-le}
use lib.Seq.{take_at}
use Rattle.basics.specs.WriteLaws.{write_step, write_end, write_length}
use Rattle.promises.specs.Promises.{over}
use Rattle.belt.specs.Belt.{words_of, input_words, incoming_bytes}
use Rattle.belt.specs.declared.Outcome.{Outcome}
use Rattle.belt.specs.Cycles.{Left, Cycled}
use Rattle.belt.specs.BeltLaws.{length_input, input_at, length_incoming, incoming_at}

-- ---- words

pub record Decoding (input before : List ℕ) (n : ℕ) (work : List ℕ) (i : ℕ) : Type 0 where
  pub count : n ≡ length (input_words input)
  pub inside : i ≤ n
  pub short : n ≤ 1025
  pub enough : 4 * n ≤ length input
  pub long : 1025 ≤ length before
  pub written : work ≡ take i (input_words input) ++ drop i before

pub decoding_begins : (input before : List ℕ) (n : ℕ) → n ≡ min 4100 (length input) / 4 → 1025 ≤ length before → Decoding input before n before 0
decoding_begins input before n e l =
    let h = length_input input in
    record { count = omega arith; inside = omega arith; short = omega arith; enough = omega arith; long = l; written = refl }

module _ (input before : List ℕ) (n : ℕ) (work : List ℕ) (i : ℕ) (d : Decoding input before n work i) where
  pub decoding_length : length work ≡ length before
  decoding_length =
      let a = d.count in
      let b = d.inside in
      let c = d.short in
      let l = d.long in
      ap length d.written ∙ write_length (input_words input) before i (omega arith) (omega arith)

  pub decoding_step : (w : ℕ) → i < n → w ≡ get_or (words_of input) i 0 → Decoding input before n (set work i w) (i + 1)
  decoding_step w h e =
      let a = d.count in
      let c = d.short in
      let l = d.long in
      let f : w ≡ get_or (input_words input) i 0 = e ∙ sym (input_at input i (omega arith)) in
      record {
        count = d.count;
        inside = omega arith;
        short = d.short;
        enough = d.enough;
        long = d.long;
        written = rw (d.written, f) (write_step (input_words input) before i (omega arith) (omega arith));
      }

  pub decoding_end : n ≤ i → work ≡ over (input_words input) before
  decoding_end h =
      let a = d.count in
      let b = d.inside in
      d.written ∙ write_end (input_words input) before i (omega arith)

-- ---- bytes of the writes

pub record Marking (before incoming : List ℕ) (i : ℕ) : Type 0 where
  pub inside : i ≤ 8192
  pub long : length before ≡ 8192
  pub written : incoming ≡ take i incoming_bytes ++ drop i before

module _ (before incoming : List ℕ) (i : ℕ) (m : Marking before incoming i) where
  pub marking_length : length incoming ≡ 8192
  marking_length =
      let a = m.inside in
      let l = m.long in
      let k = length_incoming in
      ap length m.written ∙ write_length incoming_bytes before i (omega arith) (omega arith) ∙ l

  pub marking_step : (x : ℕ) → i < length incoming → x ≡ (1 + i / 8) % 256 → Marking before (set incoming i x) (i + 1)
  marking_step x h e =
      let l = m.long in
      let n = marking_length in
      let k = length_incoming in
      let f : x ≡ get_or incoming_bytes i 0 = e ∙ sym (incoming_at i (omega arith)) in
      record { inside = omega arith; long = l; written = rw (m.written, f) (write_step incoming_bytes before i (omega arith) (omega arith)) }

  pub marking_end : length incoming ≤ i → incoming ≡ incoming_bytes
  marking_end h =
      let a = m.inside in
      let l = m.long in
      let n = marking_length in
      let k = length_incoming in
      let none : drop (length incoming_bytes) before ≡ [] = drop_of_length-le before {i = length incoming_bytes} (omega arith) in
      m.written ∙ write_end incoming_bytes before i (omega arith) ∙ rw none (append-nil incoming_bytes)

-- ---- the words decoded

front_is : (words before work : List ℕ) (n : ℕ) → work ≡ over words before → n ≡ length words → take n work ≡ words
front_is words before work n e l = rw e (take_at words (drop (length words) before) n (sym l))

pub front_long : (words before work : List ℕ) (n : ℕ) → work ≡ over words before → n ≡ length words → n ≡ length (take n work)
front_long words before work n e l = l ∙ ap length (sym (front_is words before work n e l))

pub cycled_front : (words before work : List ℕ) (n : ℕ) (answers outgoing : List ℕ) (after : Left) (c : Outcome)
    → work ≡ over words before → n ≡ length words → Cycled (take n work) answers outgoing c after → Cycled words answers outgoing c after
cycled_front words before work n answers outgoing after c e l = subst (λ ws. Cycled ws answers outgoing c after) (front_is words before work n e l)
