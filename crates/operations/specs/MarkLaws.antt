-- Modified words: what each store of one leaves says the marks that the stack has then, and is such a word again. Assumes nothing.
use Rattle.std.specs.Prelude.{ℕ, ◌+◌, ◌*◌, ◌/◌, ◌%◌, ◌≤◌, ◌<◌, ◌≡◌, refl, Bool, true, false, ◌||◌, T, eqb}
use Rattle.std.proofs.Common.{ap, ◌∙◌, arith}
use Rattle.basics.specs.Basics.{bit}
use Rattle.stack.specs.Recency.{unmarked, asked_marks, cleared, saw_tick, pinned_as}
use Rattle.layout.specs.ModifiedWord.{marks_in, is_modified_word}
use Rattle.layout.proofs.ModifiedWordLaws.{word_bits, bits_word}
use Rattle.word_ops.specs.Mark.{with_mark, without_write, with_seen, with_pin}

pub word_small : (w : ℕ) → T (is_modified_word w) → w < 8
word_small w t = omega (arith, (word_bits w t).0)

-- ---- a write

or_true : (c : Bool) → true ≡ (c || true)
or_true true = refl
or_true false = refl

or_false : (c : Bool) → c ≡ (c || false)
or_false true = refl
or_false false = refl

pub written_says : (w : ℕ) → marks_in (with_mark w) ≡ asked_marks true (marks_in w)
unfolding marks_in
written_says w =
    let a : with_mark w % 2 ≡ 1 = omega arith in
    let b : with_mark w / 2 ≡ w / 2 = omega arith in
    let c : with_mark w / 4 ≡ w / 4 = omega arith in
    λ i. record { modified = (ap (λ n. eqb n 1) a ∙ or_true (eqb (w % 2) 1)) i; seen = eqb (b i % 2) 1; pinned = eqb (c i % 2) 1 }

pub read_says : (w : ℕ) → marks_in w ≡ asked_marks false (marks_in w)
unfolding marks_in
read_says w = λ i. record { modified = or_false (eqb (w % 2) 1) i; seen = eqb (w / 2 % 2) 1; pinned = eqb (w / 4 % 2) 1 }

pub written_word : (w : ℕ) → T (is_modified_word w) → T (is_modified_word (with_mark w))
written_word w t =
    let h = (word_bits w t).0 in
    let b : with_mark w / 2 ≡ w / 2 = omega arith in
    let c : w / 2 % 2 ≤ 1 = omega arith in
    bits_word (with_mark w) (omega arith) (omega arith)

-- ---- a block that enters

pub entered_says : (written : Bool) → marks_in (bit written) ≡ asked_marks written unmarked
unfolding marks_in
entered_says true = refl
entered_says false = refl

pub entered_word : (written : Bool) → T (is_modified_word (bit written))
unfolding is_modified_word
entered_word true = tt
entered_word false = tt

pub none_word : T (is_modified_word 0)
unfolding is_modified_word
none_word = tt

-- ---- one written out, one that has seen a tick, one pinned or unpinned

pub cleared_says : (w : ℕ) → marks_in (without_write w) ≡ cleared (marks_in w)
unfolding marks_in
cleared_says w =
    let half : without_write w / 2 ≡ 2 * (w / 4) = omega arith in
    let a : without_write w % 2 ≡ 0 = omega arith in
    let b : without_write w / 2 % 2 ≡ 0 = omega arith in
    let c : without_write w / 4 ≡ w / 4 = omega arith in
    λ i. record { modified = eqb (a i) 1; seen = eqb (b i) 1; pinned = eqb (c i % 2) 1 }

pub cleared_word : (w : ℕ) → T (is_modified_word w) → T (is_modified_word (without_write w))
cleared_word w t =
    let h = (word_bits w t).0 in
    let half : without_write w / 2 ≡ 2 * (w / 4) = omega arith in
    let none : without_write w / 2 % 2 ≡ 0 = omega arith in
    bits_word (without_write w) (omega arith) (omega arith)

pub seen_says : (w : ℕ) → w % 2 ≡ 1 → marks_in (with_seen w) ≡ saw_tick (marks_in w)
unfolding marks_in
seen_says w e =
    let half : with_seen w / 2 ≡ 2 * (w / 4) + 1 = omega arith in
    let a : with_seen w % 2 ≡ w % 2 = omega arith in
    let b : with_seen w / 2 % 2 ≡ w % 2 = omega arith in
    let c : with_seen w / 4 ≡ w / 4 = omega arith in
    λ i. record { modified = eqb (a i) 1; seen = eqb (b i) 1; pinned = eqb (c i % 2) 1 }

pub seen_word : (w : ℕ) → T (is_modified_word w) → T (is_modified_word (with_seen w))
seen_word w t =
    let h = (word_bits w t).0 in
    let one : with_seen w % 2 ≡ 1 = omega arith in
    bits_word (with_seen w) (omega arith) (omega arith)

-- the modified mark, by which marks are summed, is the same after it
pub pinned_bit : (on : Bool) (w : ℕ) → with_pin on w % 2 ≡ w % 2
pinned_bit true w = omega arith
pinned_bit false w = omega arith

pinned_high : (on : Bool) (w : ℕ) → (with_pin on w / 2 % 2 ≡ w / 2 % 2) × (with_pin on w / 4 % 2 ≡ bit on)
pinned_high true w = (omega arith, omega arith)
pinned_high false w = (omega arith, omega arith)

eqb_bit : (b : Bool) → eqb (bit b) 1 ≡ b
eqb_bit true = refl
eqb_bit false = refl

pub pinned_says : (on : Bool) (w : ℕ) → marks_in (with_pin on w) ≡ pinned_as on (marks_in w)
unfolding marks_in
pinned_says on w =
    let a : with_pin on w % 2 ≡ w % 2 = pinned_bit on w in
    let (b, c) = pinned_high on w in
    λ i. record { modified = eqb (a i) 1; seen = eqb (b i) 1; pinned = (ap (λ n. eqb n 1) c ∙ eqb_bit on) i }

pub pinned_word : (on : Bool) (w : ℕ) → T (is_modified_word w) → T (is_modified_word (with_pin on w))
pinned_word true w t = bits_word (w % 4 + 4) (omega arith) (omega (arith, (word_bits w t).1))
pinned_word false w t = bits_word (w % 4 + 0) (omega arith) (omega (arith, (word_bits w t).1))
