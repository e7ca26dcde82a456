-- The modified word says the marks that it was made of, and a sound one is made of the marks that it says.
use Rattle.std.specs.Prelude.{ℕ, zero, suc, ◌+◌, ◌*◌, ◌/◌, ◌%◌, ◌≤◌, ◌≡◌, refl, Bool, true, false, ◌&&◌, ◌||◌, not, T, eqb}
use Rattle.std.proofs.Common.{arith, sym, subst}
use Rattle.std.proofs.Math.Facts.{and_yes, yes_and, eqb_yes, yes_eqb}
use Rattle.basics.specs.Basics.{bit}
use Rattle.stack.specs.declared.Marks.{Marks}
use Rattle.layout.specs.ModifiedWord.{modified_word, marks_in, seen_modified, is_modified_word}

pub word_says : (m : Marks) → marks_in (modified_word m) ≡ m
unfolding marks_in modified_word
word_says m = go m.modified m.seen m.pinned
  where
    says : ℕ → Marks
    says w = record { modified = eqb (w % 2) 1; seen = eqb (w / 2 % 2) 1; pinned = eqb (w / 4 % 2) 1 }

    go : (a t p : Bool) → says (bit a + 2 * bit t + 4 * bit p) ≡ record { modified = a; seen = t; pinned = p }
    go true true true = refl
    go true true false = refl
    go true false true = refl
    go true false false = refl
    go false true true = refl
    go false true false = refl
    go false false true = refl
    go false false false = refl

-- seen needs modified, both ways
pub seen_modified_lem : (m : Marks) → T (seen_modified m) → T m.seen → T m.modified
unfolding seen_modified
seen_modified_lem m = go m.modified m.seen
  where
    go : (a t : Bool) → T (a || not t) → T t → T a
    go true t h g = tt
    go false true h g = h
    go false false h g = g

pub modified_seen : (m : Marks) → (T m.seen → T m.modified) → T (seen_modified m)
unfolding seen_modified
modified_seen m = go m.modified m.seen
  where
    go : (a t : Bool) → (T t → T a) → T (a || not t)
    go true t h = tt
    go false true h = h tt
    go false false h = tt

-- ---- a sound one

pub word_made : (w : ℕ) → T (is_modified_word w) → modified_word (marks_in w) ≡ w
unfolding is_modified_word
word_made w t = eqb_yes (and_yes (eqb (modified_word (marks_in w)) w) (seen_modified (marks_in w)) t).0

pub word_seen : (w : ℕ) → T (is_modified_word w) → T (marks_in w).seen → T (marks_in w).modified
unfolding is_modified_word
word_seen w t = seen_modified_lem (marks_in w) (and_yes (eqb (modified_word (marks_in w)) w) (seen_modified (marks_in w)) t).1

-- made of marks whose seen mark has the modified one
pub word_sound : (m : Marks) → (T m.seen → T m.modified) → T (is_modified_word (modified_word m))
unfolding is_modified_word
word_sound m h =
    let w = modified_word m in
    subst (λ n. T (eqb (modified_word n) w && seen_modified n)) (sym (word_says m))
    (yes_and (eqb w w) (seen_modified m) (yes_eqb {a = w} {b = w} refl) (modified_seen m h))

-- ---- its bits

eqb_bit : (n : ℕ) → n ≤ 1 → bit (eqb n 1) ≡ n
eqb_bit zero h = refl
eqb_bit (suc zero) h = refl
eqb_bit (suc (suc n)) h = absurd (omega arith)

-- the marks that a word says are its three lowest bits
pub word_bit : (w : ℕ) → bit (marks_in w).modified ≡ w % 2
unfolding marks_in
word_bit w = eqb_bit (w % 2) (omega arith)

-- so a sound one has no other, and the second only with the first
pub word_bits : (w : ℕ) → T (is_modified_word w) → (w ≤ 7) × (w / 2 % 2 ≤ w % 2)
unfolding marks_in modified_word
word_bits w t =
    let made : w % 2 + 2 * (w / 2 % 2) + 4 * (w / 4 % 2) ≡ w =
    rw (eqb_bit (w % 2) (omega arith), eqb_bit (w / 2 % 2) (omega arith), eqb_bit (w / 4 % 2) (omega arith)) at (word_made w t) in
    (omega arith, go (eqb (w / 2 % 2) 1) (eqb_bit (w / 2 % 2) (omega arith)) (word_seen w t))
  where
    go : (s : Bool) → bit s ≡ w / 2 % 2 → (T s → T (eqb (w % 2) 1)) → w / 2 % 2 ≤ w % 2
    go true e f = let h : w % 2 ≡ 1 = eqb_yes (f tt) in omega (arith, e)
    go false e f = omega (arith, e)

pub bits_word : (w : ℕ) → w ≤ 7 → w / 2 % 2 ≤ w % 2 → T (is_modified_word w)
unfolding is_modified_word marks_in modified_word
bits_word w h g =
    let half : w / 2 ≡ 2 * (w / 4) + w / 2 % 2 = omega arith in
    let high : w / 4 % 2 ≡ w / 4 = omega arith in
    let made : bit (eqb (w % 2) 1) + 2 * bit (eqb (w / 2 % 2) 1) + 4 * bit (eqb (w / 4 % 2) 1) ≡ w =
    rw (eqb_bit (w % 2) (omega arith), eqb_bit (w / 2 % 2) (omega arith), eqb_bit (w / 4 % 2) (omega arith)) (omega arith) in
    yes_and (eqb (modified_word (marks_in w)) w) (seen_modified (marks_in w)) (yes_eqb made)
    (modified_seen (marks_in w) (λ t. let s : w / 2 % 2 ≡ 1 = eqb_yes t in yes_eqb {a = w % 2} {b = 1} (omega arith)))
