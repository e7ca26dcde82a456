-- A list written over the front of another, word by word, up to i.
use Rattle.std.specs.Prelude.{ℕ, suc, ◌+◌, ◌≤◌, ◌<◌, ◌≡◌, List, ◌++◌, length, get_or, take, drop, set}
use Rattle.std.proofs.Common.{arith, add-one, sym, ap, ◌∙◌, take-suc, drop-cons, length-take-le}
use Rattle.std.proofs.Math.Seq.{take-length, append_snoc, length_front}
use Rattle.std.proofs.lemmas.List.{set_at}

pub write_step : (front before : List ℕ) (i : ℕ) → i < length front → length front ≤ length before
    → set (take i front ++ drop i before) i (get_or front i 0) ≡ take (i + 1) front ++ drop (i + 1) before
write_step front before i h g =
    rw (drop-cons before i 0 (omega arith), add-one i)
    (set_at (take i front) (get_or before i 0) (drop (suc i) before) (get_or front i 0) i (length-take-le i front (omega arith))
    ∙ sym (ap (λ l. l ++ drop (suc i) before) (take-suc front i 0 h) ∙ append_snoc (take i front) (get_or front i 0) (drop (suc i) before)))

pub write_end : (front before : List ℕ) (i : ℕ) → i ≡ length front → take i front ++ drop i before ≡ front ++ drop (length front) before
write_end front before i e = rw (e, take-length front)

pub write_length : (front before : List ℕ) (i : ℕ) → i ≤ length front → length front ≤ length before
    → length (take i front ++ drop i before) ≡ length before
write_length front before i h g =
    length_front before (take i front) i (length-take-le i front h ∙ sym (length-take-le i before (omega arith)))
