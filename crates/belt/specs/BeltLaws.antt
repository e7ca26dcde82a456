-- Words and bytes by their positions.
use Rattle.std.specs.Prelude.{ℕ, zero, suc, ◌+◌, ◌-◌, ◌*◌, ◌/◌, ◌%◌, ◌≤◌, ◌<◌, min, ◌≡◌, refl, List, [], ◌∷◌, ◌++◌, length, get_or, take, replicate}
use Rattle.std.proofs.Common.{arith, ap, ◌∙◌, length-take, length-append, get_or-take, get_or-append-add}
use Rattle.std.proofs.Math.Decide.{dec_le}
use Rattle.std.proofs.lemmas.List.{get_or-replicate}
use Rattle.std.proofs.Math.ListN.{get_or-append}
use Rattle.belt.specs.Belt.{word_of, words_of, input_words, writes_from, incoming_bytes}

-- ---- words

length_words : (bytes : List ℕ) → length (words_of bytes) ≡ length bytes / 4
unfolding words_of
length_words [] = refl
length_words (a ∷ []) = refl
length_words (a ∷ b ∷ []) = refl
length_words (a ∷ b ∷ c ∷ []) = refl
length_words (a ∷ b ∷ c ∷ d ∷ rest) = let h = length_words rest in omega arith

pub length_input : (input : List ℕ) → length (input_words input) ≡ min 4100 (length input) / 4
unfolding input_words
length_input input = length_words (take 4100 input) ∙ ap (λ n. n / 4) (length-take 4100 input)

pub short_input : (input : List ℕ) → length (input_words input) ≤ 1025
short_input input = let l = length_input input in omega arith

-- word i begins at byte k
word_from : (bytes : List ℕ) (i k : ℕ) → k ≡ 4 * i → k + 3 < length bytes
    → get_or (words_of bytes) i 0 ≡ word_of (get_or bytes k 0) (get_or bytes (suc k) 0) (get_or bytes (suc (suc k)) 0) (get_or bytes (suc (suc (suc k))) 0)
unfolding words_of
word_from [] i k e h = absurd (omega arith)
word_from (a ∷ []) i k e h = absurd (omega arith)
word_from (a ∷ b ∷ []) i k e h = absurd (omega arith)
word_from (a ∷ b ∷ c ∷ []) i k e h = absurd (omega arith)
word_from (a ∷ b ∷ c ∷ d ∷ rest) zero zero e h = refl
word_from (a ∷ b ∷ c ∷ d ∷ rest) zero (suc k) e h = absurd (omega arith)
word_from (a ∷ b ∷ c ∷ d ∷ rest) (suc i) zero e h = absurd (omega arith)
word_from (a ∷ b ∷ c ∷ d ∷ rest) (suc i) (suc zero) e h = absurd (omega arith)
word_from (a ∷ b ∷ c ∷ d ∷ rest) (suc i) (suc (suc zero)) e h = absurd (omega arith)
word_from (a ∷ b ∷ c ∷ d ∷ rest) (suc i) (suc (suc (suc zero))) e h = absurd (omega arith)
word_from (a ∷ b ∷ c ∷ d ∷ rest) (suc i) (suc (suc (suc (suc k)))) e h = word_from rest i k (omega arith) (omega arith)

pub word_at : (bytes : List ℕ) (i : ℕ) → 4 * i + 3 < length bytes
    → get_or (words_of bytes) i 0 ≡ word_of (get_or bytes (4 * i) 0) (get_or bytes (4 * i + 1) 0) (get_or bytes (4 * i + 2) 0) (get_or bytes (4 * i + 3) 0)
word_at bytes i h =
    let b : suc (4 * i) ≡ 4 * i + 1 = omega arith in
    let c : suc (suc (4 * i)) ≡ 4 * i + 2 = omega arith in
    let d : suc (suc (suc (4 * i))) ≡ 4 * i + 3 = omega arith in
    rw (← d, ← c, ← b) (word_from bytes i (4 * i) refl h)

-- a word of the input, whatever follows the 4,100 bytes
pub input_at : (input : List ℕ) (i : ℕ) → i < length (input_words input) → get_or (input_words input) i 0 ≡ get_or (words_of input) i 0
unfolding input_words
input_at input i h =
    let l = length_words (take 4100 input) in
    let m = length-take 4100 input in
    let a = get_or-take 4100 input (4 * i) 0 (omega arith) in
    let b = get_or-take 4100 input (4 * i + 1) 0 (omega arith) in
    let c = get_or-take 4100 input (4 * i + 2) 0 (omega arith) in
    let d = get_or-take 4100 input (4 * i + 3) 0 (omega arith) in
    let x = word_at (take 4100 input) i (omega arith) in
    let y = word_at input i (omega arith) in
    omega arith

-- ---- bytes of the writes

pub length_writes : (n j : ℕ) → length (writes_from j n) ≡ 8 * n
unfolding writes_from
length_writes zero j = refl
length_writes (suc n) j = let h = length_writes n (suc j) in omega (arith, length-append (replicate 8 (j % 256)) (writes_from (suc j) n))

pub write_at : (n j i : ℕ) → i < 8 * n → get_or (writes_from j n) i 0 ≡ (j + i / 8) % 256
unfolding writes_from
write_at zero j i h = absurd (omega arith)
write_at (suc n) j i h = go (dec_le 8 i) (write_at n (suc j) (i - 8))
  where
    go : Dec (8 ≤ i) → (i - 8 < 8 * n → get_or (writes_from (suc j) n) (i - 8) 0 ≡ (suc j + (i - 8) / 8) % 256)
        → get_or (replicate 8 (j % 256) ++ writes_from (suc j) n) i 0 ≡ (j + i / 8) % 256
    go (yes l) later =
        let e : i ≡ 8 + (i - 8) = omega arith in
        let f : suc j + (i - 8) / 8 ≡ j + i / 8 = omega arith in
        ap (λ k. get_or (replicate 8 (j % 256) ++ writes_from (suc j) n) k 0) e
        ∙ get_or-append-add (replicate 8 (j % 256)) (writes_from (suc j) n) (i - 8) 0
        ∙ later (omega arith)
        ∙ ap (λ k. k % 256) f
    go (no l) later =
        let f : j ≡ j + i / 8 = omega arith in
        get_or-append (replicate 8 (j % 256)) (writes_from (suc j) n) 0 i (omega arith)
        ∙ get_or-replicate 8 i (j % 256) 0 (omega arith)
        ∙ ap (λ k. k % 256) f

pub length_incoming : length incoming_bytes ≡ 8192
unfolding incoming_bytes
length_incoming = length_writes 1024 1

pub incoming_at : (i : ℕ) → i < 8192 → get_or incoming_bytes i 0 ≡ (1 + i / 8) % 256
unfolding incoming_bytes
incoming_at i h = write_at 1024 1 i (omega arith)
