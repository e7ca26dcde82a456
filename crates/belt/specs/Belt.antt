-- What belt cycle is given (SCOPE, "The program"): work words from the bytes of standard input, and the bytes of the writes. Assumes nothing.
use Rattle.std.specs.Prelude.{ℕ, zero, suc, ◌+◌, ◌*◌, ◌%◌, List, [], ◌∷◌, ◌++◌, take, replicate}

-- low byte first
abbrev pub word_of : ℕ → ℕ → ℕ → ℕ → ℕ
word_of a b c d = a + 256 * b + 65536 * c + 16777216 * d

-- the words of bytes; 1 to 3 odd bytes at the end are dropped
unfoldable pub words_of : List ℕ → List ℕ
words_of [] = []
words_of (a ∷ []) = []
words_of (a ∷ b ∷ []) = []
words_of (a ∷ b ∷ c ∷ []) = []
words_of (a ∷ b ∷ c ∷ d ∷ rest) = word_of a b c d ∷ words_of rest

-- of the input, at most 4,100 bytes
unfoldable pub input_words : List ℕ → List ℕ
unfolding words_of
input_words input = words_of (take 4100 input)

-- The bytes of the j-th write and of those after it, n writes in all, 8 bytes each: the j-th are all j mod 256.
unfoldable pub writes_from : ℕ → ℕ → List ℕ
writes_from j zero = []
writes_from j (suc n) = replicate 8 (j % 256) ++ writes_from (suc j) n

-- for as many writes as a batch may have
unfoldable pub incoming_bytes : List ℕ
unfolding writes_from
incoming_bytes = writes_from 1 1024
