-- Where each word of the directory stands (SCOPE, "The directory"): the words of the header and of an entry by name, and
-- the addresses of chains, buckets and entries. Definitions, proofs and code all go by these. Assumes nothing.
use Rattle.std.specs.Prelude.{ℕ, ◌+◌, ◌*◌, ◌%◌}
use Rattle.fnv.specs.Fnv.{fnv}
use Rattle.settings.specs.declared.Settings.{Settings}
use Rattle.settings.specs.Buckets.{buckets}

-- ---- the header, words 0 to 23

-- numbers: the settings N, Nnew, Nold, Cmax, Amax, B, M
abbrev pub CACHE-BLOCKS : ℕ
CACHE-BLOCKS = 0

abbrev pub NEW-BLOCKS : ℕ
NEW-BLOCKS = 1

abbrev pub OLD-BLOCKS : ℕ
OLD-BLOCKS = 2

abbrev pub CHAIN-LIMIT : ℕ
CHAIN-LIMIT = 3

abbrev pub AVERAGE-LIMIT : ℕ
AVERAGE-LIMIT = 4

abbrev pub BLOCK-SIZE : ℕ
BLOCK-SIZE = 5

abbrev pub STORE-BLOCKS : ℕ
STORE-BLOCKS = 6

-- r, and the sum of counts
abbrev pub RESIDENTS : ℕ
RESIDENTS = 7

abbrev pub SUM : ℕ
SUM = 8

-- links: head and tail of the stack; the residents at positions Nnew and N − Nold; the first unused entry
abbrev pub HEAD : ℕ
HEAD = 9

abbrev pub TAIL : ℕ
TAIL = 10

abbrev pub NEW-BOUNDARY : ℕ
NEW-BOUNDARY = 11

abbrev pub OLD-BOUNDARY : ℕ
OLD-BOUNDARY = 12

abbrev pub UNUSED : ℕ
UNUSED = 13

-- numbers 0
abbrev pub BLANK-14 : ℕ
BLANK-14 = 14

abbrev pub BLANK-15 : ℕ
BLANK-15 = 15

-- totals, each as value mod 2^28 and, in the next word, value div 2^28
abbrev pub READS : ℕ
READS = 16

abbrev pub WRITES : ℕ
WRITES = 18

abbrev pub INS : ℕ
INS = 20

abbrev pub OUTS : ℕ
OUTS = 22

-- ---- an entry, words 0 to 8

-- numbers
abbrev pub BLOCK : ℕ
BLOCK = 0

abbrev pub COUNT : ℕ
COUNT = 1

abbrev pub SECTION : ℕ
SECTION = 2

abbrev pub MODIFIED : ℕ
MODIFIED = 3

-- links: in the stack and in a count chain, towards head and tail; the next synonym
abbrev pub TO-HEAD : ℕ
TO-HEAD = 4

abbrev pub TO-TAIL : ℕ
TO-TAIL = 5

abbrev pub CHAIN-TO-HEAD : ℕ
CHAIN-TO-HEAD = 6

abbrev pub CHAIN-TO-TAIL : ℕ
CHAIN-TO-TAIL = 7

abbrev pub NEXT-SYNONYM : ℕ
NEXT-SYNONYM = 8

-- ---- addresses

-- Count chain i, from 1: its head's link is 2 × (i − 1) words past the header, its tail's the next.
abbrev pub chain_head : ℕ → ℕ
chain_head i = 22 + 2 * i

abbrev pub chain_tail : ℕ → ℕ
chain_tail i = 23 + 2 * i

abbrev pub bucket_word : Settings → ℕ → ℕ
bucket_word s b = 24 + 2 * s.cmax + b

-- Word j of entry e, from 1: 9 × (e − 1) + j past the last bucket.
abbrev pub entry_word : Settings → ℕ → ℕ → ℕ
entry_word s e j = 15 + 2 * s.cmax + buckets s.n + 9 * e + j

-- a block's bucket
unfoldable pub bucket_of : Settings → ℕ → ℕ
unfolding fnv buckets
bucket_of s b = fnv b % buckets s.n
