-- Reads that don't depend on settings (SCOPE, the section of that name), over every list of calls as in demand 3 whose batches are accepted,
-- without purges and without an answer 7. Statements only.
use Rattle.std.specs.Prelude.{ℕ, ◌*◌, ◌<◌, ◌≡◌, Bool, true, false, ◌&&◌, List, [], ◌∷◌, map, length, take, T, eqb}
use Rattle.basics.specs.Basics.{total, block_at}
use Rattle.basics.specs.Lists.{counting}
use Rattle.settings.specs.declared.Settings.{Settings}
use Rattle.stack.specs.Stack.{Work}
use Rattle.stack.specs.Batch.{work, is_read, how_many}
use Rattle.stack.specs.LastBytes.{gives_up, sevens, Last, first_bytes, last_then, last_reads, ends_in_flush}
use Rattle.promises.specs.Promises.{Fresh, Slices}
use Rattle.promises.specs.Demand3.{Memory, Lending, Linked, memory_left}

-- ---- the lists

-- what a call's words ask for
abbrev pub works_of : Settings → Lending → List Work
works_of s c = map (work s) c.words

-- Of this kind: a batch that was accepted, without purges and without an answer 7 to its words.
unfoldable pub of_this_kind : Settings → Lending → ℕ → Slices → Bool
unfolding work sevens total
of_this_kind s c n after = eqb n 0 && eqb (how_many gives_up (works_of s c)) 0 && eqb (sevens (take (length c.words) after.answers)) 0

-- all calls of a list, each with the number and the slices that it came to
unfoldable pub all_of_this_kind : Settings → List Lending → List (ℕ × Slices) → Bool
unfolding of_this_kind
all_of_this_kind s [] ts = true
all_of_this_kind s (c ∷ cs) [] = false
all_of_this_kind s (c ∷ cs) ((n, after) ∷ ts) = of_this_kind s c n after && all_of_this_kind s cs ts

-- A list as in demand 3, from an accepted fresh on, over any data and store, all of its calls of this kind.
pub record FromFresh (s : Settings) (m : Memory) (cs : List Lending) (ts : List (ℕ × Slices)) : Type 0 where
  pub before : List ℕ  -- the directory's words before fresh
  pub fresh : Fresh s before 0 m.directory
  pub linked : Linked m cs ts
  pub of_this_kind_lem : T (all_of_this_kind s cs ts)

-- ---- what the calls bring, give and leave

-- of a call what two caches have in common: its work words and its incoming bytes
abbrev pub words_and_bytes : Lending → List ℕ × List ℕ
words_and_bytes c = (c.words, c.incoming)

-- the same, the words by what they ask for
abbrev pub asks : Settings → Lending → List Work × List ℕ
asks s c = (works_of s c, c.incoming)

-- The read bytes of each call: its j-th read's are the j-th B bytes of its outgoing buffer.
unfoldable pub reads_of : Settings → List Lending → List (ℕ × Slices) → List (List (List ℕ))
unfolding counting total
reads_of s [] ts = []
reads_of s (c ∷ cs) [] = []
reads_of s (c ∷ cs) ((n, after) ∷ ts) =
    map (λ j. block_at s.b j after.outgoing) (counting 0 (how_many is_read (works_of s c))) ∷ reads_of s cs ts

-- the cache's store: of the memory's, the front of M blocks
abbrev pub store_of : Settings → Memory → List ℕ
store_of s m = take (s.m * s.b) m.store

-- ---- by the last bytes alone, B a block, `last` being those before the first call

-- what the reads of each call give
unfoldable pub last_reads_of : ℕ → Last → List (List Work × List ℕ) → List (List (List ℕ))
unfolding last_reads last_then
last_reads_of B last [] = []
last_reads_of B last ((ws, incoming) ∷ cs) = last_reads B last ws incoming ∷ last_reads_of B (last_then B last ws incoming) cs

-- the last bytes after all calls
unfoldable pub last_of : ℕ → Last → List (List Work × List ℕ) → Last
unfolding last_then
last_of B last [] = last
last_of B last ((ws, incoming) ∷ cs) = last_of B (last_then B last ws incoming) cs

-- whether the last word of the list is a flush, whichever call has it; if there is none, `was`
unfoldable pub closes : Bool → List (List Work × List ℕ) → Bool
unfolding ends_in_flush
closes was [] = was
closes was ((ws, incoming) ∷ cs) = closes (ends_in_flush was ws) cs

-- ---- the statements

-- equal B and M, any other settings
abbrev pub EqualBM : Settings → Settings → Type 0
EqualBM s s' = (s.b ≡ s'.b) × (s.m ≡ s'.m)

-- Each read gives the last bytes written to that block before it in the list, or the first store's if none were.
abbrev pub ReadsLast : Type 0
ReadsLast =
    (s : Settings) (m : Memory) (cs : List Lending) (ts : List (ℕ × Slices))
    → FromFresh s m cs ts
    → reads_of s cs ts ≡ last_reads_of s.b (first_bytes s.b (store_of s m)) (map (asks s) cs)

-- After a closing flush the store has, of every block, the last bytes written to it, or the first store's if none were.
abbrev pub StoreLast : Type 0
StoreLast =
    (s : Settings) (m : Memory) (cs : List Lending) (ts : List (ℕ × Slices))
    → FromFresh s m cs ts
    → T (closes false (map (asks s) cs))
    → (b : ℕ)
    → b < s.m
    → block_at s.b b (memory_left m cs ts).store ≡ last_of s.b (first_bytes s.b (store_of s m)) (map (asks s) cs) b

-- Two fresh caches over equal stores (by the M and B of the first, which are the other's too), with equal B and M, any other settings, and one
-- list with the same incoming bytes, of this kind for both: the same read bytes in each batch, and after a closing flush the same store. What
-- else the calls lend may differ, and what lies behind the stores.
abbrev pub ReadsAlike : Type 0
ReadsAlike =
    (s s' : Settings) (m m' : Memory) (cs cs' : List Lending) (ts ts' : List (ℕ × Slices))
    → EqualBM s s'
    → store_of s m ≡ store_of s m'
    → map words_and_bytes cs ≡ map words_and_bytes cs'
    → FromFresh s m cs ts
    → FromFresh s' m' cs' ts'
    → (reads_of s cs ts ≡ reads_of s' cs' ts')
    × (T (closes false (map (asks s) cs)) → store_of s (memory_left m cs ts) ≡ store_of s' (memory_left m' cs' ts'))

-- Settings changed on the way (a consequence): after a list with a closing flush a fresh cache, with equal B and M, goes on over the store that
-- it left. Each read gives the last bytes written to that block before it in either list, or the first store's if none were.
abbrev pub ReadsGoOn : Type 0
ReadsGoOn =
    (s s' : Settings) (m m' : Memory) (cs cs' : List Lending) (ts ts' : List (ℕ × Slices))
    → EqualBM s s'
    → store_of s (memory_left m cs ts) ≡ store_of s m'
    → FromFresh s m cs ts
    → T (closes false (map (asks s) cs))
    → FromFresh s' m' cs' ts'
    → reads_of s' cs' ts' ≡ last_reads_of s.b (last_of s.b (first_bytes s.b (store_of s m)) (map (asks s) cs)) (map (asks s) cs')
