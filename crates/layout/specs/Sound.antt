-- What the directory's words say, and when they are sound (SCOPE, "The directory"). All of it computes: `sound` is what a
-- batch's number 6 tests, `view` the recency stack that the words stand for. Assumes nothing.
use Prim.Native.Nat.{ℕ, zero, suc, ◌+◌, ◌-◌, ◌*◌, ◌/◌, ◌^◌}
use Rattle.std.specs.Prelude.{Bool, ◌&&◌, ◌||◌, length, take, get_or}
use Rattle.std.proofs.Math.Bool.{true, false}
use mathlib.Core.List.{List, [], ◌∷◌, ◌++◌, map, reverse}
use Rattle.std.proofs.Math.Dec.{leb, ltb, eqb}
use Rattle.basics.specs.Basics.{when◌then◌else◌, bit, within, total}
use Rattle.basics.specs.Lists.{every, all, same, distinct, same_members, those, counting}
use Rattle.words.specs.Words.{val}
use Rattle.settings.specs.declared.Settings.{Settings}
use Rattle.settings.specs.Numbers.{settings_number}
use Rattle.settings.specs.Buckets.{buckets, directory_length}
use Rattle.stack.specs.Counts.{section}
use Rattle.stack.specs.Recency.{Resident}
use Rattle.stack.specs.Stack.{Stack, Totals}
use Rattle.layout.specs.Addresses.{CACHE-BLOCKS, NEW-BLOCKS, OLD-BLOCKS, CHAIN-LIMIT, AVERAGE-LIMIT, BLOCK-SIZE, STORE-BLOCKS, RESIDENTS, SUM, HEAD, TAIL, NEW-BOUNDARY, OLD-BOUNDARY, UNUSED, BLANK-14, BLANK-15, READS, WRITES, INS, OUTS, BLOCK, COUNT, SECTION, MODIFIED, TO-HEAD, TO-TAIL, CHAIN-TO-HEAD, CHAIN-TO-TAIL, NEXT-SYNONYM, chain_head, chain_tail, bucket_word, entry_word, bucket_of}
use Rattle.layout.specs.Layout.{kinds}
use Rattle.layout.specs.ModifiedWord.{marks_in, is_modified_word}

module _ (ws : List ℕ) where
  unfoldable pub settings_in : Settings
  unfolding val
  settings_in =
      record {
        n = val ws CACHE-BLOCKS;
        nnew = val ws NEW-BLOCKS;
        nold = val ws OLD-BLOCKS;
        cmax = val ws CHAIN-LIMIT;
        amax =
            val ws AVERAGE-LIMIT;
        b = val ws BLOCK-SIZE;
        m = val ws STORE-BLOCKS;
      }

  -- a total: its low 28 bits, then the rest
  abbrev pub total_at : ℕ → ℕ
  total_at i = val ws i + 2 ^ 28 * val ws (suc i)

  unfoldable pub totals_in : Totals
  unfolding val
  totals_in = record { reads = total_at READS; writes = total_at WRITES; ins = total_at INS; outs = total_at OUTS }

  -- word j of entry e
  unfoldable pub field : ℕ → ℕ → ℕ
  unfolding settings_in val
  field j e = val ws (entry_word settings_in e j)

  -- ---- lists of entries

  -- from e on along word j, until a link is none, at most `more` of them
  unfoldable pub along : ℕ → ℕ → ℕ → List ℕ
  unfolding field val
  along j zero e = []
  along j (suc more) e = let rest = along j more (field j e) in when eqb e 0 then [] else e ∷ rest

  -- (One more than N where they go round.)
  unfoldable pub walk : ℕ → ℕ → List ℕ
  unfolding along settings_in val
  walk j e = along j (suc settings_in.n) e

  -- the residents' entries, most recent first, and the unused ones
  unfoldable pub order : List ℕ
  unfolding walk val
  order = walk TO-TAIL (val ws HEAD)

  unfoldable pub unused_entries : List ℕ
  unfolding walk val
  unused_entries = walk TO-TAIL (val ws UNUSED)

  -- ---- sound, clause by clause

  -- the slice is long enough; every kind is right
  unfoldable pub kinds_right : Bool
  unfolding settings_in kinds same val
  kinds_right = same (map (λ w. w / 2 ^ 28) (take (directory_length settings_in) ws)) (kinds settings_in)

  -- The stack links list r different entries, the same both ways; the other entries stand on the unused list, linked by their
  -- stack-towards-tail word, their other values 0.
  unfoldable pub stack_tests : List Bool
  unfolding order unused_entries walk same all distinct field settings_in val
  stack_tests =
      let N = settings_in.n in
      same (walk TO-HEAD (val ws TAIL)) (reverse order)
      ∷ eqb (length order) (val ws RESIDENTS)
      ∷ eqb (length (order ++ unused_entries)) N
      ∷ all (within 1 N) (order ++ unused_entries)
      ∷ distinct (order ++ unused_entries)
      ∷ all (λ e. eqb (field BLOCK e + field COUNT e + field SECTION e + field MODIFIED e + field TO-HEAD e + field CHAIN-TO-HEAD e + field
      CHAIN-TO-TAIL e + field NEXT-SYNONYM e) 0) unused_entries
      ∷ []

  -- the section words, along the stack from position p
  unfoldable pub sections_right : ℕ → List ℕ → Bool
  unfolding field settings_in val
  sections_right p [] = true
  sections_right p (e ∷ es) = eqb (field SECTION e) (section settings_in p) && sections_right (suc p) es

  -- Resident blocks differ and are below M; counts are 1 to 65,535, the modified word is 0, 1, 3, 4, 5 or 7; sum, sections and words
  -- 11, 12, 14 and 15 are as defined; sum at most Amax × N.
  unfoldable pub resident_tests : List Bool
  unfolding order sections_right all distinct total is_modified_word field settings_in val
  resident_tests =
      let s = settings_in in
      let sum = total (map (field COUNT) order) in
      distinct (map (field BLOCK) order)
      ∷ all (λ e. ltb (field BLOCK e) s.m) order
      ∷ all (λ e. within 1 65535 (field COUNT e)) order
      ∷ all (λ e. is_modified_word (field MODIFIED e)) order
      ∷ eqb (val ws SUM) sum
      ∷ sections_right 0 order
      ∷ eqb (val ws NEW-BOUNDARY) (get_or order s.nnew 0)
      ∷ eqb (val ws OLD-BOUNDARY) (get_or order (s.n - s.nold) 0)
      ∷ eqb (val ws BLANK-14 + val ws BLANK-15) 0
      ∷ leb sum (s.amax * s.n)
      ∷ []

  -- chain i lists exactly the residents of count i in stack order, both ways
  unfoldable pub chain_right : ℕ → Bool
  unfolding order walk same those field val
  chain_right i =
      let chain = those (λ e. eqb (field COUNT e) i) order in
      same (walk CHAIN-TO-TAIL (val ws (chain_head i))) chain && same (walk CHAIN-TO-HEAD (val ws (chain_tail i))) (reverse chain)

  -- a bucket lists exactly its residents, in any order
  unfoldable pub bucket_right : ℕ → Bool
  unfolding order walk same_members those bucket_of field settings_in val
  bucket_right b = same_members (walk NEXT-SYNONYM (val ws (bucket_word settings_in b))) (those (λ e. eqb (bucket_of settings_in (field BLOCK e)) b) order)

  -- Chain i lists its residents, and a resident in no chain has chain links 0; each bucket lists its residents; ins at most reads;
  -- outs plus modified residents at most writes.
  unfoldable pub chain_tests : List Bool
  unfolding chain_right bucket_right all counting order marks_in field settings_in totals_in total val
  chain_tests =
      all chain_right (counting 1 settings_in.cmax)
      ∷ all (λ e. leb (field COUNT e) settings_in.cmax || eqb (field CHAIN-TO-HEAD e + field CHAIN-TO-TAIL e) 0) order
      ∷ all bucket_right (counting 0 (buckets settings_in.n))
      ∷ leb totals_in.ins totals_in.reads
      ∷ leb (totals_in.outs + total (map (λ e. bit (marks_in (field MODIFIED e)).modified) order)) totals_in.writes
      ∷ []

  -- The slice is long enough, every kind is right and the settings are legal; and all the rest. (Kinds and lists are laid out by
  -- the settings, so those come first.)
  unfoldable pub sound : Bool
  unfolding settings_in settings_number buckets kinds_right every stack_tests resident_tests chain_tests val
  sound =
      let kinds-right = kinds_right in
      let rest = every (stack_tests ++ (resident_tests ++ chain_tests)) in
      when eqb (settings_number settings_in) 0 then (when kinds-right then rest else false) else false

  -- ---- the recency stack that the words stand for, with a store beside it

  unfoldable pub resident_at : ℕ → Resident ℕ
  unfolding marks_in field val
  resident_at e = record { block = field BLOCK e; count = field COUNT e; marks = marks_in (field MODIFIED e); held = e }

  -- read off along the stack links
  abbrev pub residents_in : List (Resident ℕ)
  residents_in = map resident_at order

  unfoldable pub view : List ℕ → Stack ℕ
  unfolding settings_in totals_in order resident_at val
  view store = record { settings = settings_in; residents = residents_in; store = store; totals = totals_in }
