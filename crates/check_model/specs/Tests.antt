-- The tests of the check, over the fields of the entries: `f j e` is word j of entry e.
use Rattle.std.specs.Prelude.{ℕ, zero, suc, ◌+◌, ◌*◌, ◌/◌, ◌%◌, ◌-◌, ◌<◌, ◌≡◌, Bool, true, false, not, List, get_or, length, set, replicate, ltb, eqb}
use Rattle.basics.specs.Basics.{pick}
use Rattle.words.specs.Words.{val}
use Rattle.fnv.specs.Fnv.{fnv}
use Rattle.settings.specs.Numbers.{settings_number}
use Rattle.settings.specs.Buckets.{buckets}
use Rattle.layout.specs.Addresses.{CACHE-BLOCKS, NEW-BLOCKS, OLD-BLOCKS, CHAIN-LIMIT, AVERAGE-LIMIT, STORE-BLOCKS, RESIDENTS, SUM, HEAD, TAIL, NEW-BOUNDARY, OLD-BOUNDARY, UNUSED, BLANK-14, BLANK-15, READS, WRITES, INS, OUTS, BLOCK, COUNT, SECTION, MODIFIED, TO-HEAD, TO-TAIL, CHAIN-TO-HEAD, CHAIN-TO-TAIL, NEXT-SYNONYM, chain_head, chain_tail}
use Rattle.layout.specs.ModifiedWord.{is_modified_word}
use Rattle.layout.specs.Sound.{settings_in, total_at}
use Rattle.check_model.specs.Turns.{turns, moved}

unfoldable pub fld : List ℕ → ℕ → ℕ → ℕ → ℕ
fld w at j e = val w (at + 9 * e + j)

-- the same in the part of the words that begins with those of entry 0, if there were one
unfoldable pub entry_word : List ℕ → ℕ → ℕ → ℕ
entry_word x j e = val x (9 * e + j)

unfoldable pub head_of : List ℕ → ℕ → ℕ
head_of w i = val w (chain_head i)

unfoldable pub tail_of : List ℕ → ℕ → ℕ
tail_of w i = val w (chain_tail i)

-- kinds; the entries' words begin at base

unfoldable pub kind_at : ℕ → ℕ → ℕ
kind_at base i =
    pick (ltb i 9) 1 (pick (ltb i 14) 2 (pick (ltb i 24) 1 (pick (ltb i base) 2 (pick (ltb ((i - base) % 9) 4) 1 2))))

unfoldable pub kind_test : List ℕ → ℕ → ℕ → Bool
kind_test w base i = eqb (get_or w i 0 / 268435456) (kind_at base i)

abbrev pub kinds_from : List ℕ → ℕ → ℕ → ℕ → Bool
kinds_from w base k i = turns (kind_test w base) (λ i. i + 1) (λ _. true) k i

unfoldable pub kinds_ok : List ℕ → ℕ → ℕ → Bool
kinds_ok w base len = kinds_from w base len 0

-- the stack: so many entries from head, the last of them the tail

unfoldable pub link_test : (ℕ → ℕ → ℕ) → ℕ → ℕ → ℕ → Bool
link_test f n e before = pick (eqb e 0) false (pick (ltb n e) false (eqb (f TO-HEAD e) before))

abbrev pub stack_from : (ℕ → ℕ → ℕ) → ℕ → ℕ → ℕ → ℕ → ℕ → Bool
stack_from f n tail k e before =
    turns {S = ℕ × ℕ} (λ s. link_test f n s.0 s.1) (λ s. (f TO-TAIL s.0, s.0)) (λ s. pick (eqb s.0 0) (eqb s.1 tail) false) k
    (e, before)

unfoldable pub stack_ok : (ℕ → ℕ → ℕ) → ℕ → ℕ → ℕ → ℕ → Bool
stack_ok f n r head tail = stack_from f n tail r head 0

-- the other numbers of a resident, at position p; the old section begins at mid

unfoldable pub section_at : ℕ → ℕ → ℕ → ℕ
section_at new mid p = pick (ltb p new) 0 (pick (ltb p mid) 1 2)

unfoldable pub field_test : (ℕ → ℕ → ℕ) → ℕ → ℕ → ℕ → ℕ → ℕ → Bool
field_test f m new mid e p =
    pick (ltb (f BLOCK e) m)
    (pick (ltb (f COUNT e) 1) false
    (pick (ltb 65535 (f COUNT e)) false
    (pick (is_modified_word (f MODIFIED e)) (eqb (f SECTION e) (section_at new mid p)) false))) false

abbrev pub fields_from : (ℕ → ℕ → ℕ) → ℕ → ℕ → ℕ → ℕ → ℕ → ℕ → Bool
fields_from f m new mid k e p =
    turns {S = ℕ × ℕ} (λ s. field_test f m new mid s.0 s.1) (λ s. (f TO-TAIL s.0, s.1 + 1)) (λ _. true) k (e, p)

unfoldable pub fields_ok : (ℕ → ℕ → ℕ) → ℕ → ℕ → ℕ → ℕ → ℕ → Bool
fields_ok f m new mid r head = fields_from f m new mid r head 0

-- the unused list

unfoldable pub unused_test : (ℕ → ℕ → ℕ) → ℕ → ℕ → Bool
unused_test f n e =
    pick (eqb e 0) false (pick (ltb n e) false
    (eqb (f BLOCK e + f COUNT e + f SECTION e + f MODIFIED e + f TO-HEAD e + f CHAIN-TO-HEAD e + f CHAIN-TO-TAIL e + f NEXT-SYNONYM e) 0))

abbrev pub unused_from : (ℕ → ℕ → ℕ) → ℕ → ℕ → ℕ → Bool
unused_from f n k e = turns (unused_test f n) (f TO-TAIL) (λ e. eqb e 0) k e

unfoldable pub unused_ok : (ℕ → ℕ → ℕ) → ℕ → ℕ → ℕ → Bool
unused_ok f n k first = unused_from f n k first

-- the resident at a position, 0 where there is none

unfoldable pub nth_of : (ℕ → ℕ → ℕ) → ℕ → ℕ → ℕ
nth_of f k head = moved (f TO-TAIL) k head

unfoldable pub at_position : (ℕ → ℕ → ℕ) → ℕ → ℕ → ℕ → ℕ
at_position f r head p = pick (ltb p r) (nth_of f p head) 0

-- a sum over the residents: of their counts, and of their modified marks (the lowest bit of that word)

abbrev pub mark_bit : (ℕ → ℕ → ℕ) → ℕ → ℕ
mark_bit f e = f MODIFIED e % 2

abbrev pub sum_from : (ℕ → ℕ → ℕ) → (ℕ → ℕ) → ℕ → ℕ → ℕ → ℕ × ℕ
sum_from f g k e a = moved {S = ℕ × ℕ} (λ s. (f TO-TAIL s.0, s.1 + g s.0)) k (e, a)

unfoldable pub sum_of : (ℕ → ℕ → ℕ) → (ℕ → ℕ) → ℕ → ℕ → ℕ
sum_of f g r head = (sum_from f g r head 0).1

-- chains: before is the last entry seen of the same count, 0 where there is none

-- the last entry seen of each count up to 64
unfoldable pub last_at : List ℕ → ℕ → ℕ
last_at l c = pick (ltb c 65) (get_or l c 0) 0

unfoldable pub noted : List ℕ → ℕ → ℕ → List ℕ
noted l c e = pick (ltb c 65) (set l c e) l

unfoldable pub cursor : (ℕ → ℕ → ℕ) → (ℕ → ℕ) → ℕ → ℕ → ℕ
cursor f heads before c = pick (eqb before 0) (heads c) (f CHAIN-TO-TAIL before)

unfoldable pub chain_test : (ℕ → ℕ → ℕ) → (ℕ → ℕ) → ℕ → ℕ → ℕ → Bool
chain_test f heads cmax e before =
    pick (ltb cmax (f COUNT e))
    (pick (eqb (f CHAIN-TO-HEAD e) 0) (eqb (f CHAIN-TO-TAIL e) 0) false)
    (pick (eqb (f CHAIN-TO-HEAD e) before) (eqb (cursor f heads before (f COUNT e)) e) false)

unfoldable pub end_test : (ℕ → ℕ → ℕ) → (ℕ → ℕ) → (ℕ → ℕ) → ℕ → ℕ → Bool
end_test f heads tails i before = pick (eqb (tails i) before) (eqb (cursor f heads before i) 0) false

abbrev pub ends_from : (ℕ → ℕ → ℕ) → (ℕ → ℕ) → (ℕ → ℕ) → List ℕ → ℕ → ℕ → Bool
ends_from f heads tails l k i = turns (λ i. end_test f heads tails (i + 1) (last_at l (i + 1))) (λ i. i + 1) (λ _. true) k i

unfoldable pub ends_ok : (ℕ → ℕ → ℕ) → (ℕ → ℕ) → (ℕ → ℕ) → ℕ → List ℕ → Bool
ends_ok f heads tails cmax l = ends_from f heads tails l cmax 0

abbrev pub chains_from : (ℕ → ℕ → ℕ) → (ℕ → ℕ) → (ℕ → ℕ) → ℕ → ℕ → ℕ → List ℕ → Bool
chains_from f heads tails cmax k e l =
    turns {S = ℕ × List ℕ} (λ s. chain_test f heads cmax s.0 (last_at s.1 (f COUNT s.0)))
    (λ s. (f TO-TAIL s.0, noted s.1 (f COUNT s.0) s.0))
    (λ s. ends_ok f heads tails cmax s.1) k (e, l)

unfoldable pub chains_ok : (ℕ → ℕ → ℕ) → (ℕ → ℕ) → (ℕ → ℕ) → ℕ → ℕ → ℕ → Bool
chains_ok f heads tails cmax r head = chains_from f heads tails cmax r head (replicate 65 0)

-- buckets

-- the k entries from e on are lent with all their words
abbrev pub Lent : List ℕ → ℕ → ℕ → Type 0
Lent x k e = (i : ℕ) → i < k → 9 * moved (entry_word x NEXT-SYNONYM) i e + 8 < length x

-- none of the k entries from e on has that block
abbrev pub no_second : (ℕ → ℕ → ℕ) → ℕ → ℕ → ℕ → Bool
no_second f block k e = turns (λ e. not (eqb (f BLOCK e) block)) (f NEXT-SYNONYM) (λ _. true) k e

-- entry e, listed in bucket b behind `ahead` others; the bucket of its block says where it has to be listed and where a second resident would be
unfoldable pub list_test : (ℕ → ℕ → ℕ) → (ℕ → ℕ) → ℕ → ℕ → ℕ → ℕ → ℕ → Bool
list_test f firsts n nb b ahead e =
    let own = fnv (f BLOCK e) % nb in
    pick (ltb n e) false (pick (eqb (f COUNT e) 0) false (pick (eqb own b) (no_second f (f BLOCK e) ahead (firsts own)) false))

-- the entry that bucket b lists behind i others
abbrev pub nth_listed : (ℕ → ℕ → ℕ) → (ℕ → ℕ) → ℕ → ℕ → ℕ
nth_listed f firsts b i = moved (f NEXT-SYNONYM) i (firsts b)

-- the first `ahead` entries of bucket b's list passed that test
abbrev pub Tested : (ℕ → ℕ → ℕ) → (ℕ → ℕ) → ℕ → ℕ → ℕ → ℕ → Type 0
Tested f firsts n nb b ahead =
    (i : ℕ) → i < ahead → (¬ (nth_listed f firsts b i ≡ 0)) × (list_test f firsts n nb b i (nth_listed f firsts b i) ≡ true)

-- what is left of a budget after a bucket's list, and 1; 0 where the list is wrong
unfoldable pub listed : (ℕ → ℕ → ℕ) → (ℕ → ℕ) → ℕ → ℕ → ℕ → ℕ → ℕ → ℕ → ℕ
listed f firsts n nb b ahead zero e = pick (eqb e 0) 1 0
listed f firsts n nb b ahead (suc k) e =
    pick (eqb e 0) (suc k + 1)
    (pick (list_test f firsts n nb b ahead e) (listed f firsts n nb b (suc ahead) k (f NEXT-SYNONYM e)) 0)

-- the same from the bucket's first entry
abbrev pub left_after : (ℕ → ℕ → ℕ) → (ℕ → ℕ) → ℕ → ℕ → ℕ → ℕ → ℕ
left_after f firsts n nb b budget = listed f firsts n nb b 0 budget (firsts b)

-- buckets b, b + 1, .. : the lists of k of them are right, and nothing is left of the budget
unfoldable pub buckets_from : (ℕ → ℕ → ℕ) → (ℕ → ℕ) → ℕ → ℕ → ℕ → ℕ → ℕ → Bool
buckets_from f firsts n nb zero b left = eqb left 0
buckets_from f firsts n nb (suc k) b left =
    pick (eqb (left_after f firsts n nb b left) 0) false (buckets_from f firsts n nb k (b + 1) (left_after f firsts n nb b left - 1))

unfoldable pub first_of : List ℕ → ℕ → ℕ → ℕ
first_of w start b = val w (start + b)

-- totals

unfoldable pub total_of : List ℕ → ℕ → ℕ
total_of w i = total_at w i

-- the numbers of the header

unfoldable pub numbers_test : List ℕ → (ℕ → ℕ → ℕ) → ℕ → ℕ → ℕ → ℕ → ℕ → ℕ → Bool
numbers_test w f n new old average r head =
    pick (eqb (val w SUM) (sum_of f (f COUNT) r head))
    (pick (ltb (average * n) (sum_of f (f COUNT) r head)) false
    (pick (eqb (val w NEW-BOUNDARY) (at_position f r head new))
    (pick (eqb (val w OLD-BOUNDARY) (at_position f r head (n - old)))
    (pick (eqb (val w BLANK-14) 0) (pick (eqb (val w BLANK-15) 0) true false) false) false) false)) false

unfoldable pub totals_test : List ℕ → (ℕ → ℕ → ℕ) → ℕ → ℕ → Bool
totals_test w f r head =
    pick (ltb (total_of w READS) (total_of w INS)) false
    (pick (ltb (total_of w WRITES) (total_of w OUTS + sum_of f (mark_bit f) r head)) false true)

-- the lists

unfoldable pub lists_test : List ℕ → ℕ → ℕ → ℕ → ℕ → ℕ → ℕ → ℕ → Bool
lists_test w n new old cmax average m nb =
    let f = fld w (15 + 2 * cmax + nb) in
    pick (ltb n (val w RESIDENTS)) false
    (pick (stack_ok f n (val w RESIDENTS) (val w HEAD) (val w TAIL))
    (pick (unused_ok f n (n - val w RESIDENTS) (val w UNUSED))
    (pick (fields_ok f m new (n - old) (val w RESIDENTS) (val w HEAD))
    (pick (numbers_test w f n new old average (val w RESIDENTS) (val w HEAD))
    (pick (chains_ok f (head_of w) (tail_of w) cmax (val w RESIDENTS) (val w HEAD))
    (pick (buckets_from f (first_of w (24 + 2 * cmax)) n nb nb 0 (val w RESIDENTS))
    (totals_test w f (val w RESIDENTS) (val w HEAD)) false) false) false) false) false) false)

-- the whole

unfoldable pub sound_test : List ℕ → Bool
sound_test w =
    let nb = buckets (val w CACHE-BLOCKS) in
    let base = 24 + 2 * val w CHAIN-LIMIT + nb in
    pick (eqb (settings_number (settings_in w)) 0)
    (pick (kinds_ok w base (base + 9 * val w CACHE-BLOCKS))
    (lists_test w (val w CACHE-BLOCKS) (val w NEW-BLOCKS) (val w OLD-BLOCKS) (val w CHAIN-LIMIT) (val w AVERAGE-LIMIT) (val w STORE-BLOCKS) nb) false)
    false
