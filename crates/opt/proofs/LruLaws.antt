-- LRU: its settings are legal where the chosen ones are, and it replaces the least recent resident, whatever the counts.
use Prim.Native.Nat.{ℕ, suc, ◌-◌, ◌≤◌, ◌<◌, min}
use Rattle.std.proofs.Math.Nat.{min-eq_left, min-eq_right}
use Rattle.std.proofs.Common.{arith, sym, ◌∙◌, drop-cons, le-leb}
use Rattle.std.specs.Prelude.{◌≡◌, Bool, ◌&&◌, List, ◌∷◌, length, drop, get_or, T, leb, eqb}
use Rattle.std.proofs.Math.Path.{ap}
use Rattle.std.proofs.Math.ListN.{drop_of_length-le}
use Rattle.std.proofs.Math.Facts.{leb_yes, leb_no, yes_and, yes_eqb}
use Rattle.basics.specs.TestLaws.{split, if_yes, if_no}
use Rattle.settings.specs.declared.Settings.{Settings}
use Rattle.settings.specs.NumbersLaws.{LegalSettings, legal_settings, number_zero}
use Rattle.stack.specs.Counts.{is_old, least, greatest}
use Rattle.stack.proofs.NumberLaws.{greatest_passes}
use Rattle.stack.specs.Pins.{victim_by_counts}
use Rattle.stack.proofs.UnpinnedLaws.{without_pins}
use Rattle.opt.specs.Ins.{lru}
use Rattle.opt.specs.Optimal.{LruLeastRecent}

pub lru_legal : (s : Settings) → LegalSettings s → LegalSettings (lru s)
lru_legal s h =
    record {
      some_blocks = h.some_blocks;
      few_blocks = h.few_blocks;
      some_old = omega arith;
      sections_fit = h.some_blocks;
      some_chain = h.some_chain;
      few_chains = h.few_chains;
      some_average = h.some_average;
      few_average = h.few_average;
      some_bytes = h.some_bytes;
      few_bytes = h.few_bytes;
      some_stored = h.some_stored;
      few_stored = h.few_stored;
    }

module _ (s : Settings) (ok : LegalSettings s) (cs : List ℕ) (full : length cs ≡ s.n) where
  -- the last position, and its count
  abbrev tail : ℕ
  tail = s.n - 1

  abbrev x : ℕ
  x = get_or cs tail 0

  -- the smallest count of the old section
  abbrev c : ℕ
  c = least 65535 (drop tail cs)

  abbrev test : ℕ → Bool
  test p = is_old (lru s) p && eqb (get_or cs p 0) c

  one_old : c ≡ min x 65535
  unfolding least
  one_old =
      let n = ok.some_blocks in
      let none = drop_of_length-le cs {i = suc tail} (omega arith) in
      ap (least 65535) (drop-cons cs tail 0 (omega arith) ∙ ap (λ l. x ∷ l) none)

  tail_count : c ≤ s.cmax → x ≡ c
  tail_count low =
      let few = ok.few_chains in
      split (leb x 65535)
      (λ t. sym (one_old ∙ min-eq_left (leb_yes t)))
      (λ t.
      let over : 65535 < x = leb_no t in
      let most : min x 65535 ≡ 65535 = min-eq_right (omega arith) in
      absurd (omega (arith, one_old, most)))

  tail_leaves : c ≤ s.cmax → greatest test (length cs) 0 ≡ tail
  tail_leaves low =
      let n = ok.some_blocks in
      let old : T (is_old (lru s) tail) = rw (le-leb (s.n - 1) tail (omega arith)) tt in
      let g = greatest_passes test (length cs) 0 tail (omega arith) (yes_and (is_old (lru s) tail) (eqb x c) old (yes_eqb (tail_count low))) in
      omega (arith, g.1, g.2)

  by_counts : victim_by_counts (lru s) cs ≡ tail
  unfolding victim_by_counts
  by_counts =
      split (leb c s.cmax)
      (λ t. if_yes (leb c s.cmax) (greatest test (length cs) 0) tail t ∙ tail_leaves (leb_yes t))
      (λ t. if_no (leb c s.cmax) (greatest test (length cs) 0) tail t)

pub lru_least_recent : LruLeastRecent
lru_least_recent s legal cs full positive =
    let ok = legal_settings s legal in
    (without_pins (lru s) cs (number_zero (lru s) (lru_legal s ok)) full positive).0 ∙ by_counts s ok cs full
