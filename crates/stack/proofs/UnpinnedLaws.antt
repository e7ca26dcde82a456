-- Where nothing is pinned, the victim and the chains looked at are those of before there were pins, by the counts alone.
use Prim.Native.Nat.{ℕ, zero, suc, ◌-◌, ◌≤◌, ◌<◌}
use Rattle.std.proofs.Common.{arith, subst, ◌∙◌}
use Rattle.std.specs.Prelude.{◌≡◌, refl, Bool, true, false, ◌&&◌, not, List, ◌∷◌, map, [], drop, leb, eqb}
use Rattle.std.proofs.Math.Path.{sym, ap}
use Rattle.std.proofs.Math.ListN.{length, get_or}
use Rattle.std.proofs.lemmas.List.{length-map}
use Rattle.std.proofs.Math.Dec.{T}
use Rattle.std.proofs.Math.Facts.{and_yes, yes_and, leb_yes, leb_no, eqb_yes, yes_eqb}
use Rattle.basics.specs.Basics.{All}
use Rattle.basics.specs.TestLaws.{split, if_yes, if_no}
use Rattle.settings.specs.declared.Settings.{Settings}
use Rattle.settings.specs.NumbersLaws.{LegalSettings, legal_settings, old_fits}
use Rattle.stack.specs.Counts.{is_old, unpinned, count_at, unpinned_at, least, greatest, least_old, victim, chains}
use Rattle.stack.proofs.NumberLaws.{greatest_passes}
use Rattle.stack.proofs.CountsLaws.{victim_chained, victim_last, victim_unchained, anywhere, one_walk}
use Rattle.stack.specs.Pins.{victim_by_counts, chains_by_counts, WithoutPins}

-- counts without pins
abbrev free : List ℕ → List (ℕ × Bool)
free = map (λ c. (c, false))

free_drop : (n : ℕ) (cs : List ℕ) → unpinned (drop n (free cs)) ≡ drop n cs
unfolding unpinned
free_drop zero [] = refl
free_drop zero (c ∷ cs) = ap (λ t. c ∷ t) (free_drop zero cs)
free_drop (suc n) [] = refl
free_drop (suc n) (c ∷ cs) = free_drop n cs

free_at : (cs : List ℕ) (p : ℕ) → p < length cs → get_or (free cs) p (0, true) ≡ (get_or cs p 0, false)
free_at [] p h = absurd (omega arith)
free_at (c ∷ cs) zero h = refl
free_at (c ∷ cs) (suc p) h = free_at cs p (omega arith)

chains_free : (s : Settings) (cs : List ℕ) → chains s (free cs) ≡ chains_by_counts s cs
unfolding chains chains_by_counts
chains_free s cs = rw (free_drop (s.n - s.nold) cs)

module _ (s : Settings) (cs : List ℕ) (ok : LegalSettings s) (full : length cs ≡ s.n) (positive : All (λ c. 1 ≤ c) cs) where
  abbrev xs : List (ℕ × Bool)
  xs = free cs

  -- the smallest count in the old section
  abbrev c : ℕ
  c = least 65535 (drop (s.n - s.nold) cs)

  abbrev v : ℕ
  v = victim s xs

  long : length xs ≡ length cs
  long = length-map {B = ℕ × Bool} cs (λ c. (c, false))

  full_too : length xs ≡ s.n
  full_too = long ∙ full

  old_too : s.nold ≤ s.n
  old_too = old_fits s ok

  bound : (p : ℕ) → p < length xs → 1 ≤ count_at xs p
  bound p h =
      let inside : p < length cs = omega (arith, long) in
      subst (λ (x : ℕ × Bool). 1 ≤ x.0) (sym (free_at cs p inside)) (each cs positive p inside)
    where
      each : (cs : List ℕ) → All (λ c. 1 ≤ c) cs → (p : ℕ) → p < length cs → 1 ≤ get_or cs p 0
      each [] a p h = absurd (omega arith)
      each (c ∷ cs) a zero h = a.0
      each (c ∷ cs) a (suc p) h = each cs a.1 p (omega arith)

  no_pin : (p : ℕ) → p < length cs → T (unpinned_at xs p)
  no_pin p h = subst (λ (x : ℕ × Bool). T (not x.1)) (sym (free_at cs p h)) tt

  count : (p : ℕ) → p < length cs → count_at xs p ≡ get_or cs p 0
  count p h = ap (λ (x : ℕ × Bool). x.0) (free_at cs p h)

  smallest_same : least_old s xs ≡ c
  unfolding least_old
  smallest_same = ap (least 65535) (free_drop (s.n - s.nold) cs)

  test : ℕ → Bool
  test p = is_old s p && eqb (get_or cs p 0) c

  -- the greatest old position with that count
  chained : c ≤ s.cmax → v ≡ greatest test (length cs) 0
  unfolding test
  chained h =
      let low : least_old s xs ≤ s.cmax = omega (arith, smallest_same) in
      let (is-old, free_one, counted, inside) = victim_chained s xs full_too ok.some_old old_too ok.few_chains bound low in
      let in-range : v < length cs = omega (arith, full) in
      let same_count : get_or cs v 0 ≡ c = sym (count v in-range) ∙ counted ∙ smallest_same in
      let g = greatest_passes test (length cs) 0 v in-range (yes_and (is_old s v) (eqb (get_or cs v 0) c) is-old (yes_eqb same_count)) in
      let w : ℕ = greatest test (length cs) 0 in
      let q = and_yes (is_old s w) (eqb (get_or cs w 0) c) g.0 in
      let its-count : count_at xs w ≡ least_old s xs = count w g.2 ∙ eqb_yes q.1 ∙ sym smallest_same in
      let below : w < s.n = omega (arith, g.2) in
      let last = victim_last s xs full_too ok.some_old old_too ok.few_chains bound low w q.0 (no_pin w g.2) its-count below in
      omega (arith, g.1)

  -- or the tail
  unchained : s.cmax < c → v ≡ s.n - 1
  unfolding anywhere
  unchained h =
      victim_unchained s xs full_too ok.some_old old_too ok.few_chains bound (omega (arith, smallest_same))
      ∙ one_walk s xs full_too ok.some_old old_too ok.few_chains bound
      ∙ tail
    where
      tail : greatest (unpinned_at xs) (length xs) (length xs) ≡ s.n - 1
      tail =
          let fits : s.nold ≤ s.n = old_too in
          let some : 1 ≤ s.nold = ok.some_old in
          let free-tail : T (unpinned_at xs (s.n - 1)) = no_pin (s.n - 1) (omega arith) in
          let g = greatest_passes (unpinned_at xs) (length xs) (length xs) (s.n - 1) (omega (arith, full_too)) free-tail in
          omega (arith, g.1, g.2, full_too)

  victim_free : v ≡ victim_by_counts s cs
  unfolding victim_by_counts test
  victim_free = split (leb c s.cmax)
      (λ t. chained (leb_yes t) ∙ sym (if_yes (leb c s.cmax) (greatest test (length cs) 0) (s.n - 1) t))
      (λ t. unchained (leb_no t) ∙ sym (if_no (leb c s.cmax) (greatest test (length cs) 0) (s.n - 1) t))

pub without_pins : WithoutPins
without_pins s cs legal full positive = (victim_free s cs (legal_settings s legal) full positive, chains_free s cs)
