-- The sum that the directory keeps is that of the counts. Assumes nothing.
use Rattle.std.specs.Prelude.{ℕ, zero, suc, ◌≤◌, ◌≡◌, refl, List, [], ◌∷◌, map}
use Rattle.std.proofs.Common.{◌∙◌, sym, ap, arith}
use Rattle.std.proofs.Math.Decide.{ℕ_discrete, dec_le}
use Rattle.basics.specs.Basics.{All, total}
use Rattle.links.specs.Upd.{upd, upd_same, upd_other}
use Rattle.links.specs.Off.{Off, Distinct, off_right}
use Rattle.links.specs.Find.{Split}
use Rattle.settings.specs.declared.Settings.{Settings}
use Rattle.stack.specs.Recency.{counts}
use Rattle.layout.specs.Addresses.{SUM, COUNT}
use Rattle.linkage.specs.Fields.{Shape, Fields, in_header}
use Rattle.linkage.specs.WellLinked.{WellLinked, Entry, Sum}
use Rattle.linkage.specs.WellLinkedLaws.{sum_same, sum_upd}
use Rattle.operations.specs.Residents.{Of, residents_of, counts_of, alive}
use Rattle.operations.specs.Lookup.{in_stack}

sum_zero : (n : ℕ) → Sum n (λ _. 0) ≡ 0
unfolding Sum
sum_zero zero = refl
sum_zero (suc n) = omega (arith, sum_zero n)

total_same : (f g : ℕ → ℕ) (x : ℕ) (residents : List ℕ) → Off x residents → ((y : ℕ) → ¬ (y ≡ x) → g y ≡ f y)
    → total (map g residents) ≡ total (map f residents)
unfolding total
total_same f g x [] o h = refl
total_same f g x (y ∷ residents) o h = omega (arith, h y (λ q. o.0 (sym q)), total_same f g x residents o.1 h)

-- counts that are 0 off the list
sum_list : (n : ℕ) (f : ℕ → ℕ) (residents : List ℕ) → Distinct residents → All (λ x. (1 ≤ x) × (x ≤ n)) residents
    → ((x : ℕ) → 1 ≤ x → x ≤ n → Off x residents → f x ≡ 0) → Sum n f ≡ total (map f residents)
unfolding total
sum_list n f [] d a z = sum_same n f (λ _. 0) (λ x h l. z x h l tt) ∙ sum_zero n
sum_list n f (x ∷ residents) d a z =
    omega (
      arith,
      sum_upd n f x 0 a.0.0 a.0.1,
      sum_list n (upd f x 0) residents d.1 a.1 (λ y h l o. gone y h l o (ℕ_discrete y x)),
      total_same f (upd f x 0) x residents d.0 (λ y q. upd_other f x 0 y q),
    )
  where
    gone : (y : ℕ) → 1 ≤ y → y ≤ n → Off y residents → Dec (y ≡ x) → upd f x 0 y ≡ 0
    gone y h l o (yes q) = rw q (upd_same f x 0)
    gone y h l o (no q) = upd_other f x 0 y q ∙ z y h l (q, o)

module _ (t : Settings) (s : Shape) (D : Fields) (residents unused : List ℕ) (of : Of t s) (g : WellLinked s D residents unused) where
  out : (x : ℕ) → 1 ≤ x → x ≤ s.N → Off x residents → D COUNT x ≡ 0
  out x h l o = go (dec_le 1 (D COUNT x))
    where
      go : Dec (1 ≤ D COUNT x) → D COUNT x ≡ 0
      go (yes c) =
          let k : Split x residents = in_stack s D residents unused g x (h, l) c in
          absurd ((off_right x k.before (x ∷ k.behind) (rw k.whole at o)).0 refl)
      go (no c) = omega arith

  entries : (l : List ℕ) → All (λ x. Entry s x × (1 ≤ D COUNT x)) l → All (λ x. (1 ≤ x) × (x ≤ s.N)) l
  entries [] a = tt
  entries (x ∷ l) a = (a.0.0, entries l a.1)

  pub sum_is : total (counts (residents_of D residents)) ≡ D (in_header SUM) 0
  sum_is =
      ap total (counts_of D residents)
      ∙ sym (g.count.sum ∙ sum_list s.N (D COUNT) residents g.stack.ring.once (entries residents (alive s D residents unused g)) out)
