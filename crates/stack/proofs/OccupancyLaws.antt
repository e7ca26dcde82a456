-- Every count has one class; what one resident more does to a column; what a column adds up to; what the residents hold makes no difference.
use Prim.Native.Nat.{ℕ, zero, suc, ◌+◌, ◌≤◌, ◌<◌}
use native.Mathlib.Omega.{arith}
use Rattle.std.proofs.Math.Decide.{ℕ_discrete}
use Rattle.std.specs.Prelude.{◌≡◌, ◌⊎◌, Bool, ◌&&◌, set, T, eqb}
use Rattle.std.proofs.Math.Path.{refl, ap₂}
use Rattle.std.proofs.Common.{sym, ap, ◌∙◌, ⊎_elim}
use Rattle.std.proofs.Math.Bool.{true, false}
use mathlib.Core.List.{List, [], ◌∷◌, ◌++◌, map}
use Rattle.std.proofs.Math.ListN.{length, get_or}
use Rattle.std.proofs.Math.Dec.{leb}
use Rattle.std.proofs.Math.Facts.{and_yes, leb_yes, leb_no, eqb_yes}
use borrow.Author.Tests.{le-leb, lt-leb, eq-eqb, ne_eqb}
use Rattle.basics.specs.Basics.{All, bit, when◌then◌else◌, within, total, index_of}
use Rattle.basics.specs.AllLaws.{all_map}
use Rattle.basics.specs.TestLaws.{split}
use Rattle.basics.specs.TotalLaws.{sum, sum_join, sum_same, sum_ones, sum_map, sum_swap}
use Rattle.stack.specs.Recency.{Resident, hold}
use Rattle.stack.specs.Counts.{Legal}
use Rattle.stack.specs.Stack.{modified_count}
use Rattle.stack.specs.Occupancy.{classes, in_class, having, class_of, tally, column, Table, table}

-- ---- exactly one class

-- The first class begins at a count, each later one right behind the class before it, and the last ends at `to`.
consecutive : ℕ → List (ℕ × ℕ) → ℕ → Bool
consecutive from [] to = eqb from (suc to)
consecutive from (class ∷ later) to = eqb class.0 from && leb from class.1 && consecutive (suc class.1) later to

-- how many of the classes have a count
abbrev among : ℕ → List (ℕ × ℕ) → ℕ
among count l = sum (λ class. bit (in_class count class)) l

module _ (count to : ℕ) where
  record Cut (from : ℕ) (class : ℕ × ℕ) (later : List (ℕ × ℕ)) : Type 0 where
    pub least : class.0 ≡ from
    pub wide : from ≤ class.1
    pub rest : T (consecutive (suc class.1) later to)

  cut : (from : ℕ) (class : ℕ × ℕ) (later : List (ℕ × ℕ)) → T (consecutive from (class ∷ later) to) → Cut from class later
  unfolding consecutive
  cut from class later t =
      let q = and_yes (eqb class.0 from && leb from class.1) (consecutive (suc class.1) later to) t in
      let p = and_yes (eqb class.0 from) (leb from class.1) q.0 in
      record { least = eqb_yes p.0; wide = leb_yes p.1; rest = q.1 }

  ends : (from : ℕ) (l : List (ℕ × ℕ)) → T (consecutive from l to) → from ≤ suc to
  unfolding consecutive
  ends from [] t = let e : from ≡ suc to = eqb_yes t in omega arith
  ends from (class ∷ later) t = let c = cut from class later t in omega (arith, c.wide, ends (suc class.1) later c.rest)

  none_before : (from : ℕ) (l : List (ℕ × ℕ)) → T (consecutive from l to) → count < from → among count l ≡ 0
  unfolding total
  none_before from [] t h = refl
  none_before from (class ∷ later) t h =
      let c = cut from class later t in
      let low : count < class.0 = omega (arith, c.least) in
      rw (lt-leb class.0 count low) (omega (arith, none_before (suc class.1) later c.rest (omega (arith, c.wide))))

  one_of : (from : ℕ) (l : List (ℕ × ℕ)) → T (consecutive from l to) → from ≤ count → count ≤ to → among count l ≡ 1
  unfolding total consecutive
  one_of from [] t h h' = let e : from ≡ suc to = eqb_yes t in absurd (omega arith)
  one_of from (class ∷ later) t h h' =
      let c = cut from class later t in
      let low : class.0 ≤ count = omega (arith, c.least) in
      split (leb count class.1)
      (λ t. let inside : count ≤ class.1 = leb_yes t in
      rw (le-leb class.0 count low, le-leb count class.1 inside) (omega (arith, none_before (suc class.1) later c.rest (omega arith))))
      (λ t. let past : class.1 < count = leb_no t in
      rw (le-leb class.0 count low, lt-leb count class.1 past) (omega (arith, one_of (suc class.1) later c.rest past h')))

  none_past : (from : ℕ) (l : List (ℕ × ℕ)) → T (consecutive from l to) → to < count → among count l ≡ 0
  unfolding total
  none_past from [] t h = refl
  none_past from (class ∷ later) t h =
      let c = cut from class later t in
      let high : class.1 < count = omega (arith, ends (suc class.1) later c.rest) in
      let low : class.0 ≤ count = omega (arith, c.least, c.wide) in
      rw (le-leb class.0 count low, lt-leb count class.1 high) (omega (arith, none_past (suc class.1) later c.rest h))

pub one_class : (count : ℕ) → 1 ≤ count → count ≤ 65535 → total (having count) ≡ 1
unfolding consecutive
one_class count h h' = one_of count 65535 1 classes tt h h'

-- ---- the class of a count, by its place

-- where none is 1
index_none : (ys : List ℕ) → total ys ≡ 0 → index_of 1 ys ≡ length ys
unfolding total index_of
index_none [] e = refl
index_none (y ∷ ys) e = let z : y ≡ 0 = omega arith in rw z (ap suc (index_none ys (omega arith)))

member_most : (ys : List ℕ) (i : ℕ) → get_or ys i 0 ≤ total ys
unfolding total
member_most [] i = omega arith
member_most (y ∷ ys) zero = omega arith
member_most (y ∷ ys) (suc i) = omega (arith, member_most ys i)

-- where one is 1, and the others 0
index_at : (ys : List ℕ) (i : ℕ) → total ys ≡ 1 → get_or ys i 0 ≡ 1 → index_of 1 ys ≡ i
unfolding total index_of
index_at [] i e h = absurd (omega arith)
index_at (y ∷ ys) zero e h = rw h
index_at (y ∷ ys) (suc i) e h = let z : y ≡ 0 = omega (arith, member_most ys i) in rw z (ap suc (index_at ys i (omega arith) h))

pub no_class : (count : ℕ) → (count < 1) ⊎ (65535 < count) → class_of count ≡ length classes
unfolding consecutive class_of
no_class count = ⊎_elim
    (λ h. index_none (having count) (none_before count 65535 1 classes tt h))
    (λ h. index_none (having count) (none_past count 65535 1 classes tt h))

index_found : (ys : List ℕ) → total ys ≡ 1 → get_or ys (index_of 1 ys) 0 ≡ 1
unfolding total index_of
index_found [] e = absurd (omega arith)
index_found (y ∷ ys) e = go (ℕ_discrete y 1) (index_found ys)
  where
    go : Dec (y ≡ 1) → (total ys ≡ 1 → get_or ys (index_of 1 ys) 0 ≡ 1) → get_or (y ∷ ys) (when eqb y 1 then 0 else suc (index_of 1 ys)) 0 ≡ 1
    go (yes one) later = rw (eq-eqb y 1 one) one
    go (no other) later = rw (ne_eqb y 1 other) (later (omega arith))

pub class_found : (count : ℕ) → Legal count → get_or (having count) (class_of count) 0 ≡ 1
unfolding class_of
class_found count legal = index_found (having count) (one_class count legal.0 legal.1)

-- what stands past the end is 0
inside : (ys : List ℕ) (i : ℕ) → get_or ys i 0 ≡ 1 → i < length ys
inside [] i e = absurd (omega arith)
inside (y ∷ ys) zero e = omega arith
inside (y ∷ ys) (suc i) e = omega (arith, inside ys i e)

pub class_below : (count : ℕ) → Legal count → class_of count < length classes
class_below count legal = inside (having count) (class_of count) (class_found count legal)

-- a count from `least` to `greatest`, where these are the class at a place
pub class_at : (count i least greatest : ℕ) → get_or (having count) i 0 ≡ bit (within least greatest count)
    → least ≤ count → count ≤ greatest → 1 ≤ least → greatest ≤ 65535 → class_of count ≡ i
unfolding class_of
class_at count i least greatest e low high h h' =
    let one : bit (within least greatest count) ≡ 1 = rw (le-leb least count low, le-leb count greatest high) in
    index_at (having count) i (one_class count (omega arith) (omega arith)) (e ∙ one)

-- ---- one resident more

-- two columns added, figure by figure
abbrev plus : List ℕ → List ℕ → List ℕ
plus [] ys = []
plus (x ∷ xs) [] = x ∷ xs
plus (x ∷ xs) (y ∷ ys) = (x + y) ∷ plus xs ys

-- a column with so many more at a place
abbrev pub raised : List ℕ → ℕ → ℕ → List ℕ
raised xs i n = set xs i (get_or xs i 0 + n)

raised_none : (xs : List ℕ) (i : ℕ) → raised xs i 0 ≡ xs
raised_none [] i = refl
raised_none (x ∷ xs) zero = ap (λ n. n ∷ xs) (omega arith)
raised_none (x ∷ xs) (suc i) = ap (λ l. x ∷ l) (raised_none xs i)

plus_none : (xs ys : List ℕ) → total ys ≡ 0 → plus xs ys ≡ xs
unfolding total
plus_none [] ys e = refl
plus_none (x ∷ xs) [] e = refl
plus_none (x ∷ xs) (y ∷ ys) e = ap₂ ◌∷◌ (omega arith) (plus_none xs ys (omega arith))

plus_one : (xs ys : List ℕ) → length ys ≤ length xs → total ys ≡ 1 → plus xs ys ≡ raised xs (index_of 1 ys) 1
unfolding total index_of
plus_one xs [] long e = absurd (omega arith)
plus_one [] (y ∷ ys) long e = absurd (omega arith)
plus_one (x ∷ xs) (y ∷ ys) long e = go (ℕ_discrete y 1) (plus_one xs ys (omega arith))
  where
    go : Dec (y ≡ 1) → (total ys ≡ 1 → plus xs ys ≡ raised xs (index_of 1 ys) 1)
        → (x + y) ∷ plus xs ys ≡ raised (x ∷ xs) (when eqb y 1 then 0 else suc (index_of 1 ys)) 1
    go (yes one) later = rw (eq-eqb y 1 one, one, plus_none xs ys (omega arith))
    go (no other) later = rw (ne_eqb y 1 other, later (omega arith)) (ap (λ n. n ∷ raised xs (index_of 1 ys) 1) (omega arith))

module _ {A K : Type 0} (f : K → A → ℕ) (l : List A) (x : A) where
  sums_joined : (ks : List K) → map (λ k. sum (f k) (l ++ (x ∷ []))) ks ≡ plus (map (λ k. sum (f k) l) ks) (map (λ k. f k x) ks)
  unfolding total
  sums_joined [] = refl
  sums_joined (k ∷ ks) = ap₂ ◌∷◌ (omega (arith, sum_join (f k) l (x ∷ []))) (sums_joined ks)

-- what a count shows in a column: 1 in its class, or nothing where its resident fails a test
abbrev shown : Bool → ℕ → List ℕ
shown passes count = map (λ class. bit (passes && in_class count class)) classes

-- a resident more: 1 more in its class where it passes the test
pub column_more : {A : Type 0} (test : Resident A → Bool) (l : List (Resident A)) (x : Resident A) → Legal x.count
    → column test (l ++ (x ∷ [])) ≡ raised (column test l) (class_of x.count) (bit (test x))
unfolding column class_of total
column_more test l x legal = sums_joined (λ class y. bit (test y && in_class y.count class)) l x classes ∙ go (test x)
  where
    go : (passes : Bool) → plus (column test l) (shown passes x.count) ≡ raised (column test l) (class_of x.count) (bit passes)
    go true = plus_one (column test l) (shown true x.count) (omega arith) (one_class x.count legal.0 legal.1)
    go false = plus_none (column test l) (shown false x.count) refl ∙ sym (raised_none (column test l) (class_of x.count))

-- ---- what a column adds up to

module _ {A : Type 0} (test : Resident A → Bool) where
  -- a resident counts in one class where it passes the test
  one_figure : (x : Resident A) → Legal x.count → total (shown (test x) x.count) ≡ bit (test x)
  unfolding total
  one_figure x legal = go (test x)
    where
      go : (passes : Bool) → total (shown passes x.count) ≡ bit passes
      go true = one_class x.count legal.0 legal.1
      go false = refl

  pub column_sum : (l : List (Resident A)) → All (λ x. Legal x.count) l → total (column test l) ≡ tally test l
  unfolding column
  column_sum l legal =
      sum_swap (λ class x. bit (test x && in_class x.count class)) classes l
      ∙ sum_same (λ x. total (shown (test x) x.count)) (λ x. bit (test x)) l
      (all_map (λ x. Legal x.count) (λ x. total (shown (test x) x.count) ≡ bit (test x)) l one_figure legal)

pub residents_sum : {A : Type 0} (l : List (Resident A)) → All (λ x. Legal x.count) l → total (table l).residents ≡ length l
residents_sum l legal = column_sum (λ x. true) l legal ∙ sum_ones l

pub modified_sum : {A : Type 0} (l : List (Resident A)) → All (λ x. Legal x.count) l → total (table l).modified ≡ modified_count l
unfolding modified_count
modified_sum l legal = column_sum (λ x. x.marks.modified) l legal

-- ---- what residents hold makes no difference

module _ {A B : Type 0} (f : A → B) (l : List (Resident A)) where
  held_column : (test : Resident B → Bool) → column test (map (hold f) l) ≡ column (λ x. test (hold f x)) l
  unfolding column
  held_column test = go classes
    where
      go : (ks : List (ℕ × ℕ)) → map (λ k. tally (λ x. test x && in_class x.count k) (map (hold f) l)) ks
          ≡ map (λ k. tally (λ x. test (hold f x) && in_class x.count k) l) ks
      go [] = refl
      go (k ∷ ks) = ap₂ ◌∷◌ (sum_map (λ x. bit (test x && in_class x.count k)) (hold f) l) (go ks)

  pub table_hold : table (map (hold f) l) ≡ table l
  table_hold = ap₂ columns (held_column (λ x. true)) (held_column (λ x. x.marks.modified))
    where
      columns : List ℕ → List ℕ → Table
      columns residents modified = record { residents = residents; modified = modified }

-- ---- no figure exceeds the number of residents

module _ {A : Type 0} (test : Resident A → Bool) (l : List (Resident A)) where
  tally_few : (t : Resident A → Bool) (l : List (Resident A)) → tally t l ≤ length l
  unfolding total
  tally_few t [] = omega arith
  tally_few t (x ∷ l) = go (t x) (tally_few t l)
    where
      go : (b : Bool) → tally t l ≤ length l → bit b + tally t l ≤ suc (length l)
      go true h = omega (arith, h)
      go false h = omega (arith, h)

  pub column_few : (i : ℕ) → get_or (column test l) i 0 ≤ length l
  unfolding column
  column_few = go classes
    where
      go : (ks : List (ℕ × ℕ)) (i : ℕ) → get_or (map (λ k. tally (λ x. test x && in_class x.count k) l) ks) i 0 ≤ length l
      go [] i = omega arith
      go (k ∷ ks) zero = tally_few (λ x. test x && in_class x.count k) l
      go (k ∷ ks) (suc i) = go ks i
