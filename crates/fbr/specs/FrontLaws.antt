-- A front written by one copy, or by stores one after the other.
use Rattle.std.specs.Prelude.{ℕ, zero, suc, ◌+◌, ◌-◌, ◌≤◌, ◌<◌, ◌≡◌, refl, List, [], ◌∷◌, ◌++◌, length, take, drop, set, get_or}
use Rattle.std.proofs.Common.{arith, ap, ◌∙◌, append-nil, length-drop, le-leb}
use Rattle.std.proofs.Math.Seq.{take-length, drop-length}
use Rattle.promises.specs.Promises.{over}
use Rattle.fbr.specs.Fronts.{fitted}

pub front_copied : (part out after : List ℕ) → after ≡ take (length part) part ++ drop (length part) out → length part ≤ length out
    → after ≡ fitted part out
front_copied part out after e h = rw (le-leb _ _ h) (rw (take-length part) at e)

-- xs stored from word i on
module _ {A : Type 0} where
  abbrev pub stores : List A → ℕ → List A → List A
  stores [] i out = out
  stores (x ∷ xs) i out = stores xs (suc i) (set out i x)

  past_first : (xs : List A) (i : ℕ) (y : A) (out : List A) → stores xs (suc i) (y ∷ out) ≡ y ∷ stores xs i out
  past_first [] i y out = refl
  past_first (x ∷ xs) i y out = past_first xs (suc i) y (set out i x)

  pub stores_over : (xs out : List A) → length xs ≤ length out → stores xs 0 out ≡ over xs out
  stores_over [] out h = refl
  stores_over (x ∷ xs) [] h = absurd (omega arith)
  stores_over (x ∷ xs) (y ∷ out) h = past_first xs 0 x out ∙ ap (λ l. x ∷ l) (stores_over xs out (omega arith))

-- one number more of a front
front_further : (xs out : List ℕ) (i : ℕ) → i < length xs → length xs ≤ length out
    → set (over (take i xs) out) i (get_or xs i 0) ≡ over (take (suc i) xs) out
front_further [] out i h h' = absurd (omega arith)
front_further (x ∷ xs) [] i h h' = absurd (omega arith)
front_further (x ∷ xs) (y ∷ out) zero h h' = refl
front_further (x ∷ xs) (y ∷ out) (suc i) h h' = ap (λ l. x ∷ l) (front_further xs out i (omega arith) (omega arith))

pub front_next : (xs out : List ℕ) (i : ℕ) → i < length xs → length xs ≤ length out
    → set (over (take i xs) out) i (get_or xs i 0) ≡ over (take (i + 1) xs) out
front_next xs out i h h' = let e : i + 1 ≡ suc i = omega arith in rw e (front_further xs out i h h')

-- one front behind the other
pub fronts_join : (xs ys out : List ℕ) → length xs ≤ length out
    → take (length xs) (over xs out) ++ over ys (drop (length xs) (over xs out)) ≡ over (xs ++ ys) out
fronts_join [] ys out h = refl
fronts_join (x ∷ xs) ys [] h = absurd (omega arith)
fronts_join (x ∷ xs) ys (y ∷ out) h = ap (λ l. x ∷ l) (fronts_join xs ys out (omega arith))

-- the second of them written to the part of the buffer behind the first
pub two_fronts : (xs ys out mid part : List ℕ) (n : ℕ) → length xs ≡ n → n ≤ length out → mid ≡ over xs out
    → part ≡ over ys (take (length mid - n) (drop n mid))
    → take n mid ++ (part ++ drop (length mid - n) (drop n mid)) ≡ over (xs ++ ys) out
two_fronts xs ys out mid part n long room first second =
    let behind : take (length mid - n) (drop n mid) ≡ drop n mid = rw (← length-drop n mid) (take-length (drop n mid)) in
    let none : drop (length mid - n) (drop n mid) ≡ [] = rw (← length-drop n mid) (drop-length (drop n mid)) in
    rw (none, append-nil part, second, behind, first, ← long) (fronts_join xs ys out (omega arith))
