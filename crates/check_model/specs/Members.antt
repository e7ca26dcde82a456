-- Members of lists of different numbers.
-- Assumes nothing.
use Rattle.std.specs.Prelude.{ℕ, ◌≤◌, ◌≡◌, refl, Bool, true, false, List, [], ◌∷◌, map, length}
use Rattle.std.proofs.Common.{◌∙◌, sym, ap, true≢false, arith}
use Rattle.std.proofs.Math.Decide.{ℕ_discrete}
use Rattle.basics.specs.Basics.{All}
use Rattle.links.specs.Off.{Off, Distinct}
use Rattle.links.specs.Sift.{put, sift, off_sift}
use Rattle.check_model.specs.Membership.{all_of, all_at, fits}

abbrev pub In : ℕ → List ℕ → Type 0
In x xs = Off x xs → ⊥

abbrev pub Inside : List ℕ → List ℕ → Type 0
Inside ys xs = All (λ y. In y xs) ys

pub in_here : (x : ℕ) (xs : List ℕ) → In x (x ∷ xs)
in_here x xs o = o.0 refl

pub in_there : (x y : ℕ) (xs : List ℕ) → In x xs → In x (y ∷ xs)
in_there x y xs k o = k o.1

pub inside_of : (ys xs : List ℕ) → ((y : ℕ) → In y ys → In y xs) → Inside ys xs
inside_of ys xs h = all_of (λ y. In y xs) ys h

pub inside_at : (ys xs : List ℕ) → Inside ys xs → (y : ℕ) → In y ys → In y xs
inside_at ys xs h y k = all_at (λ y. In y xs) ys y h k

-- different members, as many as the list has: all of it
pub filled : (ys xs : List ℕ) → Distinct ys → Inside ys xs → length xs ≤ length ys → (x : ℕ) → In x xs → In x ys
filled ys xs d h l x k o = omega (arith, fits (x ∷ ys) xs (o, d) (k, h))

-- the members of a sifted list
pub sift_in : (g : ℕ → Bool) (xs : List ℕ) (x : ℕ) → g x ≡ true → In x xs → In x (sift g xs)
sift_in g xs x t k o = k (go xs o)
  where
    step : (y : ℕ) (ys : List ℕ) (b : Bool) → g y ≡ b → (Off x (sift g ys) → Off x ys) → Off x (put b y (sift g ys)) → Off x (y ∷ ys)
    step y ys true e r q = (q.0, r q.1)
    step y ys false e r q = (λ w. true≢false (sym t ∙ (ap g w ∙ e)), r q)

    go : (ys : List ℕ) → Off x (sift g ys) → Off x ys
    go [] q = tt
    go (y ∷ ys) q = step y ys (g y) refl (go ys) q

pub in_sift : (g : ℕ → Bool) (xs : List ℕ) (x : ℕ) → In x (sift g xs) → In x xs
in_sift g xs x k o = k (off_sift g x xs o)

pub sifted : (g : ℕ → Bool) (xs : List ℕ) → All (λ x. g x ≡ true) (sift g xs)
sifted g [] = tt
sifted g (x ∷ xs) = go (g x) refl (sifted g xs)
  where
    go : (b : Bool) → g x ≡ b → All (λ x. g x ≡ true) (sift g xs) → All (λ x. g x ≡ true) (put b x (sift g xs))
    go true e r = (e, r)
    go false e r = r

-- values of different members
pub off_map : (g : ℕ → ℕ) (v : ℕ) (ys : List ℕ) → ((y : ℕ) → In y ys → ¬ (v ≡ g y)) → Off v (map g ys)
off_map g v [] h = tt
off_map g v (y ∷ ys) h = (h y (in_here y ys), off_map g v ys (λ z k. h z (in_there z y ys k)))

pub map_off : (g : ℕ → ℕ) (v : ℕ) (ys : List ℕ) → Off v (map g ys) → (y : ℕ) → In y ys → ¬ (v ≡ g y)
map_off g v [] o y k e = k tt
map_off g v (z ∷ ys) o y k e = go (ℕ_discrete y z) (map_off g v ys o.1 y)
  where
    go : Dec (y ≡ z) → (In y ys → ¬ (v ≡ g y)) → ⊥
    go (yes q) r = o.0 (e ∙ ap g q)
    go (no q) r = r (λ p. k (q, p)) e

pub one_value : (g : ℕ → ℕ) (ys : List ℕ) → Distinct (map g ys) → (x y : ℕ) → In x ys → In y ys → g x ≡ g y → x ≡ y
one_value g [] d x y k l e = absurd (k tt)
one_value g (z ∷ ys) d x y k l e = go (ℕ_discrete x z) (ℕ_discrete y z) (one_value g ys d.1 x y)
  where
    go : Dec (x ≡ z) → Dec (y ≡ z) → (In x ys → In y ys → g x ≡ g y → x ≡ y) → x ≡ y
    go (yes a) (yes b) r = a ∙ sym b
    go (yes a) (no b) r = absurd (map_off g (g z) ys d.0 y (λ p. l (b, p)) (ap g (sym a) ∙ e))
    go (no a) (yes b) r = absurd (map_off g (g z) ys d.0 x (λ p. k (a, p)) (ap g (sym b) ∙ sym e))
    go (no a) (no b) r = r (λ p. k (a, p)) (λ p. l (b, p)) e

pub map_distinct : (g : ℕ → ℕ) (ys : List ℕ) → Distinct ys → ((x y : ℕ) → In x ys → In y ys → g x ≡ g y → x ≡ y) → Distinct (map g ys)
map_distinct g [] d h = tt
map_distinct g (z ∷ ys) d h = (
  off_map g (g z) ys (λ y k e. k (rw (← h z y (in_here z ys) (in_there y z ys k) e) d.0)),
  map_distinct g ys d.1 (λ x y k l e. h x y (in_there x z ys k) (in_there y z ys l) e),
)
