-- The last entry of a list that passes a test: among those of a key, by the greatest position that passes, and as a walk from the
-- list's end finds it. Assumes nothing.
use Rattle.std.specs.Prelude.{ℕ, zero, suc, ◌≤◌, ◌<◌, ◌≡◌, refl, ◌⊎◌, Bool, true, false, not, ◌&&◌, List, [], ◌∷◌, T, eqb, length, get_or}
use Rattle.std.proofs.Common.{◌∙◌, sym, ap, subst, inl, inr, arith}
use Rattle.std.proofs.Math.Facts.{not_T}
use Rattle.basics.specs.Basics.{All, pick}
use Rattle.basics.specs.AllLaws.{all_map}
use Rattle.basics.specs.TestLaws.{if_yes, if_no}
use Rattle.links.specs.All.{all_sift}
use Rattle.links.specs.Sift.{sift, put}
use Rattle.links.proofs.Chains.{chain, chain_sift, keyed}
use Rattle.stack.specs.Counts.{greatest}
use Rattle.stack.proofs.NumberLaws.{greatest_passes, greatest_cases}

-- the last that passes, or d where none does
abbrev pub last_on : (ℕ → Bool) → List ℕ → ℕ → ℕ
last_on test [] d = d
last_on test (x ∷ xs) d = last_on test xs (pick (test x) x d)

last_sift : (test q : ℕ → Bool) (xs : List ℕ) (d : ℕ) → last_on test (sift q xs) d ≡ last_on (λ x. test x && q x) xs d
last_sift test q [] d = refl
last_sift test q (x ∷ xs) d = go (q x) (test x) refl (λ n. last_sift test q xs n)
  where
    go : (b t : Bool) → test x ≡ t → ((n : ℕ) → last_on test (sift q xs) n ≡ last_on (λ y. test y && q y) xs n)
        → last_on test (put b x (sift q xs)) d ≡ last_on (λ y. test y && q y) xs (pick (t && b) x d)
    go true true e rest = ap (λ c. last_on test (sift q xs) (pick c x d)) e ∙ rest x
    go true false e rest = ap (λ c. last_on test (sift q xs) (pick c x d)) e ∙ rest d
    go false true e rest = rest d
    go false false e rest = rest d

-- of a chain: the last of the key
pub last_chain : (test : ℕ → Bool) (key : ℕ → ℕ) (i : ℕ) (xs : List ℕ) (d : ℕ)
    → last_on test (chain key i xs) d ≡ last_on (λ x. test x && eqb (key x) i) xs d
last_chain test key i xs d = ap (λ (l : List ℕ). last_on test l d) (chain_sift key i xs) ∙ last_sift test (keyed key i) xs d

last_none : (test : ℕ → Bool) (xs : List ℕ) (d : ℕ) → ((p : ℕ) → p < length xs → T (not (test (get_or xs p 0)))) → last_on test xs d ≡ d
last_none test [] d f = refl
last_none test (x ∷ xs) d f =
    last_none test xs (pick (test x) x d) (λ p h. f (suc p) (omega arith)) ∙ if_no (test x) x d (f zero (omega arith))

last_at_lem : (test : ℕ → Bool) (xs : List ℕ) (d p : ℕ) → p < length xs → T (test (get_or xs p 0))
    → ((q : ℕ) → p < q → q < length xs → T (not (test (get_or xs q 0)))) → last_on test xs d ≡ get_or xs p 0
last_at_lem test [] d p h t f = absurd (omega arith)
last_at_lem test (x ∷ xs) d zero h t f =
    last_none test xs (pick (test x) x d) (λ q l. f (suc q) (omega arith) (omega arith)) ∙ if_yes (test x) x d t
last_at_lem test (x ∷ xs) d (suc p) h t f =
    last_at_lem test xs (pick (test x) x d) p (omega arith) t (λ q g l. f (suc q) (omega arith) (omega arith))

-- past the end there is no entry
pub at_end : (xs : List ℕ) (p : ℕ) → length xs ≤ p → get_or xs p 0 ≡ 0
at_end [] p h = refl
at_end (x ∷ xs) zero h = absurd (omega arith)
at_end (x ∷ xs) (suc p) h = at_end xs p (omega arith)

-- The last entry that passes stands at the greatest position that does; there is none at the length.
pub last_greatest : (test place : ℕ → Bool) (xs : List ℕ) → ((p : ℕ) → p < length xs → place p ≡ test (get_or xs p 0))
    → last_on test xs 0 ≡ get_or xs (greatest place (length xs) (length xs)) 0
last_greatest test place xs same = go (greatest place (length xs) (length xs)) refl (greatest_cases place (length xs) (length xs))
  where
    fails : (p : ℕ) → p < length xs → T (not (place p)) → T (not (test (get_or xs p 0)))
    fails p h f = subst (λ b. T (not b)) (same p h) f

    go : (n : ℕ) → n ≡ greatest place (length xs) (length xs)
        → (T (place n) × (n < length xs)) ⊎ (((p : ℕ) → p < length xs → T (not (place p))) × (n ≡ length xs)) → last_on test xs 0 ≡ get_or xs n 0
    go n e (inl (t, h)) =
        last_at_lem test xs 0 n h (subst T (same n h) t)
        (λ q g l. fails q l (not_T (place q) (λ u. omega (arith, e, (greatest_passes place (length xs) (length xs) q l u).1))))
    go n e (inr (f, m)) = last_none test xs 0 (λ p h. fails p h (f p h)) ∙ sym (at_end xs n (omega arith))

-- ---- a walk from the list's end past those held, up to the first that isn't reached

-- what it finds, told from the list's front: 0 at one that isn't reached, as before at one that is held, else that one
abbrev pub walked : (ℕ → Bool) → (ℕ → Bool) → List ℕ → ℕ → ℕ
walked reached held [] d = d
walked reached held (x ∷ xs) d = walked reached held xs (pick (reached x) (pick (held x) d x) 0)

-- once one is reached, so are all behind it
abbrev pub Rising : (ℕ → Bool) → List ℕ → Type 0
Rising reached [] = Unit {0}
Rising reached (x ∷ xs) = (reached x ≡ true → All (λ y. reached y ≡ true) xs) × Rising reached xs

module _ (reached held : ℕ → Bool) where
  walked_all : (xs : List ℕ) (d : ℕ) → All (λ x. reached x ≡ true) xs → walked reached held xs d ≡ last_on (λ x. reached x && not (held x)) xs d
  walked_all [] d a = refl
  walked_all (x ∷ xs) d a = rw a.0 (go (held x) (λ n. walked_all xs n a.1))
    where
      go : (b : Bool) → ((n : ℕ) → walked reached held xs n ≡ last_on (λ y. reached y && not (held y)) xs n)
          → walked reached held xs (pick b d x) ≡ last_on (λ y. reached y && not (held y)) xs (pick (not b) x d)
      go true rest = rest d
      go false rest = rest x

  -- it is the last that is reached and not held
  pub walked_last : (xs : List ℕ) → Rising reached xs → walked reached held xs 0 ≡ last_on (λ x. reached x && not (held x)) xs 0
  walked_last [] r = refl
  walked_last (x ∷ xs) r = go (reached x) refl (held x) (walked_last xs r.1)
    where
      go : (b : Bool) → reached x ≡ b → (h : Bool) → walked reached held xs 0 ≡ last_on (λ y. reached y && not (held y)) xs 0
          → walked reached held xs (pick b (pick h 0 x) 0) ≡ last_on (λ y. reached y && not (held y)) xs (pick (b && not h) x 0)
      go true e true rest = rest
      go true e false rest = walked_all xs x (r.0 e)
      go false e h rest = rest

-- so also along a chain, whose entries stand in the list's order
pub rising_chain : (reached : ℕ → Bool) (key : ℕ → ℕ) (i : ℕ) (xs : List ℕ) → Rising reached xs → Rising reached (chain key i xs)
rising_chain reached key i xs r = rw (chain_sift key i xs) (sifted xs r)
  where
    sifted : (ys : List ℕ) → Rising reached ys → Rising reached (sift (keyed key i) ys)
    sifted [] r = tt
    sifted (y ∷ ys) r = go (keyed key i y) (sifted ys r.1)
      where
        all : All (λ z. reached z ≡ true) ys → All (λ z. reached z ≡ true) (sift (keyed key i) ys)
        all a =
            all_sift (λ z. reached z ≡ true) (keyed key i) ys
            (all_map (λ z. reached z ≡ true) (λ z. keyed key i z ≡ true → reached z ≡ true) ys (λ z h k. h) a)

        go : (b : Bool) → Rising reached (sift (keyed key i) ys) → Rising reached (put b y (sift (keyed key i) ys))
        go true rest = ((λ t. all (r.0 t)), rest)
        go false rest = rest

-- what holds at every position holds of every entry
pub every_at : (P : ℕ → Type 0) (xs : List ℕ) → ((p : ℕ) → p < length xs → P (get_or xs p 0)) → All P xs
every_at P [] f = tt
every_at P (x ∷ xs) f = (f zero (omega arith), every_at P xs (λ p h. f (suc p) (omega arith)))

-- by positions
pub rising_at : (reached : ℕ → Bool) (xs : List ℕ)
    → ((p q : ℕ) → p < q → q < length xs → reached (get_or xs p 0) ≡ true → reached (get_or xs q 0) ≡ true) → Rising reached xs
rising_at reached [] f = tt
rising_at reached (x ∷ xs) f = (
  (λ t. every_at (λ y. reached y ≡ true) xs (λ p h. f zero (suc p) (omega arith) (omega arith) t)),
  rising_at reached xs (λ p q h l. f (suc p) (suc q) (omega arith) (omega arith)),
)
