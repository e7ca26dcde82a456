-- A list fixes the links that name it: two fields whose links list the same entries agree on them, and so do their ends.
-- Assumes nothing.
use Rattle.std.specs.Prelude.{ℕ, suc, ◌<◌, ◌≡◌, refl, List, [], ◌∷◌, eqb}
use Rattle.std.proofs.Common.{◌∙◌, sym, ap, arith}
use Rattle.std.proofs.Math.Decide.{ℕ_discrete}
use Rattle.links.specs.Off.{Same, off_right}
use Rattle.links.specs.Run.{Run, Back}
use Rattle.links.specs.Sift.{sift, put}
use Rattle.links.proofs.Chains.{keyed, chain, chain_sift}
use Rattle.links.specs.Find.{Split}
use Rattle.check_model.specs.Members.{In}
use Rattle.linkage.specs.Positions.{Sec}

-- forwards: the head, and each entry's link
pub run_fixed : (n m : ℕ → ℕ) (h k : ℕ) (xs : List ℕ) (b : ℕ) → Run n h xs b → Run m k xs b → (h ≡ k) × Same n m xs
run_fixed n m h k [] b r q = (r ∙ sym q, tt)
run_fixed n m h k (e ∷ xs) b r q = (r.0 ∙ sym q.0, run_fixed n m (n e) (m e) xs b r.1 q.1)

-- backwards: the tail, and each entry's back link
pub back_fixed : (n m : ℕ → ℕ) (a : ℕ) (xs : List ℕ) (t k : ℕ) → Back n a xs t → Back m a xs k → (t ≡ k) × Same n m xs
back_fixed n m a [] t k r q = (r ∙ sym q, tt)
back_fixed n m a (e ∷ xs) t k r q =
    let f : (t ≡ k) × Same n m xs = back_fixed n m e xs t k r.1 q.1 in
    (f.0, (r.0 ∙ sym q.0, f.1))

-- positions fix the sections
pub sec_fixed : (f g h : ℕ → ℕ) (xs : List ℕ) → Sec f h xs → Sec g h xs → Same f g xs
sec_fixed f g h [] a b = tt
sec_fixed f g h (x ∷ xs) a b =
    (a 0 (omega arith) ∙ sym (b 0 (omega arith)), sec_fixed f g (λ i. h (suc i)) xs (λ i l. a (suc i) (omega arith)) (λ i l. b (suc i) (omega arith)))

-- the residents' counts fix the chains
sift_fixed : (f g : ℕ → ℕ) (i : ℕ) (xs : List ℕ) → Same f g xs → sift (keyed f i) xs ≡ sift (keyed g i) xs
sift_fixed f g i [] s = refl
sift_fixed f g i (x ∷ xs) s = rw s.0 (ap (put (eqb (g x) i) x) (sift_fixed f g i xs s.1))

pub chain_fixed : (f g : ℕ → ℕ) (i : ℕ) (xs : List ℕ) → Same f g xs → chain f i xs ≡ chain g i xs
chain_fixed f g i xs s = chain_sift f i xs ∙ sift_fixed f g i xs s ∙ sym (chain_sift g i xs)

-- ---- members

pub same_in : (f g : ℕ → ℕ) (xs : List ℕ) (x : ℕ) → Same f g xs → In x xs → f x ≡ g x
same_in f g [] x s i = absurd (i tt)
same_in f g (y ∷ xs) x s i = go (ℕ_discrete x y) (same_in f g xs x s.1)
  where
    go : Dec (x ≡ y) → (In x xs → f x ≡ g x) → f x ≡ g x
    go (yes e) r = rw e s.0
    go (no e) r = r (λ o. i (e, o))

pub split_in : (x : ℕ) (xs : List ℕ) → Split x xs → In x xs
split_in x xs c o = (off_right x c.before (x ∷ c.behind) (rw c.whole at o)).0 refl

-- ---- one number more

pub none_below : (P : ℕ → Type 0) (k : ℕ) → k < 0 → P k
none_below P k h = absurd (omega arith)

pub one_more : (P : ℕ → Type 0) (n : ℕ) → ((k : ℕ) → k < n → P k) → P n → (k : ℕ) → k < suc n → P k
one_more P n h p k l = go (ℕ_discrete k n)
  where
    go : Dec (k ≡ n) → P k
    go (yes e) = rw e p
    go (no e) = h k (omega arith)
