-- Lists of entries: bounded, apart from one another, and the chains of their keys. Assumes nothing.
use Rattle.std.specs.Prelude.{ℕ, suc, ◌≤◌, ◌≡◌, List, [], ◌∷◌, ◌++◌}
use Rattle.std.proofs.Common.{◌∙◌, sym, ap, arith}
use Rattle.basics.specs.Basics.{All}
use Rattle.links.specs.Off.{Off, Distinct, off_join}
use Rattle.links.specs.Find.{Below}
use Rattle.links.specs.Sift.{sift_in, sift_out}
use Rattle.links.proofs.Chains.{chain, keyed, eqb_yes, eqb_no, chain_sift}

pub all_below : (n : ℕ) (l : List ℕ) → All (λ x. x ≤ n) l → Below (suc n) l
all_below n [] a = tt
all_below n (x ∷ l) a = (omega (arith, a.0), all_below n l a.1)

pub distinct_join : (us vs : List ℕ) → Distinct us → Distinct vs → All (λ x. Off x vs) us → Distinct (us ++ vs)
distinct_join [] vs d f a = f
distinct_join (u ∷ us) vs d f a = (off_join u us vs d.0 a.0, distinct_join us vs d.1 f a.1)

-- ---- the first of a list, and its chain

pub chain_yes : (key : ℕ → ℕ) (i x : ℕ) (xs : List ℕ) → key x ≡ i → chain key i (x ∷ xs) ≡ x ∷ chain key i xs
chain_yes key i x xs h =
    chain_sift key i (x ∷ xs) ∙ sift_in (keyed key i) [] x xs (eqb_yes (key x) i h) ∙ ap (λ (l : List ℕ). x ∷ l) (sym (chain_sift key i xs))

pub chain_no : (key : ℕ → ℕ) (i x : ℕ) (xs : List ℕ) → ¬ (key x ≡ i) → chain key i (x ∷ xs) ≡ chain key i xs
chain_no key i x xs h =
    chain_sift key i (x ∷ xs) ∙ sift_out (keyed key i) [] x xs (eqb_no (key x) i h) ∙ sym (chain_sift key i xs)
