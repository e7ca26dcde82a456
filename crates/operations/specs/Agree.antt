-- Fields that agree on a list after stores elsewhere. Assumes nothing.
use Rattle.std.specs.Prelude.{ℕ, ◌≡◌, refl, Bool, true, false, List, [], ◌∷◌, eqb}
use Rattle.std.proofs.Common.{◌∙◌}
use Rattle.basics.specs.Basics.{pick, All}
use Rattle.links.specs.Upd.{upd, upd_other}
use Rattle.links.specs.Off.{Same, same_all}
use Rattle.links.specs.Ends.{at}

pub same_trans : (f g h : ℕ → ℕ) (xs : List ℕ) → Same f g xs → Same g h xs → Same f h xs
same_trans f g h [] a b = tt
same_trans f g h (x ∷ xs) a b = (a.0 ∙ b.0, same_trans f g h xs a.1 b.1)

pub same_pick : (f g : ℕ → ℕ) (b : Bool) (xs : List ℕ) → (b ≡ true → Same f g xs) → Same f (pick b g f) xs
same_pick f g true xs h = h refl
same_pick f g false xs h = same_all f f xs (λ x. refl)

pub at_other : (f : ℕ → ℕ) (q v x : ℕ) → ¬ (x ≡ q) → at f q v x ≡ f x
at_other f q v x h = go (eqb q 0)
  where
    go : (b : Bool) → pick b (f x) (upd f q v x) ≡ f x
    go true = refl
    go false = upd_other f q v x h

pub pick_other : (f : ℕ → ℕ) (b : Bool) (q v x : ℕ) → (b ≡ true → ¬ (x ≡ q)) → pick b (at f q v) f x ≡ f x
pick_other f true q v x h = at_other f q v x (h refl)
pick_other f false q v x h = refl

-- what is said of one field, and of two
pub all_same : (P : ℕ → ℕ → Type 0) (f g : ℕ → ℕ) (xs : List ℕ) → Same f g xs → All (λ x. P x (f x)) xs → All (λ x. P x (g x)) xs
all_same P f g [] s a = tt
all_same P f g (x ∷ xs) s a = (rw s.0 at a.0, all_same P f g xs s.1 a.1)

pub all_same2 : (P : ℕ → ℕ → ℕ → Type 0) (f g f' g' : ℕ → ℕ) (xs : List ℕ) → Same f f' xs → Same g g' xs → All (λ x. P x (f x) (g x)) xs
    → All (λ x. P x (f' x) (g' x)) xs
all_same2 P f g f' g' [] s t a = tt
all_same2 P f g f' g' (x ∷ xs) s t a =
    (rw (s.0, t.0) at a.0, all_same2 P f g f' g' xs s.1 t.1 a.1)
