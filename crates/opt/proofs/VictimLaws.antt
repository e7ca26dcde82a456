-- How far off a block's next read is, never being furthest of all; and whom OPT replaces: a resident whose next read is furthest, of those the
-- lowest block.
use Rattle.std.specs.Prelude.{ℕ, suc, ◌≤◌, ◌<◌, ◌≡◌, refl, ◌⊎◌, Bool, true, false, ◌||◌, List, [], ◌∷◌, length, eqb, leb, ltb}
use Rattle.std.proofs.Common.{arith, sym, inl, inr, leb→le}
use Rattle.std.proofs.lemmas.Bool.{false≢true}
use Rattle.std.proofs.Math.Dec.{nleb→lt}
use Rattle.std.proofs.Math.Path.{subst⁻¹}
use Rattle.basics.specs.Basics.{when◌then◌else◌, member, index_of}
use Rattle.opt.specs.Opt.{next, further, victim}
use Rattle.opt.proofs.RemoveLaws.{either, same, eqb_self, swap, below, above}
use Rattle.opt.specs.Optimal.{Rather, VictimFurthest, NeverFurthest}

-- ---- never is furthest of all

next_never : (b : ℕ) (t : List ℕ) → member b t ≡ false → next b t ≡ length t
unfolding index_of member
next_never b [] m = refl
next_never b (x ∷ t) m = go (eqb x b) m (next_never b t)
  where
    go : (v : Bool) → (v || member b t) ≡ false → (member b t ≡ false → next b t ≡ length t) → (when v then 0 else suc (next b t)) ≡ suc (length t)
    go true m rec = absurd (false≢true (sym m))
    go false m rec = omega (arith, rec m)

next_read : (b : ℕ) (t : List ℕ) → member b t ≡ true → next b t < length t
unfolding index_of member
next_read b [] m = absurd (false≢true m)
next_read b (x ∷ t) m = either (eqb x b) (λ e. rw e (omega arith)) (λ e. rw e (omega (arith, next_read b t (rw e at m))))

pub never_furthest : NeverFurthest
never_furthest t never read m m' = let a = next_never never t m in let b = next_read read t m' in omega arith

-- ---- a read passes

pub next_now : (b : ℕ) (t : List ℕ) → next b (b ∷ t) ≡ 0
unfolding index_of
next_now b t = rw (eqb_self b) refl

pub next_later : (b x : ℕ) (t : List ℕ) → eqb x b ≡ false → next x (b ∷ t) ≡ suc (next x t)
unfolding index_of
next_later b x t e = rw (swap x b e) refl

-- ---- of two

rather_trans : (t : List ℕ) (u v x : ℕ) → Rather t u v → Rather t v x → Rather t u x
rather_trans t u v x (inl h) (inl g) = inl (omega arith)
rather_trans t u v x (inl h) (inr (e, g)) = inl (omega arith)
rather_trans t u v x (inr (e, h)) (inl g) = inl (omega arith)
rather_trans t u v x (inr (e, h)) (inr (f, g)) = inr (omega arith, omega arith)

rather_self : (t : List ℕ) (v : ℕ) → Rather t v v
rather_self t v = inr (refl, omega arith)

-- one of the two, rather than either
abbrev OneOf : List ℕ → ℕ → ℕ → ℕ → Type 0
OneOf t a b v = ((v ≡ a) ⊎ (v ≡ b)) × Rather t v a × Rather t v b

further_first : (t : List ℕ) (a b : ℕ) → OneOf t a b (further t a b)
unfolding further
further_first t a b =
    either (ltb (next b t) (next a t))
    (λ e. rw e (inl refl, rather_self t a, inl (below (next b t) (next a t) e)))
    (λ e. either (ltb (next a t) (next b t))
    (λ f. rw (e, f) (inr refl, inl (below (next a t) (next b t) f), rather_self t b))
    (λ f.
    let even : next a t ≡ next b t = omega (arith, above (next b t) (next a t) e, above (next a t) (next b t) f) in
    either (leb a b)
    (λ g. rw (e, f, g) (inl refl, rather_self t a, inr (sym even, leb→le a b (rw g tt))))
    (λ g. rw (e, f, g) (inr refl, inr (even, omega (arith, nleb→lt a b (rw g tt))), rather_self t b))))

-- ---- of all

member_more : (v a : ℕ) (l : List ℕ) → member v l ≡ true → member v (a ∷ l) ≡ true
unfolding member
member_more v a l m = rw m (either (eqb a v) (λ w. rw w) (λ w. rw w))

pub victim_in : (t : List ℕ) (a : ℕ) (C : List ℕ) → member (victim t (a ∷ C)) (a ∷ C) ≡ true
unfolding victim member
victim_in t a [] = rw (eqb_self a)
victim_in t a (b ∷ C) = go (victim t (b ∷ C)) (victim_in t b C) (further_first t a (victim t (b ∷ C))).0
  where
    go : (v : ℕ) → member v (b ∷ C) ≡ true → (further t a v ≡ a) ⊎ (further t a v ≡ v) → member (further t a v) (a ∷ (b ∷ C)) ≡ true
    go v m (inl e) = rw (e, eqb_self a)
    go v m (inr e) = subst⁻¹ (λ (w : ℕ). member w (a ∷ (b ∷ C)) ≡ true) e (member_more v a (b ∷ C) m)

pub victim_first : (t : List ℕ) (a : ℕ) (C : List ℕ) (x : ℕ) → member x (a ∷ C) ≡ true → Rather t (victim t (a ∷ C)) x
unfolding victim member
victim_first t a [] x m = either (eqb a x) (λ e. rw (same a x e) (rather_self t x)) (λ e. absurd (false≢true (rw e at m)))
victim_first t a (b ∷ C) x m =
    let v : ℕ = victim t (b ∷ C) in
    let (one, than-a, than-v) = further_first t a v in
    either (eqb a x)
    (λ e. rw (sym (same a x e)) than-a)
    (λ e. rather_trans t (further t a v) v x than-v (victim_first t b C x (rw e at m)))

pub victim_furthest : VictimFurthest
victim_furthest t [] some = absurd (omega arith)
victim_furthest t (a ∷ C) some = (victim_in t a C, λ x m. victim_first t a C x m)

-- none is read later than the victim
pub victim_last : (t : List ℕ) (a : ℕ) (C : List ℕ) (x : ℕ) → member x (a ∷ C) ≡ true → next x t ≤ next (victim t (a ∷ C)) t
victim_last t a C x m = go (victim_first t a C x m)
  where
    go : Rather t (victim t (a ∷ C)) x → next x t ≤ next (victim t (a ∷ C)) t
    go (inl h) = omega arith
    go (inr (e, h)) = omega arith
