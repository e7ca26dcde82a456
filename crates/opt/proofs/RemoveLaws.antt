-- Tests by their two outcomes; lists of different numbers, and what is left of them without one.
use Rattle.std.specs.Prelude.{ℕ, suc, ◌≤◌, ◌<◌, ◌≡◌, refl, Bool, true, false, ◌||◌, List, [], ◌∷◌, length, eqb, ltb}
use Rattle.std.proofs.Common.{arith, sym, ap, ◌∙◌, true≢false, eqb→eq, ltb→lt, nltb→le, eq-eqb}
use Rattle.std.proofs.lemmas.Bool.{false≢true}
use Rattle.basics.specs.Basics.{when◌then◌else◌, member}
use Rattle.opt.specs.Opt.{remove}

-- ---- tests

-- a test, by an equation that rewrites it
pub either {ℓ} : {X : Type ℓ} (t : Bool) → (t ≡ true → X) → (t ≡ false → X) → X
either true f g = f refl
either false f g = g refl

pub same : (a b : ℕ) → eqb a b ≡ true → a ≡ b
same a b e = eqb→eq a b (rw e tt)

pub eqb_self : (a : ℕ) → eqb a a ≡ true
eqb_self a = eq-eqb a a refl

-- a test that failed is no equality
pub apart : {X : Type 0} (a b : ℕ) → eqb a b ≡ false → a ≡ b → X
apart a b e is = absurd (true≢false (sym (eq-eqb a b is) ∙ e))

pub swap : (a b : ℕ) → eqb a b ≡ false → eqb b a ≡ false
swap a b e = either (eqb b a) (λ h. apart a b e (sym (same b a h))) (λ h. h)

pub below : (a b : ℕ) → ltb a b ≡ true → a < b
below a b e = ltb→lt a b (rw e tt)

pub above : (a b : ℕ) → ltb a b ≡ false → b ≤ a
above a b e = nltb→le a b (rw e tt)

-- ---- different numbers, one of them removed

abbrev pub Distinct : List ℕ → Type 0
Distinct [] = Unit {0}
Distinct (x ∷ C) = (member x C ≡ false) × Distinct C

pub length_remove : (v : ℕ) (C : List ℕ) → member v C ≡ true → length C ≡ suc (length (remove v C))
unfolding member remove
length_remove v [] h = absurd (false≢true h)
length_remove v (x ∷ C) h = go (eqb x v) h (length_remove v C)
  where
    go : (w : Bool) → (w || member v C) ≡ true → (member v C ≡ true → length C ≡ suc (length (remove v C)))
        → suc (length C) ≡ suc (length (when w then C else (x ∷ remove v C)))
    go true h rec = refl
    go false h rec = ap suc (rec h)

pub off_remove : (b v : ℕ) (C : List ℕ) → member b C ≡ false → member b (remove v C) ≡ false
unfolding member remove
off_remove b v [] h = refl
off_remove b v (x ∷ C) h = go (eqb x b) (eqb x v) refl h (off_remove b v C)
  where
    go : (w z : Bool) → eqb x b ≡ w → (w || member b C) ≡ false → (member b C ≡ false → member b (remove v C) ≡ false)
        → member b (when z then C else (x ∷ remove v C)) ≡ false
    go true z e h rec = absurd (true≢false h)
    go false true e h rec = h
    go false false e h rec = rw e (rec h)

pub remove_off : (b : ℕ) (C : List ℕ) → member b C ≡ false → remove b C ≡ C
unfolding remove member
remove_off b [] h = refl
remove_off b (x ∷ C) h =
    either (eqb x b) (λ e. absurd (true≢false (rw e at h))) (λ e. rw e (ap (λ l. x ∷ l) (remove_off b C (rw e at h))))

pub distinct_remove : (v : ℕ) (C : List ℕ) → Distinct C → Distinct (remove v C)
unfolding remove
distinct_remove v [] u = tt
distinct_remove v (x ∷ C) u = go (eqb x v) (distinct_remove v C u.1)
  where
    go : (w : Bool) → Distinct (remove v C) → Distinct (when w then C else (x ∷ remove v C))
    go true rec = u.1
    go false rec = (off_remove x v C u.0, rec)

pub member_remove : (x v : ℕ) (C : List ℕ) → Distinct C → member x (remove v C) ≡ (when eqb v x then false else member x C)
unfolding member remove
member_remove x v [] u = either (eqb v x) (λ e. rw e) (λ e. rw e)
member_remove x v (y ∷ C) u = go (eqb y v) refl (member_remove x v C u.1)
  where
    go : (w : Bool) → eqb y v ≡ w → member x (remove v C) ≡ (when eqb v x then false else member x C)
        → member x (when w then C else (y ∷ remove v C)) ≡ (when eqb v x then false else (eqb y x || member x C))
    go true e rec =
        either (eqb v x)
        (λ f. rw f (rw (same y v e ∙ same v x f) at u.0))
        (λ f. rw (same y v e, f))
    go false e rec =
        either (eqb v x)
        (λ f. rw (rec, f, ← same v x f, e))
        (λ f. rw (rec, f))

-- ---- the same numbers, in whatever order

pub record Alike (C D : List ℕ) : Type 0 where
  pub members : (x : ℕ) → member x C ≡ member x D
  pub long : length C ≡ length D
  pub left : Distinct C
  pub right : Distinct D

pub alike_self : {C : List ℕ} → Distinct C → Alike C C
alike_self u = record { members = λ x. refl; long = refl; left = u; right = u }

pub alike_sym : {C D : List ℕ} → Alike C D → Alike D C
alike_sym a = record { members = λ x. sym (a.members x); long = sym a.long; left = a.right; right = a.left }

pub alike_cons : {C D : List ℕ} (b : ℕ) → member b C ≡ false → Alike C D → Alike (b ∷ C) (b ∷ D)
unfolding member
alike_cons b h a =
    record {
      members = λ x. ap (λ (v : Bool). eqb b x || v) (a.members x);
      long = ap suc a.long;
      left = (h, a.left);
      right = (sym (a.members b) ∙ h, a.right);
    }

pub alike_remove : {C D : List ℕ} (v : ℕ) → member v C ≡ true → Alike C D → Alike (remove v C) (remove v D)
alike_remove {C} {D} v m a =
    record {
      members = λ x. member_remove x v C a.left ∙ ap (λ (w : Bool). when eqb v x then false else w) (a.members x)
          ∙ sym (member_remove x v D a.right);
      long = omega (arith, a.long, length_remove v C m, length_remove v D (sym (a.members v) ∙ m));
      left = distinct_remove v C a.left;
      right = distinct_remove v D a.right;
    }

-- one moved to the front
pub alike_front : {C : List ℕ} (v : ℕ) → member v C ≡ true → Distinct C → Alike C (v ∷ remove v C)
unfolding member
alike_front {C} v m u =
    record {
      members = λ x. either (eqb v x) (λ e. rw (e, ← same v x e) m) (λ e. rw (e, member_remove x v C u, e));
      long = length_remove v C m;
      left = u;
      right = (rw (member_remove v v C u, eqb_self v), distinct_remove v C u);
    }
