-- How many residents are read within the next d reads: what OPT and a scheme are compared by.
use Rattle.std.specs.Prelude.{ℕ, suc, ◌+◌, ◌≤◌, ◌<◌, ◌≡◌, refl, Bool, true, false, ◌||◌, List, [], ◌∷◌, length, eqb, ltb}
use Rattle.std.proofs.Common.{arith, true≢false, lt-ltb}
use Rattle.std.proofs.lemmas.Bool.{false≢true}
use Rattle.std.proofs.Math.Dec.{leb-suc-suc, leb-suc-zero}
use Rattle.basics.specs.Basics.{when◌then◌else◌, member}
use Rattle.opt.specs.Opt.{remove, next}
use Rattle.opt.proofs.RemoveLaws.{either, same, Distinct}
use Rattle.opt.proofs.VictimLaws.{next_now, next_later}

-- 1 where x is read within d reads
unfoldable pub soon : ℕ → List ℕ → ℕ → ℕ
soon d t x = when ltb (next x t) d then 1 else 0

unfoldable pub near : ℕ → List ℕ → List ℕ → ℕ
near d t [] = 0
near d t (x ∷ C) = soon d t x + near d t C

soon_le : (d : ℕ) (t : List ℕ) (x : ℕ) → soon d t x ≤ 1
unfolding soon
soon_le d t x = either (ltb (next x t) d) (λ e. rw e (omega arith)) (λ e. rw e (omega arith))

pub soon_zero : (t : List ℕ) (x : ℕ) → soon 0 t x ≡ 0
unfolding soon
soon_zero t x = rw leb-suc-zero

pub soon_yes : (d : ℕ) (t : List ℕ) (x : ℕ) → next x t < d → soon d t x ≡ 1
unfolding soon
soon_yes d t x h = rw (lt-ltb (next x t) d h)

pub soon_no : (d : ℕ) (t : List ℕ) (x : ℕ) → ltb (next x t) d ≡ false → soon d t x ≡ 0
unfolding soon
soon_no d t x e = rw e

soon_now : (d : ℕ) (t : List ℕ) (b : ℕ) → soon (suc d) (b ∷ t) b ≡ 1
soon_now d t b = soon_yes (suc d) (b ∷ t) b (omega (arith, next_now b t))

soon_later : (d : ℕ) (t : List ℕ) (b x : ℕ) → eqb x b ≡ false → soon (suc d) (b ∷ t) x ≡ soon d t x
unfolding soon
soon_later d t b x e = rw (next_later b x t e, leb-suc-suc)

pub near_le : (d : ℕ) (t C : List ℕ) → near d t C ≤ length C
unfolding near
near_le d t [] = omega arith
near_le d t (x ∷ C) = omega (arith, soon_le d t x, near_le d t C)

pub near_zero : (t C : List ℕ) → near 0 t C ≡ 0
unfolding near
near_zero t [] = refl
near_zero t (x ∷ C) = omega (arith, soon_zero t x, near_zero t C)

-- ---- a read of b passes

-- it is not there
pub near_off : (d : ℕ) (t : List ℕ) (b : ℕ) (C : List ℕ) → member b C ≡ false → near (suc d) (b ∷ t) C ≡ near d t C
unfolding near member
near_off d t b [] h = refl
near_off d t b (x ∷ C) h = go (eqb x b) refl h (near_off d t b C)
  where
    go : (v : Bool) → eqb x b ≡ v → (v || member b C) ≡ false → (member b C ≡ false → near (suc d) (b ∷ t) C ≡ near d t C)
        → near (suc d) (b ∷ t) (x ∷ C) ≡ near d t (x ∷ C)
    go true e h rec = absurd (true≢false h)
    go false e h rec = omega (arith, soon_later d t b x e, rec h)

-- or it is
pub near_in : (d : ℕ) (t : List ℕ) (b : ℕ) (C : List ℕ) → Distinct C → member b C ≡ true
    → near (suc d) (b ∷ t) C + soon d t b ≡ suc (near d t C)
unfolding near member
near_in d t b [] u h = absurd (false≢true h)
near_in d t b (x ∷ C) u h = go (eqb x b) refl h (near_in d t b C u.1)
  where
    go : (v : Bool) → eqb x b ≡ v → (v || member b C) ≡ true
        → (member b C ≡ true → near (suc d) (b ∷ t) C + soon d t b ≡ suc (near d t C))
        → near (suc d) (b ∷ t) (x ∷ C) + soon d t b ≡ suc (near d t (x ∷ C))
    go true e h rec = rw (same x b e) (omega (arith, soon_now d t b, near_off d t b C (rw (same x b e) at u.0)))
    go false e h rec = omega (arith, soon_later d t b x e, rec h)

-- ---- a resident leaves

pub near_remove : (d : ℕ) (t : List ℕ) (v : ℕ) (C : List ℕ) → member v C ≡ true → near d t C ≡ soon d t v + near d t (remove v C)
unfolding near member remove
near_remove d t v [] h = absurd (false≢true h)
near_remove d t v (x ∷ C) h = go (eqb x v) refl h (near_remove d t v C)
  where
    go : (w : Bool) → eqb x v ≡ w → (w || member v C) ≡ true
        → (member v C ≡ true → near d t C ≡ soon d t v + near d t (remove v C))
        → near d t (x ∷ C) ≡ soon d t v + near d t (when w then C else (x ∷ remove v C))
    go true e h rec = rw (same x v e)
    go false e h rec = omega (arith, rec h)
