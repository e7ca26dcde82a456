-- The entries that the definition meets along a link, and the lists of the links.
-- Assumes nothing.
use Prim.Native.Nat.{ℕ, zero, suc, ◌+◌, ◌*◌, ◌≤◌, ◌<◌}
use Rattle.std.specs.Prelude.{◌≡◌}
use Rattle.std.proofs.Math.Path.{refl, ap}
use Rattle.std.proofs.Common.{◌∙◌, sym, arith}
use mathlib.Core.List.{List, [], ◌∷◌, reverse_aux}
use Rattle.std.proofs.Math.Decide.{ℕ_discrete}
use Rattle.std.proofs.Math.ListN.{length}
use Rattle.std.proofs.Math.Dec.{eqb}
use borrow.Author.Tests.{eq-eqb, ne_eqb}
use Rattle.basics.specs.Basics.{when◌then◌else◌}
use Rattle.links.specs.Off.{Off}
use Rattle.links.specs.Run.{Run, Back}
use Rattle.words.specs.Words.{val}
use Rattle.settings.specs.Buckets.{buckets}
use Rattle.layout.specs.Addresses.{CACHE-BLOCKS, CHAIN-LIMIT}
use Rattle.layout.specs.Sound.{settings_in, field, along}
use Rattle.check_model.specs.Tests.{fld}

module _ (w : List ℕ) where
  abbrev pub Cmax : ℕ
  Cmax = val w CHAIN-LIMIT

  abbrev pub nb : ℕ
  nb = buckets (val w CACHE-BLOCKS)

  abbrev pub fw : ℕ → ℕ → ℕ
  fw = fld w (15 + 2 * val w CHAIN-LIMIT + buckets (val w CACHE-BLOCKS))

  pub field_is : (j e : ℕ) → ¬ (e ≡ 0) → field w j e ≡ fw j e
  unfolding field settings_in fld val
  field_is j e z = ap (val w) (omega arith)

  pub along_run : (j : ℕ) (k : ℕ) (xs : List ℕ) (e : ℕ) → Run (fw j) e xs 0 → Off 0 xs → length xs ≤ k → along w j k e ≡ xs
  unfolding along
  along_run j zero [] e r o h = refl
  along_run j zero (x ∷ xs) e r o h = absurd (omega arith)
  along_run j (suc k) [] e r o h = rw (eq-eqb e 0 r)
  along_run j (suc k) (x ∷ xs) e r o h =
      let z : ¬ (x ≡ 0) = λ c. o.0 (sym c) in
      rw (r.0, ne_eqb x 0 z, field_is j x z) (ap (λ l. x ∷ l) (along_run j k xs (fw j x) r.1 o.1 (omega arith)))

  -- what it meets is a list of the links, if it ended before it had to
  pub along_off : (j k e : ℕ) → Off 0 (along w j k e)
  unfolding along
  along_off j zero e = tt
  along_off j (suc k) e = go (ℕ_discrete e 0) (along_off j k (field w j e))
    where
      go : Dec (e ≡ 0) → Off 0 (along w j k (field w j e)) → Off 0 (when eqb e 0 then [] else e ∷ along w j k (field w j e))
      go (yes z) o = rw (eq-eqb e 0 z) tt
      go (no z) o = rw (ne_eqb e 0 z) (λ c. z (sym c), o)

  pub along_is : (j k e : ℕ) → length (along w j k e) < k → Run (fw j) e (along w j k e) 0
  unfolding along
  along_is j zero e h = absurd (omega arith)
  along_is j (suc k) e h = go (ℕ_discrete e 0) (along_is j k (field w j e)) h
    where
      go : Dec (e ≡ 0) → (length (along w j k (field w j e)) < k → Run (fw j) (field w j e) (along w j k (field w j e)) 0)
          → length (when eqb e 0 then [] else e ∷ along w j k (field w j e)) < suc k
          → Run (fw j) e (when eqb e 0 then [] else e ∷ along w j k (field w j e)) 0
      go (yes z) r h = rw (eq-eqb e 0 z) z
      go (no z) r h =
          let h' : suc (length (along w j k (field w j e))) < suc k = rw (ne_eqb e 0 z) at h in
          let s : Run (fw j) (field w j e) (along w j k (field w j e)) 0 = r (omega arith) in
          rw (ne_eqb e 0 z) (refl, rw (← field_is j e z) s)

-- a list by its back links, read from the tail
pub reversed : (p : ℕ → ℕ) (b : ℕ) (xs : List ℕ) (t : ℕ) (ys : List ℕ) → Back p b xs t → Run p b ys 0 → Run p t (reverse_aux xs ys) 0
reversed p b [] t ys k r = rw k r
reversed p b (x ∷ xs) t ys k r = reversed p x xs t (x ∷ ys) k.1 (refl, rw k.0 r)

pub backwards : (p : ℕ → ℕ) (xs : List ℕ) (t : ℕ) (ys : List ℕ) → Run p t (reverse_aux xs ys) 0 → (b : ℕ) × Back p b xs t × Run p b ys 0
backwards p [] t ys r = (t, refl, r)
backwards p (x ∷ xs) t ys r =
    let q : (b : ℕ) × Back p b xs t × Run p b (x ∷ ys) 0 = backwards p xs t (x ∷ ys) r in
    (p x, (refl, rw q.2.0 at q.1), q.2.1)

pub off_reverse : (z : ℕ) (xs ys : List ℕ) → Off z xs → Off z ys → Off z (reverse_aux xs ys)
off_reverse z [] ys o q = q
off_reverse z (x ∷ xs) ys o q = off_reverse z xs (x ∷ ys) o.1 (o.0, q)

pub length_reverse : (xs ys : List ℕ) → length (reverse_aux xs ys) ≡ length xs + length ys
length_reverse [] ys = omega arith
length_reverse (x ∷ xs) ys = length_reverse xs (x ∷ ys) ∙ omega arith
