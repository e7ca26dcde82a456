-- The sections after a purge. Assumes nothing.
use Rattle.std.specs.Prelude.{ℕ, suc, ◌+◌, ◌-◌, ◌≤◌, ◌<◌, ◌≡◌, refl, Bool, true, false, not, ◌&&◌, ◌||◌, List, ◌∷◌, ◌++◌, eqb, ltb, length, get_or}
use Rattle.std.proofs.Common.{◌∙◌, sym, ap, arith, lt-ltb, le-ltb, eqb-true}
use Rattle.std.proofs.Math.Decide.{ℕ_discrete, dec_le}
use Rattle.std.proofs.Math.ListN.{get_or-eq_default}
use Rattle.std.proofs.Math.Seq.{get_or-append_seam}
use Rattle.std.proofs.lemmas.Bool.{eqb-false}
use Rattle.basics.specs.Basics.{pick}
use Rattle.links.specs.Upd.{upd, upd_same, upd_other}
use Rattle.links.specs.Off.{Off, Distinct}
use Rattle.links.specs.Run.{Run}
use Rattle.links.specs.Place.{run_at, front_shift, front_stay}
use Rattle.linkage.specs.Positions.{mark, mark_in, mark_out, Sec, sec_ext}
use Rattle.word_ops.specs.Purge.{boundary_falls}
use Rattle.operations.specs.FieldOps.{lower}
use Rattle.operations.specs.Positions.{sec_upd, off_at, one_place, length_us, length_front}
use Rattle.operations.specs.HitPlaces.{Tells}

-- the positions after the entry at p left
abbrev pub skip : (ℕ → ℕ) → ℕ → ℕ → ℕ
skip g p i = pick (ltb i p) (g i) (g (suc i))

skip_low : (g : ℕ → ℕ) (p i : ℕ) → i < p → skip g p i ≡ g i
skip_low g p i h = rw (lt-ltb i p h)

skip_high : (g : ℕ → ℕ) (p i : ℕ) → p ≤ i → skip g p i ≡ g (suc i)
skip_high g p i h = rw (le-ltb i p h)

pub skip_add : (f g : ℕ → ℕ) (p i : ℕ) → skip (λ j. f j + g j) p i ≡ skip f p i + skip g p i
skip_add f g p i = go (ltb i p)
  where
    go : (b : Bool) → pick b (f i + g i) (f (suc i) + g (suc i)) ≡ pick b (f i) (f (suc i)) + pick b (g i) (g (suc i))
    go true = refl
    go false = refl

pub sec_out : (f g : ℕ → ℕ) (above : List ℕ) (e : ℕ) (below : List ℕ) → Sec f g (above ++ (e ∷ below))
    → Sec f (skip g (length above)) (above ++ below)
sec_out f g above e below a i l = go (dec_le (suc i) (length above))
  where
    go : Dec (suc i ≤ length above) → f (get_or (above ++ below) i 0) ≡ skip g (length above) i
    go (yes c) =
        ap f (front_shift above e below i c) ∙ a i (omega (arith, length_us above e below)) ∙ sym (skip_low g (length above) i c)
    go (no c) =
        ap f (front_stay above e below (suc i) (omega arith)) ∙ a (suc i) (rw length_front (omega arith))
        ∙ sym (skip_high g (length above) i (omega arith))

-- what the test of a boundary tells: k of a stack of n, from which the entry at p goes
abbrev pub Pulls : Bool → ℕ → ℕ → ℕ → Type 0
Pulls true k p n = (p ≤ k) × (k < n)
Pulls false k p n = (p ≤ k → n ≤ k)

-- a store off the list
pub sec_off : (f g : ℕ → ℕ) (x v : ℕ) (xs : List ℕ) → Off x xs → Sec f g xs → Sec (upd f x v) g xs
sec_off f g x v xs o a i l = upd_other f x v (get_or xs i 0) (λ q. off_at x xs i o l (sym q)) ∙ a i l

mark_skip : (k p n i : ℕ) → ¬ (suc i ≡ k) → skip (mark k) p i ≡ mark k i
mark_skip k p n i h = go (dec_le (suc i) p) (dec_le k i)
  where
    go : Dec (suc i ≤ p) → Dec (k ≤ i) → skip (mark k) p i ≡ mark k i
    go (yes c) d = skip_low (mark k) p i c
    go (no c) (yes d) = omega (arith, skip_high (mark k) p i (omega arith), mark_in k i d, mark_in k (suc i) (omega arith))
    go (no c) (no d) = omega (arith, skip_high (mark k) p i (omega arith), mark_out k i (omega arith), mark_out k (suc i) (omega arith))

module _ (above : List ℕ) (e : ℕ) (below : List ℕ) (k : ℕ) (d : Distinct (above ++ below)) (o : Off e (above ++ below)) where
  abbrev x : ℕ
  x = get_or (above ++ (e ∷ below)) k 0

  pub sec_pull : (b : Bool) (f h : ℕ → ℕ) → Pulls b k (length above) (length (above ++ (e ∷ below)))
      → Sec f (λ i. h i + skip (mark k) (length above) i) (above ++ below) → Sec (pick b (lower f x) f) (λ i. h i + mark k i) (above ++ below)
  sec_pull true f h t a = go (ℕ_discrete k (length above))
    where
      p : ℕ
      p = length above

      g : ℕ → ℕ
      g = λ i. h i + skip (mark k) p i

      even : (i : ℕ) → k ≡ p → Dec (suc i ≡ k) → h i + skip (mark k) p i ≡ h i + mark k i
      even i q (yes r) = ap (λ (m : ℕ). h i + m) (skip_low (mark k) p i (omega arith))
      even i q (no r) = ap (λ (m : ℕ). h i + m) (mark_skip k p 0 i r)

      less : (j i : ℕ) → k ≡ suc j → p ≤ j → Dec (i ≡ j) → upd g j (g j - 1) i ≡ h i + mark k i
      less j i q r (yes c) =
          rw (c, upd_same g j (g j - 1))
          (omega (arith, skip_high (mark k) p j r, mark_in k (suc j) (omega arith), mark_out k j (omega arith)))
      less j i q r (no c) = upd_other g j (g j - 1) i c ∙ ap (λ (m : ℕ). h i + m) (mark_skip k p 0 i (omega arith))

      lowered : (j : ℕ) → k ≡ suc j → p ≤ j → Sec (lower f x) (λ i. h i + mark k i) (above ++ below)
      lowered j q r =
          let y : j < length (above ++ below) = omega (arith, length_front above e below, t.1) in
          let z : x ≡ get_or (above ++ below) j 0 = ap (λ (m : ℕ). get_or (above ++ (e ∷ below)) m 0) q
          ∙ sym (front_stay above e below (suc j) (omega arith)) in
          sec_ext (lower f x) (upd g j (g j - 1)) (λ i. h i + mark k i) (above ++ below) (λ i l. less j i q r (ℕ_discrete i j))
          (sec_upd f g (above ++ below) x j (f x - 1) (g j - 1) d y z (ap (λ (m : ℕ). m - 1) (ap f z ∙ a j y)) a)

      go : Dec (k ≡ p) → Sec (lower f x) (λ i. h i + mark k i) (above ++ below)
      go (yes q) =
          let z : x ≡ e = ap (λ (m : ℕ). get_or (above ++ (e ∷ below)) m 0) q ∙ get_or-append_seam above e below 0 in
          sec_off f (λ i. h i + mark k i) x (f x - 1) (above ++ below) (rw z o)
          (sec_ext f g (λ i. h i + mark k i) (above ++ below) (λ i l. even i q (ℕ_discrete (suc i) k)) a)
      go (no q) = lowered (k - 1) (omega (arith, t.0)) (omega (arith, t.0))
  sec_pull false f h t a =
      sec_ext f (λ i. h i + skip (mark k) (length above) i) (λ i. h i + mark k i) (above ++ below) (λ i l. go i l (ℕ_discrete (suc i) k)) a
    where
      go : (i : ℕ) → i < length (above ++ below) → Dec (suc i ≡ k) → h i + skip (mark k) (length above) i ≡ h i + mark k i
      go i l (yes q) = edge (dec_le (length above) k)
        where
          edge : Dec (length above ≤ k) → h i + skip (mark k) (length above) i ≡ h i + mark k i
          edge (yes c) = absurd (omega (arith, t c, length_front above e below))
          edge (no c) = ap (λ (m : ℕ). h i + m) (skip_low (mark k) (length above) i (omega arith))
      go i l (no q) = ap (λ (m : ℕ). h i + m) (mark_skip k (length above) 0 i q)

  pub word_pull : (b : Bool) (n f : ℕ → ℕ) (head : ℕ) → Pulls b k (length above) (length (above ++ (e ∷ below))) → Run n head (above ++ (e ∷ below)) 0
      → f 0 ≡ x → pick b (λ _. n (f 0)) f 0 ≡ get_or (above ++ below) k 0
  word_pull true n f head t r q =
      ap n q ∙ run_at n head (above ++ (e ∷ below)) k r t.1 ∙ sym (front_stay above e below (suc k) (omega (arith, t.0)))
  word_pull false n f head t r q = q ∙ go (dec_le (length above) k)
    where
      go : Dec (length above ≤ k) → get_or (above ++ (e ∷ below)) k 0 ≡ get_or (above ++ below) k 0
      go (yes c) =
          get_or-eq_default (above ++ (e ∷ below)) 0 (t c)
          ∙ sym (get_or-eq_default (above ++ below) 0 (omega (arith, t c, length_front above e below)))
      go (no c) = sym (front_shift above e below k (omega arith))

  -- the test: b is the entry at k, and m its mark at the place of e
  pub pulls_is : (m : Bool) (b : ℕ) → Off 0 (above ++ (e ∷ below)) → Distinct (above ++ (e ∷ below)) → b ≡ x → Tells m k (length above)
      → Pulls (boundary_falls m b e) k (length above) (length (above ++ (e ∷ below)))
  pulls_is m b z dd q t = go (eqb b 0) refl (eqb b e) refl m t (dec_le (suc k) (length (above ++ (e ∷ below))))
    where
      out : ¬ (k < length (above ++ (e ∷ below))) → b ≡ 0
      out h = q ∙ get_or-eq_default (above ++ (e ∷ below)) 0 (omega arith)

      go : (u : Bool) → eqb b 0 ≡ u → (v : Bool) → eqb b e ≡ v → (m : Bool) → Tells m k (length above) → Dec (suc k ≤ length (above ++ (e ∷ below)))
          → Pulls (not u && (not m || v)) k (length above) (length (above ++ (e ∷ below)))
      go true c v d m t (yes h) = absurd (off_at 0 (above ++ (e ∷ below)) k z h (sym (sym q ∙ eqb-true b 0 c)))
      go true c v d m t (no h) = λ _. omega arith
      go false c v d m t (no h) = absurd (eqb-false b 0 c (out h))
      go false c v d false t (yes h) = (omega arith, h)
      go false c true d true t (yes h) =
          let p : k ≡ length above = one_place (above ++ (e ∷ below)) k (length above) dd h (length_us above e below)
          (sym q ∙ eqb-true b e d ∙ sym (get_or-append_seam above e below 0)) in
          (omega arith, h)
      go false c false d true t (yes h) =
          λ l.
          let p : k ≡ length above = omega arith in
          absurd (eqb-false b e d (q ∙ ap (λ (i : ℕ). get_or (above ++ (e ∷ below)) i 0) p ∙ get_or-append_seam above e below 0))
