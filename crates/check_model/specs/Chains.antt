-- The chains: the check, the facts and the definition.
-- Assumes nothing.
use Prim.Native.Nat.{ℕ, zero, suc, ◌+◌, ◌≤◌, ◌<◌}
use Rattle.std.specs.Prelude.{◌≡◌, ◌⊎◌, Bool, ◌&&◌, ◌||◌, length, get_or, set, replicate, leb, ltb, eqb}
use Rattle.std.proofs.Math.Path.{refl}
use Rattle.std.proofs.Common.{◌∙◌, sym, ap, arith, length-set, get_or-set_same, get_or-set_other, lt-ltb, le-ltb, eq-eqb, ne_eqb}
use Rattle.std.proofs.Math.Logic.{inl, inr, ⊎_elim}
use Rattle.std.proofs.Math.Bool.{true, false}
use mathlib.Core.List.{List, [], ◌∷◌, reverse}
use Rattle.std.proofs.Math.Numerals.{add-one}
use Rattle.std.proofs.Math.Decide.{ℕ_discrete}
use Rattle.std.proofs.lemmas.List.{length-replicate}
use Rattle.std.proofs.Math.Dec.{T, eqb→eq}
use Rattle.std.proofs.Math.Facts.{yes_eqb, yes_and, and_yes, or_yes, leb_yes, yes_leb}
use Rattle.basics.specs.Basics.{when◌then◌else◌, pick, All}
use Rattle.basics.specs.Lists.{all, same, those, counting}
use Rattle.basics.specs.ListLaws.{all_yes, yes_all, same_is, is_same, counting_all, counting_at}
use Rattle.links.specs.Off.{Off}
use Rattle.links.specs.Run.{Run, Back}
use Rattle.links.specs.Sift.{put, sift, off_sift}
use Rattle.links.proofs.Chains.{keyed}
use Rattle.words.specs.Words.{val}
use Rattle.layout.specs.Addresses.{CACHE-BLOCKS, CHAIN-LIMIT, COUNT, CHAIN-TO-HEAD, CHAIN-TO-TAIL, chain_head, chain_tail}
use Rattle.layout.specs.Sound.{field, along, walk, order, settings_in, chain_right}
use Rattle.check_model.specs.Turns.{turns}
use Rattle.check_model.specs.Tests.{last_at, noted, cursor, chain_test, end_test, ends_ok, head_of, tail_of}
use Rattle.check_model.specs.Bools.{pick_yes, yes_pick}
use Rattle.check_model.specs.Runs.{chains_on}
use Rattle.check_model.specs.Along.{fw, field_is, along_run, along_is, reversed, backwards, off_reverse, length_reverse}
use Rattle.check_model.specs.Membership.{all_some}
use Rattle.check_model.specs.Fields.{less}

-- ---- turns by a counter

module _ (ok : ℕ → Bool) where
  pub counted_read : (k i : ℕ) → T (turns ok (λ i. i + 1) (λ _. true) k i) → (j : ℕ) → i ≤ j → j < i + k → T (ok j)
  unfolding turns
  counted_read zero i h j l u = absurd (omega arith)
  counted_read (suc k) i h j l u =
      let p = pick_yes (ok i) (turns ok (λ i. i + 1) (λ _. true) k (i + 1)) h in
      go p.0 (counted_read k (i + 1) p.1 j) (ℕ_discrete j i)
    where
      go : T (ok i) → (i + 1 ≤ j → j < i + 1 + k → T (ok j)) → Dec (j ≡ i) → T (ok j)
      go a r (yes e) = rw e a
      go a r (no e) = r (omega arith) (omega arith)

  pub counted_write : (k i : ℕ) → ((j : ℕ) → i ≤ j → j < i + k → T (ok j)) → T (turns ok (λ i. i + 1) (λ _. true) k i)
  unfolding turns
  counted_write zero i h = tt
  counted_write (suc k) i h =
      yes_pick (ok i) (turns ok (λ i. i + 1) (λ _. true) k (i + 1)) (h i (omega arith) (omega arith))
      (counted_write k (i + 1) (λ j l u. h j (omega arith) (omega arith)))

-- ---- the array of last entries

pub last_same : (l : List ℕ) (c x : ℕ) → length l ≡ 65 → c < 65 → last_at (noted l c x) c ≡ x
unfolding last_at noted
last_same l c x e h = rw (lt-ltb c 65 h) (get_or-set_same l c x 0 (omega arith))

pub last_other : (l : List ℕ) (c x i : ℕ) → ¬ (i ≡ c) → last_at (noted l c x) i ≡ last_at l i
unfolding last_at noted
last_other l c x i z = go (ltb c 65)
  where
    go : (t : Bool) → pick (ltb i 65) (get_or (pick t (set l c x) l) i 0) 0 ≡ pick (ltb i 65) (get_or l i 0) 0
    go true = ap (λ n. pick (ltb i 65) n 0) (get_or-set_other l c i x 0 z)
    go false = refl

length_noted : (l : List ℕ) (c x : ℕ) → length (noted l c x) ≡ length l
unfolding noted
length_noted l c x = go (ltb c 65)
  where
    go : (t : Bool) → length (pick t (set l c x) l) ≡ length l
    go true = length-set l c x
    go false = refl

blank_at_lem : (n i : ℕ) → ◌≡◌ {A = ℕ} (get_or (replicate n 0) i 0) 0
blank_at_lem zero i = refl
blank_at_lem (suc n) zero = refl
blank_at_lem (suc n) (suc i) = blank_at_lem n i

pub last_none : (i : ℕ) → last_at (replicate 65 0) i ≡ 0
unfolding last_at
last_none i = go (ltb i 65)
  where
    go : (t : Bool) → ◌≡◌ {A = ℕ} (pick t (get_or (replicate 65 0) i 0) 0) 0
    go true = blank_at_lem 65 i
    go false = refl

-- ---- the walk

module _ (f : ℕ → ℕ → ℕ) (heads tails : ℕ → ℕ) (cmax : ℕ) (small : cmax ≤ 64) where
  abbrev chain : ℕ → List ℕ → List ℕ
  chain i xs = sift (keyed (f COUNT) i) xs

  -- the rest of chain i behind the last entry seen
  pub record Rest (xs l : List ℕ) (i : ℕ) : Type 0 where
    pub fwd : Run (f CHAIN-TO-TAIL) (cursor f heads (last_at l i) i) (sift (keyed (f COUNT) i) xs) 0
    pub bwd : Back (f CHAIN-TO-HEAD) (last_at l i) (sift (keyed (f COUNT) i) xs) (tails i)

  abbrev pub Loose : ℕ → Type 0
  Loose e = cmax < f COUNT e → (f CHAIN-TO-HEAD e ≡ 0) × (f CHAIN-TO-TAIL e ≡ 0)

  end_read : (l : List ℕ) → T (ends_ok f heads tails cmax l) → (i : ℕ) → 1 ≤ i → i ≤ cmax → Rest [] l i
  unfolding ends_ok end_test
  end_read l h zero a b = absurd (omega arith)
  end_read l h (suc i) a b =
      let t : T (end_test f heads tails (i + 1) (last_at l (i + 1))) =
      counted_read (λ i. end_test f heads tails (i + 1) (last_at l (i + 1))) cmax 0 h i (omega arith) (omega arith) in
      let u : T (end_test f heads tails (suc i) (last_at l (suc i))) = rw add-one at t in
      let p = pick_yes (eqb (tails (suc i)) (last_at l (suc i))) (eqb (cursor f heads (last_at l (suc i)) (suc i)) 0) u in
      record { fwd = eqb→eq (cursor f heads (last_at l (suc i)) (suc i)) 0 p.1; bwd = eqb→eq (tails (suc i)) (last_at l (suc i)) p.0 }

  end_write : (l : List ℕ) → ((i : ℕ) → 1 ≤ i → i ≤ cmax → Rest [] l i) → T (ends_ok f heads tails cmax l)
  unfolding ends_ok end_test
  end_write l h =
      counted_write (λ i. end_test f heads tails (i + 1) (last_at l (i + 1))) cmax 0
      (λ i a b. let r = h (i + 1) (omega arith) (omega arith) in
      yes_pick (eqb (tails (i + 1)) (last_at l (i + 1))) (eqb (cursor f heads (last_at l (i + 1)) (i + 1)) 0) (yes_eqb r.bwd) (yes_eqb r.fwd))

  -- what the test of an entry says
  Passed : ℕ → ℕ → Type 0
  Passed x b =
      ((cmax < f COUNT x) × (f CHAIN-TO-HEAD x ≡ 0) × (f CHAIN-TO-TAIL x ≡ 0)) ⊎
      ((f COUNT x ≤ cmax) × (f CHAIN-TO-HEAD x ≡ b) × (cursor f heads b (f COUNT x) ≡ x))

  test_read : (x b : ℕ) → T (chain_test f heads cmax x b) → Passed x b
  unfolding chain_test Passed
  test_read x b h = ⊎_elim
      (λ a. inl (let h' : T (pick (eqb (f CHAIN-TO-HEAD x) 0) (eqb (f CHAIN-TO-TAIL x) 0) false) = rw (lt-ltb cmax (f COUNT x) a) at h in
      let p = pick_yes (eqb (f CHAIN-TO-HEAD x) 0) (eqb (f CHAIN-TO-TAIL x) 0)
      h' in (a, eqb→eq (f CHAIN-TO-HEAD x) 0 p.0, eqb→eq (f CHAIN-TO-TAIL x) 0 p.1)))
      (λ a. inr (let h' : T (pick (eqb (f CHAIN-TO-HEAD x) b) (eqb (cursor f heads b (f COUNT x)) x) false) = rw (le-ltb cmax (f COUNT x) a) at h in
      let p = pick_yes (eqb (f CHAIN-TO-HEAD x) b) (eqb (cursor f heads b (f COUNT x)) x)
      h' in (a, eqb→eq (f CHAIN-TO-HEAD x) b p.0, eqb→eq (cursor f heads b (f COUNT x)) x p.1)))
      (less cmax (f COUNT x))

  test_write : (x b : ℕ) → Passed x b → T (chain_test f heads cmax x b)
  unfolding chain_test Passed
  test_write x b (inl (a, p, q)) = rw (lt-ltb cmax (f COUNT x) a)
      (yes_pick (eqb (f CHAIN-TO-HEAD x) 0) (eqb (f CHAIN-TO-TAIL x) 0) (yes_eqb p) (yes_eqb q))
  test_write x b (inr (a, p, q)) = rw (le-ltb cmax (f COUNT x) a)
      (yes_pick (eqb (f CHAIN-TO-HEAD x) b) (eqb (cursor f heads b (f COUNT x)) x) (yes_eqb p) (yes_eqb q))

  behind : (x i : ℕ) → ¬ (x ≡ 0) → cursor f heads x i ≡ f CHAIN-TO-TAIL x
  unfolding cursor
  behind x i z = rw (ne_eqb x 0 z)

  -- one entry: the rest of each chain before and after it
  step_read : (x : ℕ) (xs l : List ℕ) → length l ≡ 65 → ¬ (x ≡ 0) → Passed x (last_at l (f COUNT x)) → (i : ℕ) → i ≤ cmax
      → Rest xs (noted l (f COUNT x) x) i → Rest (x ∷ xs) l i
  unfolding Passed
  step_read x xs l n z p i u r = go (ℕ_discrete (f COUNT x) i) p
    where
      go : Dec (f COUNT x ≡ i) → ((cmax < f COUNT x) × (f CHAIN-TO-HEAD x ≡ 0) × (f CHAIN-TO-TAIL x ≡ 0)) ⊎
          ((f COUNT x ≤ cmax) × (f CHAIN-TO-HEAD x ≡ last_at l (f COUNT x)) × (cursor f heads (last_at l (f COUNT x)) (f COUNT x) ≡ x))
          → Rest (x ∷ xs) l i
      go (no e) p =
          let o : last_at (noted l (f COUNT x) x) i ≡ last_at l i = last_other l (f COUNT x) x i (λ q. e (sym q)) in
          record {
            fwd = rw (ne_eqb (f COUNT x) i e) (rw o at r.fwd);
            bwd = rw (ne_eqb (f COUNT x) i e) (rw o at r.bwd);
          }
      go (yes e) (inl (a, b, c)) = absurd (omega arith)
      go (yes e) (inr (a, b, c)) =
          let s : last_at (noted l (f COUNT x) x) i ≡ x = rw (← e) (last_same l (f COUNT x) x n (omega arith)) in
          let g : Run (f CHAIN-TO-TAIL) (f CHAIN-TO-TAIL x) (chain i xs) 0 = rw (s, behind x i z) at r.fwd in
          let h : Back (f CHAIN-TO-HEAD) x (chain i xs) (tails i) = rw s at r.bwd in
          let b' : f CHAIN-TO-HEAD x ≡ last_at l i = rw e at b in
          let c' : cursor f heads (last_at l i) i ≡ x = rw e at c in
          record {
            fwd = rw (eq-eqb (f COUNT x) i e) (c', g);
            bwd = rw (eq-eqb (f COUNT x) i e) (b', h);
          }

  step_write : (x : ℕ) (xs l : List ℕ) → length l ≡ 65 → ¬ (x ≡ 0) → (i : ℕ) → i ≤ cmax → Rest (x ∷ xs) l i → Rest xs (noted l (f COUNT x) x) i
  step_write x xs l n z i u r = go (ℕ_discrete (f COUNT x) i)
    where
      go : Dec (f COUNT x ≡ i) → Rest xs (noted l (f COUNT x) x) i
      go (no e) =
          let o : last_at (noted l (f COUNT x) x) i ≡ last_at l i = last_other l (f COUNT x) x i (λ q. e (sym q)) in
          record {
            fwd = rw o (rw (ne_eqb (f COUNT x) i e) at r.fwd);
            bwd = rw o (rw (ne_eqb (f COUNT x) i e) at r.bwd);
          }
      go (yes e) =
          let s : last_at (noted l (f COUNT x) x) i ≡ x = rw (← e) (last_same l (f COUNT x) x n (omega arith)) in
          let a : (cursor f heads (last_at l i) i ≡ x) × Run (f CHAIN-TO-TAIL) (f CHAIN-TO-TAIL x) (chain i xs) 0 =
          rw (eq-eqb (f COUNT x) i e) at r.fwd in
          let b : (f CHAIN-TO-HEAD x ≡ last_at l i) × Back (f CHAIN-TO-HEAD) x (chain i xs) (tails i) = rw (eq-eqb (f COUNT x) i e) at r.bwd in
          record { fwd = rw (s, behind x i z) a.1; bwd = rw s b.1 }

  pass : (x : ℕ) (xs l : List ℕ) → 1 ≤ f COUNT x → Loose x → ((i : ℕ) → 1 ≤ i → i ≤ cmax → Rest (x ∷ xs) l i) → Passed x (last_at l (f COUNT x))
  unfolding Passed
  pass x xs l c q h = ⊎_elim (λ a. inl (a, (q a).0, (q a).1))
      (λ a. let r = h (f COUNT x) c a in
      let b : (cursor f heads (last_at l (f COUNT x)) (f COUNT x) ≡ x) × Run (f CHAIN-TO-TAIL) (f CHAIN-TO-TAIL x) (chain (f COUNT x) xs) 0 =
      rw (eq-eqb (f COUNT x) (f COUNT x) refl) at r.fwd in
      let d : (f CHAIN-TO-HEAD x ≡ last_at l (f COUNT x)) × Back (f CHAIN-TO-HEAD) x (chain (f COUNT x) xs) (tails (f COUNT x)) =
      rw (eq-eqb (f COUNT x) (f COUNT x) refl) at r.bwd in
      inr (a, d.0, b.0)) (less cmax (f COUNT x))

  loose : (x b : ℕ) → Passed x b → Loose x
  unfolding Passed
  loose x b (inl (a, p, q)) h = (p, q)
  loose x b (inr (a, p, q)) h = absurd (omega arith)

  pub chains_read : (xs l : List ℕ) → length l ≡ 65 → Off 0 xs → T (chains_on f heads tails cmax xs l)
      → ((i : ℕ) → 1 ≤ i → i ≤ cmax → Rest xs l i) × All Loose xs
  unfolding chains_on
  chains_read [] l n o h = (end_read l h, tt)
  chains_read (x ∷ xs) l n o h =
      let p = pick_yes (chain_test f heads cmax x (last_at l (f COUNT x))) (chains_on f heads tails cmax xs (noted l (f COUNT x) x)) h in
      let q = test_read x (last_at l (f COUNT x)) p.0 in
      let r = chains_read xs (noted l (f COUNT x) x) (length_noted l (f COUNT x) x ∙ n) o.1 p.1 in
      (λ i a b. step_read x xs l n (λ c. o.0 (sym c)) q i b (r.0 i a b), (loose x (last_at l (f COUNT x)) q, r.1))

  pub chains_write : (xs l : List ℕ) → length l ≡ 65 → Off 0 xs → All (λ e. 1 ≤ f COUNT e) xs → All Loose xs
      → ((i : ℕ) → 1 ≤ i → i ≤ cmax → Rest xs l i) → T (chains_on f heads tails cmax xs l)
  unfolding chains_on
  chains_write [] l n o c q h = end_write l h
  chains_write (x ∷ xs) l n o c q h =
      yes_pick (chain_test f heads cmax x (last_at l (f COUNT x))) (chains_on f heads tails cmax xs (noted l (f COUNT x) x))
      (test_write x (last_at l (f COUNT x)) (pass x xs l c.0 q.0 h))
      (chains_write xs (noted l (f COUNT x) x) (length_noted l (f COUNT x) x ∙ n) o.1 c.1 q.1
      (λ i a b. step_write x xs l n (λ z. o.0 (sym z)) i b (h i a b)))

-- ---- the definition

pub record Chained (f : ℕ → ℕ → ℕ) (head tail : ℕ) (xs : List ℕ) (i : ℕ) : Type 0 where
  pub fwd : Run (f CHAIN-TO-TAIL) head (sift (keyed (f COUNT) i) xs) 0
  pub bwd : Back (f CHAIN-TO-HEAD) 0 (sift (keyed (f COUNT) i) xs) tail

or_left : (a b : Bool) → T a → T (a || b)
or_left true b h = tt
or_left false b h = absurd h

or_right : (a b : Bool) → T b → T (a || b)
or_right true b h = tt
or_right false b h = h

pub sift_length : (g : ℕ → Bool) (xs : List ℕ) → length (sift g xs) ≤ length xs
sift_length g [] = omega arith
sift_length g (x ∷ xs) = go (g x) (sift_length g xs)
  where
    go : (t : Bool) → length (sift g xs) ≤ length xs → length (put t x (sift g xs)) ≤ suc (length xs)
    go true h = omega arith
    go false h = omega arith

module _ (f : ℕ → ℕ → ℕ) (heads tails : ℕ → ℕ) (cmax : ℕ) (small : cmax ≤ 64) where
  none_cursor : (i : ℕ) → cursor f heads (last_at (replicate 65 0) i) i ≡ heads i
  unfolding cursor
  none_cursor i = rw (last_none i)

  pub rest_chained : (xs : List ℕ) (i : ℕ) → Rest f heads tails cmax small xs (replicate 65 0) i → Chained f (heads i) (tails i) xs i
  rest_chained xs i r = record { fwd = rw (none_cursor i) at r.fwd; bwd = rw (last_none i) at r.bwd }

  pub chained_rest : (xs : List ℕ) (i : ℕ) → Chained f (heads i) (tails i) xs i → Rest f heads tails cmax small xs (replicate 65 0) i
  chained_rest xs i r = record { fwd = rw (none_cursor i) r.fwd; bwd = rw (last_none i) r.bwd }

module _ (w : List ℕ) where
  pub those_sift : (g h : ℕ → Bool) (xs : List ℕ) → Off 0 xs → ((x : ℕ) → ¬ (x ≡ 0) → g x ≡ h x) → those g xs ≡ sift h xs
  unfolding those
  those_sift g h [] o e = refl
  those_sift g h (x ∷ xs) o e = rw (e x (λ c. o.0 (sym c)), those_sift g h xs o.1 e) (go (h x))
    where
      go : (t : Bool) → (when t then x ∷ sift h xs else sift h xs) ≡ put t x (sift h xs)
      go true = refl
      go false = refl

  key_is : (i x : ℕ) → ¬ (x ≡ 0) → eqb (field w COUNT x) i ≡ keyed (fw w COUNT) i x
  key_is i x z = rw (field_is w 1 x z)

  module _ (xs : List ℕ) (ox : order w ≡ xs) (o : Off 0 xs) (short : length xs ≤ val w CACHE-BLOCKS) where
    abbrev ys : ℕ → List ℕ
    ys i = sift (keyed (fw w COUNT) i) xs

    chain_is : (i : ℕ) → those (λ e. eqb (field w COUNT e) i) (order w) ≡ ys i
    chain_is i = rw ox (those_sift (λ e. eqb (field w COUNT e) i) (keyed (fw w COUNT) i) xs o (key_is i))

    few : (i : ℕ) → length (ys i) ≤ val w CACHE-BLOCKS
    few i = omega (arith, sift_length (keyed (fw w COUNT) i) xs)

    pub chain_sound : (i : ℕ) → 1 ≤ i → Chained (fw w) (head_of w i) (tail_of w i) xs i → T (chain_right w i)
    unfolding chain_right walk settings_in head_of tail_of
    chain_sound i a c =
        rw (chain_is i)
        (yes_and (same (along w CHAIN-TO-TAIL (suc (val w CACHE-BLOCKS)) (val w (chain_head i))) (ys i))
        (same (along w CHAIN-TO-HEAD (suc (val w CACHE-BLOCKS)) (val w (chain_tail i))) (reverse (ys i)))
        (is_same (along w CHAIN-TO-TAIL (suc (val w CACHE-BLOCKS)) (val w (chain_head i))) (ys i)
        (along_run w 7 (suc (val w CACHE-BLOCKS)) (ys i) (val w (chain_head i)) c.fwd (off_sift (keyed (fw w COUNT) i) 0 xs o)
        (omega (arith, few i))))
        (is_same (along w CHAIN-TO-HEAD (suc (val w CACHE-BLOCKS)) (val w (chain_tail i))) (reverse (ys i))
        (along_run w 6 (suc (val w CACHE-BLOCKS)) (reverse (ys i)) (val w (chain_tail i))
        (reversed (fw w CHAIN-TO-HEAD) 0 (ys i) (val w (chain_tail i)) [] c.bwd refl)
        (off_reverse 0 (ys i) [] (off_sift (keyed (fw w COUNT) i) 0 xs o) tt) (omega (arith, few i, length_reverse (ys i) [])))))

    pub sound_chain : (i : ℕ) → 1 ≤ i → T (chain_right w i) → Chained (fw w) (head_of w i) (tail_of w i) xs i
    unfolding chain_right walk settings_in head_of tail_of
    sound_chain i one h =
        let h' : T (same (along w CHAIN-TO-TAIL (suc (val w CACHE-BLOCKS)) (val w (chain_head i))) (ys i) && same
        (along w CHAIN-TO-HEAD (suc (val w CACHE-BLOCKS)) (val w (chain_tail i))) (reverse (ys i))) = rw (chain_is i) at h in
        let p = and_yes (same (along w CHAIN-TO-TAIL (suc (val w CACHE-BLOCKS)) (val w (chain_head i))) (ys i))
        (same (along w CHAIN-TO-HEAD (suc (val w CACHE-BLOCKS)) (val w (chain_tail i))) (reverse (ys i))) h' in
        let a : along w CHAIN-TO-TAIL (suc (val w CACHE-BLOCKS)) (val w (chain_head i)) ≡ ys i =
        same_is (along w CHAIN-TO-TAIL (suc (val w CACHE-BLOCKS)) (val w (chain_head i))) (ys i) p.0 in
        let b : along w CHAIN-TO-HEAD (suc (val w CACHE-BLOCKS)) (val w (chain_tail i)) ≡ reverse (ys i) =
        same_is (along w CHAIN-TO-HEAD (suc (val w CACHE-BLOCKS)) (val w (chain_tail i))) (reverse (ys i)) p.1 in
        let c : Run (fw w CHAIN-TO-HEAD) (val w (chain_tail i)) (reverse (ys i)) 0 =
        rw b at (along_is w 6 (suc (val w CACHE-BLOCKS)) (val w (chain_tail i)) (rw b (omega (arith, few i, length_reverse (ys i) [])))) in
        let q : (b : ℕ) × Back (fw w CHAIN-TO-HEAD) b (ys i) (val w (chain_tail i)) × Run (fw w CHAIN-TO-HEAD) b [] 0 =
        backwards (fw w CHAIN-TO-HEAD) (ys i) (val w (chain_tail i)) [] c in
        record {
          fwd = rw a at (along_is w 7 (suc (val w CACHE-BLOCKS)) (val w (chain_head i)) (rw a (omega (arith, few i))));
          bwd = rw q.2 at q.1;
        }

    abbrev pub loose_at : ℕ → Bool
    loose_at e = leb (field w COUNT e) (val w CHAIN-LIMIT) || eqb (field w CHAIN-TO-HEAD e + field w CHAIN-TO-TAIL e) 0

    loose_yes : (e : ℕ) → ¬ (e ≡ 0) → (val w CHAIN-LIMIT < fw w COUNT e → (fw w CHAIN-TO-HEAD e ≡ 0) × (fw w CHAIN-TO-TAIL e ≡ 0)) → T (loose_at e)
    loose_yes e z h =
        rw (field_is w 1 e z, field_is w 6 e z, field_is w 7 e z)
        (⊎_elim (λ a. or_right (leb (fw w COUNT e) (val w CHAIN-LIMIT)) (eqb (fw w CHAIN-TO-HEAD e + fw w CHAIN-TO-TAIL e) 0)
        (yes_eqb {a = fw w CHAIN-TO-HEAD e + fw w CHAIN-TO-TAIL e} {b = 0} (omega (arith, (h a).0, (h a).1))))
        (λ a. or_left (leb (fw w COUNT e) (val w CHAIN-LIMIT)) (eqb (fw w CHAIN-TO-HEAD e + fw w CHAIN-TO-TAIL e) 0) (yes_leb a))
        (less (val w CHAIN-LIMIT) (fw w COUNT e)))

    yes_loose : (e : ℕ) → ¬ (e ≡ 0) → T (loose_at e) → val w CHAIN-LIMIT < fw w COUNT e → (fw w CHAIN-TO-HEAD e ≡ 0) × (fw w CHAIN-TO-TAIL e ≡ 0)
    yes_loose e z t a =
        let t' : T (leb (fw w COUNT e) (val w CHAIN-LIMIT) || eqb (fw w CHAIN-TO-HEAD e + fw w CHAIN-TO-TAIL e) 0) =
        rw (field_is w 1 e z, field_is w 6 e z, field_is w 7 e z) at t in
        ⊎_elim (λ b. absurd (omega (arith, leb_yes {a = fw w COUNT e} {b = val w CHAIN-LIMIT} b)))
        (λ b. let q : fw w CHAIN-TO-HEAD e + fw w CHAIN-TO-TAIL e ≡ 0 =
        eqb→eq (fw w CHAIN-TO-HEAD e + fw w CHAIN-TO-TAIL e) 0 b in (omega arith, omega arith))
        (or_yes (leb (fw w COUNT e) (val w CHAIN-LIMIT)) (eqb (fw w CHAIN-TO-HEAD e + fw w CHAIN-TO-TAIL e) 0) t')

    module _ (small : val w CHAIN-LIMIT ≤ 64) where
      pub chains_sound : T (chains_on (fw w) (head_of w) (tail_of w) (val w CHAIN-LIMIT) xs (replicate 65 0))
          → T (all (chain_right w) (counting 1 (val w CHAIN-LIMIT))) × T (all loose_at xs)
      chains_sound h =
          let p = chains_read (fw w) (head_of w) (tail_of w) (val w CHAIN-LIMIT) small xs (replicate 65 0) (length-replicate {A = ℕ} 65 0) o h in (
            yes_all (chain_right w) (counting 1 (val w CHAIN-LIMIT))
                (counting_all (λ i. T (chain_right w i)) 1 (val w CHAIN-LIMIT)
                (λ i a b. chain_sound i a (rest_chained (fw w) (head_of w) (tail_of w) (val w CHAIN-LIMIT) small xs i (p.0 i a (omega arith))))),
            yes_all loose_at xs (all_some (λ e. val w CHAIN-LIMIT < fw w COUNT e → (fw w CHAIN-TO-HEAD e ≡ 0) × (fw w CHAIN-TO-TAIL e ≡ 0))
                (λ e. T (loose_at e)) xs o loose_yes p.1),
          )

      pub sound_chains : All (λ e. 1 ≤ fw w COUNT e) xs → T (all (chain_right w) (counting 1 (val w CHAIN-LIMIT))) → T (all loose_at xs)
          → T (chains_on (fw w) (head_of w) (tail_of w) (val w CHAIN-LIMIT) xs (replicate 65 0))
      sound_chains c h k =
          chains_write (fw w) (head_of w) (tail_of w) (val w CHAIN-LIMIT) small xs (replicate 65 0) (length-replicate {A = ℕ} 65 0) o c
          (all_some (λ e. T (loose_at e)) (λ e. val w CHAIN-LIMIT < fw w COUNT e → (fw w CHAIN-TO-HEAD e ≡ 0) × (fw w CHAIN-TO-TAIL e ≡ 0)) xs o
          yes_loose (all_yes loose_at xs k))
          (λ i a b. chained_rest (fw w) (head_of w) (tail_of w) (val w CHAIN-LIMIT) small xs i
          (sound_chain i a (counting_at (λ i. T (chain_right w i)) 1 (val w CHAIN-LIMIT)
          (all_yes (chain_right w) (counting 1 (val w CHAIN-LIMIT)) h) i a (omega arith))))
