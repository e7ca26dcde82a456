-- Laws of the victim and the chains: in a full stack there is an unpinned victim unless all are pinned, and the chains looked at are
-- those demanded.
use Prim.Native.Nat.{ℕ, zero, suc, ◌+◌, ◌-◌, ◌≤◌, ◌<◌, min}
use Rattle.std.proofs.Math.Nat.{min-eq_left, min-eq_right}
use native.Mathlib.Omega.{arith}
use Rattle.std.specs.Prelude.{◌≡◌, refl, ◌⊎◌, ◌&&◌, not, true, List, length, leb, ltb, eqb}
use Rattle.std.proofs.Math.Path.{sym, ap, subst}
use Rattle.std.proofs.Common.{◌∙◌, inl, inr, ltb→lt, nltb→le}
use Rattle.std.proofs.Math.Bool.{Bool}
use Rattle.std.proofs.Math.ListN.{get_or, length-drop}
use Rattle.std.proofs.Math.Seq.{get_or-drop}
use Rattle.std.proofs.Math.Dec.{T, le→leb}
use Rattle.std.proofs.Math.Facts.{and_yes, yes_and, T_not, leb_yes, leb_no, eqb_yes, yes_leb, yes_eqb, no_leb}
use Rattle.basics.specs.Basics.{member}
use Rattle.basics.specs.TestLaws.{split, if_yes, if_no}
use Rattle.settings.specs.declared.Settings.{Settings}
use Rattle.stack.proofs.NumberLaws.{member_at, member_found, greatest_passes, least_below, least_found, greatest_cases, unpinned_at_lem, unpinned_found, PassesOr}
use Rattle.stack.specs.Counts.{is_old, old, least_old, greatest, victim, looked, chains, unpinned, count_at, unpinned_at, chains_demanded}

-- ---- how far is looked

looked_to : (test : ℕ → Bool) (i n c : ℕ) → i ≤ c → c < i + n → T (test c) → ((j : ℕ) → j < c → T (not (test j))) → looked test i n ≡ c - i + 1
unfolding looked
looked_to test i zero c low high t fails = absurd (omega arith)
looked_to test i (suc n) c low high t fails = split (test i)
    (λ u. let e : c ≡ i = same u in if_yes (test i) 1 _ u ∙ omega arith)
    (λ u. let far : i < c = differ u in if_no (test i) 1 _ u ∙ ap (λ x. x + 1) (looked_to test (suc i) n c far (omega arith) t fails) ∙ omega arith)
  where
    same : T (test i) → c ≡ i
    same u = split (ltb i c) (λ h. absurd (T_not (test i) u (fails i (ltb→lt i c h)))) (λ h. omega (arith, nltb→le i c h))

    differ : T (not (test i)) → i < c
    differ u =
        split (ltb i c) (λ h. ltb→lt i c h) (λ h. let e : c ≡ i =
        omega (arith, nltb→le i c h) in absurd (T_not (test i) (subst (λ x. T (test x)) e t) u))

looked_all : (test : ℕ → Bool) (i n : ℕ) → ((j : ℕ) → j < i + n → T (not (test j))) → looked test i n ≡ n
unfolding looked
looked_all test i zero fails = refl
looked_all test i (suc n) fails =
    if_no (test i) 1 _ (fails i (omega arith)) ∙ ap (λ x. x + 1) (looked_all test (suc i) n (λ j h. fails j (omega arith))) ∙ omega arith

-- ---- a full stack

module _ (s : Settings) (xs : List (ℕ × Bool)) (full : length xs ≡ s.n) (some : 1 ≤ s.nold) (fits : s.nold ≤ s.n) (few : s.cmax ≤ 64)
    (bound : (p : ℕ) → p < length xs → 1 ≤ count_at xs p) where
  from : ℕ
  from = s.n - s.nold

  abbrev smallest : ℕ
  smallest = least_old s xs

  -- an old position, counted from the first old one
  old_at : (p : ℕ) → T (is_old s p) → p < s.n → (q : ℕ) × (q < length (old s xs)) × (get_or (old s xs) q (0, true) ≡ get_or xs p (0, true))
  unfolding from
  old_at p t h =
      let o : s.n - s.nold ≤ p = leb_yes t in
      (p - from, simp (length-drop, full) (omega arith), get_or-drop from xs (p - from) (0, true) ∙ ap (λ q. get_or xs q (0, true)) (omega arith))

  -- every unpinned old resident has at least the smallest count
  pub smallest_below : (p : ℕ) → T (is_old s p) → T (unpinned_at xs p) → p < s.n → smallest ≤ count_at xs p
  unfolding least_old
  smallest_below p t u h =
      let (q, l, e) = old_at p t h in
      let (i, g, f) = unpinned_at_lem (old s xs) q l (subst (λ x. T (not x.1)) (sym e) u) in
      omega (arith, least_below 65535 (unpinned (old s xs)) i g, ap (λ x. x.0) e)

  -- and one has it, where there is one
  pub smallest_found : smallest < 65535 → (p : ℕ) × (p < s.n) × T (is_old s p) × T (unpinned_at xs p) × (count_at xs p ≡ smallest)
  unfolding least_old from
  smallest_found h =
      let (i, g, f) = least_found 65535 (unpinned (old s xs)) h in
      let (q, l, u, e) = unpinned_found (old s xs) i g in
      let same : get_or (old s xs) q (0, true) ≡ get_or xs (from + q) (0, true) = get_or-drop from xs q (0, true) in (
        from + q,
        omega (arith, length-drop from xs),
        le→leb from (from + q) (omega arith),
        subst (λ x. T (not x.1)) same u,
        ap (λ x. x.0) (sym same) ∙ e ∙ f,
      )

  -- a count is among those looked for by an unpinned position of the old section
  pub old_member : (p : ℕ) → T (is_old s p) → T (unpinned_at xs p) → p < s.n → T (member (count_at xs p) (unpinned (old s xs)))
  old_member p t u h =
      let (q, l, e) = old_at p t h in
      let (i, g, f) = unpinned_at_lem (old s xs) q l (subst (λ x. T (not x.1)) (sym e) u) in
      subst (λ c. T (member c (unpinned (old s xs)))) (f ∙ ap (λ x. x.0) e) (member_at (unpinned (old s xs)) i g)

  below_none : (j : ℕ) → j < smallest → T (not (member j (unpinned (old s xs))))
  unfolding least_old
  below_none j h = split (member j (unpinned (old s xs)))
      (λ t. let (p, l, e) = member_found j (unpinned (old s xs)) t in absurd (omega (arith, least_below 65535 (unpinned (old s xs)) p l)))
      (λ t. t)

  pub smallest_positive : 1 ≤ smallest
  smallest_positive = split (ltb smallest 65535)
      (λ t. let (p, h, o, u, e) = smallest_found (ltb→lt smallest 65535 t) in omega (arith, bound p (omega arith)))
      (λ t. omega (arith, nltb→le smallest 65535 t))

  -- the chains looked at are the smaller of the smallest count and Cmax
  pub chains_smallest : chains s xs ≡ min smallest s.cmax
  unfolding chains
  chains_smallest = split (leb smallest s.cmax)
      (λ t. let h : smallest ≤ s.cmax = leb_yes t in
      let (p, l, o, u, e) = smallest_found (omega arith) in
      looked_to test 1 s.cmax smallest smallest_positive (omega arith) (subst (λ x. T (member x (unpinned (old s xs)))) e (old_member p o u l))
      below_none
      ∙ let g : 1 ≤ smallest = smallest_positive in let q : smallest - 1 + 1 ≡ smallest = omega arith in q ∙ sym (min-eq_left h))
      (λ t. let h : s.cmax < smallest = leb_no t in
      looked_all test 1 s.cmax (λ j l. below_none j (omega arith)) ∙ sym (min-eq_right (omega arith)))
    where
      test : ℕ → Bool
      test i = member i (unpinned (old s xs))

  -- ---- the victim

  abbrev r : ℕ
  r = length xs

  unfoldable pub anywhere : ℕ
  anywhere = greatest (unpinned_at xs) (length xs) (length xs)

  unfoldable pub in_old : ℕ
  in_old = greatest (λ p. is_old s p && unpinned_at xs p) (length xs) anywhere

  last : ℕ → Bool
  last p = is_old s p && unpinned_at xs p && eqb (count_at xs p) smallest

  -- Where the smallest count has a chain, the victim is the greatest unpinned old position with it.
  pub victim_chained : smallest ≤ s.cmax
      → T (is_old s (victim s xs)) × T (unpinned_at xs (victim s xs)) × (count_at xs (victim s xs) ≡ smallest) × (victim s xs < s.n)
  unfolding victim last anywhere in_old
  victim_chained h =
      let (p, l, o, u, e) = smallest_found (omega arith) in
      let g = greatest_passes last (length xs) in_old p (omega arith)
      (yes_and (is_old s p && unpinned_at xs p) (eqb (count_at xs p) smallest) (yes_and (is_old s p) (unpinned_at xs p) o u) (yes_eqb e)) in
      let v : ℕ = greatest last (length xs) in_old in
      let q = and_yes (is_old s v && unpinned_at xs v) (eqb (count_at xs v) smallest) g.0 in
      let w = and_yes (is_old s v) (unpinned_at xs v) q.0 in
      rw (if_yes (leb smallest s.cmax) v in_old (yes_leb h)) (w.0, w.1, eqb_yes q.1, omega (arith, g.2))

  -- No unpinned old position with that count is greater.
  pub victim_last : smallest ≤ s.cmax → (p : ℕ) → T (is_old s p) → T (unpinned_at xs p) → count_at xs p ≡ smallest → p < s.n → p ≤ victim s xs
  unfolding victim last anywhere in_old
  victim_last h p o u e l =
      let g = greatest_passes last (length xs) in_old p (omega arith)
      (yes_and (is_old s p && unpinned_at xs p) (eqb (count_at xs p) smallest) (yes_and (is_old s p) (unpinned_at xs p) o u) (yes_eqb e)) in
      rw (if_yes (leb smallest s.cmax) (greatest last (length xs) in_old) in_old (yes_leb h)) g.1

  -- Else it is the least recent unpinned one, in the old section if that has one.
  pub victim_unchained : s.cmax < smallest → victim s xs ≡ in_old
  unfolding victim last anywhere in_old
  victim_unchained h = if_no (leb smallest s.cmax) (greatest last (length xs) in_old) in_old (no_leb h)

  -- One walk from the tail finds it: the old section is the last.
  pub one_walk : in_old ≡ anywhere
  unfolding anywhere in_old
  one_walk = go (greatest_cases (unpinned_at xs) r r) (greatest_cases (λ p. is_old s p && unpinned_at xs p) r anywhere)
    where
      up : (p q : ℕ) → T (is_old s p) → p ≤ q → T (is_old s q)
      up p q o h = let w : s.n - s.nold ≤ p = leb_yes o in yes_leb {a = s.n - s.nold} {b = q} (omega arith)

      go : PassesOr (unpinned_at xs) r r anywhere → PassesOr (λ p. is_old s p && unpinned_at xs p) r anywhere in_old → in_old ≡ anywhere
      go a (inr (f, e)) = e
      go a (inl (t, h)) =
          let q = and_yes (is_old s in_old) (unpinned_at xs in_old) t in
          let g = greatest_passes (unpinned_at xs) r r in_old h q.1 in
          let f = greatest_passes (λ p. is_old s p && unpinned_at xs p) r anywhere anywhere g.2
          (yes_and (is_old s anywhere) (unpinned_at xs anywhere) (up in_old anywhere q.0 g.1) g.0) in
          omega (arith, g.1, f.1)

  -- ---- all pinned, or a victim that isn't

  pub data Outcome : ℕ → Type 0 where
    all_pinned_lem : ((p : ℕ) → p < length xs → T (not (unpinned_at xs p))) → Outcome (length xs)
    a_victim : (v : ℕ) → v < length xs → T (unpinned_at xs v) → Outcome v

  pub outcome : Outcome (victim s xs)
  unfolding anywhere
  outcome = split (leb smallest s.cmax)
      (λ t. let v = victim_chained (leb_yes t) in a_victim (victim s xs) (omega (arith, v.3)) v.1)
      (λ t. subst Outcome (sym (victim_unchained (leb_no t) ∙ one_walk)) (go (greatest_cases (unpinned_at xs) r r)))
    where
      go : (T (unpinned_at xs anywhere) × (anywhere < r)) ⊎ (((p : ℕ) → p < r → T (not (unpinned_at xs p))) × (anywhere ≡ r)) → Outcome anywhere
      go (inl (t, h)) = a_victim anywhere h t
      go (inr (f, e)) = subst Outcome (sym e) (all_pinned_lem f)

  -- the chains looked at are those demanded
  pub chains_right : T (unpinned_at xs (victim s xs)) → victim s xs < length xs → chains s xs ≡ chains_demanded s xs
  chains_right u l = chains_smallest ∙ split (leb smallest s.cmax)
      (λ t. let v = victim_chained (leb_yes t) in
      ap (λ c. min c s.cmax) (sym v.2) ∙ sym (if_yes (is_old s (victim s xs)) (min (count_at xs (victim s xs)) s.cmax) _ v.0))
      (λ t. let h : s.cmax < smallest = leb_no t in
      min-eq_right (omega arith) ∙ sym (split (is_old s (victim s xs))
      (λ o. if_yes (is_old s (victim s xs)) (min (count_at xs (victim s xs)) s.cmax) _ o
      ∙ min-eq_right (let g = smallest_below (victim s xs) o u (omega arith) in omega arith))
      (λ o. if_no (is_old s (victim s xs)) (min (count_at xs (victim s xs)) s.cmax) s.cmax o)))
