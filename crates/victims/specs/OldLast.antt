-- Count i has an unpinned old resident exactly where there is a last one. Assumes nothing.
use Prim.Native.Nat.{ℕ, ◌+◌, ◌-◌, ◌≤◌, ◌<◌}
use Rattle.std.specs.Prelude.{◌≡◌, ◌⊎◌, Bool, true, not, List, ltb}
use Rattle.std.proofs.Common.{◌∙◌, sym, ap, subst, inl, inr, arith}
use Rattle.std.proofs.Math.Dec.{T, ltb→lt, lt→ltb}
use Rattle.std.proofs.Math.ListN.{length, get_or, length-drop}
use Rattle.std.proofs.Math.Seq.{get_or-drop}
use Rattle.std.proofs.Math.Facts.{leb_yes, yes_leb}
use Rattle.basics.specs.Basics.{member}
use Rattle.settings.specs.declared.Settings.{Settings}
use Rattle.stack.specs.Counts.{old, unpinned}
use Rattle.stack.proofs.NumberLaws.{member_at, member_found, greatest_passes, greatest_cases, unpinned_at_lem, unpinned_found}
use Rattle.stack.proofs.SearchLaws.{victim_of, victim_of_lem, of_victim, last_of}
use Rattle.basics.specs.TestLaws.{same_truth}

module _ (s : Settings) (xs : List (ℕ × Bool)) (i : ℕ) where
  -- a position of such a one is among the old ones
  in_old_lem : (q : ℕ) → q < length xs → T (victim_of s xs i q) → T (member i (unpinned (old s xs)))
  in_old_lem q h t =
      let (o, u, c) = of_victim s xs i q t in
      let from : s.n - s.nold ≤ q = leb_yes o in
      let p : ℕ = q - (s.n - s.nold) in
      let e : get_or (old s xs) p (0, true) ≡ get_or xs q (0, true) =
      get_or-drop (s.n - s.nold) xs p (0, true) ∙ ap (λ r. get_or xs r (0, true)) (omega arith) in
      let (j, g, f) = unpinned_at_lem (old s xs) p (simp length-drop (omega arith)) (subst (λ x. T (not x.1)) (sym e) u) in
      subst (λ n. T (member n (unpinned (old s xs)))) (f ∙ ap (λ x. x.0) e ∙ c) (member_at (unpinned (old s xs)) j g)

  there : T (ltb (last_of s xs i) (length xs)) → T (member i (unpinned (old s xs)))
  unfolding last_of
  there t = go (greatest_cases (victim_of s xs i) (length xs) (length xs))
    where
      go : (T (victim_of s xs i (last_of s xs i)) × (last_of s xs i < length xs))
          ⊎ (((p : ℕ) → p < length xs → T (not (victim_of s xs i p))) × (last_of s xs i ≡ length xs))
          → T (member i (unpinned (old s xs)))
      go (inl (v, l)) = in_old_lem (last_of s xs i) l v
      go (inr (f, e)) = absurd (omega (arith, ltb→lt (last_of s xs i) (length xs) t))

  back : T (member i (unpinned (old s xs))) → T (ltb (last_of s xs i) (length xs))
  unfolding last_of
  back t =
      let (j, g, f) = member_found i (unpinned (old s xs)) t in
      let (q, l, u, e) = unpinned_found (old s xs) j g in
      let p : ℕ = s.n - s.nold + q in
      let same : get_or (old s xs) q (0, true) ≡ get_or xs p (0, true) = get_or-drop (s.n - s.nold) xs q (0, true) in
      let o = yes_leb {a = s.n - s.nold} {b = p} (omega arith) in
      let v = victim_of_lem s xs i p o (subst (λ x. T (not x.1)) same u) (ap (λ x. x.0) (sym same) ∙ e ∙ f) in
      lt→ltb (last_of s xs i) (length xs)
      (greatest_passes (victim_of s xs i) (length xs) (length xs) p (omega (arith, length-drop (s.n - s.nold) xs)) v).2

  pub old_last : ltb (last_of s xs i) (length xs) ≡ member i (unpinned (old s xs))
  old_last = same_truth (ltb (last_of s xs i) (length xs)) (member i (unpinned (old s xs))) there back
