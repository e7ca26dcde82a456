-- The search finds the victim, and looks at as many chains as defined, or every resident is pinned. Assumes nothing.
use Rattle.word_ops.specs.declared.Picked.{Picked}
use Rattle.std.specs.Prelude.{Option, Some, None}
use Rattle.std.specs.Prelude.{ℕ, suc, ◌+◌, ◌-◌, ◌≤◌, ◌<◌, ◌≡◌, refl, Bool, not, List, ◌∷◌, ◌++◌, T, length, get_or, take, drop}
use Rattle.std.proofs.Common.{◌∙◌, sym, ap, subst, arith, length-take-le, eq-eqb, ne_eqb}
use Rattle.std.proofs.Math.Seq.{split_at}
use Rattle.std.proofs.Math.Facts.{T_not-not}
use Rattle.basics.specs.Basics.{All, member}
use Rattle.links.specs.All.{all_at}
use Rattle.settings.specs.declared.Settings.{Settings}
use Rattle.stack.specs.Counts.{old, unpinned, count_at, unpinned_at, victim, chains, looked as lookedThrough}
use Rattle.stack.proofs.CountsLaws.{Outcome, all_pinned_lem, a_victim, outcome}
use Rattle.stack.proofs.SearchLaws.{search, search_finds}
use Rattle.layout.specs.Addresses.{COUNT, MODIFIED}
use Rattle.layout.specs.ModifiedWord.{marks_in}
use Rattle.word_ops.specs.Victim.{or_all_pinned, victim_from}
use Rattle.victims.specs.Linked.{Linked, Worded}
use Rattle.victims.specs.Lasts.{at_end, every_at}
use Rattle.victims.specs.Found.{counts_pins_of, pair_at, long, entry_at, count_at_lem, search_from}

-- pinned at every position
abbrev AllAt : List (ℕ × Bool) → Type 0
AllAt xs = (p : ℕ) → p < length xs → T (not (unpinned_at xs p))

-- ---- what is found

none_is : (n e : ℕ) → e ≡ 0 → or_all_pinned n e ≡ None
unfolding or_all_pinned
none_is n e h = rw (eq-eqb e 0 h)

one_is : (n e : ℕ) → ¬ (e ≡ 0) → or_all_pinned n e ≡ Some (record { chains = n; entry = e })
unfolding or_all_pinned
one_is n e h = rw (ne_eqb e 0 h)

abbrev pub AllPinnedIn : (ℕ → ℕ → ℕ) → List ℕ → Type 0
AllPinnedIn D residents = All (λ e. T (marks_in (D MODIFIED e)).pinned) residents

-- The entry e stands at the victim's position, it isn't pinned, and the n chains looked at are those defined.
pub record Chosen (t : Settings) (xs : List (ℕ × Bool)) (D : ℕ → ℕ → ℕ) (residents : List ℕ) (n e : ℕ) : Type 0 where
  pub before : List ℕ
  pub behind : List ℕ
  pub whole : residents ≡ before ++ (e ∷ behind)
  pub place : length before ≡ victim t xs
  pub free : T (not (marks_in (D MODIFIED e)).pinned)
  pub looked : n ≡ chains t xs

-- Every resident is pinned, and the victim's position is past the last.
pub record Refused (t : Settings) (xs : List (ℕ × Bool)) (D : ℕ → ℕ → ℕ) (residents : List ℕ) : Type 0 where
  pub pinned : AllPinnedIn D residents
  pub place : length residents ≡ victim t xs

abbrev pub Answers : Settings → List (ℕ × Bool) → (ℕ → ℕ → ℕ) → List ℕ → Option Picked → Type 0
Answers t xs D residents (Some r) = Chosen t xs D residents r.chains r.entry
Answers t xs D residents None = Refused t xs D residents

module _ (t : Settings) (w : List ℕ) (at links N cmax : ℕ) (D : ℕ → ℕ → ℕ) (tail : ℕ) (tails : ℕ → ℕ) (residents : List ℕ)
    (g : Linked N t.nnew (t.n - t.nold) cmax D tail tails residents) (v : Worded N cmax D tail tails w at) (enough : N ≤ links) where
  abbrev xs : List (ℕ × Bool)
  xs = counts_pins_of D residents

  long_xs : length xs ≡ length residents
  long_xs = long t w at links N cmax D tail tails residents g v enough

  present : (p : ℕ) → p < length residents → ¬ (get_or residents p 0 ≡ 0)
  present p h e = omega (arith, (entry_at t w at links N cmax D tail tails residents g v enough p h).0)

  -- pinned at every position, or every entry
  mark_at_lem : (p : ℕ) → p < length residents → unpinned_at xs p ≡ not (marks_in (D MODIFIED (get_or residents p 0))).pinned
  mark_at_lem p h = ap (λ x. not x.1) (pair_at D residents p h)

  count_one : (p : ℕ) → p < length xs → 1 ≤ count_at xs p
  count_one p h =
      let l : p < length residents = omega (arith, long_xs) in
      rw (count_at_lem t w at links N cmax D tail tails residents g v enough p l)
      (all_at (λ x. (1 ≤ D COUNT x) × (D COUNT x ≤ 65535)) residents p g.counts l).0

  -- the chains that a search by positions looks at, and what it gives
  abbrev looked_at : ℕ
  looked_at = lookedThrough (λ i. member i (unpinned (old t xs))) 1 cmax

  found_is : victim_from w at links cmax 1 ≡ or_all_pinned looked_at (get_or residents (search t xs 1 cmax) 0)
  found_is =
      let n : 1 - 1 + looked_at ≡ looked_at = omega arith in
      search_from t w at links N cmax D tail tails residents g v enough cmax 1 (omega arith) (omega arith)
      ∙ ap (λ c. or_all_pinned c (get_or residents (search t xs 1 cmax) 0)) n

  pinned_in : AllAt xs → AllPinnedIn D residents
  pinned_in f =
      every_at (λ x. T (marks_in (D MODIFIED x)).pinned) residents
      (λ p l. T_not-not (marks_in (D MODIFIED (get_or residents p 0))).pinned (subst (λ b. T (not b)) (mark_at_lem p l) (f p (omega (arith, long_xs)))))

  -- ---- a full stack

  module _ (full : length residents ≡ t.n) (some : 1 ≤ t.nold) (fits : t.nold ≤ t.n) (short : t.cmax ≤ 64) (limit : cmax ≡ t.cmax) where
    full_xs : length xs ≡ t.n
    full_xs = long_xs ∙ full

    pub victim_found : victim_from w at links cmax 1 ≡ or_all_pinned (chains t xs) (get_or residents (victim t xs) 0)
    unfolding chains
    victim_found = found_is ∙ rw (limit, search_finds t xs full_xs some fits short count_one)

    chosen : (p : ℕ) → p ≡ victim t xs → p < length residents → T (unpinned_at xs p) → Chosen t xs D residents (chains t xs) (get_or residents p 0)
    chosen p e h u =
        record {
          before = take p residents;
          behind = drop (suc p) residents;
          whole = split_at residents p 0 h;
          place = length-take-le p residents (omega arith) ∙ e;
          free = subst T (mark_at_lem p h) u;
          looked = refl;
        }

    answers : Answers t xs D residents (victim_from w at links cmax 1)
    answers = subst (Answers t xs D residents) (sym victim_found) (go (victim t xs) refl (outcome t xs full_xs some fits short count_one))
      where
        go : (p : ℕ) → p ≡ victim t xs → Outcome t xs full_xs some fits short count_one p
            → Answers t xs D residents (or_all_pinned (chains t xs) (get_or residents p 0))
        go p e (all_pinned_lem f) =
            subst (Answers t xs D residents)
            (sym (none_is (chains t xs) (get_or residents (length xs) 0) (at_end residents (length xs) (omega (arith, long_xs)))))
            (record { pinned = pinned_in f; place = sym long_xs ∙ e })
        go p e (a_victim q h u) =
            let l : q < length residents = omega (arith, long_xs) in
            subst (Answers t xs D residents) (sym (one_is (chains t xs) (get_or residents q 0) (present q l))) (chosen q e l u)

    -- THE VICTIM, by any list that is the residents' counts and pinned marks
    pub victim_is : (ys : List (ℕ × Bool)) → ys ≡ counts_pins_of D residents → Answers t ys D residents (victim_from w at links cmax 1)
    victim_is ys e = subst (λ zs. Answers t zs D residents (victim_from w at links cmax 1)) (sym e) answers
