-- An entry of the stack takes another count, and goes to the front of its chain. Assumes nothing.
use Rattle.std.specs.Prelude.{ℕ, ◌+◌, ◌-◌, ◌≤◌, ◌<◌, ◌≡◌, refl, Bool, true, false, List, ◌∷◌, ◌++◌, leb}
use Rattle.std.proofs.Common.{◌∙◌, sym, arith, leb-true}
use Rattle.basics.specs.Basics.{pick, All}
use Rattle.basics.specs.AllLaws.{all_map, all_both}
use Rattle.links.specs.Upd.{upd, upd_same, upd_other}
use Rattle.links.specs.Off.{Off}
use Rattle.links.specs.Run.{same_upd}
use Rattle.links.specs.Ends.{at}
use Rattle.links.specs.All.{all_map_off, all_less, off_all}
use Rattle.links.proofs.Chains.{same_at, chain_links, chain_head_lem, chains_key}
use Rattle.layout.specs.Addresses.{COUNT, CHAIN-TO-HEAD, CHAIN-TO-TAIL}
use Rattle.linkage.specs.Fields.{Shape, Fields, CHAIN-HEADS, CHAIN-TAILS}
use Rattle.linkage.specs.WellLinked.{Count, Chain, ChainOf, Has, Entry}
use Rattle.linkage.specs.WellLinkedLaws.{sum_upd}
use Rattle.operations.specs.FieldOps.{chain_out, chain_in, count, recount}
use Rattle.operations.specs.HitChains.{Chained, out_chains, in_chains}
use Rattle.operations.specs.Agree.{same_trans, same_pick, pick_other, all_same, all_same2}

-- ---- counts

pub count_set_lem : (s : Shape) (cnt : ℕ → ℕ) (all : ℕ) (above : List ℕ) (e : ℕ) (below unused : List ℕ) (c' : ℕ) → Entry s e → Off e (above ++ below)
    → Off e unused → 1 ≤ c' → c' ≤ 65535 → Count s cnt all (above ++ (e ∷ below)) unused
    → Count s (upd cnt e c') (all + c' - cnt e) (e ∷ (above ++ below)) unused
count_set_lem s cnt all above e below unused c' he o oy l m g =
    record {
      used = (
        rw (upd_same cnt e c') (l, m),
        all_map_off (λ x. (1 ≤ cnt x) × (cnt x ≤ 65535)) (λ x. (1 ≤ upd cnt e c' x) × (upd cnt e c' x ≤ 65535)) e
            (above ++ below) (λ x h a. rw (upd_other cnt e c' x h) a) o (all_less (λ x. (1 ≤ cnt x) × (cnt x ≤ 65535)) above e below g.used),
      );
      idle = all_same (λ y v. v ≡ 0) cnt (upd cnt e c') unused (same_upd cnt e c' unused oy) g.idle;
      sum = omega (arith, sum_upd s.N cnt e c' he.0 he.1, g.sum);
    }

-- ---- chains: what a neighbour may be

module _ (s : Shape) (D : Fields) (unused : List ℕ) (some : Off 0 unused) where
  abbrev pub Tied : ℕ → Type 0
  Tied q = (q ≤ s.N) × Off q unused × (s.cmax < D COUNT q → q ≡ 0)

  tied_0 : Tied 0
  tied_0 = (omega arith, some, λ _. refl)

  tied : (c : ℕ) (residents : List ℕ) → c ≤ s.cmax → All (λ x. (x ≤ s.N) × Off x unused) residents → All (λ x. D COUNT x ≡ c → Tied x) residents
  tied c residents l a =
      all_map (λ x. (x ≤ s.N) × Off x unused) (λ x. D COUNT x ≡ c → Tied x) residents (λ x u q. (u.0, u.1, λ h. absurd (omega arith))) a

  pub tied_links : (above : List ℕ) (e : ℕ) (below : List ℕ) → 1 ≤ D COUNT e → All (λ x. (x ≤ s.N) × Off x unused) (above ++ (e ∷ below))
      → Chained s D (D COUNT) (above ++ (e ∷ below)) → leb (D COUNT e) s.cmax ≡ true → Tied (D CHAIN-TO-HEAD e) × Tied (D CHAIN-TO-TAIL e)
  tied_links above e below o a g q =
      let l : D COUNT e ≤ s.cmax = leb-true (D COUNT e) s.cmax q in
      chain_links (Has s) (D CHAIN-TO-TAIL) (D CHAIN-TO-HEAD) (D CHAIN-HEADS) (D CHAIN-TAILS) (D COUNT) Tied above e below (D COUNT e) refl (o, l)
      tied_0 (tied (D COUNT e) (above ++ (e ∷ below)) l a) g

  pub tied_head : (residents : List ℕ) (c : ℕ) → 1 ≤ c → All (λ x. (x ≤ s.N) × Off x unused) residents → Chained s D (D COUNT) residents
      → leb c s.cmax ≡ true → Tied (D CHAIN-HEADS c)
  tied_head residents c o a g q =
      let l : c ≤ s.cmax = leb-true c s.cmax q in
      chain_head_lem (Has s) (D CHAIN-TO-TAIL) (D CHAIN-TO-HEAD) (D CHAIN-HEADS) (D CHAIN-TAILS) (D COUNT) Tied residents c (o, l) tied_0
      (tied c residents l a) g

  -- so one in no chain is none
  far : (x q : ℕ) → ¬ (0 ≡ x) → (s.cmax < D COUNT q → q ≡ 0) → s.cmax < D COUNT x → ¬ (x ≡ q)
  far x q z t m c = z (sym (c ∙ t (rw c at m)))

  -- ---- out of its chain

  pub leave_chain : (above : List ℕ) (e : ℕ) (below : List ℕ) → 1 ≤ D COUNT e → Off 0 (above ++ below)
      → All (λ x. (x ≤ s.N) × Off x unused) (above ++ (e ∷ below)) → ChainOf s D (above ++ (e ∷ below)) unused
      → ChainOf s (chain_out (leb (D COUNT e) s.cmax) D (D COUNT e) e) (above ++ below) unused
  leave_chain above e below o z a g =
      record {
        chains = out_chains s D e (D COUNT) above below o g.chains;
        loose =
            all_map (λ x. (¬ (0 ≡ x)) × (s.cmax < D COUNT x → (D CHAIN-TO-HEAD x ≡ 0) × (D CHAIN-TO-TAIL x ≡ 0)))
            (λ x. s.cmax < D COUNT x → (E CHAIN-TO-HEAD x ≡ 0) × (E CHAIN-TO-TAIL x ≡ 0)) (above ++ below)
            (λ x h l. (
              pick_other (D CHAIN-TO-HEAD) b (D CHAIN-TO-TAIL e) (D CHAIN-TO-HEAD e) x
                  (λ q. far x (D CHAIN-TO-TAIL e) h.0 (links q).1.2 l)
                  ∙ (h.1 l).0,
              pick_other (D CHAIN-TO-TAIL) b (D CHAIN-TO-HEAD e) (D CHAIN-TO-TAIL e) x
                  (λ q. far x (D CHAIN-TO-HEAD e) h.0 (links q).0.2 l) ∙ (h.1 l).1,
            ))
            (all_both (λ x. ¬ (0 ≡ x)) (λ x. s.cmax < D COUNT x → (D CHAIN-TO-HEAD x ≡ 0) × (D CHAIN-TO-TAIL x ≡ 0)) (above ++ below)
            (off_all 0 (above ++ below) z) (all_less (λ x. s.cmax < D COUNT x → (D CHAIN-TO-HEAD x ≡ 0) × (D CHAIN-TO-TAIL x ≡ 0)) above e below
            g.loose));
        idle =
            all_same2 (λ y u d. (u ≡ 0) × (d ≡ 0)) (D CHAIN-TO-HEAD) (D CHAIN-TO-TAIL) (E CHAIN-TO-HEAD) (E CHAIN-TO-TAIL) unused
            (same_pick (D CHAIN-TO-HEAD) (at (D CHAIN-TO-HEAD) (D CHAIN-TO-TAIL e) (D CHAIN-TO-HEAD e)) b unused
            (λ q. same_at (D CHAIN-TO-HEAD) (D CHAIN-TO-TAIL e) (D CHAIN-TO-HEAD e) unused (links q).1.1))
            (same_pick (D CHAIN-TO-TAIL) (at (D CHAIN-TO-TAIL) (D CHAIN-TO-HEAD e) (D CHAIN-TO-TAIL e)) b unused
            (λ q. same_at (D CHAIN-TO-TAIL) (D CHAIN-TO-HEAD e) (D CHAIN-TO-TAIL e) unused (links q).0.1))
            g.idle;
      }
    where
      b : Bool
      b = leb (D COUNT e) s.cmax

      E : Fields
      E = chain_out b D (D COUNT e) e

      links : b ≡ true → Tied (D CHAIN-TO-HEAD e) × Tied (D CHAIN-TO-TAIL e)
      links = tied_links above e below o a g.chains

  -- ---- into its chain

  pub enter_chain : (e c : ℕ) (residents : List ℕ) → c ≡ D COUNT e → 1 ≤ c → Off e (0 ∷ residents) → Off 0 residents → Off e unused
      → All (λ x. (x ≤ s.N) × Off x unused) residents → ChainOf s D residents unused
      → ChainOf s (chain_in (leb c s.cmax) D c e) (e ∷ residents) unused
  enter_chain e c residents k o oe z oy a g =
      record {
        chains = in_chains s D e (D COUNT) c residents k o oe g.chains;
        loose = (
          λ l. own b refl l,
          all_map_off (λ x. (¬ (0 ≡ x)) × (s.cmax < D COUNT x → (D CHAIN-TO-HEAD x ≡ 0) × (D CHAIN-TO-TAIL x ≡ 0)))
              (λ x. s.cmax < D COUNT x → (E CHAIN-TO-HEAD x ≡ 0) × (E CHAIN-TO-TAIL x ≡ 0)) e residents
              (λ x n h l. (
                pick_other (upd (D CHAIN-TO-HEAD) e 0) b (D CHAIN-HEADS c) e x (λ q. far x (D CHAIN-HEADS c) h.0 (head q).2 l)
                    ∙ upd_other (D CHAIN-TO-HEAD) e 0 x n ∙ (h.1 l).0,
                upd_other (D CHAIN-TO-TAIL) e (pick b (D CHAIN-HEADS c) 0) x n ∙ (h.1 l).1,
              ))
              oe.1
              (all_both (λ x. ¬ (0 ≡ x)) (λ x. s.cmax < D COUNT x → (D CHAIN-TO-HEAD x ≡ 0) × (D CHAIN-TO-TAIL x ≡ 0)) residents
              (off_all 0 residents z) g.loose),
        );
        idle =
            all_same2 (λ y u d. (u ≡ 0) × (d ≡ 0)) (D CHAIN-TO-HEAD) (D CHAIN-TO-TAIL) (E CHAIN-TO-HEAD) (E CHAIN-TO-TAIL) unused
            (same_trans (D CHAIN-TO-HEAD) (upd (D CHAIN-TO-HEAD) e 0) (E CHAIN-TO-HEAD) unused (same_upd (D CHAIN-TO-HEAD) e 0 unused oy)
            (same_pick (upd (D CHAIN-TO-HEAD) e 0) (at (upd (D CHAIN-TO-HEAD) e 0) (D CHAIN-HEADS c) e) b unused
            (λ q. same_at (upd (D CHAIN-TO-HEAD) e 0) (D CHAIN-HEADS c) e unused (head q).1)))
            (same_upd (D CHAIN-TO-TAIL) e (pick b (D CHAIN-HEADS c) 0) unused oy)
            g.idle;
      }
    where
      b : Bool
      b = leb c s.cmax

      E : Fields
      E = chain_in b D c e

      head : b ≡ true → Tied (D CHAIN-HEADS c)
      head = tied_head residents c o a g.chains

      own : (t : Bool) → leb c s.cmax ≡ t → s.cmax < D COUNT e
          → (pick t (at (upd (D CHAIN-TO-HEAD) e 0) (D CHAIN-HEADS c) e) (upd (D CHAIN-TO-HEAD) e 0) e ≡ 0)
          × (upd (D CHAIN-TO-TAIL) e (pick t (D CHAIN-HEADS c) 0) e ≡ 0)
      own true q l = absurd (omega (arith, leb-true c s.cmax q))
      own false q l = (upd_same (D CHAIN-TO-HEAD) e 0, upd_same (D CHAIN-TO-TAIL) e 0)

-- a count off the list changes no chain
pub chain_count : (s : Shape) (cnt cup cdn heads tails : ℕ → ℕ) (e c : ℕ) (residents unused : List ℕ) → Off e residents
    → Chain s cnt cup cdn heads tails residents unused → Chain s (upd cnt e c) cup cdn heads tails residents unused
chain_count s cnt cup cdn heads tails e c residents unused o g =
    record {
      chains = chains_key (Has s) cdn cup heads tails cnt e c residents o g.chains;
      loose =
          all_map_off (λ x. s.cmax < cnt x → (cup x ≡ 0) × (cdn x ≡ 0)) (λ x. s.cmax < upd cnt e c x → (cup x ≡ 0) × (cdn x ≡ 0)) e residents
          (λ x n h l. h (rw (upd_other cnt e c x n) at l)) o g.loose;
      idle = g.idle;
    }

-- THE WHOLE: out, the count, in
pub recount_chain : (s : Shape) (D : Fields) (above : List ℕ) (e : ℕ) (below unused : List ℕ) (c' : ℕ) → 1 ≤ D COUNT e → 1 ≤ c'
    → Off e (0 ∷ (above ++ below)) → Off 0 (above ++ below) → Off 0 unused → Off e unused
    → All (λ x. (x ≤ s.N) × Off x unused) (above ++ (e ∷ below)) → ChainOf s D (above ++ (e ∷ below)) unused
    → ChainOf s (recount s D e (D COUNT e) c') (e ∷ (above ++ below)) unused
recount_chain s D above e below unused c' l l' o z zy oy a g =
    let D1 : Fields = chain_out (leb (D COUNT e) s.cmax) D (D COUNT e) e in
    let D2 : Fields = count D1 e (D COUNT e) c' in
    let g1 : ChainOf s D1 (above ++ below) unused = leave_chain s D unused zy above e below l z a g in
    let g2 : ChainOf s D2 (above ++ below) unused = chain_count s (D COUNT) (D1 CHAIN-TO-HEAD) (D1 CHAIN-TO-TAIL) (D1 CHAIN-HEADS) (D1 CHAIN-TAILS) e
    c' (above ++ below) unused o.1 g1 in
    enter_chain s D2 unused zy e c' (above ++ below) (sym (upd_same (D COUNT) e c')) l' o z oy
    (all_less (λ x. (x ≤ s.N) × Off x unused) above e below a) g2
