-- Halving, over the fields: one resident after another, from the tail up. Assumes nothing.
use Rattle.std.specs.Prelude.{ℕ, ◌+◌, ◌-◌, ◌≤◌, ◌≡◌, List, [], ◌∷◌, length}
use Rattle.std.proofs.Common.{◌∙◌, sym, ap, arith}
use Rattle.std.proofs.Math.Decide.{ℕ_discrete}
use Rattle.basics.specs.Basics.{All}
use Rattle.basics.specs.AllLaws.{all_map, all_both}
use Rattle.links.specs.Upd.{upd, upd_same, upd_other}
use Rattle.links.specs.Off.{Off, Distinct}
use Rattle.links.specs.Run.{Back, first, same_upd}
use Rattle.links.specs.All.{all_map_off}
use Rattle.layout.specs.Addresses.{CACHE-BLOCKS, NEW-BLOCKS, OLD-BLOCKS, CHAIN-LIMIT, STORE-BLOCKS, SUM, BLANK-14, BLANK-15, BLOCK, COUNT, MODIFIED, TO-HEAD, CHAIN-TO-HEAD, CHAIN-TO-TAIL, NEXT-SYNONYM}
use Rattle.linkage.specs.Fields.{Shape, Fields, CHAIN-HEADS, CHAIN-TAILS, BUCKET-HEADS, in_header}
use Rattle.linkage.specs.WellLinked.{Legal, Settled, StackOf, Count, CountOf, ChainOf, HashOf, FlagsOf, Entry}
use Rattle.linkage.specs.WellLinkedLaws.{sum_upd, Alive, alive_upd, hash_alive, flags_alive}
use Rattle.word_ops.specs.Halve.{half}
use Rattle.operations.specs.FieldOps.{count, halve_one, halve_up}
use Rattle.operations.specs.Agree.{all_same}
use Rattle.operations.specs.Recount.{enter_chain, chain_count}

-- rs, backwards, before vs
abbrev pub onto : List ℕ → List ℕ → List ℕ
onto [] vs = vs
onto (r ∷ rs) vs = onto rs (r ∷ vs)

pub all_onto : (P : ℕ → Type 0) (rs vs : List ℕ) → All P (onto rs vs) → All P vs
all_onto P [] vs a = a
all_onto P (r ∷ rs) vs a = (all_onto P rs (r ∷ vs) a).1

pub off_onto : (z : ℕ) (rs vs : List ℕ) → Off z (onto rs vs) → Off z vs
off_onto z [] vs a = a
off_onto z (r ∷ rs) vs a = (off_onto z rs (r ∷ vs) a).1

pub distinct_onto : (rs vs : List ℕ) → Distinct (onto rs vs) → Distinct vs
distinct_onto [] vs a = a
distinct_onto (r ∷ rs) vs a = (distinct_onto rs (r ∷ vs) a).1

pub back_onto : (p : ℕ → ℕ) (t : ℕ) (rs vs : List ℕ) → Back p 0 (onto rs vs) t → Back p (first rs 0) vs t
back_onto p t [] vs a = a
back_onto p t (r ∷ rs) vs a = (back_onto p t rs (r ∷ vs) a).1

-- a count within the bounds
pub count_keep : (s : Shape) (cnt : ℕ → ℕ) (all : ℕ) (e : ℕ) (residents unused : List ℕ) (c' : ℕ) → Entry s e → Off e unused → 1 ≤ c' → c' ≤ 65535
    → Count s cnt all residents unused → Count s (upd cnt e c') (all + c' - cnt e) residents unused
count_keep s cnt all e residents unused c' he oy l m g =
    record {
      used =
          all_map (λ x. (1 ≤ cnt x) × (cnt x ≤ 65535)) (λ x. (1 ≤ upd cnt e c' x) × (upd cnt e c' x ≤ 65535)) residents
          (λ x a. go x a (ℕ_discrete x e)) g.used;
      idle = all_same (λ y v. v ≡ 0) cnt (upd cnt e c') unused (same_upd cnt e c' unused oy) g.idle;
      sum = omega (arith, sum_upd s.N cnt e c' he.0 he.1, g.sum);
    }
  where
    go : (x : ℕ) → (1 ≤ cnt x) × (cnt x ≤ 65535) → Dec (x ≡ e) → (1 ≤ upd cnt e c' x) × (upd cnt e c' x ≤ 65535)
    go x a (yes q) = rw (q, upd_same cnt e c') (l, m)
    go x a (no q) = rw (upd_other cnt e c' x q) a

-- While the counts are halved: vs are done, rs, the rest of the stack from its lower end, are not. `old` are the counts before.
pub record Halving (s : Shape) (old : ℕ → ℕ) (D : Fields) (rs vs unused : List ℕ) : Type 0 where
  pub legal : Legal s
  pub settled : Settled s (D (in_header CACHE-BLOCKS) 0) (D (in_header NEW-BLOCKS) 0) (D (in_header OLD-BLOCKS) 0) (D (in_header CHAIN-LIMIT) 0)
      (D (in_header STORE-BLOCKS) 0) (D (in_header BLANK-14) 0) (D (in_header BLANK-15) 0)
  pub stack : StackOf s D (onto rs vs) unused
  pub count : CountOf s D (onto rs vs) unused
  pub chain : ChainOf s D vs unused
  pub hash : HashOf s D
  pub flags : FlagsOf s D
  pub todo : All (λ x. D COUNT x ≡ old x) rs
  pub done : All (λ x. D COUNT x ≡ half (old x)) vs

module _ (s : Shape) (old : ℕ → ℕ) (D : Fields) (x : ℕ) (rs vs unused : List ℕ) (g : Halving s old D (x ∷ rs) vs unused) where
  pub safe : All (λ q. (q ≤ s.N) × Off q unused) (x ∷ vs)
  safe =
      all_onto (λ q. (q ≤ s.N) × Off q unused) rs (x ∷ vs) (all_both (λ q. q ≤ s.N) (λ q. Off q unused) (onto (x ∷ rs) vs) g.stack.bound
      g.stack.apart)

  some : Off 0 (x ∷ vs)
  some = off_onto 0 rs (x ∷ vs) g.stack.ring.some

  pub entry_x : Entry s x
  entry_x =
      let z : ¬ (0 ≡ x) = some.0 in
      (omega arith, safe.0.0)

  alone : Off x vs
  alone = (distinct_onto rs (x ∷ vs) g.stack.ring.once).0

  pub count_x : (1 ≤ D COUNT x) × (D COUNT x ≤ 65535)
  count_x = (all_onto (λ q. (1 ≤ D COUNT q) × (D COUNT q ≤ 65535)) rs (x ∷ vs) g.count.used).0

  pub counted_chain : ChainOf s (count D x (D COUNT x) (half (D COUNT x))) vs unused
  counted_chain =
      chain_count s (D COUNT) (D CHAIN-TO-HEAD) (D CHAIN-TO-TAIL) (D CHAIN-HEADS) (D CHAIN-TAILS) x (half (D COUNT x)) vs unused alone g.chain

  pub halve_step : Distinct (x ∷ rs) → Halving s old (halve_one s D x) rs (x ∷ vs) unused
  halve_step d =
      let c' : ℕ = half (D COUNT x) in
      let l : 1 ≤ c' = omega (arith, count_x.0) in
      let m : c' ≤ 65535 = omega (arith, count_x.1) in
      let a : Alive (D COUNT) (upd (D COUNT) x c') = alive_upd (D COUNT) x c' count_x.0 l in
      record {
        legal = g.legal;
        settled = g.settled;
        stack = g.stack;
        count = count_keep s (D COUNT) (D (in_header SUM) 0) x (onto (x ∷ rs) vs) unused c' entry_x safe.0.1 l m g.count;
        chain =
            enter_chain s (count D x (D COUNT x) c') unused g.stack.free.some x c' vs (sym (upd_same (D COUNT) x c')) l
            (λ q. omega (arith, entry_x.0), alone) some.1 safe.0.1 safe.1 counted_chain;
        hash = hash_alive s (D COUNT) (upd (D COUNT) x c') (D BLOCK) (D NEXT-SYNONYM) (D BUCKET-HEADS) a g.hash;
        flags = flags_alive s (D COUNT) (upd (D COUNT) x c') (D MODIFIED) _ _ _ _ a g.flags;
        todo =
            all_map_off (λ q. D COUNT q ≡ old q) (λ q. upd (D COUNT) x c' q ≡ old q) x rs (λ q n h. upd_other (D COUNT) x c' q n ∙ h) d.0
            g.todo.1;
        done = (
          upd_same (D COUNT) x c' ∙ ap half g.todo.0,
          all_map_off (λ q. D COUNT q ≡ half (old q)) (λ q. upd (D COUNT) x c' q ≡ half (old q)) x
              vs (λ q n h. upd_other (D COUNT) x c' q n ∙ h) alone g.done,
        );
      }

  -- the next to halve
  pub up_x : D TO-HEAD x ≡ first rs 0
  up_x = (back_onto (D TO-HEAD) (D TO-HEAD 0) rs (x ∷ vs) g.stack.ring.bwd).0

pub halve_up_lem : (s : Shape) (old : ℕ → ℕ) (D : Fields) (x : ℕ) (rs vs unused : List ℕ) → x ≡ first rs 0 → Distinct rs → Halving s old D rs vs unused
    → Halving s old (halve_up s (length rs) x D) [] (onto rs vs) unused
unfolding halve_up
halve_up_lem s old D x [] vs unused q d g = g
halve_up_lem s old D x (r ∷ rs) vs unused q d g =
    rw q (halve_up_lem s old (halve_one s D r) (D TO-HEAD r) rs (r ∷ vs) unused (up_x s old D r rs vs unused g) d.1
    (halve_step s old D r rs vs unused g d))
