-- The buckets: what the check reads along one list, and along all.
-- Assumes nothing.
use Prim.Native.Nat.{ℕ, zero, suc, ◌+◌, ◌-◌, ◌%◌, ◌≤◌, ◌<◌}
use Rattle.std.specs.Prelude.{◌≡◌, not, ltb, eqb}
use Rattle.std.proofs.Math.Path.{refl, sym}
use Rattle.std.proofs.Common.{◌∙◌, ap}
use Rattle.std.proofs.Math.Bool.{Bool, true, false}
use mathlib.Core.List.{List, [], ◌∷◌, ◌++◌, map}
use native.Mathlib.Omega.{arith}
use Rattle.std.proofs.Math.Decide.{ℕ_discrete}
use Rattle.std.proofs.Math.ListN.{length, length-append}
use Rattle.std.proofs.Math.Dec.{T, eqb→eq}
use borrow.Author.Tests.{eq-eqb, ne_eqb}
use Rattle.std.proofs.Math.Facts.{yes_eqb, eqb_no, no_eqb, ltb_no, no_ltb}
use Rattle.basics.specs.Basics.{pick, All}
use Rattle.links.specs.Off.{Off, Distinct}
use Rattle.links.specs.Run.{Run}
use Rattle.fnv.specs.Fnv.{fnv}
use Rattle.check_model.specs.Membership.{all_of}
use Rattle.check_model.specs.Turns.{turns, moved}
use Rattle.check_model.specs.LoopLaws.{moved_last, turns_last}
use Rattle.check_model.specs.Tests.{no_second, list_test, nth_listed, listed, left_after, buckets_from}
use Rattle.check_model.specs.Bools.{pick_yes, yes_pick, pick_no, no_pick, is_true, to_T}
use Rattle.layout.specs.Addresses.{BLOCK, COUNT, NEXT-SYNONYM}

module _ (f : ℕ → ℕ → ℕ) (n nb : ℕ) where
  abbrev pub slot : ℕ → ℕ
  slot e = fnv (f BLOCK e) % nb

  pub record Entry (b e : ℕ) : Type 0 where
    pub low : e ≤ n
    pub count : 1 ≤ f COUNT e
    pub place : fnv (f BLOCK e) % nb ≡ b

  pub record Bucket (b e : ℕ) (ys : List ℕ) : Type 0 where
    pub fwd : Run (f NEXT-SYNONYM) e ys 0
    pub some : Off 0 ys
    pub each : All (Entry b) ys
    pub blocks : Distinct (map (f BLOCK) ys)

  -- one entry more in front
  apart_more : (v : ℕ) (bs ys : List ℕ) → Off v (map (f BLOCK) ys) → All (λ y. Off (f BLOCK y) bs) ys → All (λ y. Off (f BLOCK y) (v ∷ bs)) ys
  apart_more v bs [] o h = tt
  apart_more v bs (y ∷ ys) o h = ((λ c. o.0 (sym c), h.0), apart_more v bs ys o.1 h.1)

  apart_less : (v : ℕ) (bs ys : List ℕ) → All (λ y. Off (f BLOCK y) (v ∷ bs)) ys → Off v (map (f BLOCK) ys) × All (λ y. Off (f BLOCK y) bs) ys
  apart_less v bs [] h = (tt, tt)
  apart_less v bs (y ∷ ys) h = let r = apart_less v bs ys h.1 in ((λ c. h.0.0 (sym c), r.0), (h.0.1, r.1))

  module _ (firsts : ℕ → ℕ) where
    -- e is behind `ahead` others in its bucket, and bs are their blocks, the last one first: the search goes through these
    pub record Behind (b ahead e : ℕ) (bs : List ℕ) : Type 0 where
      pub at : e ≡ nth_listed f firsts b ahead
      pub apart : (v : ℕ) → T (no_second f v ahead (firsts b)) → Off v bs
      pub passes : (v : ℕ) → Off v bs → T (no_second f v ahead (firsts b))

    pub behind_none : (b : ℕ) → Behind b 0 (firsts b) []
    unfolding turns moved
    behind_none b = record { at = refl; apart = λ v h. tt; passes = λ v o. tt }

    pub behind_next : (b ahead e : ℕ) (bs : List ℕ) → Behind b ahead e bs → Behind b (suc ahead) (f NEXT-SYNONYM e) (f BLOCK e ∷ bs)
    behind_next b ahead e bs g = record {
      at = ap (f NEXT-SYNONYM) g.at ∙ sym (moved_last (f NEXT-SYNONYM) ahead (firsts b));
      apart = λ v h.
          let p = pick_yes (no_second f v ahead (firsts b)) (other v) (rw (last v) at h) in
          (λ c. eqb_no {a = f BLOCK e} {b = v} p.1 (sym c), g.apart v p.0);
      passes = λ v o. rw (last v) (yes_pick (no_second f v ahead (firsts b)) (other v) (g.passes v o.1) (no_eqb (λ c. o.0 (sym c))));
    }
      where
        other : ℕ → Bool
        other v = not (eqb (f BLOCK e) v)

        last : (v : ℕ) → no_second f v (suc ahead) (firsts b) ≡ pick (no_second f v ahead (firsts b)) (other v) false
        last v = rw g.at (turns_last (λ x. not (eqb (f BLOCK x) v)) (f NEXT-SYNONYM) ahead (firsts b))

    pub test_read : (b ahead e : ℕ) → T (list_test f firsts n nb b ahead e) → Entry b e × T (no_second f (f BLOCK e) ahead (firsts b))
    unfolding list_test
    test_read b ahead e h =
        let t3 : Bool = no_second f (f BLOCK e) ahead (firsts (slot e)) in
        let t2 : Bool = pick (eqb (slot e) b) t3 false in
        let p = pick_no (ltb n e) (pick (eqb (f COUNT e) 0) false t2) h in
        let q = pick_no (eqb (f COUNT e) 0) t2 p.1 in
        let r = pick_yes (eqb (slot e) b) t3 q.1 in
        let c : ¬ (f COUNT e ≡ 0) = eqb_no {a = f COUNT e} {b = 0} q.0 in
        let s : slot e ≡ b = eqb→eq (slot e) b r.0 in
        (record { low = ltb_no {a = n} {b = e} p.0; count = omega arith; place = s }, rw s at r.1)

    test_write : (b ahead e : ℕ) → Entry b e → T (no_second f (f BLOCK e) ahead (firsts b)) → T (list_test f firsts n nb b ahead e)
    unfolding list_test
    test_write b ahead e g a =
        let t3 : Bool = no_second f (f BLOCK e) ahead (firsts (slot e)) in
        let t2 : Bool = pick (eqb (slot e) b) t3 false in
        let c : ¬ (f COUNT e ≡ 0) = λ c. omega (arith, g.count) in
        no_pick (ltb n e) (pick (eqb (f COUNT e) 0) false t2) (no_ltb g.low)
        (no_pick (eqb (f COUNT e) 0) t2 (no_eqb c) (yes_pick (eqb (slot e) b) t3 (yes_eqb g.place) (rw g.place a)))

    pub record Listed (b k e m : ℕ) (bs : List ℕ) : Type 0 where
      pub ys : List ℕ
      pub bucket : Bucket b e ys
      pub apart : All (λ y. Off (f BLOCK y) bs) ys
      pub many : length ys + m ≡ k

    list_read : (b ahead k e m : ℕ) (bs : List ℕ) → Behind b ahead e bs → listed f firsts n nb b ahead k e ≡ m + 1 → Listed b k e m bs
    unfolding listed
    list_read b ahead zero e m bs g h = go (ℕ_discrete e 0)
      where
        go : Dec (e ≡ 0) → Listed b zero e m bs
        go (yes z) =
            let h' : 1 ≡ m + 1 = rw (eq-eqb e 0 z) at h in
            record { ys = []; bucket = record { fwd = z; some = tt; each = tt; blocks = tt }; apart = tt; many = omega arith }
        go (no z) = let h' : 0 ≡ m + 1 = rw (ne_eqb e 0 z) at h in absurd (omega arith)
    list_read b ahead (suc k) e m bs g h =
        go (ℕ_discrete e 0) (list_test f firsts n nb b ahead e) refl
        (list_read b (suc ahead) k (f NEXT-SYNONYM e) m (f BLOCK e ∷ bs) (behind_next b ahead e bs g))
      where
        rest : ℕ
        rest = listed f firsts n nb b (suc ahead) k (f NEXT-SYNONYM e)

        go : Dec (e ≡ 0) → (t : Bool) → list_test f firsts n nb b ahead e ≡ t
            → (rest ≡ m + 1 → Listed b k (f NEXT-SYNONYM e) m (f BLOCK e ∷ bs)) → Listed b (suc k) e m bs
        go (yes z) t q r =
            let h' : suc k + 1 ≡ m + 1 = rw (eq-eqb e 0 z) at h in
            record { ys = []; bucket = record { fwd = z; some = tt; each = tt; blocks = tt }; apart = tt; many = omega arith }
        go (no z) false q r = let h' : 0 ≡ m + 1 = rw (ne_eqb e 0 z, q) at h in absurd (omega arith)
        go (no z) true q r =
            let h' : rest ≡ m + 1 = rw (ne_eqb e 0 z, q) at h in
            let s = r h' in
            let p = test_read b ahead e (to_T (list_test f firsts n nb b ahead e) q) in
            let a = apart_less (f BLOCK e) bs s.ys s.apart in
            record {
              ys = e ∷ s.ys;
              bucket = record {
                fwd = (refl, s.bucket.fwd);
                some = (λ c. z (sym c), s.bucket.some);
                each = (p.0, s.bucket.each);
                blocks = (a.0, s.bucket.blocks);
              };
              apart = (g.apart (f BLOCK e) p.1, a.1);
              many = omega (arith, s.many);
            }

    pub listed_read : (b k m : ℕ) → left_after f firsts n nb b k ≡ m + 1 → Listed b k (firsts b) m []
    listed_read b k m h = list_read b 0 k (firsts b) m [] (behind_none b) h

    list_write : (b : ℕ) (ys : List ℕ) (ahead k e m : ℕ) (bs : List ℕ)
        → Behind b ahead e bs → Bucket b e ys → All (λ y. Off (f BLOCK y) bs) ys → length ys + m ≡ k
        → listed f firsts n nb b ahead k e ≡ m + 1
    unfolding listed
    list_write b [] ahead zero e m bs i g a h = rw (eq-eqb e 0 g.fwd) (omega arith)
    list_write b [] ahead (suc k) e m bs i g a h = rw (eq-eqb e 0 g.fwd) (omega arith)
    list_write b (y ∷ ys) ahead zero e m bs i g a h = absurd (omega arith)
    list_write b (y ∷ ys) ahead (suc k) e m bs i g a h =
        let z : ¬ (y ≡ 0) = λ c. g.some.0 (sym c) in
        let i' : Behind b ahead y bs = rw g.fwd.0 at i in
        let p : T (list_test f firsts n nb b ahead y) = test_write b ahead y g.each.0 (i'.passes (f BLOCK y) a.0) in
        let t : list_test f firsts n nb b ahead y ≡ true = is_true (list_test f firsts n nb b ahead y) p in
        rw (g.fwd.0, ne_eqb y 0 z, t)
        (list_write b ys (suc ahead) k (f NEXT-SYNONYM y) m (f BLOCK y ∷ bs) (behind_next b ahead y bs i')
        (record { fwd = g.fwd.1; some = g.some.1; each = g.each.1; blocks = g.blocks.1 })
        (apart_more (f BLOCK y) bs ys g.blocks.0 a.1) (omega arith))

    pub listed_write : (b : ℕ) (ys : List ℕ) (k m : ℕ) → Bucket b (firsts b) ys → length ys + m ≡ k → left_after f firsts n nb b k ≡ m + 1
    listed_write b ys k m g h = list_write b ys 0 k (firsts b) m [] (behind_none b) g (all_of (λ y. Off (f BLOCK y) []) ys (λ y i. tt)) h

  -- all buckets, one after another
  module _ (firsts : ℕ → ℕ) (lists : ℕ → List ℕ) where
    abbrev pub joined : ℕ → ℕ → List ℕ
    joined zero b = []
    joined (suc k) b = lists b ++ joined k (b + 1)

    -- `lists` are what the links say, where that is short enough
    module _ (top : ℕ) (canon : (b : ℕ) (ys : List ℕ) → Run (f NEXT-SYNONYM) (firsts b) ys 0 → Off 0 ys → length ys ≤ top → lists b ≡ ys) where
      pub buckets_read : (k b left : ℕ) → left ≤ top → T (buckets_from f firsts n nb k b left)
          → ((j : ℕ) → b ≤ j → j < b + k → Bucket j (firsts j) (lists j)) × (length (joined k b) ≡ left)
      unfolding buckets_from
      buckets_read zero b left l h = (λ j a c. absurd (omega arith), sym (eqb→eq left 0 h))
      buckets_read (suc k) b left l h =
          let m : ℕ = left_after f firsts n nb b left - 1 in
          let p = pick_no (eqb (left_after f firsts n nb b left) 0) (buckets_from f firsts n nb k (b + 1) m) h in
          let z : ¬ (left_after f firsts n nb b left ≡ 0) = eqb_no {a = left_after f firsts n nb b left} {b = 0} p.0 in
          let s = listed_read firsts b left m (omega arith) in
          let c : lists b ≡ s.ys = canon b s.ys s.bucket.fwd s.bucket.some (omega (arith, s.many)) in
          let r = buckets_read k (b + 1) m (omega (arith, s.many)) p.1 in (
            λ j a u. one (rw c s.bucket) r.0 j a u (ℕ_discrete j b),
            length-append (lists b) (joined k (b + 1))
                ∙ rw c (omega (arith, s.many, r.1)),
          )
        where
          one : Bucket b (firsts b) (lists b) → ((j : ℕ) → b + 1 ≤ j → j < b + 1 + k → Bucket j (firsts j) (lists j)) → (j : ℕ) → b ≤ j
              → j < b + suc k → Dec (j ≡ b) → Bucket j (firsts j) (lists j)
          one g r j a u (yes e) = rw e g
          one g r j a u (no e) = r j (omega arith) (omega arith)

      pub buckets_write : (k b left : ℕ) → ((j : ℕ) → b ≤ j → j < b + k → Bucket j (firsts j) (lists j)) → length (joined k b) ≡ left
          → T (buckets_from f firsts n nb k b left)
      unfolding buckets_from
      buckets_write zero b left g l = yes_eqb (sym l)
      buckets_write (suc k) b left g l =
          let m : ℕ = length (joined k (b + 1)) in
          let many : length (lists b) + m ≡ left = sym (length-append (lists b) (joined k (b + 1))) ∙ l in
          let e : left_after f firsts n nb b left ≡ m + 1 = listed_write firsts b (lists b) left m (g b (omega arith) (omega arith)) many in
          let q : m + 1 - 1 ≡ m = omega arith in
          rw (e, q)
          (no_pick (eqb (m + 1) 0) (buckets_from f firsts n nb k (b + 1) m) (no_eqb {a = m + 1} {b = 0} (λ c. omega arith))
          (buckets_write k (b + 1) m (λ j a u. g j (omega arith) (omega arith)) refl))
