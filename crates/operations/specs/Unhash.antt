-- An entry leaves its bucket, and is no resident any more. Assumes nothing.
use Prim.Native.Nat.{ℕ, ◌≤◌, ◌<◌}
use Rattle.std.specs.Prelude.{◌≡◌}
use Rattle.std.proofs.Math.Path.{refl}
use Rattle.std.proofs.Common.{◌∙◌, sym, ap, ⊎_elim, arith}
use mathlib.Core.List.{List, ◌∷◌, ◌++◌}
use Rattle.std.proofs.Math.Decide.{ℕ_discrete}
use Rattle.basics.specs.Basics.{All}
use Rattle.basics.specs.AllLaws.{all_map, all_left}
use Rattle.links.specs.Upd.{upd, upd_same, upd_other}
use Rattle.links.specs.Off.{Off, off_more, distinct_off}
use Rattle.links.specs.Run.{last}
use Rattle.links.specs.Ends.{at, end}
use Rattle.links.proofs.Sll.{Sll, sll_keep, sll_same, sll_remove, sll_distinct}
use Rattle.links.specs.All.{all_map_off, all_less, all_last, all_off}
use Rattle.links.proofs.Chains.{same_at}
use Rattle.links.specs.Find.{Split, find}
use Rattle.linkage.specs.Fields.{Shape}
use Rattle.linkage.specs.WellLinked.{Hash, Bucket, Entry}
use Rattle.operations.specs.Agree.{at_other}

module _ (s : Shape) (cnt blk syn heads : ℕ → ℕ) (e : ℕ) (he : Entry s e) (live : 1 ≤ cnt e) (g : Hash s cnt blk syn heads)
    (hashed : s.hash (blk e) < s.nb) where
  abbrev b : ℕ
  b = s.hash (blk e)

  abbrev own : Bucket s cnt blk syn (heads b) b
  own = g.buckets b hashed

  -- where e stands in its bucket
  pub split_e : Split e own.list
  split_e = ⊎_elim (λ o. absurd (own.every e he live refl o)) (λ x. x) (find e own.list)

  -- the synonym before e, or none
  pub prev : ℕ
  prev = last 0 split_e.before

  pub prev_is : prev ≡ last 0 split_e.before
  unfolding prev
  prev_is = refl

  abbrev cnt' : ℕ → ℕ
  cnt' = upd cnt e 0

  abbrev blk' : ℕ → ℕ
  blk' = upd blk e 0

  abbrev syn' : ℕ → ℕ
  syn' = upd (at syn prev (syn e)) e 0

  abbrev heads' : ℕ → ℕ
  heads' = upd heads b (end (heads b) prev (syn e))

  -- who is still there
  not_e : (x : ℕ) → 1 ≤ cnt' x → ¬ (x ≡ e)
  not_e x l q = omega (arith, rw (q, upd_same cnt e 0) at l)

  still : (x : ℕ) → 1 ≤ cnt' x → 1 ≤ cnt x
  still x l = rw (upd_other cnt e 0 x (not_e x l)) at l

  block : (x : ℕ) → 1 ≤ cnt' x → blk' x ≡ blk x
  block x l = upd_other blk e 0 x (not_e x l)

  -- what holds of the entries of the bucket, and of 0, holds of the one before e
  pub of_prev : (P : ℕ → Type 0) → P 0 → ((z : ℕ) → 1 ≤ cnt z → s.hash (blk z) ≡ b → P z) → P prev
  unfolding prev
  of_prev P z h =
      all_last P 0 split_e.before z
      (all_left P split_e.before (e ∷ split_e.behind) (rw split_e.whole
      at (all_map (λ z. (z ≤ s.N) × (1 ≤ cnt z) × (s.hash (blk z) ≡ b)) P own.list (λ z a. h z a.1 a.2) own.its)))

  pub its_own : All (λ z. (z ≤ s.N) × (1 ≤ cnt z) × (s.hash (blk z) ≡ b)) (split_e.before ++ (e ∷ split_e.behind))
  its_own = rw split_e.whole at own.its

  pub links_own : Sll syn (heads b) (split_e.before ++ (e ∷ split_e.behind))
  links_own = rw split_e.whole at own.links

  off_rest : Off e (split_e.before ++ split_e.behind)
  off_rest = distinct_off split_e.before e split_e.behind (sll_distinct syn (heads b) (split_e.before ++ (e ∷ split_e.behind)) links_own)

  bucket_own : Bucket s cnt' blk' syn' (end (heads b) prev (syn e)) b
  unfolding prev
  bucket_own =
      let us : List ℕ = split_e.before in
      let vs : List ℕ = split_e.behind in
      record {
        list = us ++ vs;
        links =
            sll_keep (at syn prev (syn e)) (end (heads b) prev (syn e)) (us ++ vs) e 0 off_rest
            (sll_remove syn (heads b) us e vs prev refl links_own);
        its =
            all_map_off (λ z. (z ≤ s.N) × (1 ≤ cnt z) × (s.hash (blk z) ≡ b)) (λ z. (z ≤ s.N) × (1 ≤ cnt' z) × (s.hash (blk' z) ≡ b)) e (us ++ vs)
            (λ z n a. rw (upd_other cnt e 0 z n, upd_other blk e 0 z n) a) off_rest
            (all_less (λ z. (z ≤ s.N) × (1 ≤ cnt z) × (s.hash (blk z) ≡ b)) us e vs its_own);
        every = λ x h l q o. own.every x h (still x l) (ap s.hash (sym (block x l)) ∙ q) (rw split_e.whole (off_more x us e vs (not_e x l) o));
      }

  -- an entry of another bucket
  apart : (i : ℕ) → ¬ (i ≡ b) → (k : Bucket s cnt blk syn (heads i) i) (z : ℕ) → s.hash (blk z) ≡ b → Off z k.list
  apart i n k z h =
      all_off z k.list (all_map (λ y. (y ≤ s.N) × (1 ≤ cnt y) × (s.hash (blk y) ≡ i)) (λ y. ¬ (z ≡ y)) k.list
      (λ y a q. n (sym a.2 ∙ ap (λ (t : ℕ). s.hash (blk t)) (sym q) ∙ h)) k.its)

  bucket_other : (i : ℕ) → i < s.nb → ¬ (i ≡ b) → Bucket s cnt' blk' syn' (heads i) i
  bucket_other i l n =
      let k : Bucket s cnt blk syn (heads i) i = g.buckets i l in
      let o : Off e k.list = apart i n k e refl in
      record {
        list = k.list;
        links =
            sll_keep (at syn prev (syn e)) (heads i) k.list e 0 o
            (sll_same syn (at syn prev (syn e)) (heads i) k.list
            (same_at syn prev (syn e) k.list (of_prev (λ z. Off z k.list) k.links.some (λ z a h. apart i n k z h))) k.links);
        its =
            all_map_off (λ z. (z ≤ s.N) × (1 ≤ cnt z) × (s.hash (blk z) ≡ i)) (λ z. (z ≤ s.N) × (1 ≤ cnt' z) × (s.hash (blk' z) ≡ i)) e k.list
            (λ z m a. rw (upd_other cnt e 0 z m, upd_other blk e 0 z m) a) o k.its;
        every = λ x h m q p. k.every x h (still x m) (ap s.hash (sym (block x m)) ∙ q) p;
      }

  pub unhash_hash : Hash s cnt' blk' syn' heads'
  unhash_hash =
      record {
        buckets = λ i l. go i l (ℕ_discrete i b);
        once = λ x y hx hy lx ly q. g.once x y hx hy (still x lx) (still y ly) (sym (block x lx) ∙ q ∙ block y ly);
        range = λ x h l. rw (block x l) (g.range x h (still x l));
        idle = λ x h q. none x h q (ℕ_discrete x e);
      }
    where
      go : (i : ℕ) → i < s.nb → Dec (i ≡ b) → Bucket s cnt' blk' syn' (heads' i) i
      go i l (yes q) = rw (q, upd_same heads b (end (heads b) prev (syn e))) bucket_own
      go i l (no q) = rw (upd_other heads b (end (heads b) prev (syn e)) i q) (bucket_other i l q)

      none : (x : ℕ) → Entry s x → cnt' x ≡ 0 → Dec (x ≡ e) → (blk' x ≡ 0) × (syn' x ≡ 0)
      none x h q (yes c) = rw c (upd_same blk e 0, upd_same (at syn prev (syn e)) e 0)
      none x h q (no c) =
          let z : cnt x ≡ 0 = sym (upd_other cnt e 0 x c) ∙ q in
          let i = g.idle x h z in (
            upd_other blk e 0 x c ∙ i.0,
            upd_other (at syn prev (syn e)) e 0 x c
                ∙ at_other syn prev (syn e) x (of_prev (λ y. ¬ (x ≡ y)) (λ r. omega (arith, h.0)) (λ y a k r. omega (arith, ap cnt r))) ∙ i.1,
          )
