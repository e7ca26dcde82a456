-- An entry takes a block and goes to the front of its bucket. Assumes nothing.
use Rattle.std.specs.Prelude.{ℕ, ◌≤◌, ◌<◌, ◌≡◌, ◌∷◌}
use Rattle.std.proofs.Common.{◌∙◌, sym, ap, arith}
use Rattle.std.proofs.Math.Decide.{ℕ_discrete}
use Rattle.basics.specs.Basics.{All}
use Rattle.basics.specs.AllLaws.{all_map}
use Rattle.links.specs.Upd.{upd, upd_same, upd_other}
use Rattle.links.specs.Off.{Off}
use Rattle.links.proofs.Sll.{sll_keep, sll_push}
use Rattle.links.specs.All.{all_map_off, all_off}
use Rattle.linkage.specs.Fields.{Shape}
use Rattle.linkage.specs.WellLinked.{Hash, Bucket, Entry}

module _ (s : Shape) (cnt blk syn heads : ℕ → ℕ) (e n c : ℕ) (he : Entry s e) (out : cnt e ≡ 0) (some : 1 ≤ c) (room : n < s.M)
    (hashed : s.hash n < s.nb)
    (absent : (x : ℕ) → Entry s x → 1 ≤ cnt x → ¬ (blk x ≡ n)) (g : Hash s cnt blk syn heads) where
  abbrev cnt' : ℕ → ℕ
  cnt' = upd cnt e c

  abbrev blk' : ℕ → ℕ
  blk' = upd blk e n

  abbrev b : ℕ
  b = s.hash n

  abbrev syn' : ℕ → ℕ
  syn' = upd syn e (heads b)

  off : (i : ℕ) (l : i < s.nb) → Off e (g.buckets i l).list
  off i l =
      all_off e (g.buckets i l).list (all_map (λ z. (z ≤ s.N) × (1 ≤ cnt z) × (s.hash (blk z) ≡ i)) (λ z. ¬ (e ≡ z)) (g.buckets i l).list
      (λ z a q. omega (arith, ap cnt q)) (g.buckets i l).its)

  still : (x : ℕ) → ¬ (x ≡ e) → 1 ≤ cnt' x → 1 ≤ cnt x
  still x h l = rw (upd_other cnt e c x h) at l

  its : (i : ℕ) (l : i < s.nb) → All (λ z. (z ≤ s.N) × (1 ≤ cnt' z) × (s.hash (blk' z) ≡ i)) (g.buckets i l).list
  its i l =
      all_map_off (λ z. (z ≤ s.N) × (1 ≤ cnt z) × (s.hash (blk z) ≡ i)) (λ z. (z ≤ s.N) × (1 ≤ cnt' z) × (s.hash (blk' z) ≡ i)) e
      (g.buckets i l).list (λ z m a. rw (upd_other cnt e c z m, upd_other blk e n z m) a) (off i l) (g.buckets i l).its

  bucket_own : Bucket s cnt' blk' syn' e b
  bucket_own =
      let k : Bucket s cnt blk syn (heads b) b = g.buckets b hashed in
      record {
        list = e ∷ k.list;
        links = sll_push syn (heads b) e k.list (λ q. omega (arith, he.0), off b hashed) k.links;
        its = ((he.1, rw (upd_same cnt e c) some, ap s.hash (upd_same blk e n)), its b hashed);
        every = λ x h l q o. k.every x h (still x o.0 l) (ap s.hash (sym (upd_other blk e n x o.0)) ∙ q) o.1;
      }

  bucket_other : (i : ℕ) → i < s.nb → ¬ (i ≡ b) → Bucket s cnt' blk' syn' (heads i) i
  bucket_other i l m =
      let k : Bucket s cnt blk syn (heads i) i = g.buckets i l in
      record {
        list = k.list;
        links = sll_keep syn (heads i) k.list e (heads b) (off i l) k.links;
        its = its i l;
        every = λ x h a q o. go x h a q o (ℕ_discrete x e);
      }
    where
      go : (x : ℕ) → Entry s x → 1 ≤ cnt' x → s.hash (blk' x) ≡ i → Off x (g.buckets i l).list → Dec (x ≡ e) → ⊥
      go x h a q o (yes r) = m (sym q ∙ ap s.hash (ap blk' r ∙ upd_same blk e n))
      go x h a q o (no r) = (g.buckets i l).every x h (still x r a) (ap s.hash (sym (upd_other blk e n x r)) ∙ q) o

  pub hash_enter : Hash s cnt' blk' syn' (upd heads b e)
  hash_enter =
      record {
        buckets = λ i l. go i l (ℕ_discrete i b);
        once = λ x y hx hy lx ly q. one x y hx hy lx ly q (ℕ_discrete x e) (ℕ_discrete y e);
        range = λ x h l. two x h l (ℕ_discrete x e);
        idle = λ x h q. none x h q (ℕ_discrete x e);
      }
    where
      go : (i : ℕ) → i < s.nb → Dec (i ≡ b) → Bucket s cnt' blk' syn' (upd heads b e i) i
      go i l (yes q) = rw (q, upd_same heads b e) bucket_own
      go i l (no q) = rw (upd_other heads b e i q) (bucket_other i l q)

      one : (x y : ℕ) → Entry s x → Entry s y → 1 ≤ cnt' x → 1 ≤ cnt' y → blk' x ≡ blk' y → Dec (x ≡ e) → Dec (y ≡ e) → x ≡ y
      one x y hx hy lx ly q (yes a) (yes b) = a ∙ sym b
      one x y hx hy lx ly q (yes a) (no b) =
          absurd (absent y hy (still y b ly) (sym (upd_other blk e n y b) ∙ sym q ∙ ap blk' a ∙ upd_same blk e n))
      one x y hx hy lx ly q (no a) (yes b) =
          absurd (absent x hx (still x a lx) (sym (upd_other blk e n x a) ∙ q ∙ ap blk' b ∙ upd_same blk e n))
      one x y hx hy lx ly q (no a) (no b) =
          g.once x y hx hy (still x a lx) (still y b ly) (sym (upd_other blk e n x a) ∙ q ∙ upd_other blk e n y b)

      two : (x : ℕ) → Entry s x → 1 ≤ cnt' x → Dec (x ≡ e) → blk' x < s.M
      two x h l (yes q) = rw (q, upd_same blk e n) room
      two x h l (no q) = rw (upd_other blk e n x q) (g.range x h (still x q l))

      none : (x : ℕ) → Entry s x → cnt' x ≡ 0 → Dec (x ≡ e) → (blk' x ≡ 0) × (syn' x ≡ 0)
      none x h q (yes r) = absurd (omega (arith, rw (r, upd_same cnt e c) at q))
      none x h q (no r) =
          let i = g.idle x h (sym (upd_other cnt e c x r) ∙ q) in
          (upd_other blk e n x r ∙ i.0, upd_other syn e (heads b) x r ∙ i.1)
