-- Sums over the entries, and counts that keep who is resident.
use Rattle.std.specs.Prelude.{ℕ, zero, suc, ◌+◌, ◌%◌, ◌≤◌, ◌≡◌, refl}
use Rattle.std.proofs.Common.{ap, arith}
use Rattle.std.proofs.Math.Decide.{ℕ_discrete, dec_le}
use Rattle.basics.specs.AllLaws.{all_map}
use Rattle.links.specs.Upd.{upd, upd_same, upd_other}
use Rattle.linkage.specs.Fields.{Shape}
use Rattle.linkage.specs.WellLinked.{Sum, Hash, Flags}

-- ---- sums

pub sum_same : (n : ℕ) (f g : ℕ → ℕ) → ((x : ℕ) → 1 ≤ x → x ≤ n → f x ≡ g x) → Sum n f ≡ Sum n g
unfolding Sum
sum_same zero f g h = refl
sum_same (suc n) f g h = rw (h (suc n) (omega arith) (omega arith), sum_same n f g (λ x a b. h x a (omega arith)))

pub sum_upd : (n : ℕ) (f : ℕ → ℕ) (e v : ℕ) → 1 ≤ e → e ≤ n → Sum n (upd f e v) + f e ≡ Sum n f + v
unfolding Sum
sum_upd zero f e v a b = absurd (omega arith)
sum_upd (suc n) f e v a b = go (ℕ_discrete e (suc n)) (sum_upd n f e v a)
  where
    go : Dec (e ≡ suc n) → (e ≤ n → Sum n (upd f e v) + f e ≡ Sum n f + v) → upd f e v (suc n) + Sum n (upd f e v) + f e ≡ f (suc n) + Sum n f + v
    go (yes c) ih =
        let q : Sum n (upd f e v) ≡ Sum n f = sum_same n (upd f e v) f (λ x i j. upd_other f e v x (omega arith)) in
        let r : upd f e v (suc n) ≡ v = rw c (upd_same f (suc n) v) in
        let k : f e ≡ f (suc n) = ap f c in
        omega arith
    go (no c) ih =
        let r : upd f e v (suc n) ≡ f (suc n) = upd_other f e v (suc n) (omega arith) in
        omega (arith, ih (omega arith))

-- of the lowest bits
pub sum_bits : (n : ℕ) (f : ℕ → ℕ) (e v : ℕ) → 1 ≤ e → e ≤ n → Sum n (λ x. upd f e v x % 2) + f e % 2 ≡ Sum n (λ x. f x % 2) + v % 2
sum_bits n f e v a b =
    rw (sum_same n (λ x. upd f e v x % 2) (upd (λ x. f x % 2) e (v % 2)) (λ x i j. one x (ℕ_discrete x e))) (sum_upd n (λ x. f x % 2) e (v % 2) a b)
  where
    one : (x : ℕ) → Dec (x ≡ e) → upd f e v x % 2 ≡ upd (λ x. f x % 2) e (v % 2) x
    one x (yes q) = rw (q, upd_same f e v, upd_same (λ x. f x % 2) e (v % 2))
    one x (no q) = rw (upd_other f e v x q, upd_other (λ x. f x % 2) e (v % 2) x q)

-- ---- counts that keep who is resident

pub record Alive (cnt cnt' : ℕ → ℕ) : Type 0 where
  pub to : (x : ℕ) → 1 ≤ cnt x → 1 ≤ cnt' x
  pub of : (x : ℕ) → 1 ≤ cnt' x → 1 ≤ cnt x

pub alive_zero : (cnt cnt' : ℕ → ℕ) (x : ℕ) → Alive cnt cnt' → cnt' x ≡ 0 → cnt x ≡ 0
alive_zero cnt cnt' x a q = go (dec_le 1 (cnt x))
  where
    go : Dec (1 ≤ cnt x) → cnt x ≡ 0
    go (yes h) = absurd (omega (arith, a.to x h))
    go (no h) = omega arith

pub alive_upd : (cnt : ℕ → ℕ) (e c : ℕ) → 1 ≤ cnt e → 1 ≤ c → Alive cnt (upd cnt e c)
alive_upd cnt e c h l = record { to = λ x a. one x a (ℕ_discrete x e); of = λ x a. two x a (ℕ_discrete x e) }
  where
    one : (x : ℕ) → 1 ≤ cnt x → Dec (x ≡ e) → 1 ≤ upd cnt e c x
    one x a (yes q) = rw (q, upd_same cnt e c) l
    one x a (no q) = rw (upd_other cnt e c x q) a

    two : (x : ℕ) → 1 ≤ upd cnt e c x → Dec (x ≡ e) → 1 ≤ cnt x
    two x a (yes q) = rw q h
    two x a (no q) = rw (upd_other cnt e c x q) at a

pub hash_alive : (s : Shape) (cnt cnt' blk syn heads : ℕ → ℕ) → Alive cnt cnt' → Hash s cnt blk syn heads → Hash s cnt' blk syn heads
hash_alive s cnt cnt' blk syn heads a g =
    record {
      buckets = λ b l. let k = g.buckets b l in record {
        list = k.list;
        links = k.links;
        its =
            all_map (λ z. (z ≤ s.N) × (1 ≤ cnt z) × (s.hash (blk z) ≡ b)) (λ z. (z ≤ s.N) × (1 ≤ cnt' z) × (s.hash (blk z) ≡ b)) k.list
            (λ z h. (h.0, a.to z h.1, h.2)) k.its;
        every = λ x h1 h2 h3 o. k.every x h1 (a.of x h2) h3 o;
      };
      once = λ x y h1 h2 h3 h4 q. g.once x y h1 h2 (a.of x h3) (a.of y h4) q;
      range = λ x h l. g.range x h (a.of x l);
      idle = λ x h q. g.idle x h (alive_zero cnt cnt' x a q);
    }

pub flags_alive : (s : Shape) (cnt cnt' dirty : ℕ → ℕ) (r w i o : ℕ) → Alive cnt cnt' → Flags s cnt dirty r w i o → Flags s cnt' dirty r w i o
flags_alive s cnt cnt' dirty r w i o a g =
    record { bits = g.bits; idle = λ x h q. g.idle x h (alive_zero cnt cnt' x a q); in_read = g.in_read; out_written = g.out_written }
