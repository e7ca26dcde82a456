-- What the stores of links and numbers do to the fields. Assumes nothing.
use Prim.Native.Nat.{ℕ, zero, suc, ◌+◌, ◌*◌, ◌%◌, ◌≤◌, ◌<◌}
use Rattle.std.specs.Prelude.{◌≡◌, Bool, List}
use Rattle.std.proofs.Math.Path.{refl, ap, subst}
use Rattle.std.proofs.Common.{◌∙◌, sym, eqb-true}
use Rattle.std.proofs.Math.Bool.{true, false}
use native.Mathlib.Omega.{arith}
use Rattle.std.proofs.Math.Decide.{ℕ_discrete}
use Rattle.std.proofs.Math.Dec.{eqb, eqb-suc-zero}
use Rattle.basics.specs.Basics.{pick}
use Rattle.links.specs.Upd.{upd, upd_same, upd_other}
use Rattle.links.specs.Ends.{at, end}
use Rattle.words.specs.Words.{set_link, set_number}
use Rattle.layout.specs.Addresses.{HEAD, TAIL, TO-HEAD, TO-TAIL}
use Rattle.linkage.specs.Fields.{Shape, base, Fields, setF, put, put1, kind, Address, entry, ends, chain, bucket, header, in_header, View, view_put}
use Rattle.word_ops.specs.Lists.{slot_of, word_of}

pub view_same : (s : Shape) (w : List ℕ) (D E : Fields) → ((k e a : ℕ) → Address s k e a → D k e ≡ E k e) → View s w D → View s w E
view_same s w D E h g =
    record {
      some = g.some;
      long = g.long;
      holds = λ k e a p. rw (← h k e a p) (g.holds k e a p);
      small = λ k e a p. rw (← h k e a p) (g.small k e a p);
      past = g.past;
    }

-- A field replaced by an equal one.
pub view_id : (s : Shape) (w : List ℕ) (D : Fields) (k : ℕ) (f : ℕ → ℕ) → D k ≡ f → View s w D → View s w (setF D k f)
view_id s w D k f h g = view_same s w D (setF D k f) (λ j x a p. go j x (eqb j k) refl) g
  where
    go : (j x : ℕ) (t : Bool) → eqb j k ≡ t → D j x ≡ pick t f (D j) x
    go j x true c = rw (eqb-true j k c) (ap (λ (f : ℕ → ℕ). f x) h)
    go j x false c = refl

address_zero : (s : Shape) (k e a : ℕ) → Address s k e a → 20 ≤ k → e ≡ 0
address_zero s k e a (entry h1 h2 h3 h4) c = omega arith
address_zero s k e a (ends h1 h2 h3 h4) c = omega arith
address_zero s k e a (chain h1 h2 h3 h4 h5) c = omega arith
address_zero s k e a (bucket h1 h2 h3) c = omega arith
address_zero s k e a (header h1 h2 h3 h4 h5) c = omega arith

pub address_next : (s : Shape) (q : ℕ) → q ≤ s.N → Address s TO-TAIL q (slot_of HEAD (base s + TO-HEAD) q 1)
unfolding slot_of
address_next s zero h = ends refl refl (omega arith) (omega arith)
address_next s (suc q) h = rw eqb-suc-zero (entry (omega arith) (omega arith) h (omega arith))

pub address_prev : (s : Shape) (q : ℕ) → q ≤ s.N → Address s TO-HEAD q (slot_of TAIL (base s + TO-HEAD) q 0)
unfolding slot_of
address_prev s zero h = ends refl refl (omega arith) (omega arith)
address_prev s (suc q) h = rw eqb-suc-zero (entry (omega arith) (omega arith) h (omega arith))

slot_suc : (anchor b q j : ℕ) → word_of b (suc q) j ≡ slot_of anchor b (suc q) j
unfolding slot_of
slot_suc anchor b q j = rw eqb-suc-zero

-- A store at `q` of a ring whose end stands at `c` of field `a`.
abbrev pub ring_put : Fields → ℕ → ℕ → ℕ → ℕ → ℕ → Fields
ring_put D k a c q v = setF (setF D a (upd (D a) c (end (D a c) q v))) k (at (D k) q v)

upd_id : (f : ℕ → ℕ) (c x : ℕ) → f x ≡ upd f c (f c) x
upd_id f c x = go (ℕ_discrete x c)
  where
    go : Dec (x ≡ c) → f x ≡ upd f c (f c) x
    go (yes h) = rw (h, upd_same f c (f c))
    go (no h) = sym (upd_other f c (f c) x h)

module _ (s : Shape) (w : List ℕ) (D : Fields) (g : View s w D) where
  pub view_link : (k e a v : ℕ) → Address s k e a → kind k ≡ 2 → v < 268435456 → View s (set_link w a v) (put D k e v)
  unfolding set_link
  view_link k e a v p h c =
      let q : kind k * 268435456 + v ≡ 536870912 + v % 268435456 = ap (λ (t : ℕ). t * 268435456 + v) h ∙ omega arith in
      rw (← q) (view_put s w D g k e a v p c)

  pub view_number : (k e a v : ℕ) → Address s k e a → kind k ≡ 1 → v < 268435456 → View s (set_number w a v) (put D k e v)
  unfolding set_number
  view_number k e a v p h c =
      let q : kind k * 268435456 + v ≡ 268435456 + v % 268435456 = ap (λ (t : ℕ). t * 268435456 + v) h ∙ omega arith in
      rw (← q) (view_put s w D g k e a v p c)

  -- a header word
  whole : (k v : ℕ) (u : List ℕ) → 20 ≤ k → View s u (put D k 0 v) → View s u (put1 D k v)
  whole k v u h r = view_same s u (put D k 0 v) (put1 D k v) (λ j x a p. go j x a p (eqb j k) refl) r
    where
      go : (j x a : ℕ) → Address s j x a → (t : Bool) → eqb j k ≡ t → pick t (upd (D k) 0 v) (D j) x ≡ pick t (λ _. v) (D j) x
      go j x a p true c =
          let z : x ≡ 0 = address_zero s j x a p (omega (arith, eqb-true j k c)) in
          rw z (upd_same (D k) 0 v)
      go j x a p false c = refl

  pub view_link1 : (i v : ℕ) → i < 24 → ¬ (i ≡ HEAD) → ¬ (i ≡ TAIL) → kind (in_header i) ≡ 2 → v < 268435456
      → View s (set_link w i v) (put1 D (in_header i) v)
  view_link1 i v h1 h2 h3 h c = whole (in_header i) v (set_link w i v) (omega arith) (view_link (in_header i) 0 i v (header refl refl h1 h2 h3) h c)

  pub view_number1 : (i v : ℕ) → i < 24 → ¬ (i ≡ HEAD) → ¬ (i ≡ TAIL) → kind (in_header i) ≡ 1 → v < 268435456
      → View s (set_number w i v) (put1 D (in_header i) v)
  view_number1 i v h1 h2 h3 h c =
      whole (in_header i) v (set_number w i v) (omega arith) (view_number (in_header i) 0 i v (header refl refl h1 h2 h3) h c)

  pub view_ring : (k a c q v anchor b j : ℕ) → eqb k a ≡ false → kind k ≡ 2 → kind a ≡ 2 → Address s a c anchor
      → (1 ≤ q → Address s k q (word_of b q j)) → v < 268435456 → View s (set_link w (slot_of anchor b q j) v) (ring_put D k a c q v)
  unfolding slot_of
  view_ring k a c zero v anchor b j n hk ha p r h =
      view_id s (set_link w anchor v) (put D a c v) k (D k) (rw n) (view_link a c anchor v p ha h)
  view_ring k a c (suc q) v anchor b j n hk ha p r h =
      subst (λ (y : ℕ). View s (set_link w y v) (ring_put D k a c (suc q) v)) (slot_suc anchor b q j)
      (view_same s (set_link w (word_of b (suc q) j) v) (put D k (suc q) v) (ring_put D k a c (suc q) v) (λ i x y o. one i x (eqb i k))
      (view_link k (suc q) (word_of b (suc q) j) v (r (omega arith)) hk h))
    where
      two : (i x : ℕ) (t : Bool) → eqb i a ≡ t → D i x ≡ pick t (upd (D a) c (D a c)) (D i) x
      two i x true y = rw (eqb-true i a y) (upd_id (D a) c x)
      two i x false y = refl

      one : (i x : ℕ) (t : Bool) → pick t (upd (D k) (suc q) v) (D i) x ≡ pick t (at (D k) (suc q) v)
          (pick (eqb i a) (upd (D a) c (end (D a c) (suc q) v)) (D i)) x
      one i x true = rw eqb-suc-zero
      one i x false = rw eqb-suc-zero (two i x (eqb i a) refl)
