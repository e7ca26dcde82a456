-- The resident of a block, by the synonyms of its bucket. Assumes nothing.
use Rattle.std.specs.Prelude.{Option as Optional, Some, None}
use Rattle.std.specs.Prelude.{ℕ, zero, suc, ◌+◌, ◌*◌, ◌≤◌, ◌≡◌, Bool, true, false, ◌⊎◌, List, [], ◌∷◌, ◌++◌, eqb, length}
use Rattle.std.proofs.Math.Path.{refl, ap, subst⁻¹}
use Rattle.std.proofs.Common.{◌∙◌, sym, true≢false, inl, inr, ⊎_elim, arith, length-append, eq-eqb, ne_eqb}
use Rattle.std.proofs.Math.Option.{Option, none, some}
use Rattle.std.proofs.Math.Decide.{ℕ_discrete}
use Rattle.basics.specs.Basics.{pick, All, when◌then◌else◌}
use Rattle.basics.specs.AllLaws.{all_map, all_both, all_join}
use Rattle.links.specs.Off.{Off, off_join}
use Rattle.links.specs.Run.{Run}
use Rattle.links.proofs.Sll.{sll_distinct}
use Rattle.links.specs.All.{all_off, off_all, all_here}
use Rattle.links.specs.Find.{Split, find, few, all_there}
use Rattle.words.specs.Words.{val}
use Rattle.stack.specs.Recency.{Resident, lookup}
use Rattle.layout.specs.Addresses.{UNUSED, BLOCK, COUNT, SECTION, TO-HEAD, TO-TAIL, NEXT-SYNONYM}
use Rattle.linkage.specs.Fields.{Shape, Fields, base, entry, bucket, BUCKET-HEADS, in_header, View, view_get}
use Rattle.linkage.specs.WellLinked.{WellLinked, Bucket, Entry}
use Rattle.word_ops.specs.Lists.{word_of}
use Rattle.word_ops.specs.Buckets.{searched, found}
use Rattle.operations.specs.Directory.{Directory}
use Rattle.operations.specs.Laws.{all_below, distinct_join}
use Rattle.operations.specs.Residents.{resident, residents_of}
use Rattle.operations.specs.Places.{missing, lookup_here, lookup_none}
use Rattle.operations.specs.Enter.{NoneHas}

-- ---- over the fields

unfoldable pub soughtD : Fields → ℕ → ℕ → ℕ → ℕ
soughtD D b zero x = 0
soughtD D b (suc n) x = let r = soughtD D b n (D NEXT-SYNONYM x) in pick (eqb x 0) 0 (pick (eqb (D BLOCK x) b) x r)

-- what the code answers for it
abbrev pub answer : ℕ → Optional ℕ
answer e = pick (eqb e 0) None (Some e)

-- the words' walk is the fields'
searched_view : (s : Shape) (w : List ℕ) (D : Fields) (b n x : ℕ) (zs : List ℕ) → View s w D → Run (D NEXT-SYNONYM) x zs 0 → Off 0 zs
    → All (Entry s) zs → searched w (base s) b n x ≡ answer (soughtD D b n x)
unfolding searched soughtD
searched_view s w D b zero x zs v r o a = refl
searched_view s w D b (suc n) x [] v r o a = rw (eq-eqb x 0 r)
searched_view s w D b (suc n) x (z ∷ zs) v r o a =
    let p : val w (word_of (base s) x BLOCK) ≡ D BLOCK x = rw r.0
    (view_get s w D v BLOCK z (word_of (base s) z BLOCK) (entry (omega arith) a.0.0 a.0.1 refl)) in
    let q : val w (word_of (base s) x NEXT-SYNONYM) ≡ D NEXT-SYNONYM x =
    rw r.0 (view_get s w D v NEXT-SYNONYM z (word_of (base s) z NEXT-SYNONYM) (entry (omega arith) a.0.0 a.0.1 refl)) in
    let k : searched w (base s) b n (D NEXT-SYNONYM x) ≡ answer (soughtD D b n (D NEXT-SYNONYM x)) =
    searched_view s w D b n (D NEXT-SYNONYM x) zs v (rw r.0 r.1) o.1 a.1 in
    rw (p, q, k) (go (eqb (D BLOCK x) b) (eqb x 0) refl (ne_eqb x 0 (λ c. o.0 (sym c ∙ r.0))))
  where
    go : (t u : Bool) → eqb x 0 ≡ u → u ≡ false → pick u None (pick t (Some x) (answer (soughtD D b n (D NEXT-SYNONYM x)))) ≡ answer
        (pick u 0 (pick t x (soughtD D b n (D NEXT-SYNONYM x))))
    go t true e c = absurd (true≢false c)
    go true false e c = rw e
    go false false e c = refl

-- what a walk over these entries finds: none, or the holder of the block
abbrev Seeks : Fields → ℕ → ℕ → List ℕ → Type 0
Seeks D b v l = ((v ≡ 0) × All (λ y. ¬ (D BLOCK y ≡ b)) l) ⊎ ((D BLOCK v ≡ b) × (Off v l → ⊥))

-- what the walk finds
sought_run : (D : Fields) (b n x : ℕ) (zs : List ℕ) → Run (D NEXT-SYNONYM) x zs 0 → Off 0 zs → length zs ≤ n
    → ((soughtD D b n x ≡ 0) × All (λ z. ¬ (D BLOCK z ≡ b)) zs) ⊎ ((D BLOCK (soughtD D b n x) ≡ b) × (Off (soughtD D b n x) zs → ⊥))
unfolding soughtD
sought_run D b zero x [] r o l = inl (refl, tt)
sought_run D b zero x (z ∷ zs) r o l = absurd (omega arith)
sought_run D b (suc n) x [] r o l = inl (rw (eq-eqb x 0 r), tt)
sought_run D b (suc n) x (z ∷ zs) r o l =
    subst⁻¹ (λ (v : ℕ). Seeks D b v (z ∷ zs)) here
    (go (ℕ_discrete (D BLOCK z) b) (sought_run D b n (D NEXT-SYNONYM z) zs r.1 o.1 (omega arith)))
  where
    here : soughtD D b (suc n) x ≡ pick (eqb (D BLOCK z) b) z (soughtD D b n (D NEXT-SYNONYM z))
    here = rw (r.0, ne_eqb z 0 (λ c. o.0 (sym c)))

    go : Dec (D BLOCK z ≡ b) → Seeks D b (soughtD D b n (D NEXT-SYNONYM z)) zs
        → Seeks D b (pick (eqb (D BLOCK z) b) z (soughtD D b n (D NEXT-SYNONYM z))) (z ∷ zs)
    go (yes q) k = subst⁻¹ (λ (t : Bool). Seeks D b (pick t z (soughtD D b n (D NEXT-SYNONYM z))) (z ∷ zs))
        (eq-eqb (D BLOCK z) b q) (inr (q, λ p. p.0 refl))
    go (no q) (inl k) = subst⁻¹ (λ (t : Bool). Seeks D b (pick t z (soughtD D b n (D NEXT-SYNONYM z))) (z ∷ zs))
        (ne_eqb (D BLOCK z) b q) (inl (k.0, (q, k.1)))
    go (no q) (inr k) = subst⁻¹ (λ (t : Bool). Seeks D b (pick t z (soughtD D b n (D NEXT-SYNONYM z))) (z ∷ zs))
        (ne_eqb (D BLOCK z) b q) (inr (k.0, λ p. k.1 p.1))

-- ---- in a sound directory

-- e is the resident of block b
pub record Holder (D : Fields) (b : ℕ) (residents : List ℕ) (e : ℕ) : Type 0 where
  pub before : List ℕ
  pub behind : List ℕ
  pub whole : residents ≡ before ++ (e ∷ behind)
  pub block : D BLOCK e ≡ b
  pub some : 1 ≤ e

module _ (s : Shape) (D : Fields) (residents unused : List ℕ) (g : WellLinked s D residents unused) where
  -- an entry with a count stands in the stack
  pub in_stack : (x : ℕ) → Entry s x → 1 ≤ D COUNT x → Split x residents
  in_stack x h l = ⊎_elim (λ o. absurd (⊎_elim (λ p. none o p) (λ k. idle k) (find x unused))) (λ k. k) (find x residents)
    where
      none : Off x residents → Off x unused → ⊥
      none o p =
          all_there s.N (residents ++ unused) (all_below s.N (residents ++ unused)
          (all_join (λ z. z ≤ s.N) residents unused g.stack.bound
          (all_map (λ y. (y ≤ s.N) × (D TO-HEAD y ≡ 0) × (D SECTION y ≡ 0)) (λ y. y ≤ s.N) unused (λ y k. k.0) g.stack.idle)))
          (off_join 0 residents unused g.stack.ring.some g.stack.free.some)
          (distinct_join residents unused g.stack.ring.once (sll_distinct (D TO-TAIL) (D (in_header UNUSED) 0) unused g.stack.free)
          g.stack.apart) (length-append residents unused ∙ g.stack.whole) x (λ q. omega (arith, h.0)) h.1
          (off_join x residents unused o p)

      idle : Split x unused → ⊥
      idle k = omega (arith, all_here (λ y. D COUNT y ≡ 0) k.before x k.behind (rw k.whole at g.count.idle))

  module _ (b : ℕ) where
    abbrev own : Bucket s (D COUNT) (D BLOCK) (D NEXT-SYNONYM) (D BUCKET-HEADS (s.hash b)) (s.hash b)
    own = g.hash.buckets (s.hash b) (g.legal.hashed b)

    abbrev zs : List ℕ
    zs = own.list

    pub its_entries : All (Entry s) zs
    its_entries =
        all_map (λ z. ((z ≤ s.N) × (1 ≤ D COUNT z) × (s.hash (D BLOCK z) ≡ s.hash b)) × (¬ (0 ≡ z))) (Entry s) zs
        (λ z a. (let q : ¬ (0 ≡ z) = a.1 in omega arith, a.0.0))
        (all_both (λ z. (z ≤ s.N) × (1 ≤ D COUNT z) × (s.hash (D BLOCK z) ≡ s.hash b)) (λ z. ¬ (0 ≡ z)) zs own.its
        (off_all 0 zs own.links.some))

    its_few : length zs ≤ s.N
    its_few =
        let f : length (0 ∷ zs) ≤ suc s.N = few (suc s.N) (0 ∷ zs)
        (omega arith, all_below s.N zs (all_map (Entry s) (λ z. z ≤ s.N) zs (λ z h. h.1) its_entries))
        (own.links.some, sll_distinct (D NEXT-SYNONYM) (D BUCKET-HEADS (s.hash b)) zs own.links) in
        omega arith

    -- THE LOOKUP: 0 exactly if no resident has the block, else the one that has it
    pub lookup_is : (n : ℕ) → s.N ≤ n → let r : ℕ = soughtD D b n (D BUCKET-HEADS (s.hash b)) in ((r ≡ 0) × NoneHas s D b) ⊎ Holder D b residents r
    lookup_is n h =
        ⊎_elim (λ k. inl (k.0, away k.1)) (λ k. inr (there (soughtD D b n (D BUCKET-HEADS (s.hash b))) k.0 k.1))
        (sought_run D b n (D BUCKET-HEADS (s.hash b)) zs own.links.fwd own.links.some (omega (arith, its_few)))
      where
        away : All (λ z. ¬ (D BLOCK z ≡ b)) zs → NoneHas s D b
        away a x hx l q =
            own.every x hx l (ap s.hash q) (all_off x zs
            (all_map (λ z. ¬ (D BLOCK z ≡ b)) (λ z. ¬ (x ≡ z)) zs (λ z k c. k (ap (D BLOCK) (sym c) ∙ q)) a))

        there : (e : ℕ) → D BLOCK e ≡ b → (Off e zs → ⊥) → Holder D b residents e
        there e q m =
            let k : Split e zs = ⊎_elim (λ o. absurd (m o)) (λ k. k) (find e zs) in
            let a : Entry s e = all_here (Entry s) k.before e k.behind (rw k.whole at its_entries) in
            let c = all_here (λ z. (z ≤ s.N) × (1 ≤ D COUNT z) × (s.hash (D BLOCK z) ≡ s.hash b)) k.before e k.behind
            (rw k.whole at own.its) in
            let p : Split e residents = in_stack e a c.1 in
            record { before = p.before; behind = p.behind; whole = p.whole; block = q; some = a.0 }

    -- as the recency stack has it
    pub lookup_seen : (n : ℕ) → s.N ≤ n → let r : ℕ = soughtD D b n (D BUCKET-HEADS (s.hash b)) in lookup b
        (residents_of D residents) ≡ (when eqb r 0 then none else some (resident D r))
    lookup_seen n h =
        ⊎_elim (λ k. one (soughtD D b n (D BUCKET-HEADS (s.hash b))) k.0 k.1) (λ k. two (soughtD D b n (D BUCKET-HEADS (s.hash b))) k)
        (lookup_is n h)
      where
        one : (r : ℕ) → r ≡ 0 → NoneHas s D b → lookup b (residents_of D residents) ≡ (when eqb r 0 then none else some (resident D r))
        one r q a = rw (eq-eqb r 0 q) (lookup_none D b residents (missing s D residents unused b g a))

        at : (residents above : List ℕ) (e : ℕ) (below : List ℕ) → residents ≡ above ++ (e ∷ below) → WellLinked s D residents unused
            → lookup (D BLOCK e) (residents_of D residents) ≡ some (resident D e)
        at residents above e below w g = rw w (lookup_here s D above e below unused (rw w at g))

        two : (r : ℕ) → Holder D b residents r → lookup b (residents_of D residents) ≡ (when eqb r 0 then none else some (resident D r))
        two r k =
            let z : ¬ (r ≡ 0) = λ c. omega (arith, k.some) in
            rw (ne_eqb r 0 z, ← k.block) (at residents k.before r k.behind k.whole g)

-- ---- over the words

-- what an answer says
abbrev pub Told : Shape → Fields → ℕ → List ℕ → Optional ℕ → Type 0
Told s D b residents None = NoneHas s D b
Told s D b residents (Some e) = Holder D b residents e

abbrev pub as_option : Fields → Optional ℕ → Option (Resident ℕ)
as_option D None = none
as_option D (Some e) = some (resident D e)

module _ (s : Shape) (w : List ℕ) (D : Fields) (residents unused : List ℕ) (b n : ℕ) (g : Directory s w D residents unused) where
  abbrev r : ℕ
  r = soughtD D b n (D BUCKET-HEADS (s.hash b))

  found_view : found w (base s) n (24 + 2 * s.cmax + s.hash b) b ≡ answer r
  unfolding found
  found_view =
      let h = g.linked in
      let k = h.hash.buckets (s.hash b) (h.legal.hashed b) in
      ap (searched w (base s) b n) (view_get s w D g.view BUCKET-HEADS (s.hash b) (24 + 2 * s.cmax + s.hash b)
      (bucket refl (h.legal.hashed b) refl))
      ∙ searched_view s w D b n (D BUCKET-HEADS (s.hash b)) k.list g.view k.links.fwd k.links.some
      (its_entries s D residents unused h b)

  -- THE LOOKUP: the entry is that of the resident of block b, or no resident has it
  pub find_is : s.N ≤ n → Told s D b residents (found w (base s) n (24 + 2 * s.cmax + s.hash b) b)
  find_is h = rw found_view (⊎_elim (λ k. one r k.0 k.1) (λ k. two r k) (lookup_is s D residents unused g.linked b n h))
    where
      one : (e : ℕ) → e ≡ 0 → NoneHas s D b → Told s D b residents (answer e)
      one e q a = rw (eq-eqb e 0 q) a

      two : (e : ℕ) → Holder D b residents e → Told s D b residents (answer e)
      two e k = rw (ne_eqb e 0 (λ c. omega (arith, k.some))) k

  pub find_seen : s.N ≤ n → lookup b (residents_of D residents) ≡ as_option D (found w (base s) n (24 + 2 * s.cmax + s.hash b) b)
  find_seen h = lookup_seen s D residents unused g.linked b n h ∙ rw found_view (go (eqb r 0))
    where
      go : (t : Bool) → (when t then none else some (resident D r)) ≡ as_option D (pick t None (Some r))
      go true = refl
      go false = refl
