-- What the stores of an entry do to the fields. Assumes nothing.
use Prim.Native.Nat.{ℕ, ◌+◌, ◌*◌, ◌≤◌, ◌<◌}
use Rattle.std.specs.Prelude.{◌≡◌, Bool, true, false, T, leb}
use Rattle.std.proofs.Math.Path.{refl}
use mathlib.Core.List.{List}
use Rattle.std.proofs.Common.{arith}
use Rattle.basics.specs.Basics.{pick}
use Rattle.words.specs.Words.{val, set_link, set_number}
use Rattle.layout.specs.ModifiedWord.{is_modified_word}
use Rattle.layout.specs.Addresses.{RESIDENTS, HEAD, TAIL, NEW-BOUNDARY, OLD-BOUNDARY, UNUSED, BLOCK, SECTION, MODIFIED, TO-HEAD, TO-TAIL, NEXT-SYNONYM}
use Rattle.linkage.specs.Fields.{Shape, base, Fields, setF, put, put1, kind, Address, bucket, header, BUCKET-HEADS, in_header, View, view_get}
use Rattle.linkage.specs.WellLinked.{Entry}
use Rattle.word_ops.specs.Lists.{slot_of, pushed, word_of}
use Rattle.word_ops.specs.Hit.{boundary_to}
use Rattle.word_ops.specs.Enter.{boundary_pushed, boundary_pushed_if, stack_entered, filled}
use Rattle.word_ops.specs.Buckets.{bucket_joined}
use Rattle.operations.specs.Stores.{view_id, view_link, view_number, view_link1, view_number1, address_prev}
use Rattle.operations.specs.FieldOps.{rise, pop, rise_old, rise_both, stack_on, rehash}
use Rattle.operations.specs.Seen.{address, view_stack_in}
use Rattle.operations.specs.MarkLaws.{word_small}

-- who comes to stand where a section begins
abbrev pub Rising : Shape → Fields → ℕ → Type 0
Rising s D i = (D i 0 ≤ s.N) × Entry s (D TO-HEAD (D i 0)) × (D SECTION (D TO-HEAD (D i 0)) < 268435455)

module _ (s : Shape) (w : List ℕ) (D : Fields) (g : View s w D) (few : s.N < 268435456) where
  pub view_boundary_pushed_if : (i k r : ℕ) → i < 24 → ¬ (i ≡ HEAD) → ¬ (i ≡ TAIL) → kind (in_header i) ≡ 2
      → setF D SECTION (D SECTION) (in_header i) ≡ D (in_header i) → (leb k r ≡ true → Rising s D (in_header i))
      → View s (boundary_pushed_if w (base s) i k r) (rise (leb k r) D (in_header i))
  unfolding boundary_pushed_if boundary_pushed boundary_to
  view_boundary_pushed_if i k r h1 h2 h3 hk hi hb =
      rw (view_get s w D g (in_header i) 0 i (header refl refl h1 h2 h3)) (go (leb k r) refl)
    where
      b : ℕ
      b = D (in_header i) 0

      n : ℕ
      n = D TO-HEAD b

      go : (t : Bool) → leb k r ≡ t → View s (pick t (set_link
          (set_number w (word_of (base s) (val w (slot_of TAIL (base s + TO-HEAD) b 0)) SECTION)
          (val w (word_of (base s) (val w (slot_of TAIL (base s + TO-HEAD) b 0)) SECTION) + 1)) i (val w (slot_of TAIL (base s + TO-HEAD) b 0))) w)
          (rise t D (in_header i))
      go true q =
          let m = hb q in
          let s2 : Address s SECTION n (word_of (base s) n SECTION) = address s SECTION n (word_of (base s) n SECTION) (omega arith) m.1 refl in
          let g1 = view_number s w D g SECTION n (word_of (base s) n SECTION) (D SECTION n + 1) s2 refl (omega (arith, m.2)) in
          rw (
            view_get s w D g TO-HEAD b (slot_of TAIL (base s + TO-HEAD) b 0) (address_prev s b m.0),
            view_get s w D g SECTION n
                (word_of (base s) n SECTION) s2,
          )
          (view_link1 s (set_number w (word_of (base s) n SECTION) (D SECTION n + 1)) (put D SECTION n (D SECTION n + 1)) g1 i n h1 h2 h3 hk
          (omega (arith, m.1.1)))
      go false q = view_id s w (setF D SECTION (D SECTION)) (in_header i) (D (in_header i)) hi (view_id s w D SECTION (D SECTION) refl g)

module _ (s : Shape) (w : List ℕ) (D : Fields) (g : View s w D) (few : s.N < 268435456) where
  pub view_stack_entered : (e : ℕ) → Entry s e → D TO-TAIL 0 ≤ s.N → D (in_header RESIDENTS) 0 < s.N
      → (leb s.old (D (in_header RESIDENTS) 0) ≡ true → Rising s (pop D e) (in_header OLD-BOUNDARY))
      → (leb s.new (D (in_header RESIDENTS) 0) ≡ true → Rising s (rise_old s D e (D (in_header RESIDENTS) 0)) (in_header NEW-BOUNDARY))
      → View s (stack_entered w (base s) s.new s.old e (D (in_header RESIDENTS) 0)) (stack_on s D e)
  unfolding stack_entered
  view_stack_entered e he hh hr ho hn =
      let r : ℕ = D (in_header RESIDENTS) 0 in
      let s5 : Address s TO-TAIL e (word_of (base s) e TO-TAIL) = address s TO-TAIL e (word_of (base s) e TO-TAIL) (omega arith) he refl in
      let D1 : Fields = put1 D (in_header UNUSED) (D TO-TAIL e) in
      let D2 : Fields = pop D e in
      let D3 : Fields = rise_old s D e r in
      let D4 : Fields = rise_both s D e r in
      let w1 : List ℕ = set_link w UNUSED (D TO-TAIL e) in
      let w2 : List ℕ = pushed w1 HEAD TAIL (base s + TO-HEAD) e in
      let w3 : List ℕ = boundary_pushed_if w2 (base s) OLD-BOUNDARY s.old r in
      let w4 : List ℕ = boundary_pushed_if w3 (base s) NEW-BOUNDARY s.new r in
      let g1 : View s w1 D1 = view_link1 s w D g UNUSED (D TO-TAIL e) (omega arith) (omega arith) (omega arith) refl
      (g.small TO-TAIL e (word_of (base s) e TO-TAIL) s5) in
      let g2 : View s w2 D2 = view_stack_in s w1 D1 g1 few e he hh in
      let g3 : View s w3 D3 = view_boundary_pushed_if s w2 D2 g2 few OLD-BOUNDARY s.old r (omega arith) (omega arith) (omega arith) refl refl ho in
      let g4 : View s w4 D4 = view_boundary_pushed_if s w3 D3 g3 few NEW-BOUNDARY s.new r (omega arith) (omega arith) (omega arith) refl refl hn in
      rw (view_get s w D g TO-TAIL e (word_of (base s) e TO-TAIL) s5)
      (view_number1 s w4 D4 g4 RESIDENTS (r + 1) (omega arith) (omega arith) (omega arith) refl (omega arith))

  view_bucket_joined : (e n : ℕ) → Entry s e → n < 268435456 → s.hash n < s.nb
      → View s (bucket_joined w (base s) (24 + 2 * s.cmax + s.hash n) e n) (rehash s D e n)
  unfolding bucket_joined
  view_bucket_joined e n he hn hb =
      let b : ℕ = s.hash n in
      let i : ℕ = 24 + 2 * s.cmax + b in
      let sb : Address s BUCKET-HEADS b i = bucket refl hb refl in
      let D1 : Fields = put D BLOCK e n in
      let D2 : Fields = put D1 NEXT-SYNONYM e (D BUCKET-HEADS b) in
      let w1 : List ℕ = set_number w (word_of (base s) e BLOCK) n in
      let w2 : List ℕ = set_link w1 (word_of (base s) e NEXT-SYNONYM) (D BUCKET-HEADS b) in
      let g1 : View s w1 D1 = view_number s w D g BLOCK e (word_of (base s) e BLOCK) n
      (address s BLOCK e (word_of (base s) e BLOCK) (omega arith) he refl) refl hn in
      let g2 : View s w2 D2 = view_link s w1 D1 g1 NEXT-SYNONYM e (word_of (base s) e NEXT-SYNONYM) (D BUCKET-HEADS b)
      (address s NEXT-SYNONYM e (word_of (base s) e NEXT-SYNONYM) (omega arith) he refl) refl (g.small BUCKET-HEADS b i sb) in
      rw (view_get s w D g BUCKET-HEADS b i sb)
      (view_link s w2 D2 g2 BUCKET-HEADS b i e sb refl (omega (arith, he.1)))

pub view_filled : (s : Shape) (w : List ℕ) (D : Fields) (g : View s w D) (few : s.N < 268435456) (e n m : ℕ) → Entry s e → n < 268435456
    → T (is_modified_word m) → s.hash n < s.nb → View s (filled w (base s) (24 + 2 * s.cmax + s.hash n) e n m) (rehash s (put D MODIFIED e m) e n)
unfolding filled
view_filled s w D g few e n m he hn hm hb =
    view_bucket_joined s (set_number w (word_of (base s) e MODIFIED) m) (put D MODIFIED e m)
    (view_number s w D g MODIFIED e (word_of (base s) e MODIFIED) m (address s MODIFIED e (word_of (base s) e MODIFIED) (omega arith) he refl) refl
    (omega (arith, word_small m hm))) few e n he hn hb
