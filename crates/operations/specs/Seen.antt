-- What a hit over the words does to the fields. Assumes nothing.
use Prim.Native.Nat.{ℕ, ◌+◌, ◌-◌, ◌≤◌, ◌<◌}
use Rattle.std.specs.Prelude.{◌≡◌, Bool, not}
use Rattle.std.proofs.Math.Path.{refl}
use Rattle.std.proofs.Math.Bool.{true, false}
use mathlib.Core.List.{List}
use Rattle.std.proofs.Common.{arith}
use Rattle.std.proofs.Math.Dec.{eqb, leb}
use borrow.Author.Tests.{eqb-true, eqb-false, leb-true}
use Rattle.basics.specs.Basics.{pick}
use Rattle.links.specs.Upd.{upd}
use Rattle.words.specs.Words.{val, set_link, set_number}
use Rattle.layout.specs.Addresses.{SUM, HEAD, TAIL, NEW-BOUNDARY, OLD-BOUNDARY, COUNT, SECTION, TO-HEAD, TO-TAIL, CHAIN-TO-HEAD, CHAIN-TO-TAIL, chain_head, chain_tail}
use Rattle.linkage.specs.Fields.{Shape, base, Fields, setF, put, kind, Address, entry, ends, chain, header, CHAIN-HEADS, CHAIN-TAILS, in_header, View, view_get}
use Rattle.linkage.specs.WellLinked.{Entry}
use Rattle.word_ops.specs.Lists.{slot_of, unlinked, joined, pushed, put_before, moved_to_front, word_of}
use Rattle.word_ops.specs.Hit.{raised_count, boundary_to, boundary_past, boundary_up, new_boundary_up, old_boundary_up, boundaries_up, chain_left, count_set, chain_joined, recounted, hit_from, hit, to_front}
use Rattle.operations.specs.Stores.{view_id, view_link, view_number, view_link1, view_number1, view_ring, ring_put, address_next, address_prev}
use Rattle.operations.specs.FieldOps.{cross, lower, shift, sections, stack_out, stack_in, chain_out, chain_in, count, recount, front, hitD}

-- the resident that comes to stand where a section begins
abbrev pub Cross : Shape → Fields → ℕ → ℕ → Type 0
Cross s D e i = Entry s (D i 0) × Entry s (cross D e i) × (lower (D SECTION) e (cross D e i) < 268435455)

pub address : (s : Shape) (k e a : ℕ) → k < 9 → Entry s e → a ≡ word_of (base s) e k → Address s k e a
address s k e a h i q = entry h i.0 i.1 q

module _ (s : Shape) (w : List ℕ) (D : Fields) (g : View s w D) (few : s.N < 268435456) where
  view_boundary_up : (i e : ℕ) → i < 24 → ¬ (i ≡ HEAD) → ¬ (i ≡ TAIL) → kind (in_header i) ≡ 2 → Entry s e → Entry s (D (in_header i) 0)
      → Entry s (cross D e (in_header i)) → lower (D SECTION) e (cross D e (in_header i)) < 268435455
      → View s (boundary_up w (base s) e i) (shift true D e (in_header i))
  unfolding boundary_up boundary_past boundary_to
  view_boundary_up i e h1 h2 h3 hk he hb hn hs =
      let n : ℕ = cross D e (in_header i) in
      let sn : Address s SECTION n (word_of (base s) n SECTION) = address s SECTION n (word_of (base s) n SECTION) (omega arith) hn refl in
      let se : Address s SECTION e (word_of (base s) e SECTION) = address s SECTION e (word_of (base s) e SECTION) (omega arith) he refl in
      let small : D SECTION e < 268435456 = g.small SECTION e (word_of (base s) e SECTION) se in
      let g1 : View s (set_number w (word_of (base s) e SECTION) (D SECTION e - 1)) (put D SECTION e (D SECTION e - 1)) =
      view_number s w D g SECTION e (word_of (base s) e SECTION) (D SECTION e - 1) se refl (omega arith) in
      let D1 : Fields = put D SECTION e (D SECTION e - 1) in
      let w1 : List ℕ = set_number w (word_of (base s) e SECTION) (D SECTION e - 1) in
      let g2 : View s (set_number w1 (word_of (base s) n SECTION) (D1 SECTION n + 1)) (put D1 SECTION n (D1 SECTION n + 1)) =
      view_number s w1 D1 g1 SECTION n (word_of (base s) n SECTION) (D1 SECTION n + 1) sn refl (omega arith) in
      rw (
        view_get s w D g (in_header i) 0 i (header refl refl h1 h2 h3),
        view_get s w D g TO-HEAD (D (in_header i) 0)
            (word_of (base s) (D (in_header i) 0) TO-HEAD) (address s TO-HEAD (D (in_header i) 0) (word_of (base s) (D (in_header i) 0) TO-HEAD)
            (omega arith) hb refl),
        view_get s w D g SECTION e (word_of (base s) e SECTION) se,
        view_get s w1 D1 g1 SECTION n (word_of (base s) n SECTION)
            sn,
      )
      (view_link1 s (set_number w1 (word_of (base s) n SECTION) (D1 SECTION n + 1)) (put D1 SECTION n (D1 SECTION n + 1)) g2 i n h1 h2 h3 hk
      (omega arith))

  pub view_stack_out : (e : ℕ) → Entry s e → D TO-HEAD e ≤ s.N → D TO-TAIL e ≤ s.N
      → View s (unlinked w HEAD TAIL (base s + TO-HEAD) e) (stack_out D e)
  unfolding unlinked joined
  view_stack_out e he hu hd =
      let su : Address s TO-HEAD e (word_of (base s + TO-HEAD) e 0) =
      address s TO-HEAD e (word_of (base s + TO-HEAD) e 0) (omega arith) he (omega arith) in
      let sd : Address s TO-TAIL e (word_of (base s + TO-HEAD) e 1) =
      address s TO-TAIL e (word_of (base s + TO-HEAD) e 1) (omega arith) he (omega arith) in
      let g1 = view_link s w D g TO-TAIL (D TO-HEAD e) (slot_of HEAD (base s + TO-HEAD) (D TO-HEAD e) 1) (D TO-TAIL e)
      (address_next s (D TO-HEAD e) hu) refl (omega arith) in
      rw (view_get s w D g TO-HEAD e (word_of (base s + TO-HEAD) e 0) su, view_get s w D g TO-TAIL e (word_of (base s + TO-HEAD) e 1) sd)
      (view_link s (set_link w (slot_of HEAD (base s + TO-HEAD) (D TO-HEAD e) 1) (D TO-TAIL e)) (put D TO-TAIL (D TO-HEAD e) (D TO-TAIL e)) g1 TO-HEAD
      (D TO-TAIL e) (slot_of TAIL (base s + TO-HEAD) (D TO-TAIL e) 0) (D TO-HEAD e) (address_prev s (D TO-TAIL e) hd) refl (omega arith))

  pub view_stack_in : (e : ℕ) → Entry s e → D TO-TAIL 0 ≤ s.N → View s (pushed w HEAD TAIL (base s + TO-HEAD) e) (stack_in D e)
  unfolding pushed put_before
  view_stack_in e he hh =
      let b : ℕ = base s + TO-HEAD in
      let h : ℕ = D TO-TAIL 0 in
      let D1 : Fields = put D TO-HEAD e 0 in
      let D2 : Fields = put D1 TO-TAIL e h in
      let D3 : Fields = put D2 TO-HEAD h e in
      let w1 : List ℕ = set_link w (word_of b e 0) 0 in
      let w2 : List ℕ = set_link w1 (word_of b e 1) h in
      let w3 : List ℕ = set_link w2 (slot_of TAIL b h 0) e in
      let g1 : View s w1 D1 = view_link s w D g TO-HEAD e (word_of b e 0) 0 (address s TO-HEAD e (word_of b e 0) (omega arith) he (omega arith)) refl
      (omega arith) in
      let g2 : View s w2 D2 = view_link s w1 D1 g1 TO-TAIL e (word_of b e 1) h (address s TO-TAIL e (word_of b e 1) (omega arith) he (omega arith)) refl
      (omega arith) in
      let g3 : View s w3 D3 = view_link s w2 D2 g2 TO-HEAD h (slot_of TAIL b h 0) e (address_prev s h hh) refl (omega arith) in
      rw (view_get s w D g TO-TAIL 0 HEAD (ends refl refl (omega arith) (omega arith)))
      (view_link s w3 D3 g3 TO-TAIL 0 HEAD e (ends refl refl (omega arith) (omega arith)) refl (omega arith))

  -- the links of e in chain c
  pub view_chain_out : (c e : ℕ) → 1 ≤ c → c ≤ s.cmax → Entry s e → D CHAIN-TO-HEAD e ≤ s.N → D CHAIN-TO-TAIL e ≤ s.N
      → View s (unlinked w (chain_head c) (chain_tail c) (base s + CHAIN-TO-HEAD) e) (chain_out true D c e)
  unfolding unlinked joined
  view_chain_out c e h1 h2 he hu hd =
      let b : ℕ = base s + CHAIN-TO-HEAD in
      let su : Address s CHAIN-TO-HEAD e (word_of b e 0) = address s CHAIN-TO-HEAD e (word_of b e 0) (omega arith) he (omega arith) in
      let sd : Address s CHAIN-TO-TAIL e (word_of b e 1) = address s CHAIN-TO-TAIL e (word_of b e 1) (omega arith) he (omega arith) in
      let D1 : Fields = ring_put D CHAIN-TO-TAIL CHAIN-HEADS c (D CHAIN-TO-HEAD e) (D CHAIN-TO-TAIL e) in
      let w1 : List ℕ = set_link w (slot_of (chain_head c) b (D CHAIN-TO-HEAD e) 1) (D CHAIN-TO-TAIL e) in
      let g1 : View s w1 D1 = view_ring s w D g CHAIN-TO-TAIL CHAIN-HEADS c (D CHAIN-TO-HEAD e) (D CHAIN-TO-TAIL e) (chain_head c) b 1 refl refl refl
      (chain (omega arith) (omega arith) h1 h2 (omega arith))
      (λ q. address s CHAIN-TO-TAIL (D CHAIN-TO-HEAD e) (word_of b (D CHAIN-TO-HEAD e) 1) (omega arith) (q, hu) (omega arith)) (omega arith) in
      rw (view_get s w D g CHAIN-TO-HEAD e (word_of b e 0) su, view_get s w D g CHAIN-TO-TAIL e (word_of b e 1) sd)
      (view_ring s w1 D1 g1 CHAIN-TO-HEAD CHAIN-TAILS c (D CHAIN-TO-TAIL e) (D CHAIN-TO-HEAD e) (chain_tail c) b 0 refl refl refl
      (chain (omega arith) (omega arith) h1 h2 (omega arith))
      (λ q. address s CHAIN-TO-HEAD (D CHAIN-TO-TAIL e) (word_of b (D CHAIN-TO-TAIL e) 0) (omega arith) (q, hd) (omega arith)) (omega arith))

  view_chain_in : (c e : ℕ) → 1 ≤ c → c ≤ s.cmax → Entry s e → D CHAIN-HEADS c ≤ s.N
      → View s (pushed w (chain_head c) (chain_tail c) (base s + CHAIN-TO-HEAD) e) (chain_in true D c e)
  unfolding pushed put_before
  view_chain_in c e h1 h2 he hh =
      let b : ℕ = base s + CHAIN-TO-HEAD in
      let h : ℕ = D CHAIN-HEADS c in
      let D1 : Fields = put D CHAIN-TO-HEAD e 0 in
      let D2 : Fields = put D1 CHAIN-TO-TAIL e h in
      let D3 : Fields = ring_put D2 CHAIN-TO-HEAD CHAIN-TAILS c h e in
      let w1 : List ℕ = set_link w (word_of b e 0) 0 in
      let w2 : List ℕ = set_link w1 (word_of b e 1) h in
      let w3 : List ℕ = set_link w2 (slot_of (chain_tail c) b h 0) e in
      let g1 : View s w1 D1 = view_link s w D g CHAIN-TO-HEAD e (word_of b e 0) 0
      (address s CHAIN-TO-HEAD e (word_of b e 0) (omega arith) he (omega arith)) refl (omega arith) in
      let g2 : View s w2 D2 = view_link s w1 D1 g1 CHAIN-TO-TAIL e (word_of b e 1) h
      (address s CHAIN-TO-TAIL e (word_of b e 1) (omega arith) he (omega arith)) refl (omega arith) in
      let g3 : View s w3 D3 = view_ring s w2 D2 g2 CHAIN-TO-HEAD CHAIN-TAILS c h e (chain_tail c) b 0 refl refl refl
      (chain (omega arith) (omega arith) h1 h2 (omega arith)) (λ q. address s CHAIN-TO-HEAD h (word_of b h 0) (omega arith) (q, hh) (omega arith))
      (omega arith) in
      rw (view_get s w D g CHAIN-HEADS c (chain_head c) (chain (omega arith) (omega arith) h1 h2 (omega arith)))
      (view_link s w3 D3 g3 CHAIN-HEADS c (chain_head c) e (chain (omega arith) (omega arith) h1 h2 (omega arith)) refl (omega arith))

  view_clear : (c e : ℕ) → Entry s e → View s (set_link (set_link w (word_of (base s) e CHAIN-TO-HEAD) 0) (word_of (base s) e CHAIN-TO-TAIL) 0)
      (chain_in false D c e)
  view_clear c e he =
      let D1 : Fields = put D CHAIN-TO-HEAD e 0 in
      let D2 : Fields = put D1 CHAIN-TO-TAIL e 0 in
      let w1 : List ℕ = set_link w (word_of (base s) e CHAIN-TO-HEAD) 0 in
      let w2 : List ℕ = set_link w1 (word_of (base s) e CHAIN-TO-TAIL) 0 in
      let g1 : View s w1 D1 = view_link s w D g CHAIN-TO-HEAD e (word_of (base s) e CHAIN-TO-HEAD) 0
      (address s CHAIN-TO-HEAD e (word_of (base s) e CHAIN-TO-HEAD) (omega arith) he (omega arith)) refl (omega arith) in
      let g2 : View s w2 D2 = view_link s w1 D1 g1 CHAIN-TO-TAIL e (word_of (base s) e CHAIN-TO-TAIL) 0
      (address s CHAIN-TO-TAIL e (word_of (base s) e CHAIN-TO-TAIL) (omega arith) he (omega arith)) refl (omega arith) in
      let D3 : Fields = setF D2 CHAIN-TAILS (D CHAIN-TAILS) in
      let D4 : Fields = setF D3 CHAIN-TO-HEAD (upd (D CHAIN-TO-HEAD) e 0) in
      view_id s w2 D4 CHAIN-HEADS (D CHAIN-HEADS) refl (view_id s w2 D3 CHAIN-TO-HEAD (upd (D CHAIN-TO-HEAD) e 0) refl
      (view_id s w2 D2 CHAIN-TAILS (D CHAIN-TAILS) refl g2))

  pub view_count_set : (e c c' : ℕ) → Entry s e → c' < 268435456 → D (in_header SUM) 0 + c' - c < 268435456
      → View s (count_set w (base s) e c c') (count D e c c')
  unfolding count_set
  view_count_set e c c' he h1 h2 =
      let D1 : Fields = put D COUNT e c' in
      let w1 : List ℕ = set_number w (word_of (base s) e COUNT) c' in
      let g1 : View s w1 D1 = view_number s w D g COUNT e (word_of (base s) e COUNT) c'
      (address s COUNT e (word_of (base s) e COUNT) (omega arith) he refl) refl h1 in
      rw (view_get s w D g (in_header SUM) 0 SUM (header refl refl (omega arith) (omega arith) (omega arith)))
      (view_number1 s w1 D1 g1 SUM (D (in_header SUM) 0 + c' - c) (omega arith) (omega arith) (omega arith) refl h2)

  -- ---- with their tests

  view_stay : (e i : ℕ) → setF (setF D SECTION (D SECTION)) SECTION (D SECTION) i ≡ D i → View s w (shift false D e i)
  view_stay e i q =
      let D1 : Fields = setF D SECTION (D SECTION) in
      view_id s w (setF D1 SECTION (D SECTION)) i (D i) q (view_id s w D1 SECTION (D SECTION) refl (view_id s w D SECTION (D SECTION) refl g))

  view_old_boundary_up : (e t : ℕ) → Entry s e → (t ≡ 2 → Cross s D e (in_header OLD-BOUNDARY))
      → View s (old_boundary_up w (base s) e t) (shift (eqb t 2) D e (in_header OLD-BOUNDARY))
  unfolding old_boundary_up
  view_old_boundary_up e t he h = go (eqb t 2) refl
    where
      go : (b : Bool) → eqb t 2 ≡ b → View s (pick b (boundary_up w (base s) e OLD-BOUNDARY) w) (shift b D e (in_header OLD-BOUNDARY))
      go true q =
          let k : Cross s D e (in_header OLD-BOUNDARY) = h (eqb-true t 2 q) in
          view_boundary_up OLD-BOUNDARY e (omega arith) (omega arith) (omega arith) refl he k.0 k.1 k.2
      go false q = view_stay e (in_header OLD-BOUNDARY) refl

  view_new_boundary_up : (e t : ℕ) → Entry s e → (¬ (t ≡ 0) → Cross s D e (in_header NEW-BOUNDARY))
      → View s (new_boundary_up w (base s) e t) (shift (not (eqb t 0)) D e (in_header NEW-BOUNDARY))
  unfolding new_boundary_up
  view_new_boundary_up e t he h = go (eqb t 0) refl
    where
      go : (b : Bool) → eqb t 0 ≡ b → View s (pick (not b) (boundary_up w (base s) e NEW-BOUNDARY) w) (shift (not b) D e (in_header NEW-BOUNDARY))
      go true q = view_stay e (in_header NEW-BOUNDARY) refl
      go false q =
          let k : Cross s D e (in_header NEW-BOUNDARY) = h (eqb-false t 0 q) in
          view_boundary_up NEW-BOUNDARY e (omega arith) (omega arith) (omega arith) refl he k.0 k.1 k.2

  pub view_chain_left : (c e : ℕ) → 1 ≤ c → Entry s e → (c ≤ s.cmax → (D CHAIN-TO-HEAD e ≤ s.N) × (D CHAIN-TO-TAIL e ≤ s.N))
      → View s (chain_left w (base s) s.cmax e c) (chain_out (leb c s.cmax) D c e)
  unfolding chain_left
  view_chain_left c e h1 he h = go (leb c s.cmax) refl
    where
      go : (b : Bool) → leb c s.cmax ≡ b → View s (pick b (unlinked w (chain_head c) (chain_tail c) (base s + CHAIN-TO-HEAD) e) w) (chain_out b D c e)
      go true q =
          let l : c ≤ s.cmax = leb-true c s.cmax q in
          view_chain_out c e h1 l he (h l).0 (h l).1
      go false q =
          let D1 : Fields = setF D CHAIN-HEADS (D CHAIN-HEADS) in
          let D2 : Fields = setF D1 CHAIN-TO-TAIL (D CHAIN-TO-TAIL) in
          let D3 : Fields = setF D2 CHAIN-TAILS (D CHAIN-TAILS) in
          view_id s w D3 CHAIN-TO-HEAD (D CHAIN-TO-HEAD) refl
          (view_id s w D2 CHAIN-TAILS (D CHAIN-TAILS) refl
          (view_id s w D1 CHAIN-TO-TAIL (D CHAIN-TO-TAIL) refl (view_id s w D CHAIN-HEADS (D CHAIN-HEADS) refl g)))

  pub view_chain_joined : (c e : ℕ) → 1 ≤ c → Entry s e → (c ≤ s.cmax → D CHAIN-HEADS c ≤ s.N)
      → View s (chain_joined w (base s) s.cmax e c) (chain_in (leb c s.cmax) D c e)
  unfolding chain_joined
  view_chain_joined c e h1 he h = go (leb c s.cmax) refl
    where
      go : (b : Bool) → leb c s.cmax ≡ b → View s (pick b (pushed w (chain_head c) (chain_tail c) (base s + CHAIN-TO-HEAD) e)
          (set_link (set_link w (word_of (base s) e CHAIN-TO-HEAD) 0) (word_of (base s) e CHAIN-TO-TAIL) 0)) (chain_in b D c e)
      go true q =
          let l : c ≤ s.cmax = leb-true c s.cmax q in
          view_chain_in c e h1 l he (h l)
      go false q = view_clear c e he

-- What the steps of a hit ask.
pub record Ready (s : Shape) (D : Fields) (e c' : ℕ) : Type 0 where
  pub here : Entry s e
  pub elder : D SECTION e ≡ 2 → Cross s D e (in_header OLD-BOUNDARY)
  pub young : ¬ (D SECTION e ≡ 0) → Cross s (shift (eqb (D SECTION e) 2) D e (in_header OLD-BOUNDARY)) e (in_header NEW-BOUNDARY)
  pub up : D TO-HEAD e ≤ s.N
  pub down : D TO-TAIL e ≤ s.N
  pub head : stack_out D e TO-TAIL 0 ≤ s.N
  pub tied : D COUNT e ≤ s.cmax → (D CHAIN-TO-HEAD e ≤ s.N) × (D CHAIN-TO-TAIL e ≤ s.N)
  pub first : c' ≤ s.cmax → chain_out (leb (D COUNT e) s.cmax) D (D COUNT e) e CHAIN-HEADS c' ≤ s.N
  pub counted : 1 ≤ D COUNT e
  pub counts : 1 ≤ c'
  pub count_fits : c' < 268435456
  pub sum_fits : D (in_header SUM) 0 + c' - D COUNT e < 268435456

-- e to the front, its count c'
pub view_recounted : (s : Shape) (w : List ℕ) (D : Fields) (e c' : ℕ) → s.N < 268435456 → View s w D → Ready s D e c'
    → View s (recounted (to_front w (base s) e (D SECTION e)) (base s) s.cmax e (D COUNT e) c')
    (recount s (front D e (D SECTION e)) e (D COUNT e) c')
unfolding recounted to_front boundaries_up moved_to_front
view_recounted s w D e c' few g r =
    let t : ℕ = D SECTION e in
    let c : ℕ = D COUNT e in
    let b : ℕ = base s in
    let D1 : Fields = shift (eqb t 2) D e (in_header OLD-BOUNDARY) in
    let D2 : Fields = sections D e t in
    let D3 : Fields = stack_out D2 e in
    let D4 : Fields = stack_in D3 e in
    let D5 : Fields = chain_out (leb c s.cmax) D4 c e in
    let D6 : Fields = count D5 e c c' in
    let w1 : List ℕ = old_boundary_up w b e t in
    let w2 : List ℕ = new_boundary_up w1 b e t in
    let w3 : List ℕ = unlinked w2 HEAD TAIL (b + TO-HEAD) e in
    let w4 : List ℕ = pushed w3 HEAD TAIL (b + TO-HEAD) e in
    let w5 : List ℕ = chain_left w4 b s.cmax e c in
    let w6 : List ℕ = count_set w5 b e c c' in
    let g1 : View s w1 D1 = view_old_boundary_up s w D g few e t r.here r.elder in
    let g2 : View s w2 D2 = view_new_boundary_up s w1 D1 g1 few e t r.here r.young in
    let g3 : View s w3 D3 = view_stack_out s w2 D2 g2 few e r.here r.up r.down in
    let g4 : View s w4 D4 = view_stack_in s w3 D3 g3 few e r.here r.head in
    let g5 : View s w5 D5 = view_chain_left s w4 D4 g4 few c e r.counted r.here r.tied in
    let g6 : View s w6 D6 = view_count_set s w5 D5 g5 few e c c' r.here r.count_fits r.sum_fits in
    view_chain_joined s w6 D6 g6 few c' e r.counts r.here r.first

-- the words that an operation reads first
pub section_word : (s : Shape) (w : List ℕ) (D : Fields) (e : ℕ) → Entry s e → View s w D → val w (word_of (base s) e SECTION) ≡ D SECTION e
section_word s w D e he g =
    view_get s w D g SECTION e (word_of (base s) e SECTION) (address s SECTION e (word_of (base s) e SECTION) (omega arith) he refl)

pub count_word : (s : Shape) (w : List ℕ) (D : Fields) (e : ℕ) → Entry s e → View s w D → val w (word_of (base s) e COUNT) ≡ D COUNT e
count_word s w D e he g = view_get s w D g COUNT e (word_of (base s) e COUNT) (address s COUNT e (word_of (base s) e COUNT) (omega arith) he refl)

pub view_hit : (s : Shape) (w : List ℕ) (D : Fields) (e : ℕ) → s.N < 268435456 → View s w D → Ready s D e (raised_count (D SECTION e) (D COUNT e))
    → View s (hit w (base s) s.cmax e) (hitD s D e)
unfolding hit hit_from
view_hit s w D e few g r =
    rw (section_word s w D e r.here g, count_word s w D e r.here g)
    (view_recounted s w D e (raised_count (D SECTION e) (D COUNT e)) few g r)
