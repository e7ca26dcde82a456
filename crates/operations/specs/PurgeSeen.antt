-- What a purge over the words does to the fields. Assumes nothing.
use Prim.Native.Nat.{ℕ, zero, suc, ◌+◌, ◌-◌, ◌*◌, ◌≤◌, ◌<◌}
use Rattle.std.specs.Prelude.{◌≡◌, Bool, true, false, length}
use Rattle.std.proofs.Math.Path.{refl}
use Rattle.std.proofs.Common.{sym, arith}
use mathlib.Core.List.{List, [], ◌∷◌, ◌++◌}
use borrow.Author.Tests.{eq-eqb, ne_eqb}
use Rattle.basics.specs.Basics.{pick, All}
use Rattle.links.specs.Off.{Off}
use Rattle.links.specs.Run.{Run, last}
use Rattle.words.specs.Words.{val, set_link, set_number}
use Rattle.layout.specs.Addresses.{RESIDENTS, SUM, HEAD, TAIL, UNUSED, BLOCK, COUNT, SECTION, MODIFIED, TO-HEAD, TO-TAIL, CHAIN-TO-HEAD, CHAIN-TO-TAIL, NEXT-SYNONYM}
use Rattle.linkage.specs.Fields.{Shape, base, Fields, setF, put, put1, kind, Address, bucket, header, BUCKET-HEADS, in_header, View, view_get}
use Rattle.linkage.specs.WellLinked.{Entry}
use Rattle.word_ops.specs.Lists.{slot_of, word_of}
use Rattle.word_ops.specs.Purge.{boundary_falls, boundary_down_from, boundary_down, unused_first, chain_links_cleared, blanked}
use Rattle.word_ops.specs.Buckets.{synonym_before, bucket_left_after, bucket_left}
use Rattle.operations.specs.Stores.{view_id, view_link, view_number, view_link1, view_number1, view_ring, ring_put}
use Rattle.operations.specs.FieldOps.{pull, unuse, unhash, blank}
use Rattle.operations.specs.Seen.{address}

-- ---- over the words, the rest

module _ (s : Shape) (w : List ℕ) (D : Fields) (g : View s w D) (few : s.N < 268435456) where
  pub view_boundary_down : (i e : ℕ) (m : Bool) → i < 24 → ¬ (i ≡ HEAD) → ¬ (i ≡ TAIL) → kind (in_header i) ≡ 2
      → setF D SECTION (D SECTION) (in_header i) ≡ D (in_header i)
      → (boundary_falls m (D (in_header i) 0) e ≡ true → Entry s (D (in_header i) 0) × (D TO-TAIL (D (in_header i) 0) < 268435456))
      → View s (boundary_down w (base s) i m e) (pull (boundary_falls m (D (in_header i) 0) e) D (in_header i))
  unfolding boundary_down boundary_down_from
  view_boundary_down i e m h1 h2 h3 hk hi hb =
      rw (view_get s w D g (in_header i) 0 i (header refl refl h1 h2 h3)) (go (boundary_falls m (D (in_header i) 0) e) refl)
    where
      b : ℕ
      b = D (in_header i) 0

      go : (t : Bool) → boundary_falls m (D (in_header i) 0) e ≡ t
          → View s (pick t (set_link (set_number w (word_of (base s) b SECTION) (val w (word_of (base s) b SECTION) - 1)) i
          (val w (word_of (base s) b TO-TAIL))) w) (pull t D (in_header i))
      go true q =
          let n = hb q in
          let s2 : Address s SECTION b (word_of (base s) b SECTION) = address s SECTION b (word_of (base s) b SECTION) (omega arith) n.0 refl in
          let small : D SECTION b < 268435456 = g.small SECTION b (word_of (base s) b SECTION) s2 in
          let g1 = view_number s w D g SECTION b (word_of (base s) b SECTION) (D SECTION b - 1) s2 refl (omega arith) in
          rw (
            view_get s w D g SECTION b (word_of (base s) b SECTION) s2,
            view_get s w D g TO-TAIL b (word_of (base s) b TO-TAIL)
                (address s TO-TAIL b (word_of (base s) b TO-TAIL) (omega arith) n.0 refl),
          )
          (view_link1 s (set_number w (word_of (base s) b SECTION) (D SECTION b - 1)) (put D SECTION b (D SECTION b - 1)) g1 i (D TO-TAIL b) h1 h2 h3 hk
          n.1)
      go false q = view_id s w (setF D SECTION (D SECTION)) (in_header i) (D (in_header i)) hi (view_id s w D SECTION (D SECTION) refl g)

  pub view_unused_first : (e : ℕ) → Entry s e → View s (unused_first w (base s) e) (unuse D e)
  unfolding unused_first
  view_unused_first e he =
      let s13 : Address s (in_header UNUSED) 0 UNUSED = header refl refl (omega arith) (omega arith) (omega arith) in
      let s7 : Address s (in_header RESIDENTS) 0 RESIDENTS = header refl refl (omega arith) (omega arith) (omega arith) in
      let m13 : D (in_header UNUSED) 0 < 268435456 = g.small (in_header UNUSED) 0 UNUSED s13 in
      let m7 : D (in_header RESIDENTS) 0 < 268435456 = g.small (in_header RESIDENTS) 0 RESIDENTS s7 in
      let D1 : Fields = put D SECTION e 0 in
      let D2 : Fields = put D1 TO-HEAD e 0 in
      let D3 : Fields = put D2 TO-TAIL e (D (in_header UNUSED) 0) in
      let D4 : Fields = put1 D3 (in_header UNUSED) e in
      let w1 : List ℕ = set_number w (word_of (base s) e SECTION) 0 in
      let w2 : List ℕ = set_link w1 (word_of (base s) e TO-HEAD) 0 in
      let w3 : List ℕ = set_link w2 (word_of (base s) e TO-TAIL) (D (in_header UNUSED) 0) in
      let w4 : List ℕ = set_link w3 UNUSED e in
      let g1 : View s w1 D1 = view_number s w D g SECTION e (word_of (base s) e SECTION) 0
      (address s SECTION e (word_of (base s) e SECTION) (omega arith) he refl) refl (omega arith) in
      let g2 : View s w2 D2 = view_link s w1 D1 g1 TO-HEAD e (word_of (base s) e TO-HEAD) 0
      (address s TO-HEAD e (word_of (base s) e TO-HEAD) (omega arith) he refl) refl (omega arith) in
      let g3 : View s w3 D3 = view_link s w2 D2 g2 TO-TAIL e (word_of (base s) e TO-TAIL) (D (in_header UNUSED) 0)
      (address s TO-TAIL e (word_of (base s) e TO-TAIL) (omega arith) he refl) refl m13 in
      let g4 : View s w4 D4 = view_link1 s w3 D3 g3 UNUSED e (omega arith) (omega arith) (omega arith) refl (omega arith) in
      rw (view_get s w D g (in_header UNUSED) 0 UNUSED s13, view_get s w D g (in_header RESIDENTS) 0 RESIDENTS s7)
      (view_number1 s w4 D4 g4 RESIDENTS (D (in_header RESIDENTS) 0 - 1) (omega arith) (omega arith) (omega arith) refl (omega arith))

  pub view_chain_links_cleared : (e : ℕ) → Entry s e → View s (chain_links_cleared w (base s) e) (put (put D CHAIN-TO-HEAD e 0) CHAIN-TO-TAIL e 0)
  unfolding chain_links_cleared
  view_chain_links_cleared e he =
      view_link s (set_link w (word_of (base s) e CHAIN-TO-HEAD) 0) (put D CHAIN-TO-HEAD e 0)
      (view_link s w D g CHAIN-TO-HEAD e (word_of (base s) e CHAIN-TO-HEAD) 0
      (address s CHAIN-TO-HEAD e (word_of (base s) e CHAIN-TO-HEAD) (omega arith) he refl) refl (omega arith)) CHAIN-TO-TAIL e
      (word_of (base s) e CHAIN-TO-TAIL) 0 (address s CHAIN-TO-TAIL e (word_of (base s) e CHAIN-TO-TAIL) (omega arith) he refl) refl (omega arith)

  pub view_blanked : (e c : ℕ) → Entry s e → c ≡ D COUNT e → View s (blanked w (base s) e c) (blank D e)
  unfolding blanked
  view_blanked e c he q =
      let s8 : Address s (in_header SUM) 0 SUM = header refl refl (omega arith) (omega arith) (omega arith) in
      let m8 : D (in_header SUM) 0 < 268435456 = g.small (in_header SUM) 0 SUM s8 in
      let D1 : Fields = put D BLOCK e 0 in
      let D2 : Fields = put D1 MODIFIED e 0 in
      let D3 : Fields = put D2 COUNT e 0 in
      let w1 : List ℕ = set_number w (word_of (base s) e BLOCK) 0 in
      let w2 : List ℕ = set_number w1 (word_of (base s) e MODIFIED) 0 in
      let w3 : List ℕ = set_number w2 (word_of (base s) e COUNT) 0 in
      let g1 : View s w1 D1 = view_number s w D g BLOCK e (word_of (base s) e BLOCK) 0
      (address s BLOCK e (word_of (base s) e BLOCK) (omega arith) he refl) refl (omega arith) in
      let g2 : View s w2 D2 = view_number s w1 D1 g1 MODIFIED e (word_of (base s) e MODIFIED) 0
      (address s MODIFIED e (word_of (base s) e MODIFIED) (omega arith) he refl) refl (omega arith) in
      let g3 : View s w3 D3 = view_number s w2 D2 g2 COUNT e (word_of (base s) e COUNT) 0
      (address s COUNT e (word_of (base s) e COUNT) (omega arith) he refl) refl (omega arith) in
      rw (view_get s w D g (in_header SUM) 0 SUM s8, q)
      (view_number1 s w3 D3 g3 SUM (D (in_header SUM) 0 - D COUNT e) (omega arith) (omega arith) (omega arith) refl (omega arith))

  -- the walk along a bucket stops before e
  pub synonym_before_is : (e n x q : ℕ) (us vs : List ℕ) → Run (D NEXT-SYNONYM) x (us ++ (e ∷ vs)) 0 → Off e us → All (Entry s) us → length us < n
      → synonym_before w (base s) e n x q ≡ last q us
  unfolding synonym_before
  synonym_before_is e zero x q us vs r o a l = absurd (omega arith)
  synonym_before_is e (suc n) x q [] vs r o a l = rw (eq-eqb x e r.0)
  synonym_before_is e (suc n) x q (u ∷ us) vs r o a l =
      let v : val w (word_of (base s) u NEXT-SYNONYM) ≡ D NEXT-SYNONYM u =
      view_get s w D g NEXT-SYNONYM u (word_of (base s) u NEXT-SYNONYM)
      (address s NEXT-SYNONYM u (word_of (base s) u NEXT-SYNONYM) (omega arith) a.0 refl) in
      rw (r.0, ne_eqb u e (λ c. o.0 (sym c)), v) (synonym_before_is e n (D NEXT-SYNONYM u) u us vs r.1 o.1 a.1 (omega arith))

  pub view_bucket_left : (e n b q : ℕ) → Entry s e → b < s.nb → q ≤ s.N → D NEXT-SYNONYM e ≤ s.N
      → synonym_before w (base s) e n (D BUCKET-HEADS b) 0 ≡ q → View s (bucket_left w (base s) n (24 + 2 * s.cmax + b) e) (unhash D b q e)
  unfolding bucket_left bucket_left_after
  view_bucket_left e n b q he hb hq hn z =
      let i : ℕ = 24 + 2 * s.cmax + b in
      let D1 : Fields = ring_put D NEXT-SYNONYM BUCKET-HEADS b q (D NEXT-SYNONYM e) in
      let w1 : List ℕ = set_link w (slot_of i (base s) q NEXT-SYNONYM) (D NEXT-SYNONYM e) in
      let g1 : View s w1 D1 = view_ring s w D g NEXT-SYNONYM BUCKET-HEADS b q (D NEXT-SYNONYM e) i (base s) NEXT-SYNONYM refl refl refl
      (bucket refl hb refl) (λ o. address s NEXT-SYNONYM q (word_of (base s) q NEXT-SYNONYM) (omega arith) (o, hq) refl) (omega arith) in
      rw (
        view_get s w D g BUCKET-HEADS b i (bucket refl hb refl),
        z,
        view_get s w D g NEXT-SYNONYM e (word_of (base s) e NEXT-SYNONYM)
            (address s NEXT-SYNONYM e (word_of (base s) e NEXT-SYNONYM) (omega arith) he refl),
      )
      (view_link s w1 D1 g1 NEXT-SYNONYM e (word_of (base s) e NEXT-SYNONYM) 0
      (address s NEXT-SYNONYM e (word_of (base s) e NEXT-SYNONYM) (omega arith) he refl) refl (omega arith))
