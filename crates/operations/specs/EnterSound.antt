-- A block that enters an unused entry of a sound directory leaves a sound one. Assumes nothing.
use Rattle.std.specs.Prelude.{ℕ, zero, suc, ◌+◌, ◌*◌, ◌≤◌, ◌<◌, ◌≡◌, refl, true, List, ◌∷◌, leb, length, get_or}
use Rattle.std.proofs.Common.{arith, le-leb, leb-true}
use Rattle.std.proofs.Math.Decide.{dec_le}
use Rattle.std.proofs.Math.ListN.{get_or-eq_default}
use Rattle.basics.specs.Basics.{All}
use Rattle.links.specs.All.{all_at}
use Rattle.layout.specs.Addresses.{RESIDENTS, SUM, NEW-BOUNDARY, OLD-BOUNDARY, UNUSED, SECTION, TO-HEAD}
use Rattle.linkage.specs.Fields.{Shape, base, Fields, header, in_header, View, view_get}
use Rattle.linkage.specs.Positions.{mark}
use Rattle.linkage.specs.WellLinked.{StackOf, Entry}
use Rattle.word_ops.specs.Hit.{count_set, chain_joined}
use Rattle.word_ops.specs.Enter.{stack_entered, entered_as, entered}
use Rattle.operations.specs.FieldOps.{chain_in, count, pop, rise_old, stack_on, enterD}
use Rattle.operations.specs.Seen.{view_count_set, view_chain_joined}
use Rattle.operations.specs.Recount.{tied_head}
use Rattle.operations.specs.Directory.{Directory}
use Rattle.operations.specs.Hit.{mark_le, sec_all}
use Rattle.operations.specs.EnterStack.{behind, unused_e, safe_xs, safe_first, crosses, safe_cross, first_rise}
use Rattle.operations.specs.EnterSeen.{Rising, view_stack_entered, view_filled}
use Rattle.operations.specs.Enter.{NoneHas, Marks, enter_linked}

behind_le : (k i : ℕ) → behind (mark k) i ≤ 1
behind_le k zero = omega arith
behind_le k (suc i) = mark_le k i

at_most : (n : ℕ) (residents : List ℕ) (k : ℕ) → All (λ x. x ≤ n) residents → get_or residents k 0 ≤ n
at_most n residents k a = go (dec_le (suc k) (length residents))
  where
    go : Dec (suc k ≤ length residents) → get_or residents k 0 ≤ n
    go (yes c) = all_at (λ x. x ≤ n) residents k a c
    go (no c) =
        let q : get_or residents k 0 ≡ 0 = get_or-eq_default residents 0 {n = k} (omega arith) in
        omega arith

module _ (s : Shape) (D : Fields) (residents : List ℕ) (e : ℕ) (unused : List ℕ) (g : StackOf s D residents (e ∷ unused)) where
  rising : (i k : ℕ) (f : ℕ → ℕ) → D i 0 ≡ get_or residents k 0 → All (λ x. f x ≤ 2) (e ∷ residents) → leb k (D (in_header RESIDENTS) 0) ≡ true
      → (D i 0 ≤ s.N) × Entry s (pop D e TO-HEAD (D i 0)) × (f (pop D e TO-HEAD (D i 0)) < 268435455)
  rising i k f q a t =
      let l : k ≤ length residents = omega (arith, leb-true k (D (in_header RESIDENTS) 0) t, g.full) in
      let m : f (get_or (e ∷ residents) k 0) ≤ 2 = all_at (λ x. f x ≤ 2) (e ∷ residents) k a (omega arith) in (
        rw q (at_most s.N residents k g.bound),
        (safe_cross s D residents e unused g i k q t).1,
        rw (crosses s D residents e unused g i k q l)
            (omega arith),
      )

  sections_2 : All (λ x. D SECTION x ≤ 2) (e ∷ residents)
  sections_2 = (
    omega (arith, g.idle.0.2),
    sec_all 2 (D SECTION) (λ i. mark s.new i + mark s.old i) residents
        (λ i. omega (arith, mark_le s.new i, mark_le s.old i)) g.sections,
  )

  risen_2 : All (λ x. rise_old s D e (D (in_header RESIDENTS) 0) SECTION x ≤ 2) (e ∷ residents)
  risen_2 =
      sec_all 2 (rise_old s D e (D (in_header RESIDENTS) 0) SECTION) (λ i. behind (mark s.new) i + mark s.old i) (e ∷ residents)
      (λ i. omega (arith, behind_le s.new i, mark_le s.old i)) (first_rise s D residents e unused g)

  pub rising_old : leb s.old (D (in_header RESIDENTS) 0) ≡ true → Rising s (pop D e) (in_header OLD-BOUNDARY)
  rising_old = rising (in_header OLD-BOUNDARY) s.old (D SECTION) g.elder sections_2

  pub rising_new : leb s.new (D (in_header RESIDENTS) 0) ≡ true → Rising s (rise_old s D e (D (in_header RESIDENTS) 0)) (in_header NEW-BOUNDARY)
  rising_new = rising (in_header NEW-BOUNDARY) s.new (rise_old s D e (D (in_header RESIDENTS) 0) SECTION) g.young risen_2

-- THE ENTRY: block block, of no resident, enters the first unused entry with count 1 and mark mark, at the front of the stack.
pub enter_sound : (s : Shape) (w : List ℕ) (D : Fields) (residents : List ℕ) (e : ℕ) (unused : List ℕ) (block mark : ℕ)
    → D (in_header SUM) 0 < 268435455 → block < s.M → NoneHas s D block → Marks s D mark → Directory s w D residents (e ∷ unused)
    → Directory s (entered w (base s) s.cmax s.new s.old (24 + 2 * s.cmax + s.hash block) block mark) (enterD s D e block mark)
    (e ∷ residents) unused
unfolding entered entered_as
enter_sound s w D residents e unused block mark small room absent marks g =
    record {
      view =
          let h = g.linked in
          let t = h.stack in
          let few : s.N < 268435456 = omega (arith, h.legal.few) in
          let he : Entry s e = unused_e s D residents e unused t in
          let r : ℕ = D (in_header RESIDENTS) 0 in
          let b : ℕ = base s in
          let D1 : Fields = stack_on s D e in
          let D2 : Fields = count D1 e 0 1 in
          let D3 : Fields = chain_in (leb 1 s.cmax) D2 1 e in
          let w1 : List ℕ = stack_entered w b s.new s.old e r in
          let w2 : List ℕ = count_set w1 b e 0 1 in
          let w3 : List ℕ = chain_joined w2 b s.cmax e 1 in
          let g1 : View s w1 D1 = view_stack_entered s w D g.view few e he (safe_first s D residents e unused t).0
          (omega (arith, t.full, t.whole)) (rising_old s D residents e unused t) (rising_new s D residents e unused t) in
          let g2 : View s w2 D2 = view_count_set s w1 D1 g1 few e 0 1 he (omega arith) (omega arith) in
          let g3 : View s w3 D3 = view_chain_joined s w2 D2 g2 few 1 e (omega arith) he
          (λ q. (tied_head s D unused t.free.some.1 residents 1 (omega arith) (safe_xs s D residents e unused t) h.chain.chains
          (le-leb 1 s.cmax q)).0) in
          rw (
            view_get s w D g.view (in_header UNUSED) 0 UNUSED (header refl refl (omega arith) (omega arith) (omega arith)),
            t.free.fwd.0,
            view_get s w D g.view (in_header RESIDENTS) 0 RESIDENTS (header refl refl (omega arith) (omega arith) (omega arith)),
          )
          (view_filled s w3 D3 g3 few e block mark he (omega (arith, h.legal.blocks)) marks.0 (h.legal.hashed block));
      linked = enter_linked s D residents e unused block mark room absent marks g.linked;
    }
