-- Halving the counts of a sound directory leaves a sound one. Assumes nothing.
use Rattle.std.specs.Prelude.{ℕ, zero, suc, ◌+◌, ◌≤◌, ◌<◌, ◌≡◌, refl, Bool, true, false, List, [], ◌∷◌, ◌++◌, eqb, length}
use Rattle.std.proofs.Common.{◌∙◌, sym, append-nil, arith, le-leb}
use Rattle.std.proofs.Math.Decide.{ℕ_discrete}
use Rattle.basics.specs.Basics.{pick, All}
use Rattle.basics.specs.AllLaws.{all_map}
use Rattle.links.specs.Upd.{upd, upd_same, upd_other}
use Rattle.links.specs.Off.{Off, Distinct}
use Rattle.links.specs.Run.{first}
use Rattle.links.proofs.Chains.{chain_nil}
use Rattle.links.specs.Walk.{dll_links}
use Rattle.words.specs.Words.{val, set_link}
use Rattle.layout.specs.Addresses.{RESIDENTS, SUM, TAIL, COUNT, TO-HEAD, CHAIN-TO-HEAD, CHAIN-TO-TAIL, chain_head, chain_tail}
use Rattle.linkage.specs.Fields.{Shape, base, Fields, setF, put, header, chain, ends, CHAIN-HEADS, CHAIN-TAILS, in_header, View, view_get}
use Rattle.linkage.specs.WellLinked.{WellLinked, Entry}
use Rattle.word_ops.specs.Lists.{word_of}
use Rattle.word_ops.specs.Halve.{half, chains_cleared, halved_to, halved_entry, halved_up, halved}
use Rattle.operations.specs.Stores.{view_same, view_id, view_link}
use Rattle.operations.specs.FieldOps.{count, zero_to, clear, halve_one, halve_up}
use Rattle.operations.specs.Seen.{address, view_count_set, view_chain_joined}
use Rattle.operations.specs.Recount.{tied_head}
use Rattle.operations.specs.Directory.{Directory}
use Rattle.operations.specs.Halve.{onto, distinct_onto, back_onto, Halving, entry_x, count_x, counted_chain, safe, halve_step, up_x, halve_up_lem}

-- ---- lists backwards

onto_onto : (a b c : List ℕ) → onto (onto a b) c ≡ onto b (a ++ c)
onto_onto [] b c = refl
onto_onto (r ∷ a) b c = onto_onto a (r ∷ b) c

onto_back : (residents : List ℕ) → onto (onto residents []) [] ≡ residents
onto_back residents = onto_onto residents [] [] ∙ append-nil residents

length_onto : (a b : List ℕ) → length (onto a b) ≡ length a + length b
length_onto [] b = omega arith
length_onto (r ∷ a) b = omega (arith, length_onto a (r ∷ b))

apart_onto : (rs ws : List ℕ) → Distinct (onto rs ws) → All (λ w. Off w rs) ws
apart_onto [] ws d = all_map (λ w. Unit {0}) (λ w. Off w []) ws (λ w u. tt) (units ws)
  where
    units : (ws : List ℕ) → All (λ w. Unit {0}) ws
    units [] = tt
    units (w ∷ ws) = (tt, units ws)
apart_onto (r ∷ rs) ws d = go ws (apart_onto rs (r ∷ ws) d).1 (distinct_onto rs (r ∷ ws) d).0
  where
    go : (ws : List ℕ) → All (λ w. Off w rs) ws → Off r ws → All (λ w. Off w (r ∷ rs)) ws
    go [] a o = tt
    go (w ∷ ws) a o = ((λ q. o.0 (sym q), a.0), go ws a.1 o.1)

distinct_of : (rs ws : List ℕ) → Distinct (onto rs ws) → Distinct rs
distinct_of [] ws d = tt
distinct_of (r ∷ rs) ws d = ((apart_onto rs (r ∷ ws) d).0, distinct_of rs (r ∷ ws) d)

-- ---- the chains emptied

zero_in : (k : ℕ) (f : ℕ → ℕ) (i : ℕ) → 1 ≤ i → i ≤ k → zero_to k f i ≡ 0
zero_in zero f i a b = absurd (omega arith)
zero_in (suc k) f i a b = go (ℕ_discrete i (suc k)) (zero_in k f i a)
  where
    go : Dec (i ≡ suc k) → (i ≤ k → zero_to k f i ≡ 0) → upd (zero_to k f) (suc k) 0 i ≡ 0
    go (yes q) ih = rw q (upd_same (zero_to k f) (suc k) 0)
    go (no q) ih = upd_other (zero_to k f) (suc k) 0 i q ∙ ih (omega arith)

view_chains_cleared : (s : Shape) (w : List ℕ) (D : Fields) (k : ℕ) → k ≤ s.cmax → View s w D → View s (chains_cleared w k) (clear k D)
unfolding chains_cleared
view_chains_cleared s w D zero l g =
    view_id s w (setF D CHAIN-HEADS (D CHAIN-HEADS)) CHAIN-TAILS (D CHAIN-TAILS) refl (view_id s w D CHAIN-HEADS (D CHAIN-HEADS) refl g)
view_chains_cleared s w D (suc k) l g =
    let D1 : Fields = clear k D in
    let D2 : Fields = put D1 CHAIN-HEADS (suc k) 0 in
    let w1 : List ℕ = chains_cleared w k in
    let w2 : List ℕ = set_link w1 (chain_head (suc k)) 0 in
    let g1 : View s w1 D1 = view_chains_cleared s w D k (omega arith) g in
    let g2 : View s w2 D2 = view_link s w1 D1 g1 CHAIN-HEADS (suc k) (chain_head (suc k)) 0
    (chain (omega arith) (omega arith) (omega arith) l (omega arith)) refl (omega arith) in
    let g3 = view_link s w2 D2 g2 CHAIN-TAILS (suc k) (chain_tail (suc k)) 0 (chain (omega arith) (omega arith) (omega arith) l (omega arith)) refl
    (omega arith) in
    view_same s (set_link w2 (chain_tail (suc k)) 0) (put D2 CHAIN-TAILS (suc k) 0) (clear (suc k) D)
    (λ j x a p. go j x (eqb j CHAIN-TAILS) (eqb j CHAIN-HEADS)) g3
  where
    go : (j x : ℕ) (t u : Bool) → pick t (upd (zero_to k (D CHAIN-TAILS)) (suc k) 0)
        (pick u (upd (zero_to k (D CHAIN-HEADS)) (suc k) 0) (pick t (zero_to k (D CHAIN-TAILS)) (pick u (zero_to k (D CHAIN-HEADS)) (D j)))) x ≡ pick t
        (upd (zero_to k (D CHAIN-TAILS)) (suc k) 0) (pick u (upd (zero_to k (D CHAIN-HEADS)) (suc k) 0) (D j)) x
    go j x true true = refl
    go j x true false = refl
    go j x false true = refl
    go j x false false = refl

-- ---- the walk up

view_halved_entry : (s : Shape) (old : ℕ → ℕ) (w : List ℕ) (D : Fields) (x : ℕ) (rs vs unused : List ℕ) → View s w D
    → Halving s old D (x ∷ rs) vs unused → View s (halved_entry w (base s) s.cmax x) (halve_one s D x)
unfolding halved_entry halved_to
view_halved_entry s old w D x rs vs unused g h =
    let c : ℕ = D COUNT x in
    let c' : ℕ = half c in
    let few : s.N < 268435456 = omega (arith, h.legal.few) in
    let he : Entry s x = entry_x s old D x rs vs unused h in
    let cx = count_x s old D x rs vs unused h in
    let l : 1 ≤ c' = omega (arith, cx.0) in
    let sum : D (in_header SUM) 0 < 268435456 = g.small (in_header SUM) 0 SUM (header refl refl (omega arith) (omega arith) (omega arith)) in
    let D1 : Fields = count D x c c' in
    let g1 = view_count_set s w D g few x c c' he (omega (arith, cx.1)) (omega (arith, cx.0)) in
    rw (view_get s w D g COUNT x (word_of (base s) x COUNT) (address s COUNT x (word_of (base s) x COUNT) (omega arith) he refl))
    (view_chain_joined s _ D1 g1 few c' x l he (λ q. (tied_head s D1 unused h.stack.free.some vs c' l (safe s old D x rs vs unused h).1
    (counted_chain s old D x rs vs unused h).chains (le-leb c' s.cmax q)).0))

view_halved_up : (s : Shape) (old : ℕ → ℕ) (w : List ℕ) (D : Fields) (x : ℕ) (rs vs unused : List ℕ) → x ≡ first rs 0 → Distinct rs → View s w D
    → Halving s old D rs vs unused → View s (halved_up w (base s) s.cmax (length rs) x) (halve_up s (length rs) x D)
unfolding halved_up halve_up
view_halved_up s old w D x [] vs unused q d g h = g
view_halved_up s old w D x (r ∷ rs) vs unused q d g h =
    let v : val w (word_of (base s) r TO-HEAD) ≡ D TO-HEAD r =
    view_get s w D g TO-HEAD r (word_of (base s) r TO-HEAD)
    (address s TO-HEAD r (word_of (base s) r TO-HEAD) (omega arith) (entry_x s old D r rs vs unused h) refl) in
    let t : View s (halved_up (halved_entry w (base s) s.cmax r) (base s) s.cmax (length rs) (D TO-HEAD r))
    (halve_up s (length rs) (D TO-HEAD r) (halve_one s D r)) =
    view_halved_up s old (halved_entry w (base s) s.cmax r) (halve_one s D r) (D TO-HEAD r) rs (r ∷ vs) unused (up_x s old D r rs vs unused h) d.1
    (view_halved_entry s old w D r rs vs unused g h) (halve_step s old D r rs vs unused h d) in
    let u : View s (halved_up (halved_entry w (base s) s.cmax r) (base s) s.cmax (length rs) (val w (word_of (base s) r TO-HEAD)))
    (halve_up s (length rs) (D TO-HEAD r) (halve_one s D r)) = rw v t in
    rw q u

-- ---- the whole

halve_start : (s : Shape) (D : Fields) (residents unused : List ℕ) → WellLinked s D residents unused
    → Halving s (D COUNT) (clear s.cmax D) (onto residents []) [] unused
halve_start s D residents unused g =
    record {
      legal = g.legal;
      settled = g.settled;
      stack = rw onto_back g.stack;
      count = rw onto_back g.count;
      chain = record {
        chains =
            λ i h. rw (chain_nil (D COUNT) i, zero_in s.cmax (D CHAIN-HEADS) i h.0 h.1, zero_in s.cmax (D CHAIN-TAILS) i h.0 h.1)
            (dll_links (D CHAIN-TO-TAIL) (D CHAIN-TO-HEAD) 0 0 [] refl refl tt);
        loose = tt;
        idle = g.chain.idle;
      };
      hash = g.hash;
      flags = g.flags;
      todo = refls (D COUNT) (onto residents []);
      done = tt;
    }
  where
    refls : (f : ℕ → ℕ) (residents : List ℕ) → All (λ x. f x ≡ f x) residents
    refls f [] = tt
    refls f (x ∷ residents) = (refl, refls f residents)

abbrev pub halveD : Shape → ℕ → Fields → Fields
halveD s n D = halve_up s n (D TO-HEAD 0) (clear s.cmax D)

pub record Halves (s : Shape) (old : ℕ → ℕ) (w : List ℕ) (D : Fields) (residents unused : List ℕ) : Type 0 where
  pub sound : Directory s w D residents unused
  pub counts : All (λ x. D COUNT x ≡ half (old x)) residents

pub halve_sound : (s : Shape) (w : List ℕ) (D : Fields) (residents unused : List ℕ) → Directory s w D residents unused
    → Halves s (D COUNT) (halved w (base s) s.cmax) (halveD s (length residents) D) residents unused
unfolding halved
halve_sound s w D residents unused g =
    let rs : List ℕ = onto residents [] in
    let C : Fields = clear s.cmax D in
    let h : Halving s (D COUNT) C rs [] unused = halve_start s D residents unused g.linked in
    let n : length rs ≡ length residents = length_onto residents [] ∙ omega arith in
    let d : Distinct rs = distinct_of rs [] h.stack.ring.once in
    let q : D TO-HEAD 0 ≡ first rs 0 = back_onto (D TO-HEAD) (D TO-HEAD 0) rs [] h.stack.ring.bwd in
    let v : View s (halved_up (chains_cleared w s.cmax) (base s) s.cmax (length rs) (D TO-HEAD 0)) (halve_up s (length rs) (D TO-HEAD 0) C) =
    view_halved_up s (D COUNT) (chains_cleared w s.cmax) C (D TO-HEAD 0) rs [] unused q d
    (view_chains_cleared s w D s.cmax (omega arith) g.view) h in
    let e : Halving s (D COUNT) (halve_up s (length rs) (D TO-HEAD 0) C) [] (onto rs []) unused =
    halve_up_lem s (D COUNT) C (D TO-HEAD 0) rs [] unused q d h in
    let e2 : Halving s (D COUNT) (halve_up s (length residents) (D TO-HEAD 0) C) [] residents unused = rw (n, onto_back residents) at e in
    let l7 : val w RESIDENTS ≡ length residents = view_get s w D g.view (in_header RESIDENTS) 0 RESIDENTS
    (header refl refl (omega arith) (omega arith) (omega arith)) ∙ sym g.linked.stack.full in
    let l10 : val w TAIL ≡ D TO-HEAD 0 = view_get s w D g.view TO-HEAD 0 TAIL (ends refl refl (omega arith) (omega arith)) in
    record {
      sound = record {
        view = rw (l7, l10) (rw n at v);
        linked =
            record {
              legal = e2.legal;
              settled = e2.settled;
              stack = e2.stack;
              count = e2.count;
              chain = e2.chain;
              hash = e2.hash;
              flags =
                  e2.flags;
            };
      };
      counts = e2.done;
    }
