-- A purge over the words of a sound directory leaves a sound one. Assumes nothing.
use Prim.Native.Nat.{ℕ, suc, ◌+◌, ◌*◌, ◌≤◌, ◌<◌}
use Rattle.std.specs.Prelude.{◌≡◌, not, eqb, leb, length, get_or}
use Rattle.std.proofs.Math.Path.{refl}
use mathlib.Core.List.{List, ◌∷◌, ◌++◌}
use Rattle.std.proofs.Common.{arith, length-append, le-leb}
use Rattle.basics.specs.Basics.{All}
use Rattle.basics.specs.AllLaws.{all_map, all_both, all_left}
use Rattle.links.specs.Off.{Distinct, off_left, distinct_off}
use Rattle.links.specs.Run.{last}
use Rattle.links.proofs.Sll.{Sll, sll_distinct}
use Rattle.links.specs.All.{all_at, all_next, all_last, off_all}
use Rattle.links.specs.Find.{few}
use Rattle.layout.specs.Addresses.{HEAD, TAIL, NEW-BOUNDARY, OLD-BOUNDARY, BLOCK, COUNT, SECTION, TO-HEAD, TO-TAIL, NEXT-SYNONYM}
use Rattle.linkage.specs.Fields.{Shape, base, Fields, BUCKET-HEADS, in_header, View}
use Rattle.linkage.specs.WellLinked.{WellLinked, Entry}
use Rattle.word_ops.specs.Lists.{unlinked, word_of}
use Rattle.word_ops.specs.Hit.{chain_left}
use Rattle.word_ops.specs.Purge.{boundary_falls, boundary_down, unused_first, chain_links_cleared, boundaries_down, stack_left, unchained, purged_from, purged}
use Rattle.word_ops.specs.Buckets.{synonym_before, bucket_left}
use Rattle.operations.specs.FieldOps.{stack_out, chain_out, pull, pull_both, unuse, unchain, unhash, purgeD}
use Rattle.operations.specs.Seen.{address, section_word, count_word, view_stack_out, view_chain_left}
use Rattle.operations.specs.PurgeSeen.{view_boundary_down, view_unused_first, view_chain_links_cleared, view_blanked, synonym_before_is, view_bucket_left}
use Rattle.operations.specs.Front.{entries, safe, safe_up, safe_down}
use Rattle.operations.specs.Recount.{tied_links}
use Rattle.operations.specs.PurgeStack.{pull_old, pull_new, pulled as pulled-in}
use Rattle.operations.specs.Unhash.{prev_is, split_e, links_own, its_own}
use Rattle.operations.specs.Purge.{live_e, here_e, prev_e, prev_e_is, purge_linked}
use Rattle.operations.specs.Directory.{Directory}
use Rattle.operations.specs.Laws.{all_below}

module _ (s : Shape) (w : List ℕ) (D : Fields) (above : List ℕ) (e : ℕ) (below unused : List ℕ) (g : Directory s w D (above ++ (e ∷ below)) unused)
  where
    abbrev h : WellLinked s D (above ++ (e ∷ below)) unused
    h = g.linked

    abbrev q : ℕ
    q = prev_e s D above e below unused h

    abbrev pub he : Entry s e
    he = here_e s D above e below unused h

    order : s.new ≤ s.old
    order = h.legal.order

    boundary : (i k : ℕ) → D i 0 ≡ get_or (above ++ (e ∷ below)) k 0 → k < length (above ++ (e ∷ below)) → Entry s (D i 0)
    boundary i k r l = rw r (all_at (Entry s) (above ++ (e ∷ below)) k (entries s D above e below unused order h.stack) l)

    small_5 : (b : ℕ) → Entry s b → D TO-TAIL b < 268435456
    small_5 b a = g.view.small TO-TAIL b (word_of (base s) b TO-TAIL) (address s TO-TAIL b (word_of (base s) b TO-TAIL) (omega arith) a refl)

    module _ (hashed : s.hash (D BLOCK e) < s.nb) (live : 1 ≤ D COUNT e) where
      -- the bucket of e
      abbrev b : ℕ
      b = s.hash (D BLOCK e)

      abbrev pub us' : List ℕ
      us' = (split_e s (D COUNT) (D BLOCK) (D NEXT-SYNONYM) (D BUCKET-HEADS) e he live h.hash hashed).before

      abbrev pub vs' : List ℕ
      vs' = (split_e s (D COUNT) (D BLOCK) (D NEXT-SYNONYM) (D BUCKET-HEADS) e he live h.hash hashed).behind

      its : All (λ z. (z ≤ s.N) × (1 ≤ D COUNT z) × (s.hash (D BLOCK z) ≡ b)) (us' ++ (e ∷ vs'))
      its = its_own s (D COUNT) (D BLOCK) (D NEXT-SYNONYM) (D BUCKET-HEADS) e he live h.hash hashed

      pub links : Sll (D NEXT-SYNONYM) (D BUCKET-HEADS b) (us' ++ (e ∷ vs'))
      links = links_own s (D COUNT) (D BLOCK) (D NEXT-SYNONYM) (D BUCKET-HEADS) e he live h.hash hashed

      pub bound : All (λ z. z ≤ s.N) (us' ++ (e ∷ vs'))
      bound = all_map (λ z. (z ≤ s.N) × (1 ≤ D COUNT z) × (s.hash (D BLOCK z) ≡ b)) (λ z. z ≤ s.N) (us' ++ (e ∷ vs')) (λ z a. a.0) its

      pub once : Distinct (us' ++ (e ∷ vs'))
      once = sll_distinct (D NEXT-SYNONYM) (D BUCKET-HEADS b) (us' ++ (e ∷ vs')) links

      pub long : length us' < suc s.N
      long =
          let f : length (0 ∷ (us' ++ (e ∷ vs'))) ≤ suc s.N =
          few (suc s.N) (0 ∷ (us' ++ (e ∷ vs'))) (omega arith, all_below s.N (us' ++ (e ∷ vs')) bound) (links.some, once) in
          omega (arith, length-append us' (e ∷ vs'))

      pub entries_us : All (Entry s) us'
      entries_us =
          all_map (λ z. (z ≤ s.N) × (¬ (0 ≡ z))) (Entry s) us' (λ z a. (omega arith, a.0))
          (all_both (λ z. z ≤ s.N) (λ z. ¬ (0 ≡ z)) us' (all_left (λ z. z ≤ s.N) us' (e ∷ vs') bound)
          (off_all 0 us' (off_left 0 us' (e ∷ vs') links.some)))

      pub view_purge : View s (purged_from w (base s) s.cmax (suc s.N) (24 + 2 * s.cmax + b) e (D SECTION e) (D COUNT e))
          (purgeD s D e (last 0 us'))
      unfolding purged_from stack_left boundaries_down unchained
      view_purge =
          let few' : s.N < 268435456 = omega (arith, h.legal.few) in
          let t = h.stack in
          let D1 : Fields = pull (boundary_falls (eqb (D SECTION e) 2) (D (in_header OLD-BOUNDARY) 0) e) D (in_header OLD-BOUNDARY) in
          let D2 : Fields = pull_both D e (D SECTION e) in
          let D3 : Fields = stack_out D2 e in
          let D4 : Fields = unuse D3 e in
          let D5 : Fields = chain_out (leb (D COUNT e) s.cmax) D4 (D COUNT e) e in
          let D6 : Fields = unchain s D4 e in
          let D7 : Fields = unhash D6 b (last 0 us') e in
          let w1 : List ℕ = boundary_down w (base s) OLD-BOUNDARY (eqb (D SECTION e) 2) e in
          let w2 : List ℕ = boundary_down w1 (base s) NEW-BOUNDARY (not (eqb (D SECTION e) 0)) e in
          let w3 : List ℕ = unlinked w2 HEAD TAIL (base s + TO-HEAD) e in
          let w4 : List ℕ = unused_first w3 (base s) e in
          let w5 : List ℕ = chain_left w4 (base s) s.cmax e (D COUNT e) in
          let w6 : List ℕ = chain_links_cleared w5 (base s) e in
          let w7 : List ℕ = bucket_left w6 (base s) (suc s.N) (24 + 2 * s.cmax + b) e in
          let g1 : View s w1 D1 = view_boundary_down s w D g.view few' OLD-BOUNDARY e (eqb (D SECTION e) 2) (omega arith) (omega arith) (omega arith)
          refl refl (λ r. let k = boundary (in_header OLD-BOUNDARY) s.old t.elder
          (pulled-in s D above e below unused order t (boundary_falls (eqb (D SECTION e) 2) (D (in_header OLD-BOUNDARY) 0) e) s.old
          (pull_old s D above e below unused order t) r) in (k, small_5 (D (in_header OLD-BOUNDARY) 0) k)) in
          let g2 : View s w2 D2 = view_boundary_down s w1 D1 g1 few' NEW-BOUNDARY e (not (eqb (D SECTION e) 0)) (omega arith) (omega arith) (omega arith)
          refl refl (λ r. let k = boundary (in_header NEW-BOUNDARY) s.new t.young
          (pulled-in s D above e below unused order t (boundary_falls (not (eqb (D SECTION e) 0)) (D (in_header NEW-BOUNDARY) 0) e) s.new
          (pull_new s D above e below unused order t) r) in (k, small_5 (D (in_header NEW-BOUNDARY) 0) k)) in
          let g3 : View s w3 D3 = view_stack_out s w2 D2 g2 few' e he (safe_up s D above e below unused order t).0
          (safe_down s D above e below unused order t).0 in
          let g4 : View s w4 D4 = view_unused_first s w3 D3 g3 few' e he in
          let g5 : View s w5 D5 = view_chain_left s w4 D4 g4 few' (D COUNT e) e live he
          (λ c. let l = tied_links s D unused t.free.some above e below live (safe s D above e below unused order t) h.chain.chains
          (le-leb (D COUNT e) s.cmax c) in (l.0.0, l.1.0)) in
          let g6 : View s w6 D6 = view_chain_links_cleared s w5 D5 g5 few' e he in
          let z : synonym_before w6 (base s) e (suc s.N) (D BUCKET-HEADS b) 0 ≡ last 0 us' =
          synonym_before_is s w6 D6 g6 few' e (suc s.N) (D BUCKET-HEADS b) 0 us' vs' links.fwd
          (off_left e us' vs' (distinct_off us' e vs' once)) entries_us long in
          let g7 : View s w7 D7 = view_bucket_left s w6 D6 g6 few' e (suc s.N) b (last 0 us') he hashed
          (all_last (λ x. x ≤ s.N) 0 us' (omega arith) (all_left (λ z. z ≤ s.N) us' (e ∷ vs') bound))
          (all_next (λ x. x ≤ s.N) (D NEXT-SYNONYM) (D BUCKET-HEADS b) us' e vs' (omega arith) bound links.fwd) z in
          view_blanked s w7 D7 g7 few' e (D COUNT e) he refl

-- THE PURGE: e, anywhere in the stack, goes to the unused entries.
pub purge_sound : (s : Shape) (w : List ℕ) (D : Fields) (above : List ℕ) (e : ℕ) (below unused : List ℕ)
    (g : Directory s w D (above ++ (e ∷ below)) unused) → Directory s
    (purged w (base s) s.cmax (suc s.N) (24 + 2 * s.cmax + s.hash (D BLOCK e)) e) (purgeD s D e (prev_e s D above e below unused g.linked))
    (above ++ below) (e ∷ unused)
unfolding purged
purge_sound s w D above e below unused g =
    let here = here_e s D above e below unused g.linked in
    let live = live_e s D above e below unused g.linked in
    let hashed = g.linked.legal.hashed (D BLOCK e) in
    record {
      view =
          rw (
            section_word s w D e here g.view,
            count_word s w D e here g.view,
            prev_e_is s D above e below unused g.linked,
            prev_is s
                (D COUNT) (D BLOCK) (D NEXT-SYNONYM) (D BUCKET-HEADS) e here live g.linked.hash hashed,
          )
          (view_purge s w D above e below unused g hashed live);
      linked = purge_linked s D above e below unused g.linked;
    }
