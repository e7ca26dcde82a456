-- A block that enters the entry of a victim of a sound directory leaves a sound one. Assumes nothing.
use Prim.Native.Nat.{ℕ, suc, ◌+◌, ◌*◌, ◌≤◌, ◌<◌}
use Rattle.std.specs.Prelude.{◌≡◌, T}
use mathlib.Core.List.{List, ◌∷◌, ◌++◌}
use native.Mathlib.Omega.{arith}
use Rattle.basics.specs.AllLaws.{all_left}
use Rattle.links.specs.Off.{off_left, distinct_off}
use Rattle.links.specs.Run.{last}
use Rattle.links.specs.All.{all_last, all_next}
use Rattle.layout.specs.ModifiedWord.{is_modified_word}
use Rattle.layout.specs.Addresses.{SUM, BLOCK, COUNT, SECTION, NEXT-SYNONYM}
use Rattle.linkage.specs.Fields.{Shape, base, Fields, BUCKET-HEADS, in_header, View}
use Rattle.linkage.specs.WellLinked.{WellLinked, Entry}
use Rattle.word_ops.specs.Hit.{recounted, to_front}
use Rattle.word_ops.specs.Buckets.{bucket_left, synonym_before}
use Rattle.word_ops.specs.Enter.{replaced_from, replaced}
use Rattle.operations.specs.FieldOps.{front, recount, unhash, replaceD}
use Rattle.operations.specs.Seen.{view_recounted, section_word, count_word}
use Rattle.operations.specs.PurgeSeen.{synonym_before_is, view_bucket_left}
use Rattle.operations.specs.PurgeSound.{us', vs', links, bound, once, long, entries_us}
use Rattle.operations.specs.Unhash.{prev_is}
use Rattle.operations.specs.Directory.{Directory}
use Rattle.operations.specs.Hit.{ready_for}
use Rattle.operations.specs.EnterSeen.{view_filled}
use Rattle.operations.specs.Purge.{live_e, here_e, prev_e, prev_e_is}
use Rattle.operations.specs.Enter.{NoneHas, Marks, replace_linked}

module _ (s : Shape) (w : List ℕ) (D : Fields) (above : List ℕ) (e : ℕ) (below unused : List ℕ) (block mark : ℕ)
    (small : D (in_header SUM) 0 < 268435455) (room : block < s.M) (marks : T (is_modified_word mark))
    (g : Directory s w D (above ++ (e ∷ below)) unused) (hashed : s.hash (D BLOCK e) < s.nb) (live : 1 ≤ D COUNT e) where
  abbrev h : WellLinked s D (above ++ (e ∷ below)) unused
  h = g.linked

  abbrev he : Entry s e
  he = here_e s D above e below unused h

  abbrev b : ℕ
  b = s.hash (D BLOCK e)

  abbrev bs : List ℕ
  bs = us' s w D above e below unused g hashed live

  abbrev cs : List ℕ
  cs = vs' s w D above e below unused g hashed live

  view_replaced : View s (replaced w (base s) s.cmax (suc s.N) (24 + 2 * s.cmax + b) (24 + 2 * s.cmax + s.hash block) e block mark)
      (replaceD s D e (last 0 bs) block mark)
  unfolding replaced replaced_from
  view_replaced =
      let few : s.N < 268435456 = omega (arith, h.legal.few) in
      let D1 : Fields = recount s (front D e (D SECTION e)) e (D COUNT e) 1 in
      let D2 : Fields = unhash D1 b (last 0 bs) e in
      let w1 : List ℕ = recounted (to_front w (base s) e (D SECTION e)) (base s) s.cmax e (D COUNT e) 1 in
      let w2 : List ℕ = bucket_left w1 (base s) (suc s.N) (24 + 2 * s.cmax + b) e in
      let g1 : View s w1 D1 = view_recounted s w D e 1 few g.view
      (ready_for s D above e below unused h 1 (record { least = omega arith; most = omega arith; one = omega arith }) small) in
      let z : synonym_before w1 (base s) e (suc s.N) (D BUCKET-HEADS b) 0 ≡ last 0 bs =
      synonym_before_is s w1 D1 g1 few e (suc s.N) (D BUCKET-HEADS b) 0 bs cs (links s w D above e below unused g hashed live).fwd
      (off_left e bs cs (distinct_off bs e cs (once s w D above e below unused g hashed live)))
      (entries_us s w D above e below unused g hashed live) (long s w D above e below unused g hashed live) in
      let g2 : View s w2 D2 = view_bucket_left s w1 D1 g1 few e (suc s.N) b (last 0 bs) he hashed
      (all_last (λ x. x ≤ s.N) 0 bs (omega arith) (all_left (λ z. z ≤ s.N) bs (e ∷ cs) (bound s w D above e below unused g hashed live)))
      (all_next (λ x. x ≤ s.N) (D NEXT-SYNONYM) (D BUCKET-HEADS b) bs e cs (omega arith) (bound s w D above e below unused g hashed live)
      (links s w D above e below unused g hashed live).fwd) z in
      rw (section_word s w D e he g.view, count_word s w D e he g.view)
      (view_filled s w2 D2 g2 few e block mark he (omega (arith, h.legal.blocks)) marks (h.legal.hashed block))

-- THE REPLACEMENT: block block, of no resident, enters the entry e of any resident, with count 1 and mark mark, at the front of the stack.
pub replace_sound : (s : Shape) (w : List ℕ) (D : Fields) (above : List ℕ) (e : ℕ) (below unused : List ℕ) (block mark : ℕ)
    → D (in_header SUM) 0 < 268435455 → block < s.M → NoneHas s D block → Marks s D mark → (g : Directory s w D (above ++ (e ∷ below)) unused)
    → Directory s (replaced w (base s) s.cmax (suc s.N) (24 + 2 * s.cmax + s.hash (D BLOCK e)) (24 + 2 * s.cmax + s.hash block) e block
    mark) (replaceD s D e (prev_e s D above e below unused g.linked) block mark) (e ∷ (above ++ below)) unused
replace_sound s w D above e below unused block mark small room absent marks g =
    record {
      view =
          rw (
            prev_e_is s D above e below unused g.linked,
            prev_is s (D COUNT) (D BLOCK) (D NEXT-SYNONYM) (D BUCKET-HEADS) e
                (here_e s D above e below unused g.linked) (live_e s D above e below unused g.linked) g.linked.hash
                (g.linked.legal.hashed (D BLOCK e)),
          ) (view_replaced s w D above e below unused block mark small room marks.0 g
          (g.linked.legal.hashed (D BLOCK e)) (live_e s D above e below unused g.linked));
      linked = replace_linked s D above e below unused block mark room absent marks g.linked;
    }
