-- What soundness asks of residents and totals, and that every work word keeps it, whatever residents hold: at most N of them with
-- legal counts and different blocks, seen only where modified, the sum at most Amax × N, ins at most reads, and outs plus modified
-- residents at most writes.
use Prim.Native.Nat.{ℕ, zero, suc, ◌+◌, ◌*◌, ◌≤◌}
use native.Mathlib.Omega.{arith}
use Rattle.std.proofs.Math.Path.{◌≡◌, refl, ap}
use Rattle.std.proofs.Common.{sym, subst}
use Rattle.std.specs.Prelude.{Bool, ◌||◌, length, eqb}
use Rattle.std.proofs.Math.Bool.{true, false}
use mathlib.Core.List.{List, [], ◌∷◌, map}
use Rattle.std.proofs.Math.Option.{some}
use Rattle.std.proofs.Math.ListN.{get_elem?, length-map}
use Rattle.std.proofs.Math.Dec.{T}
use Rattle.basics.specs.AllLaws.{all_map, all_image}
use Rattle.basics.specs.Basics.{All, bit, total, without}
use Rattle.basics.specs.ListLaws.{length_those}
use Rattle.basics.specs.Lists.{those}
use Rattle.settings.specs.declared.Settings.{Settings}
use Rattle.stack.specs.declared.Marks.{Marks}
use Rattle.stack.specs.Recency.{unmarked, Resident, Place, halve, remarked, place, asked, settled, marked, pin_at}
use Rattle.stack.specs.Stack.{Stack, leaving, modified_count}
use Rattle.stack.proofs.PlaceLaws.{Placed, placed, hits, enters, replaces, length_without, all_found, all_without, refusing}
use Rattle.stack.specs.Counts.{Legal}
use Rattle.stack.proofs.BlockLaws.{Differ}
use Rattle.stack.proofs.SumLaws.{sum}
use Rattle.stack.proofs.MarkLaws.{asked_seen_modified, WritesOut}
use Rattle.basics.specs.TestLaws.{if_either}

bit_or : (a b : Bool) → bit (a || b) ≤ bit a + bit b
bit_or true b = omega arith
bit_or false true = omega arith
bit_or false false = omega arith

module _ {A : Type 0} where
  abbrev pub LegalCounts : List (Resident A) → Type 0
  LegalCounts = All (λ x. Legal x.count)

  -- the seen mark needs the modified one
  abbrev pub SeenModified : List (Resident A) → Type 0
  SeenModified = All (λ x. T x.marks.seen → T x.marks.modified)

  pub record Kept (k : Stack A) : Type 0 where
    pub some_old : 1 ≤ k.settings.nold
    pub old_fits : k.settings.nold ≤ k.settings.n
    pub few_chains : k.settings.cmax ≤ 64
    pub some_average : 1 ≤ k.settings.amax
    pub few : length k.residents ≤ k.settings.n
    pub legal : LegalCounts k.residents
    pub differ : Differ k.residents
    pub seen : SeenModified k.residents
    pub sums : sum k.residents ≤ k.settings.amax * k.settings.n
    pub ins : k.totals.ins ≤ k.totals.reads
    pub outs : k.totals.outs + modified_count k.residents ≤ k.totals.writes

  -- so the place of a block is one of the cases
  pub kept_placed : (k : Stack A) → Kept k → (b : ℕ) → Placed k.settings k.residents (place k.settings b k.residents)
  kept_placed k kept = placed k.settings k.residents kept.some_old kept.old_fits kept.few_chains kept.few kept.legal

  -- ---- modified marks

  marks_without : (l : List (Resident A)) (p : ℕ) (x : Resident A) → get_elem? l p ≡ some x
      → modified_count (without p l) + bit x.marks.modified ≡ modified_count l
  unfolding modified_count total
  marks_without [] p x e = let z : ◌≡◌ {A = ℕ} 0 1 = cc in absurd (omega arith)
  marks_without (y ∷ l) zero x e =
      let same : bit y.marks.modified ≡ bit x.marks.modified = ap (λ z. bit z.marks.modified) (let q : y ≡ x = cc in q) in omega arith
  marks_without (y ∷ l) (suc p) x e = let h = marks_without l p x e in omega arith

  marks_same : (f : Resident A → Resident A) → ((x : Resident A) → (f x).marks.modified ≡ x.marks.modified) → (l : List (Resident A))
      → modified_count (map f l) ≡ modified_count l
  unfolding modified_count total
  marks_same f same [] = refl
  marks_same f same (x ∷ l) =
      let e : bit (f x).marks.modified ≡ bit x.marks.modified = ap bit (same x) in let h = marks_same f same l in omega arith

  -- whatever becomes of marks
  pub sum_marked : (change : Resident A → Marks) (l : List (Resident A)) → sum (map (λ x. marked (change x) x) l) ≡ sum l
  unfolding total
  sum_marked change [] = refl
  sum_marked change (x ∷ l) = let h = sum_marked change l in omega arith

  -- those that a flush or a tick writes out, and those that it leaves modified
  module _ {chosen : Marks → Bool} {change : Marks → Marks} (out : WritesOut chosen change) where
    pub marks_flushed : (l : List (Resident A))
        → length (those (λ x. chosen x.marks) l) + modified_count (map (remarked change) l) ≡ modified_count l
    unfolding modified_count total those
    marks_flushed [] = refl
    marks_flushed (x ∷ l) =
        let h = marks_flushed l in
        omega (arith, length_those (λ y. chosen y.marks) x l, out.cleans x.marks)

    pub seen_flushed : (l : List (Resident A)) → SeenModified (map (remarked change) l)
    seen_flushed [] = tt
    seen_flushed (x ∷ l) = (out.seen x.marks, seen_flushed l)

  -- pins change nothing of these
  pub pin_keeps : (on : Bool) (b : ℕ) (x : Resident A)
      → ((pin_at on b x).marks.modified ≡ x.marks.modified) × ((pin_at on b x).marks.seen ≡ x.marks.seen)
  pin_keeps on b x = if_either (λ (m : Marks). (m.modified ≡ x.marks.modified) × (m.seen ≡ x.marks.seen)) (eqb x.block b) _ _
      (λ t. (refl, refl))
      (λ t. (refl, refl))

  pub marks_pinned : (on : Bool) (b : ℕ) (l : List (Resident A)) → modified_count (map (pin_at on b) l) ≡ modified_count l
  marks_pinned on b = marks_same (pin_at on b) (λ x. (pin_keeps on b x).0)

  pub seen_pinned : (on : Bool) (b : ℕ) (l : List (Resident A)) → SeenModified l → SeenModified (map (pin_at on b) l)
  seen_pinned on b [] a = tt
  seen_pinned on b (x ∷ l) a =
      let e = pin_keeps on b x in
      ((λ t. subst T (sym e.0) (a.0 (subst T e.1 t))), seen_pinned on b l a.1)

  pub fewer_marks : (l : List (Resident A)) (p : ℕ) → modified_count (without p l) ≤ modified_count l
  unfolding modified_count total
  fewer_marks [] zero = omega arith
  fewer_marks [] (suc p) = omega arith
  fewer_marks (x ∷ l) zero = omega arith
  fewer_marks (x ∷ l) (suc p) = let h = fewer_marks l p in omega arith

  pub fewer : (l : List (Resident A)) (p : ℕ) → (length (without p l) ≤ length l) × (sum (without p l) ≤ sum l)
  unfolding total
  fewer [] zero = (omega arith, omega arith)
  fewer [] (suc p) = (omega arith, omega arith)
  fewer (x ∷ l) zero = (omega arith, omega arith)
  fewer (x ∷ l) (suc p) = let h = fewer l p in (omega arith, omega arith)

  -- ---- a read or a write

  module _ (s : Settings) (l : List (Resident A)) (few : length l ≤ s.n) (legal : LegalCounts l) (b : ℕ) (w : Bool) (a : A) where
    pub asked_few : (q : Place A) → Placed s l q → length (asked b w a q) ≤ s.n
    unfolding asked
    asked_few q (hits p x n e ok up) = let h = length_without l p e in omega arith
    asked_few q (enters g) = g
    asked_few q (replaces v x e full u c) = let h = length_without l v e in omega arith
    asked_few q (refusing full all) = few

    pub asked_legal : (q : Place A) → Placed s l q → LegalCounts (asked b w a q)
    unfolding asked
    asked_legal q (hits p x n e ok up) = (ok, all_without (λ y. Legal y.count) l p legal)
    asked_legal q (enters g) = ((omega arith, omega arith), legal)
    asked_legal q (replaces v x e full u c) = ((omega arith, omega arith), all_without (λ y. Legal y.count) l v legal)
    asked_legal q (refusing full all) = legal

    seen_without : (p : ℕ) → SeenModified l → SeenModified (without p l)
    seen_without p = all_without (λ y. T y.marks.seen → T y.marks.modified) l p

    pub asked_seen : SeenModified l → (q : Place A) → Placed s l q → SeenModified (asked b w a q)
    unfolding asked
    asked_seen h q (hits p x n e ok up) =
        (asked_seen_modified w x.marks (all_found (λ y. T y.marks.seen → T y.marks.modified) l p x h e), seen_without p h)
    asked_seen h q (enters g) = (asked_seen_modified w unmarked (λ t. t), h)
    asked_seen h q (replaces v x e full u c) = (asked_seen_modified w unmarked (λ t. t), seen_without v h)
    asked_seen h q (refusing full all) = h

    pub asked_marks_lem : (q : Place A) → Placed s l q → modified_count (leaving q) + modified_count (asked b w a q) ≤ modified_count l + bit w
    unfolding asked leaving modified_count total
    asked_marks_lem q (hits p x n e ok up) = let h = marks_without l p x e in let g = bit_or x.marks.modified w in omega arith
    asked_marks_lem q (enters g) = omega arith
    asked_marks_lem q (replaces v x e full u c) = let h = marks_without l v x e in omega arith
    asked_marks_lem q (refusing full all) = omega arith

  -- whether or not counts are halved
  pub settled_many : (t : Bool) (l : List (Resident A)) → length (settled t l) ≡ length l
  unfolding settled
  settled_many true l = length-map l halve
  settled_many false l = refl

  pub settled_legal : (t : Bool) (l : List (Resident A)) → LegalCounts l → LegalCounts (settled t l)
  unfolding settled halve
  settled_legal true l h =
      all_image (λ y. Legal y.count) halve l (all_map (λ y. Legal y.count) (λ y. Legal (halve y).count) l (λ y t. (omega arith, omega arith))
      h)
  settled_legal false l h = h

  pub settled_seen : (t : Bool) (l : List (Resident A)) → SeenModified l → SeenModified (settled t l)
  unfolding settled halve
  settled_seen true l h = all_image (λ y. T y.marks.seen → T y.marks.modified) halve l h
  settled_seen false l h = h

  pub settled_marks : (t : Bool) (l : List (Resident A)) → modified_count (settled t l) ≡ modified_count l
  unfolding settled halve
  settled_marks true l = marks_same halve (λ x. refl) l
  settled_marks false l = refl
