-- The walk along the stack, over variables: one resident more, and the whole of it.
use Prim.Native.Nat.{ℕ, zero, suc, ◌+◌, ◌≤◌, ◌<◌}
use native.Mathlib.Omega.{arith}
use mathlib.Core.Path.{◌≡◌, refl, sym, ap, subst, ◌∙◌}
use mathlib.Core.Bool.{Bool, true}
use mathlib.Core.List.{List, [], ◌∷◌, ◌++◌, map}
use lib.ListN.{length, get_or, take, length-map}
use lib.Dec.{T}
use lib.Seq.{take-length, length-take-le}
use Rattle.basics.specs.Basics.{All, bit, total}
use Rattle.stack.specs.Recency.{Resident}
use Rattle.stack.specs.Counts.{Legal}
use Rattle.stack.specs.Occupancy.{class_of, column, table}
use Rattle.stack.proofs.OccupancyLaws.{raised, column_more, column_few, class_below}
use Rattle.layout.specs.Sound.{order, sound, resident_at, residents_in, view}
use Rattle.layout.proofs.SoundLaws.{sound_legal, sound_residents, sound_kept}
use Rattle.promises.specs.DirectoryPromises.{entry_at, NextOf}
use Rattle.promises.specs.Occupancy.{no_figures}
use Rattle.occupancy.specs.declared.Table.{Table}
use Rattle.occupancy.specs.Walk.{Shows, Room, Walked}

-- ---- one resident more

pub shows_more : (t : Table) (l : List (Resident ℕ)) (x : Resident ℕ) (class mark : ℕ)
    → Legal x.count → class ≡ class_of x.count → mark ≡ bit x.marks.modified
    → Shows t (table l) → Shows (record { residents = raised t.residents class 1; modified = raised t.modified class mark }) (table (l ++ (x ∷ [])))
shows_more t l x class mark legal class-is mark_is shows =
    record {
      residents_are = rw (class-is, shows.residents_are) (sym (column_more (λ y. true) l x legal));
      modified_are = rw (class-is, mark_is, shows.modified_are) (sym (column_more (λ y. y.marks.modified) l x legal));
    }

-- the class of a count
pub class_fits : (class count listed : ℕ) → class ≡ class_of count → count ≡ listed → Legal listed → class < 8
class_fits class count listed class-is count-is legal = rw (class-is, count-is) (class_below listed legal)

-- ---- along the stack

module _ (words : List ℕ) where
  abbrev listed : List ℕ → List (Resident ℕ)
  listed = map (resident_at words)

  -- the resident at a position is the one of its entry
  one_further : (es : List ℕ) (p : ℕ) → p < length es
      → take (suc p) (listed es) ≡ take p (listed es) ++ (resident_at words (entry_at (listed es) p) ∷ [])
  unfolding resident_at
  one_further [] p h = absurd (omega arith)
  one_further (e ∷ es) zero h = refl
  one_further (e ∷ es) (suc p) h = ap (λ l. resident_at words e ∷ l) (one_further es p (omega arith))

  at_position_lem : (P : Resident ℕ → Type 0) (es : List ℕ) (p : ℕ) → p < length es → All P (listed es)
      → P (resident_at words (entry_at (listed es) p))
  unfolding resident_at
  at_position_lem P [] p h a = absurd (omega arith)
  at_position_lem P (e ∷ es) zero h a = a.0
  at_position_lem P (e ∷ es) (suc p) h a = at_position_lem P es p (omega arith) a.1

  pub walk_begins : (e : ℕ) → e ≡ entry_at (residents_in words) 0
      → Walked words 0 (record { residents = no_figures.residents; modified = no_figures.modified }) e
  unfolding column total
  walk_begins e first = record { shows = record { residents_are = refl; modified_are = refl }; entry = first }

  module _ (h : T (sound words)) (p : ℕ) (t : Table) (e : ℕ) (w : Walked words p t e) where
    few : length (residents_in words) ≤ 4096
    few = omega (arith, (sound_residents words h).few, (sound_legal words h).few_blocks)

    module _ (left : p < length (residents_in words)) where
      inside : p < length (order words)
      inside = rw (length-map (order words) (resident_at words)) at left

      figure_few : (test : Resident ℕ → Bool) (i : ℕ) → get_or (column test (take p (residents_in words))) i 0 ≤ 4096
      figure_few test i =
          let n : length (take p (residents_in words)) ≡ p = length-take-le p (residents_in words) (omega arith) in
          omega (arith, column_few test (take p (residents_in words)) i, n, left, few)

      pub room : Room t (resident_at words e).count
      unfolding view
      room =
          record {
            legal = rw w.entry (at_position_lem (λ x. Legal x.count) (order words) p inside (sound_kept words h []).legal);
            residents_few = λ i. rw w.shows.residents_are (figure_few (λ x. true) i);
            modified_few = λ i. rw w.shows.modified_are (figure_few (λ x. x.marks.modified) i);
          }

      -- behind the resident at position p
      pub walk_goes_on : (more : Table) (next : ℕ) → Shows more (table (take p (residents_in words) ++ (resident_at words e ∷ [])))
          → NextOf words e next → Walked words (p + 1) more next
      walk_goes_on more next shows n =
          let next-p : suc p ≡ p + 1 = omega arith in
          let further : take p (residents_in words) ++ (resident_at words e ∷ []) ≡ take (p + 1) (residents_in words) =
          rw (w.entry, ← next-p) (sym (one_further (order words) p inside)) in
          record {
            shows = subst (λ l. Shows more (table l)) further shows;
            entry = n.along_stack p left (sym w.entry);
          }

    pub walk_ends : p ≡ length (residents_in words) → Shows t (table (residents_in words))
    walk_ends e = subst (λ l. Shows t (table l)) (ap (λ n. take n (residents_in words)) e ∙ take-length (residents_in words)) w.shows
