-- What holds of every resident's marks still holds after a read, where it does of a block that enters and of one that is read again.
use Rattle.std.specs.Prelude.{ℕ, Bool, true, false, ◌||◌, not, List, map, T}
use Rattle.basics.specs.Basics.{All}
use Rattle.basics.specs.AllLaws.{all_image}
use Rattle.basics.specs.TestLaws.{if_either}
use Rattle.settings.specs.declared.Settings.{Settings}
use Rattle.stack.specs.declared.Marks.{Marks}
use Rattle.stack.specs.Recency.{unmarked, asked_marks, Resident, Place, halve, asked, settled}
use Rattle.stack.proofs.PlaceLaws.{Placed, hits, enters, replaces, refusing, all_found, all_without}

module _ {A : Type 0} (P : Marks → Type 0) (new : P (asked_marks false unmarked)) (again : (m : Marks) → P m → P (asked_marks false m)) where
  abbrev pub Marked : List (Resident A) → Type 0
  Marked = All (λ x. P x.marks)

  pub read_marked : (s : Settings) (b : ℕ) (a : A) (l : List (Resident A)) → Marked l → (q : Place A) → Placed s l q → Marked (asked b false a q)
  unfolding asked
  read_marked s b a l f q (hits p x n e ok up) =
      (again x.marks (all_found (λ y. P y.marks) l p x f e), all_without (λ y. P y.marks) l p f)
  read_marked s b a l f q (enters h) = (new, f)
  read_marked s b a l f q (replaces v x e h u c) = (new, all_without (λ y. P y.marks) l v f)
  read_marked s b a l f q (refusing h all) = f

  pub settled_marked : (t : Bool) (l : List (Resident A)) → Marked l → Marked (settled t l)
  unfolding settled halve
  settled_marked t l f = if_either Marked t (map halve l) l (λ h. all_image (λ y. P y.marks) halve l f) (λ h. f)

-- ---- of pins, and of the modified mark

abbrev pub NotPinned : Marks → Type 0
NotPinned m = T (not m.pinned)

abbrev pub NotModified : Marks → Type 0
NotModified m = T (not m.modified)

pub unmodified_again : (m : Marks) → NotModified m → NotModified (asked_marks false m)
unmodified_again m h = go m.modified h
  where
    go : (t : Bool) → T (not t) → T (not (t || false))
    go true h = h
    go false h = h
