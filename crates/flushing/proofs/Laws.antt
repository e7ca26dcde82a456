-- A flush or a tick along the stack, over variables: what one resident takes and leaves, and what the whole walk leaves.
use Prim.Native.Nat.{ℕ, zero, suc, ◌+◌, ◌-◌, ◌*◌, ◌≤◌, ◌<◌}
use native.Mathlib.Omega.{arith}
use mathlib.Core.Path.{◌≡◌, refl, sym, ap, ◌∙◌}
use mathlib.Core.Bool.{Bool, true, false}
use mathlib.Core.List.{List, [], ◌∷◌, map}
use mathlib.Core.Option.{some}
use lib.ListN.{length, get_or, get_elem?}
use mir.Val.{bool_byte}
use Rattle.basics.specs.Basics.{bit, block_at, put_block}
use Rattle.stack.specs.declared.Marks.{Marks}
use Rattle.stack.specs.Recency.{Resident}
use Rattle.layout.specs.Sound.{resident_at, residents_in}
use Rattle.layout.proofs.SoundLaws.{sound_legal, sound_residents}
use Rattle.promises.specs.DirectoryPromises.{Cleaned, TickSeen, entry_at, NextOf}
use Rattle.promises.specs.Demand3.{Memory}
use Rattle.promises.specs.DirectoryReady.{ModifiedReady}
use Rattle.cache_steps.specs.Carried.{settings_of, memory, Ready}
use Rattle.cache_steps.specs.Places.{at_entry, resident_fit, resident_entry, resident_block}
use Rattle.cache_steps.specs.FlushLists.{chosen, passed, chosen_set}
use Rattle.cache_steps.specs.FlushStep.{Flushing, flush_clean, flush_modified, flush_seen, flush_length, flush_ready}
use Rattle.flushing.specs.Standing.{Standing, EntryReady}

-- ---- a test as a number

pub as_bit : (b : Bool) → bool_byte b ≡ bit b
as_bit true = refl
as_bit false = refl

pub bit_few : (b : Bool) {n : ℕ} → n ≡ bool_byte b → n ≤ 1
bit_few true is = omega (arith, is)
bit_few false is = omega (arith, is)

-- ---- the resident at a position

record Here (l : List (Resident ℕ)) (p e : ℕ) : Type 0 where
  pub resident : Resident ℕ
  pub here : get_elem? l p ≡ some resident
  pub entry : resident.held ≡ e

found : (l : List (Resident ℕ)) (p e : ℕ) → p < length l → entry_at l p ≡ e → Here l p e
found [] p e h q = absurd (omega arith)
found (x ∷ l) zero e h q = record { resident = x; here = refl; entry = q }
found (x ∷ l) (suc p) e h q = let r = found l p e (omega arith) q in record { resident = r.resident; here = r.here; entry = r.entry }

of_standing : (w : List ℕ) (p e : ℕ) → Standing w p e → Here (residents_in w) p e
of_standing w p e s = found (residents_in w) p e s.inside s.entry

-- by the words of its entry
here_is : (w : List ℕ) (p e : ℕ) → (h : Here (residents_in w) p e) → h.resident ≡ resident_at w e
here_is w p e h = at_entry w p h.resident h.here ∙ ap (resident_at w) h.entry

-- ---- one resident: room for its bytes, and its mark

module _ (m : Memory) (size e : ℕ) (r : EntryReady m size e) where
  h : Here (residents_in m.directory) r.position e
  h = of_standing m.directory r.position e r.standing

  pub entry_some : 1 ≤ e
  entry_some = rw (← h.entry) (resident_fit m r.ready r.position h.here).least

  pub entry_room : (e - 1) * size + size ≤ length m.bytes
  entry_room = rw (r.size_is, ← h.entry) (resident_entry m r.ready r.position h.here)

  pub block_room : (block : ℕ) → block ≡ (resident_at m.directory e).block → block * size + size ≤ length m.store
  block_room block b = rw (r.size_is, b, ← here_is m.directory r.position e h) (resident_block m r.ready r.position h.here)

  pub clean_ready : (marks : Marks) → marks ≡ (resident_at m.directory e).marks → marks.modified ≡ true → ModifiedReady m.directory e
  clean_ready marks is set =
      record {
        is_sound = r.ready.is_sound;
        position = r.position;
        resident = h.resident;
        here = h.here;
        entry = h.entry;
        modified = ap (λ x. x.marks.modified) (here_is m.directory r.position e h) ∙ sym (ap (λ x. x.modified) is) ∙ set;
      }

  pub out_ready : (ticks : Bool) (marks : Marks) → marks ≡ (resident_at m.directory e).marks → chosen ticks marks ≡ true
      → ModifiedReady m.directory e
  out_ready ticks marks is out = clean_ready marks is (chosen_set ticks marks out)

-- ---- one resident passed, with its marks

module _ (ticks : Bool) (m : Memory) (e : ℕ) (start : Memory) (p n : ℕ) (ready : Ready start) (so_far : Flushing ticks start p m n)
    (s : Standing m.directory p e) (marks : Marks) (marks_is : marks ≡ (resident_at m.directory e).marks) where
  k : Here (residents_in m.directory) p e
  k = of_standing m.directory p e s

  k_is : k.resident ≡ resident_at m.directory e
  k_is = here_is m.directory p e k

  k_marks : k.resident.marks ≡ marks
  k_marks = ap (λ x. x.marks) k_is ∙ sym marks_is

  none : n + 0 ≡ n
  none = omega arith

  -- one that isn't modified stays
  pub stays : marks.modified ≡ false → Flushing ticks start (p + 1) m (n + 0)
  stays clear = rw none (flush_clean ticks start ready so_far k.here (ap (λ x. x.modified) k_marks ∙ clear))

  -- one that is modified and isn't written out has seen the tick
  pub sees : marks.modified ≡ true → chosen ticks marks ≡ false → (d : List ℕ) → TickSeen m.directory e d
      → Flushing ticks start (p + 1) (memory d m.bytes m.store) (n + 0)
  sees set left d seen =
      rw none
      (flush_seen ticks start ready so_far k.here (ap (λ x. x.modified) k_marks ∙ set) (ap (chosen ticks) k_marks ∙ left) (rw k.entry seen))

  pub writes : (size block : ℕ) (d store : List ℕ) → size ≡ (settings_of m).b → chosen ticks marks ≡ true → block ≡ (resident_at m.directory e).block
      → store ≡ put_block size block (block_at size (e - 1) m.bytes) m.store → Cleaned m.directory e d
      → Flushing ticks start (p + 1) (memory d m.bytes store) (n + 1)
  writes size block d store m-size out b_is Store-is clean =
      let size_is : size ≡ (settings_of start).b = m-size ∙ ap (λ x. x.b) so_far.kept.settings_kept in
      let b : block ≡ k.resident.block = b_is ∙ sym (ap (λ x. x.block) k_is) in
      let bytes_of : ℕ → List ℕ = λ B. block_at B (k.resident.held - 1) m.bytes in
      let same : store ≡ put_block (settings_of start).b k.resident.block (bytes_of (settings_of start).b) m.store = cc k.entry in
      rw same (flush_modified ticks start ready so_far k.here (ap (chosen ticks) k_marks ∙ out) (rw k.entry clean))

-- ---- along the stack

passed_entries : (ticks : Bool) (l : List (Resident ℕ)) (p : ℕ) → map (λ x. x.held) (passed ticks p l) ≡ map (λ x. x.held) l
passed_entries ticks [] zero = refl
passed_entries ticks [] (suc p) = refl
passed_entries ticks (x ∷ l) zero = refl
passed_entries ticks (x ∷ l) (suc p) = ap (λ t. x.held ∷ t) (passed_entries ticks l p)

module _ (ticks : Bool) (start : Memory) (ready : Ready start) (p : ℕ) (m : Memory) (n : ℕ) (so_far : Flushing ticks start p m n) where
  -- the entries stand as at the start
  entries_stay : (q : ℕ) → entry_at (residents_in m.directory) q ≡ entry_at (residents_in start.directory) q
  entries_stay q = ap (λ l. entry_at l q) so_far.residents ∙ ap (λ l. get_or l q 0) (passed_entries ticks (residents_in start.directory) p)

  module _ (count : ℕ) (count_is : count ≡ length (residents_in start.directory)) (left : p < count) (e : ℕ)
      (e-is : e ≡ entry_at (residents_in start.directory) p) where
    pub standing : Standing m.directory p e
    standing = record { inside = rw (flush_length ticks start ready so_far, ← count_is) left; entry = entries_stay p ∙ sym e-is }

    pub entry_ready : (size : ℕ) → size ≡ (settings_of start).b → EntryReady m size e
    entry_ready size size_is =
        record {
          ready = flush_ready ticks start ready so_far;
          size_is = size_is ∙ ap (λ x. x.b) (sym so_far.kept.settings_kept);
          position = p;
          standing = standing;
        }

    pub behind_is : (behind : ℕ) → NextOf m.directory e behind → behind ≡ entry_at (residents_in start.directory) (p + 1)
    behind_is behind next = next.along_stack p standing.inside standing.entry ∙ entries_stay (p + 1)

-- no more than 4096 residents
pub residents_few : (m : Memory) → Ready m → length (residents_in m.directory) ≤ 4096
residents_few m ready = omega (arith, (sound_residents m.directory ready.is_sound).few, (sound_legal m.directory ready.is_sound).few_blocks)
