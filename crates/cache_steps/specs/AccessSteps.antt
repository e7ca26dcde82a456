-- A read or a write: once the directory has answered, the code moves the bytes that the answer tells, and the word is carried out.
use Rattle.std.specs.Prelude.{ℕ, ◌+◌, ◌-◌, ◌*◌, ◌≤◌, ◌<◌, ◌≡◌, Bool, not, List, [], length, take, T}
use Rattle.std.proofs.Common.{arith, sym, ap, subst, subst₂, ◌∙◌}
use Rattle.std.proofs.Math.Bool.{true, false}
use Rattle.basics.specs.Basics.{when◌then◌else◌}
use Rattle.settings.specs.declared.Settings.{Settings}
use Rattle.stack.specs.Counts.{chains}
use Rattle.stack.specs.Recency.{Place, found, unused, replacing, asked, refuses, halves, settled, all_pinned, counts_pins}
use Rattle.stack.specs.Stack.{Work, read, write, Answer, replaced, leaving, saved_all, present, answering, access_totals, access, step, is_refused}
use Rattle.stack.specs.Entries.{entry_bytes, entry_for, filled, entry_step, Pick, filled_at}
use Rattle.stack.proofs.EntriesLaws.{Entry, entry_placed}
use Rattle.stack.proofs.ForgetLaws.{length_saved_all}
use Rattle.layout.specs.Sound.{settings_in, totals_in, sound, residents_in, view}
use Rattle.layout.proofs.SoundLaws.{sound_residents}
use Rattle.words.specs.Links.{links_changed}
use Rattle.promises.specs.Promises.{is_still}
use Rattle.promises.specs.DirectoryPromises.{place_of, Accessed}
use Rattle.promises.specs.Demand3.{Memory}
use Rattle.cache_steps.specs.Carried.{cache_of, settings_of, memory, Ready, Carried}
use Rattle.cache_steps.specs.Carries.{cache_with, carry}
use Rattle.cache_steps.specs.MovedLaws.{Stands, leaving_fit, Moved, entry_room, saved_front, present_front, present_length, filled_moved}
use Rattle.cache_steps.specs.Places.{placed_in, place_stands, store_room}
use Rattle.cache_steps.specs.Told.{store_after, bytes_read, told, bytes_after, refuses_is}

abbrev pub accessing : Bool → ℕ → Work
accessing true b = write b
accessing false b = read b

module _ (m : Memory) (ready : Ready m) (b : ℕ) (written : Bool) {k e : ℕ} {answer : Answer} {d : List ℕ}
    (accessed : Accessed k m.directory b written e answer d) where
  abbrev s : Settings
  s = settings_of m

  abbrev q : Place ℕ
  q = place_of m.directory b

  refuses_here : refuses q ≡ is_refused answer
  refuses_here = refuses_is q _ _ answer accessed.answer_is

  -- where it isn't refused, the entry is one of 1 to N, so its bytes stand in the data buffer
  module _ (here : T (not (is_refused answer))) where
    entry : Entry s e q
    entry =
        subst (λ x. Entry s x q) accessed.entry_is
        (entry_placed s (residents_in m.directory) (sound_residents m.directory ready.is_sound) e q
        (placed_in m.directory ready.is_sound b) accessed.entry_free (subst (λ r. T (not r)) (sym refuses_here) here))

    pub access_least : 1 ≤ e
    access_least = entry.least

    pub access_most : e ≤ (settings_of m).n
    access_most = entry.most

    pub access_entry : (e - 1) * (settings_of m).b + (settings_of m).b ≤ length m.bytes
    access_entry = entry_room s m.bytes ready.bytes_long e access_least access_most

  at_place : Stands s q
  at_place = place_stands m.directory ready.is_sound b

  module _ (inside : b < (settings_of m).m) (incoming : List ℕ) (brings : T written → length incoming ≡ (settings_of m).b) where
    abbrev whole : ℕ → List ℕ
    whole = entry_bytes s.b m.bytes

    abbrev front : ℕ → List ℕ
    front = entry_bytes s.b (take (s.n * s.b) m.bytes)

    -- the store and the block's bytes
    abbrev store₁ : List ℕ
    store₁ = saved_all whole s.b (leaving q) m.store

    abbrev bytes₁ : List ℕ
    bytes₁ = present whole s.b b store₁ q

    abbrev put : List ℕ
    put = when written then incoming else bytes₁

    -- the same by the front of data
    first_store : saved_all front s.b (leaving q) m.store ≡ store₁
    first_store = saved_front s m.bytes ready.bytes_long (leaving q) (leaving_fit s q at_place) m.store

    first_bytes_lem : present front s.b b (saved_all front s.b (leaving q) m.store) q ≡ bytes₁
    first_bytes_lem = ap (λ x. present front s.b b x q) first_store ∙ present_front s m.bytes ready.bytes_long b store₁ q at_place

    store_same : length store₁ ≡ length m.store
    store_same = length_saved_all s m.bytes ready.bytes_long (leaving q) (leaving_fit s q at_place) m.store ready.store_long

    room_after : s.m * s.b ≤ length store₁
    room_after = rw store_same ready.store_long

    put_length : length put ≡ s.b
    put_length = go written brings
      where
        go : (w : Bool) → (T w → length incoming ≡ s.b) → length (when w then incoming else bytes₁) ≡ s.b
        go true h = h tt
        go false h = present_length s m.bytes ready.bytes_long b inside store₁ room_after q at_place

    in_bytes : Moved (s.n * s.b) (filled_at s.b e q put (take (s.n * s.b) m.bytes)) m.bytes (filled_at s.b e q put m.bytes)
    in_bytes = filled_moved s m.bytes ready.bytes_long e q at_place accessed.entry_free put put_length

    -- the machine over entries
    abbrev Stepped : Bool → List ℕ → List ℕ → Type 0
    Stepped w put given =
        entry_step (cache_of m) (accessing w b, e) incoming
        ≡ record { after = cache_with s d (filled_at s.b e q put (take (s.n * s.b) m.bytes)) store₁; answer = answer; given = given }

    stepped : (w : Bool)
        → (let next = asked b w (entry_for e q) q in settled (halves s q next) next ≡ residents_in d)
        → access_totals (totals_in m.directory) w q ≡ totals_in d
        → answering (chains s (counts_pins (residents_in m.directory))) (halves s q (asked b w (entry_for e q) q)) q ≡ answer
        → Stepped w (when w then incoming else bytes₁) (when w then [] else bytes₁)
    unfolding entry_step step access filled view
    stepped true residents totals answers =
        λ i. record {
          after = record {
            stack = record { settings = s; residents = residents i; store = first_store i; totals = totals i };
            bytes = filled_at s.b e q incoming (take (s.n * s.b) m.bytes);
          };
          answer = answers i;
          given = [];
        }
    stepped false residents totals answers =
        λ i. record {
          after = record {
            stack = record { settings = s; residents = residents i; store = first_store i; totals = totals i };
            bytes = filled_at s.b e q (first_bytes_lem i) (take (s.n * s.b) m.bytes);
          };
          answer = answers i;
          given = first_bytes_lem i;
        }

    picks : (w : Bool) → Pick (cache_of m) (accessing w b) e
    unfolding view
    picks true = accessed.entry_free
    picks false = accessed.entry_free

    no_still : (w : Bool) → T (is_still (accessing w b)) → links_changed m.directory d ≡ 0
    no_still true still = absurd still
    no_still false still = absurd still

    -- with that data buffer and that store then; a read gives these bytes
    abbrev CarriedTo : List ℕ → List ℕ → List ℕ → Type 0
    CarriedTo buffer store bytes = Carried m (accessing written b) incoming (memory d buffer store) answer (when written then [] else bytes)

    carried_out_lem : k ≤ 20 → CarriedTo (filled_at s.b e q put m.bytes) store₁ bytes₁
    carried_out_lem few =
        carry m ready d (filled_at s.b e q put m.bytes) store₁ accessed.kept in_bytes store_same
        (accessing written b) incoming answer (when written then [] else bytes₁) e (picks written)
        (stepped written
        (ap (λ x. let next = asked b written x q in settled (halves s q next) next) accessed.entry_is ∙ sym accessed.residents)
        (sym accessed.totals)
        (ap (λ x. answering (chains s (counts_pins (residents_in m.directory))) (halves s q (asked b written x q)) q) accessed.entry_is
        ∙ accessed.answer_is))
        (record { few = λ calm. let h = accessed.links_few calm in omega arith; none = no_still written })

    -- with the bytes that the answer tells
    pub access_carried : k ≤ 20
        → Carried m (accessing written b) incoming
        (memory d (bytes_after m b e answer (when written then incoming else bytes_read m b e answer)) (store_after m b e answer))
        answer (when written then [] else bytes_read m b e answer)
    access_carried few =
        let moves = told m b e q accessed.entry_is _ _ answer accessed.answer_is in
        let moved : List ℕ = when written then incoming else bytes_read m b e answer in
        subst (λ buffer. CarriedTo buffer (store_after m b e answer) (bytes_read m b e answer)) (moves.2 moved)
        (subst₂ (λ st by. CarriedTo (filled_at s.b e q (when written then incoming else by) m.bytes) st by) moves.0 moves.1
        (carried_out_lem few))

-- ---- the victim: a block of the store

victim_at : (s : Settings) (q : Place ℕ) → Stands s q → (n : ℕ) (h : Bool) (v looked : ℕ) (out : Bool) → answering n h q ≡ replaced v looked out
    → v < s.m
unfolding answering
victim_at s (found x l) t n h v looked out is = let z : ◌≡◌ {A = ℕ} 0 1 = cc in absurd (omega arith)
victim_at s (unused l) t n h v looked out is = let z : ◌≡◌ {A = ℕ} 0 1 = cc in absurd (omega arith)
victim_at s (all_pinned l) t n h v looked out is = let z : ◌≡◌ {A = ℕ} 0 1 = cc in absurd (omega arith)
victim_at s (replacing x l) t n h v looked out is = let same : x.block ≡ v = cc in let g = t.stored in omega arith

pub victim_below : (before : List ℕ) → T (sound before) → (b : ℕ) (written : Bool) {k e v n : ℕ} {out : Bool} {d : List ℕ}
    → Accessed k before b written e (replaced v n out) d → v < (settings_in before).m
victim_below before ok b written {v = v} {n = n} {out = out} accessed =
    victim_at (settings_in before) (place_of before b) (place_stands before ok b) _ _ v n out accessed.answer_is

pub victim_block : (m : Memory) → Ready m → (b : ℕ) (written : Bool) {k e v n : ℕ} {out : Bool} {d : List ℕ}
    → Accessed k m.directory b written e (replaced v n out) d → v * (settings_of m).b + (settings_of m).b ≤ length m.store
victim_block m ready b written {v = v} accessed = store_room m ready v (victim_below m.directory ready.is_sound b written accessed)
