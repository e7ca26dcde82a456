-- Demand 3 from the promises: each batch, from a sound directory, does what the plain stack does.
use Rattle.std.specs.Prelude.{ℕ, zero, suc, ◌*◌, ◌≤◌, ◌≡◌, not, List, [], ◌∷◌, map, length, take, T}
use Rattle.std.proofs.Common.{arith, ap₂, subst₂, ◌∙◌, take-append-drop, take-take, take_at, drop_at}
use Rattle.std.proofs.Math.Path.{refl, sym, ap, subst}
use Rattle.std.proofs.Math.ListN.{drop}
use Rattle.std.proofs.Math.Seq.{length-take-le}
use Rattle.std.proofs.lemmas.List.{take-append-le}
use Rattle.basics.specs.Basics.{All}
use Rattle.words.specs.LinkLaws.{changed_same}
use Rattle.settings.specs.declared.Settings.{Settings}
use Rattle.stack.specs.Stack.{Plain, Work, answer_word, halved}
use Rattle.stack.specs.Batch.{Ran, nothing, work, batch_number, AllReported, batch}
use Rattle.stack.specs.Entries.{Cache, plain, entry_run}
use Rattle.stack.proofs.RunLaws.{plain_ran}
use Rattle.stack.proofs.BatchLaws.{allowed, batch_declined}
use Rattle.stack.proofs.FitLaws.{Fits}
use Rattle.layout.specs.Sound.{settings_in, totals_in, sound, view}
use Rattle.promises.specs.Promises.{over, Fresh, Slices, behind, call_of, number_of, Accepted, Batch}
use Rattle.promises.proofs.SliceLaws.{number_sound, accepted_same, accepted_reported, after_settings, after_bytes, after_store}
use Rattle.promises.specs.Demand3.{Memory, Lending, lends, leaves, Linked, end, call, as_call, starts, shown, Alike, Agrees, Follows, Demand3, LinkBound, LinksStay}
use Rattle.promises.specs.Demand3.{Idle, refused, wordless, memory_left, stack_left, StillFresh}

-- ---- slices beside the memory that they are lent from

-- what was lent and came back unchanged
leaves_same : (m : Memory) (c : Lending) → leaves m c (lends m c) ≡ m
leaves_same m c = rw (take-append-drop, take-append-drop)

module _ (m : Memory) (c : Lending) (fits : c.bytes_length ≤ length m.bytes) (fits' : c.store_length ≤ length m.store)
    (h : T (sound m.directory)) where
  abbrev s : Settings
  s = settings_in m.directory

  abbrev k : Plain
  k = plain (shown m)

  given : call_of c.words c.incoming (lends m c) ≡ as_call c
  given = rw (length-take-le, length-take-le)

  number_agrees : {n : ℕ} {after : Slices} → Batch c.words c.incoming (lends m c) n after
      → n ≡ batch_number s (totals_in m.directory) (as_call c)
  number_agrees promise = promise.returned ∙ number_sound c.words c.incoming (lends m c) h ∙ ap (batch_number s (totals_in m.directory)) given

  -- what a call leaves behind beside the plain stack
  abbrev Goes : ℕ → Slices → Type 0
  Goes n after =
      Agrees c n after k (batch k (as_call c))
      × Alike (leaves m c after) (batch k (as_call c)).ran.after (drop (s.m * s.b) m.store)

  declined : (n : ℕ) → suc n ≡ batch_number s (totals_in m.directory) (as_call c) → Goes (suc n) (lends m c)
  unfolding batch view
  declined n e =
      let r : (batch k (as_call c)).ran ≡ nothing k = batch_declined k (as_call c) n (sym e) in (
        record { number = e; answers = rw r; outgoing = rw r; chains = λ z. absurd (omega arith) },
        rw (leaves_same m c, r) (record { is_sound = h; same = refl; past = refl }),
      )

  module _ (e : batch_number s (totals_in m.directory) (call_of c.words c.incoming (lends m c)) ≡ 0) where
    rooms : Fits s (length (lends m c).bytes) (length (lends m c).store)
    rooms = (allowed s (totals_in m.directory) (call_of c.words c.incoming (lends m c)) e).memory

    front_lent : c.store_length ≡ s.m * s.b
    front_lent = sym (length-take-le c.store_length m.store fits') ∙ rooms.store_exact

    -- with room for N blocks of data and the front of M blocks of store, the lent part is what the memory shows
    behind_lent : behind (lends m c) ≡ shown m
    unfolding view
    behind_lent =
        let g : s.n * s.b ≤ c.bytes_length = omega (arith, rooms.bytes_long, length-take-le c.bytes_length m.bytes fits) in
        rw (take-take (s.n * s.b) c.bytes_length, front_lent)

    module _ (after : Slices) (picked : List (Work × ℕ)) (acc : Accepted c.words c.incoming (lends m c) after picked) where
      abbrev t : Slices
      t = lends m c

      abbrev R : Ran Cache
      R = entry_run (behind t) picked c.incoming

      same_ran : (batch k (as_call c)).ran ≡ plain_ran R
      same_ran = ap₂ (λ x y. (batch (plain x) y).ran) (sym behind_lent) (sym given) ∙ accepted_same c.words c.incoming t h e after picked acc

      shown_after : shown (leaves m c after) ≡ behind after
      unfolding view
      shown_after =
          let g = after_bytes c.words c.incoming t h e after picked acc in
          let own = after_store c.words c.incoming t h e after picked acc in
          rw (take_at after.store (drop c.store_length m.store) _ own, take-append-le)

      same_settings : settings_in after.directory ≡ s
      same_settings = after_settings c.words c.incoming t h e after picked acc

      store_past : drop (s.m * s.b) (leaves m c after).store ≡ drop (s.m * s.b) m.store
      store_past =
          let own = after_store c.words c.incoming t h e after picked acc in
          let g : length after.store ≡ s.m * s.b = subst (λ x. length after.store ≡ x.m * x.b) same_settings own in
          drop_at after.store (drop c.store_length m.store) (s.m * s.b) g ∙ ap (λ n. drop n m.store) front_lent

      after_same : plain (shown (leaves m c after)) ≡ (batch k (as_call c)).ran.after
      unfolding plain_ran
      after_same = ap plain (shown_after ∙ acc.cache) ∙ sym (ap (λ r. r.after) same_ran)

      same_answers : after.answers ≡ over (map answer_word (batch k (as_call c)).ran.answers) c.answers
      unfolding plain_ran
      same_answers = acc.answers ∙ ap (λ r. over (map answer_word r.answers) c.answers) (sym same_ran)

      accepted : Goes 0 after
      unfolding batch view plain_ran
      accepted = (
        record {
          number = sym e ∙ ap (batch_number s (totals_in m.directory)) given;
          answers = same_answers;
          outgoing = acc.outgoing ∙ ap (λ r. over r.outgoing c.outgoing) (sym same_ran);
          chains = λ z. subst (AllReported s.b k (map (work s) c.words) c.incoming) (sym same_answers)
              (subst₂ (λ x y. AllReported s.b (plain x) (map (work s) c.words) c.incoming
              (over (map answer_word (batch (plain x) y).ran.answers) c.answers)) behind_lent given
              (accepted_reported c.words c.incoming t h e after picked acc _));
        },
        record {
          is_sound = acc.sound_after;
          same = after_same;
          past =
              subst (λ x. drop (x.settings.m * x.settings.b) (leaves m c after).store ≡ drop (s.m * s.b) m.store) after_same
              (subst (λ (x : Settings). drop (x.m * x.b) (leaves m c after).store ≡ drop (s.m * s.b) m.store) (sym same_settings) store_past);
        },
      )

  goes : (n : ℕ) (after : Slices) → Batch c.words c.incoming (lends m c) n after → Goes n after
  goes zero after promise =
      let e : 0 ≡ batch_number s (totals_in m.directory) (as_call c) = number_agrees promise in
      let (picked, acc) = promise.accepted refl in
      accepted (ap (batch_number s (totals_in m.directory)) given ∙ sym e) after picked acc
  goes (suc n) after promise = subst (Goes (suc n)) (sym (promise.declined (omega arith))) (declined n (number_agrees promise))

-- ---- the list

follow : {m : Memory} {cs : List Lending} {ts : List (ℕ × Slices)} (k : Plain) (rest : List ℕ) → Alike m k rest → Linked m cs ts
    → Follows rest m k cs ts
unfolding view
follow k rest alike end = end alike
follow k rest alike (call {m = m} {c = c} {n = n} {after = after} fits fits' promise next) =
    let now : Agrees c n after k (batch k (as_call c)) × Alike (leaves m c after) (batch k (as_call c)).ran.after rest =
    subst (λ r. Agrees c n after k (batch k (as_call c)) × Alike (leaves m c after) (batch k (as_call c)).ran.after r) alike.past
    (subst (λ x. Agrees c n after x (batch x (as_call c)) × Alike (leaves m c after) (batch x (as_call c)).ran.after
    (drop (x.settings.m * x.settings.b) m.store)) alike.same
    (goes m c fits fits' alike.is_sound n after promise)) in
    call alike now.0 (follow (batch k (as_call c)).ran.after rest now.1 next)

-- the plain stack's store is the memory's front of M blocks
pub alike_store : {m : Memory} {k : Plain} {rest : List ℕ} → Alike m k rest → take (k.settings.m * k.settings.b) m.store ≡ k.store
unfolding view
alike_store {m} alike =
    ap (λ (t : Settings). take (t.m * t.b) m.store) (sym (ap (λ x. x.settings) alike.same)) ∙ ap (λ x. x.store) alike.same

-- it has M blocks, where a call lends so many
pub alike_room : {m : Memory} {k : Plain} {rest : List ℕ} → Alike m k rest → (lent : ℕ) → lent ≤ length m.store
    → lent ≡ k.settings.m * k.settings.b → k.settings.m * k.settings.b ≤ length k.store
alike_room {m} {k} alike lent fits e =
    let n : ℕ = k.settings.m * k.settings.b in
    subst (λ l. n ≤ length l) (alike_store alike) (omega (arith, length-take-le n m.store (omega (arith, e))))

-- alike at the end
pub follows_alike : {rest : List ℕ} {m : Memory} {k : Plain} {cs : List Lending} {ts : List (ℕ × Slices)} → Follows rest m k cs ts
    → Alike (memory_left m cs ts) (stack_left k cs) rest
follows_alike (end alike) = alike
follows_alike (call alike agrees later) = follows_alike later

-- Demand 3, once fresh words are shown sound and empty.
pub demand3_from : ((s : Settings) (before directory bytes store : List ℕ) → Fresh s before 0 directory
    → Alike (record { directory = directory; bytes = bytes; store = store }) (starts s store) (drop (s.m * s.b) store)) → Demand3
demand3_from begins s before directory bytes store cs ts fresh linked =
    follow (starts s store) (drop (s.m * s.b) store) (begins s before directory bytes store fresh) linked

-- ---- the link bound

pub link_bound : LinkBound
unfolding number_of plain_ran
link_bound w incoming before zero after h promise calm =
    let (picked, acc) = promise.accepted refl in
    let e : batch_number (settings_in before.directory) (totals_in before.directory) (call_of (w ∷ []) incoming before) ≡ 0 =
    sym (promise.returned ∙ number_sound (w ∷ []) incoming before h) in
    acc.links w refl (subst (λ r. All (λ a. T (not (halved a))) r.answers) (accepted_same (w ∷ []) incoming before h e after picked acc) calm)
link_bound w incoming before (suc n) after h promise calm =
    let same = promise.declined (omega arith) in
    rw (same, changed_same before.directory) (omega arith)

pub links_stay : LinksStay
links_stay w incoming before zero after promise still = let (picked, acc) = promise.accepted refl in acc.links_stay w refl still
links_stay w incoming before (suc n) after promise still = rw (promise.declined (omega arith)) (changed_same before.directory)

-- ---- until a word is carried out

wordless_same : {words incoming : List ℕ} {before after : Slices} (n : ℕ) → Batch words incoming before n after → words ≡ [] → after ≡ before
wordless_same zero promise none = let (picked, acc) = promise.accepted refl in acc.empty_batch none
wordless_same (suc n) promise none = promise.declined (omega arith)

idle_same : (m : Memory) (cs : List Lending) (ts : List (ℕ × Slices)) → Linked m cs ts → Idle cs ts → memory_left m cs ts ≡ m
idle_same m [] [] end end = refl
idle_same m [] (t ∷ ts) linked idle = elim linked [ ]
idle_same m (c ∷ cs) [] linked idle = elim linked [ ]
idle_same m (c ∷ cs) ((n, after) ∷ ts) (call fits fits' promise next) (refused nonzero idle) =
    idle_same (leaves m c after) cs ts next idle ∙ ap (leaves m c) (promise.declined nonzero) ∙ leaves_same m c
idle_same m (c ∷ cs) ((n, after) ∷ ts) (call fits fits' promise next) (wordless none idle) =
    idle_same (leaves m c after) cs ts next idle ∙ ap (leaves m c) (wordless_same n promise none) ∙ leaves_same m c

pub still_fresh : StillFresh
still_fresh s before directory bytes store cs ts fresh linked idle =
    idle_same (record { directory = directory; bytes = bytes; store = store }) cs ts linked idle
    ∙ ap (λ d. record { directory = d; bytes = bytes; store = store }) (fresh.accepted refl)
