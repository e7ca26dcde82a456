-- What the functions ask of each other and return, over variables.
use Prim.Native.Nat.{ℕ, ◌+◌, ◌-◌, ◌*◌, ◌^◌, ◌≤◌, ◌<◌}
use native.Mathlib.Omega.{arith}
use mathlib.Core.Path.{◌≡◌, refl, sym, ap, subst, ◌∙◌}
use mathlib.Core.Logic.{inl, ⊎_elim}
use mathlib.Core.Bool.{Bool, true, false, not}
use mathlib.Core.Option.{none, some}
use mathlib.Core.List.{List}
use lib.ListN.{length, replicate}
use lib.Dec.{T}
use mir.Facts.{T_not}
use borrow.Author.Tests.{not-true, not-false}
use Rattle.basics.specs.Basics.{pick, block_at, put_block}
use Rattle.settings.specs.declared.Settings.{Settings}
use Rattle.stack.specs.Counts.{chains}
use Rattle.stack.specs.Recency.{Place, lookup, counts_pins}
use Rattle.stack.specs.Stack.{Answer, answering, answer_word, is_refused}
use Rattle.stack.specs.Stack.{hit, entered, replaced, purged, absent, flushed, miss_refused, pinned, purge_refused}
use Rattle.stack.proofs.BufferLaws.{length_block_at, length_put_block, put_same}
use Rattle.stack.proofs.ReportLaws.{demanded_few}
use Rattle.stack.proofs.PlaceLaws.{Placed, hits, enters, replaces, refusing, all_found}
use Rattle.layout.specs.Sound.{settings_in, sound, resident_at, residents_in}
use Rattle.layout.proofs.SoundLaws.{sound_legal, sound_residents}
use Rattle.promises.specs.DirectoryPromises.{place_of, Accessed, Purged, Pinned}
use Rattle.promises.specs.Demand3.{Memory}
use Rattle.cache_steps.specs.Carried.{settings_of, memory, Ready}
use Rattle.cache_steps.specs.Told.{store_after, bytes_read, bytes_after}
use Rattle.cache_steps.specs.FrontLaws.{put_own}
use Rattle.cache_steps.specs.Places.{placed_in, store_room}
use Rattle.cache_steps.specs.AccessSteps.{access_least, access_entry, access_carried, victim_below, victim_block}
use Rattle.cache_steps.specs.PurgeStep.{purge_carried, absent_carried, refused_carried}
use Rattle.cache_steps.specs.PinStep.{pin_carried, pin_absent}
use Rattle.promises.specs.DirectoryReady.{HitReady, MissReady, EnterReady, ReplaceReady}
use Rattle.accesses.specs.declared.Asked.{Asked}
use Rattle.accesses.specs.Done.{Clean, AskReady, AccessReady}
use Rattle.accesses.specs.Done.{is_hit, ReadDone, WriteDone, PurgeDone, PinDone, AskedDone, PinnedDone}

-- ---- answers of a read or a write

-- none of the others
abbrev Asking : Answer → Type 0
Asking (hit n h) = Unit {0}
Asking (entered h) = Unit {0}
Asking (replaced v n o) = Unit {0}
Asking (purged t) = ⊥
Asking absent = ⊥
Asking (flushed n) = ⊥
Asking miss_refused = Unit {0}
Asking (pinned on) = ⊥
Asking purge_refused = ⊥

module _ (d : List ℕ) (ok : T (sound d)) (b : ℕ) where
  abbrev s : Settings
  s = settings_in d

  abbrev looked : ℕ
  looked = chains s (counts_pins (residents_in d))

  -- a count is at most 65,535
  pub count_few : {k e n : ℕ} {written h : Bool} {after : List ℕ} → Accessed k d b written e (hit n h) after → n ≤ 65535
  unfolding answering
  count_few {n = n} {h = h} accessed = go (place_of d b) (placed_in d ok b) _ accessed.answer_is
    where
      go : (q : Place ℕ) → Placed s (residents_in d) q → (h₀ : Bool) → answering looked h₀ q ≡ hit n h → n ≤ 65535
      go q (hits p x n₀ e legal up) h₀ is = let same : n₀ ≡ n = cc in let g = legal.1 in omega arith
      go q (enters u) h₀ is = let z : ◌≡◌ {A = ℕ} 0 1 = cc in absurd (omega arith)
      go q (replaces v x e full u c) h₀ is = let z : ◌≡◌ {A = ℕ} 0 1 = cc in absurd (omega arith)
      go q (refusing full all) h₀ is = let z : ◌≡◌ {A = ℕ} 0 1 = cc in absurd (omega arith)

  -- at most Cmax chains are looked at
  chains_few : {k e v n : ℕ} {written out : Bool} {after : List ℕ} → Accessed k d b written e (replaced v n out) after → n ≤ 64
  unfolding answering
  chains_few {v = v} {n = n} {out = out} accessed = go (place_of d b) (placed_in d ok b) _ accessed.answer_is
    where
      go : (q : Place ℕ) → Placed s (residents_in d) q → (h₀ : Bool) → answering looked h₀ q ≡ replaced v n out → n ≤ 64
      go q (hits p x n₀ e legal up) h₀ is = let z : ◌≡◌ {A = ℕ} 0 1 = cc in absurd (omega arith)
      go q (enters u) h₀ is = let z : ◌≡◌ {A = ℕ} 0 1 = cc in absurd (omega arith)
      go q (replaces w x e full u c) h₀ is =
          let same : looked ≡ n = cc in let g = (sound_legal d ok).few_chains in let f = demanded_few s (counts_pins (residents_in d)) in omega arith
      go q (refusing full all) h₀ is = let z : ◌≡◌ {A = ℕ} 0 1 = cc in absurd (omega arith)

  asking : {k e : ℕ} {written : Bool} {answer : Answer} {after : List ℕ} → Accessed k d b written e answer after → Asking answer
  unfolding answering
  asking accessed = subst Asking accessed.answer_is (go (place_of d b) (placed_in d ok b) _)
    where
      go : (q : Place ℕ) → Placed s (residents_in d) q → (h₀ : Bool) → Asking (answering looked h₀ q)
      go q (hits p x n₀ e legal up) h₀ = tt
      go q (enters u) h₀ = tt
      go q (replaces w x e full u c) h₀ = tt
      go q (refusing full all) h₀ = tt

-- ---- the victim written out

-- among residents of which none is modified no victim is
victim_clean : (d : List ℕ) → T (sound d) → (b : ℕ) → Clean (residents_in d) → {k e v n : ℕ} {written out : Bool} {after : List ℕ}
    → Accessed k d b written e (replaced v n out) after → T (not out)
unfolding answering
victim_clean d ok b clean {v = v} {n = n} {out = out} accessed = go (place_of d b) (placed_in d ok b) _ _ accessed.answer_is
  where
    go : (q : Place ℕ) → Placed (settings_in d) (residents_in d) q → (looked : ℕ) (h : Bool) → answering looked h q ≡ replaced v n out → T (not out)
    go q (hits p x c e legal up) looked h is = let z : ◌≡◌ {A = ℕ} 0 1 = cc in absurd (omega arith)
    go q (enters u) looked h is = let z : ◌≡◌ {A = ℕ} 0 1 = cc in absurd (omega arith)
    go q (replaces w x e full u c) looked h is =
        let same : x.marks.modified ≡ out = cc in
        subst (λ t. T (not t)) same (all_found (λ y. T (not y.marks.modified)) (residents_in d) w x clean e)
    go q (refusing full all) looked h is = let z : ◌≡◌ {A = ℕ} 0 1 = cc in absurd (omega arith)

module _ (m : Memory) (s : Settings) (block : ℕ) (ready : AskReady m s block) (written : Bool) {k e v n : ℕ} {out : Bool} {d : List ℕ}
    (accessed : Accessed k m.directory block written e (replaced v n out) d) where
  size_read : s.b ≡ (settings_of m).b
  size_read = ap (λ (t : Settings). t.b) ready.settings_are

  lent_room : Ready m → (1 ≤ e) × ((e - 1) * s.b + s.b ≤ length m.bytes) × (v * s.b + s.b ≤ length m.store)
  lent_room lent =
      rw size_read (
        access_least m lent block written accessed tt,
        access_entry m lent block written accessed tt,
        victim_block m lent block written accessed,
      )

  pub write_out_room : out ≡ true → (1 ≤ e) × ((e - 1) * s.b + s.b ≤ length m.bytes) × (v * s.b + s.b ≤ length m.store)
  write_out_room t =
      ⊎_elim lent_room (λ clean. absurd (T_not out (rw t tt) (victim_clean m.directory ready.is_sound block clean accessed))) ready.lent

  pub replaced_small : (v < 2 ^ 18) × (n ≤ 64)
  replaced_small =
      let h = victim_below m.directory ready.is_sound block written accessed in
      let g = (sound_legal m.directory ready.is_sound).few_stored in
      (omega arith, chains_few m.directory ready.is_sound block accessed)

  pub replaced_done : k ≤ 20 → (store : List ℕ) → store ≡ pick out (put_block s.b v (block_at s.b (e - 1) m.bytes) m.store) m.store
      → (word : ℕ) → word ≡ answer_word (replaced v n out) → AskedDone m block written (record { entry = e; answer = word; resident = false }) d store
  replaced_done few store is word word_is =
      record {
        answer = replaced v n out;
        links = k;
        few = few;
        accessed = accessed;
        taken = tt;
        word_is = word_is;
        resident_is = refl;
        store_is = rw size_read at is;
      }

-- ---- a miss

module _ (m : Memory) (s : Settings) (block : ℕ) (h : AskReady m s block) (absent : lookup block (residents_in m.directory) ≡ none) where
  miss_ready : MissReady m.directory block
  miss_ready = record { is_sound = h.is_sound; inside = h.inside; absent = absent; countable = h.countable }

  pub enter_ready : (n : ℕ) → n ≡ length (residents_in m.directory) → n < s.n → EnterReady m.directory block × (s ≡ settings_of m)
  enter_ready n is below =
      let e = ap (λ (t : Settings). t.n) h.settings_are in
      (record { miss = miss_ready; unused = omega arith }, h.settings_are)

  pub replace_ready : (n : ℕ) → n ≡ length (residents_in m.directory) → s.n ≤ n → ReplaceReady m.directory block × (s ≡ settings_of m)
  replace_ready n is full =
      let e = ap (λ (t : Settings). t.n) h.settings_are in
      let few = (sound_residents m.directory h.is_sound).few in
      (record { miss = miss_ready; full = omega arith }, h.settings_are)

pub entered_done : (m : Memory) (block : ℕ) (written : Bool) {e : ℕ} {halved : Bool} {d : List ℕ}
    → Accessed 15 m.directory block written e (entered halved) d
    → (word : ℕ) → word ≡ answer_word (entered halved) → AskedDone m block written (record { entry = e; answer = word; resident = false }) d m.store
entered_done m block written {halved = halved} accessed word word_is =
    record {
      answer = entered halved;
      links = 15;
      few = omega arith;
      accessed = accessed;
      taken = tt;
      word_is = word_is;
      resident_is = refl;
      store_is = refl;
    }

-- ---- a hit

pub hit_ready : (m : Memory) (s : Settings) (block e : ℕ) → AskReady m s block
    → lookup block (residents_in m.directory) ≡ some (resident_at m.directory e)
    → HitReady m.directory e × (s ≡ settings_of m)
hit_ready m s block e h here =
    (record { is_sound = h.is_sound; resident = record { block = block; here = here }; countable = h.countable }, h.settings_are)

pub hit_done : (m : Memory) (block : ℕ) (written : Bool) {e n : ℕ} {halved : Bool} {d : List ℕ}
    → Accessed 16 m.directory block written e (hit n halved) d
    → (word : ℕ) → word ≡ answer_word (hit n halved) → AskedDone m block written (record { entry = e; answer = word; resident = true }) d m.store
hit_done m block written {n = n} {halved = halved} accessed word word_is =
    record {
      answer = hit n halved;
      links = 16;
      few = omega arith;
      accessed = accessed;
      taken = tt;
      word_is = word_is;
      resident_is = refl;
      store_is = refl;
    }

-- ---- bytes of the word

pub where_in : (r : Bool) (x : List ℕ) {y bytes : List ℕ} → not r ≡ true → bytes ≡ y → bytes ≡ pick r x y
where_in r x out is = rw (not-true r out) is

pub where_there : (r : Bool) {x : List ℕ} (y : List ℕ) {bytes : List ℕ} → not r ≡ false → bytes ≡ x → bytes ≡ pick r x y
where_there r y there is = rw (not-false r there) is

-- with data and store lent
pub ask_ready : (m : Memory) (s : Settings) (block : ℕ) → AccessReady m s block → AskReady m s block
ask_ready m s block h =
    record {
      is_sound = h.ready.is_sound;
      settings_are = h.settings_are;
      inside = h.inside;
      countable = h.countable;
      lent = inl h.ready;
    }

module _ (m : Memory) (s : Settings) (block : ℕ) (ready : AccessReady m s block) (written : Bool) (a : Asked) (d store : List ℕ)
    (done : AskedDone m block written a d store) where
  abbrev B : ℕ
  B = (settings_of m).b

  pub size_is : s.b ≡ (settings_of m).b
  size_is = ap (λ (t : Settings). t.b) ready.settings_are

  pub entry_least : 1 ≤ a.entry
  entry_least = access_least m ready.ready block written done.accessed done.taken

  entry_at : (a.entry - 1) * B + B ≤ length m.bytes
  entry_at = access_entry m ready.ready block written done.accessed done.taken

  pub entry_room : (a.entry - 1) * s.b + s.b ≤ length m.bytes
  entry_room = rw size_is entry_at

  -- a victim's bytes leave the store as long as it was
  store_same : length store ≡ length m.store
  store_same = ap length done.store_is ∙ go done.answer done.accessed
    where
      go : (x : Answer) → Accessed done.links m.directory block written a.entry x d
          → length (store_after m block a.entry x) ≡ length m.store
      go (hit n h) t = refl
      go (entered h) t = refl
      go (replaced v n false) t = refl
      go (replaced v n true) t =
          length_put_block B v (block_at B (a.entry - 1) m.bytes) m.store
          (length_block_at B (a.entry - 1) m.bytes entry_at)
          (victim_block m ready.ready block written t)
      go (purged t) u = refl
      go absent u = refl
      go (flushed n) u = refl
      go miss_refused u = refl
      go (pinned on) u = refl
      go purge_refused u = refl

  pub block_room : block * s.b + s.b ≤ length store
  block_room = rw (size_is, store_same) (store_room m ready.ready block ready.inside)

  -- whether the block comes in is whether it wasn't resident: its entry then holds the bytes that the answer tells
  abbrev brought : List ℕ
  brought = pick a.resident m.bytes (put_block B (a.entry - 1) (block_at B block store) m.bytes)

  missed : (given : List ℕ) → a.resident ≡ false → block_at B block store ≡ given
      → (brought ≡ put_block B (a.entry - 1) given m.bytes) × (block_at B (a.entry - 1) brought ≡ given)
  missed given out is =
      let same : brought ≡ put_block B (a.entry - 1) (block_at B block store) m.bytes = rw out refl in
      let room = entry_at in
      let sized = length_block_at B block store (rw size_is at block_room) in (
        same ∙ ap (λ x. put_block B (a.entry - 1) x m.bytes) is,
        ap (block_at B (a.entry - 1)) same ∙ put_same B (a.entry - 1) (block_at B block store) m.bytes sized room ∙ is,
      )

  brings : (brought ≡ put_block B (a.entry - 1) (bytes_read m block a.entry done.answer) m.bytes)
      × (block_at B (a.entry - 1) brought ≡ bytes_read m block a.entry done.answer)
  brings =
      go done.answer (asking m.directory ready.ready.is_sound block done.accessed) done.taken done.resident_is done.store_is
    where
      go : (x : Answer) → Asking x → T (not (is_refused x)) → a.resident ≡ is_hit x → store ≡ store_after m block a.entry x
          → (brought ≡ put_block B (a.entry - 1) (bytes_read m block a.entry x) m.bytes)
          × (block_at B (a.entry - 1) brought ≡ bytes_read m block a.entry x)
      go (hit n h) t u r st = rw r (sym (put_own B (a.entry - 1) m.bytes), refl)
      go (entered h) t u r st = missed (block_at B block m.store) r (ap (block_at B block) st)
      go (replaced v n out) t u r st = missed (bytes_read m block a.entry (replaced v n out)) r (ap (block_at B block) st)
      go (purged x) t u r st = absurd t
      go absent t u r st = absurd t
      go (flushed n) t u r st = absurd t
      go miss_refused t u r st = absurd u
      go (pinned on) t u r st = absurd t
      go purge_refused t u r st = absurd t

  -- the bytes go to the entry
  puts : (put : List ℕ) → bytes_after m block a.entry done.answer put ≡ put_block B (a.entry - 1) put m.bytes
  puts put = go done.answer (asking m.directory ready.ready.is_sound block done.accessed) done.taken
    where
      go : (x : Answer) → Asking x → T (not (is_refused x)) → bytes_after m block a.entry x put ≡ put_block B (a.entry - 1) put m.bytes
      go (hit n h) t u = refl
      go (entered h) t u = refl
      go (replaced v n out) t u = refl
      go (purged x) t u = absurd t
      go absent t u = absurd t
      go (flushed n) t u = absurd t
      go miss_refused t u = absurd u
      go (pinned on) t u = absurd t
      go purge_refused t u = absurd t

  -- the data buffer as long as it was
  pub brought_room : (bytes : List ℕ) → bytes ≡ pick a.resident m.bytes (put_block s.b (a.entry - 1) (block_at s.b block store) m.bytes)
      → (a.entry - 1) * s.b + s.b ≤ length bytes
  brought_room bytes is = rw (is, go a.resident) entry_room
    where
      go : (r : Bool) → length (pick r m.bytes (put_block s.b (a.entry - 1) (block_at s.b block store) m.bytes)) ≡ length m.bytes
      go true = refl
      go false =
          length_put_block s.b (a.entry - 1) (block_at s.b block store) m.bytes (length_block_at s.b block store block_room) entry_room

-- ---- the words carried out

pub read_done : (m : Memory) (s : Settings) (block : ℕ) (ready : AccessReady m s block) (a : Asked) (d store bytes : List ℕ)
    → AskedDone m block false a d store
    → bytes ≡ pick a.resident m.bytes (put_block s.b (a.entry - 1) (block_at s.b block store) m.bytes)
    → (j : ℕ) (before outgoing : List ℕ) → outgoing ≡ put_block s.b j (block_at s.b (a.entry - 1) bytes) before
    → ReadDone m block (memory d bytes store) a.answer s.b j before outgoing
read_done m s block ready a d store bytes done is j before outgoing out =
    let size = size_is m s block ready false a d store done in
    let (whole, block_is) = brings m s block ready false a d store done in
    let is₁ = rw size at is in
    let given = bytes_read m block a.entry done.answer in
    record {
      answer = done.answer;
      given = given;
      carried = λ incoming.
          rw (is₁, whole, ← puts m s block ready false a d store done given, done.store_is)
          (access_carried m ready.ready block false done.accessed ready.inside incoming (λ t. absurd t) done.few);
      word_is = done.word_is;
      outgoing_is = out ∙ ap (λ x. put_block s.b j x before) (rw size (ap (block_at (settings_of m).b (a.entry - 1)) is₁ ∙ block_is));
    }

pub write_done : (m : Memory) (s : Settings) (block : ℕ) (ready : AccessReady m s block) (a : Asked) (d store bytes : List ℕ)
    → AskedDone m block true a d store
    → (j : ℕ) (incoming : List ℕ) → j * s.b + s.b ≤ length incoming → bytes ≡ put_block s.b (a.entry - 1) (block_at s.b j incoming) m.bytes
    → WriteDone m block (block_at s.b j incoming) (memory d bytes store) a.answer
write_done m s block ready a d store bytes done j incoming room is =
    let size = size_is m s block ready true a d store done in
    let is₁ : bytes ≡ put_block (settings_of m).b (a.entry - 1) (block_at s.b j incoming) m.bytes = is
    ∙ ap (λ B. put_block B (a.entry - 1) (block_at s.b j incoming) m.bytes) size in
    record {
      answer = done.answer;
      carried =
          rw (is₁, ← puts m s block ready true a d store done (block_at s.b j incoming), done.store_is)
          (access_carried m ready.ready block true done.accessed ready.inside (block_at s.b j incoming)
          (λ t. length_block_at s.b j incoming room ∙ size) done.few);
      word_is = done.word_is;
    }

-- ---- all are pinned

pub read_refused : (m : Memory) (s : Settings) (block : ℕ) → AccessReady m s block → (d store : List ℕ) → PinnedDone m block false d store
    → (j : ℕ) (before outgoing : List ℕ) → outgoing ≡ put_block s.b j (replicate s.b 0) before
    → (word : ℕ) → word ≡ answer_word miss_refused → ReadDone m block (memory d m.bytes store) word s.b j before outgoing
read_refused m s block ready d store done j before outgoing out word word_is =
    record {
      answer = miss_refused;
      given = replicate (settings_of m).b 0;
      carried = λ incoming.
          rw done.store_is
          (access_carried m ready.ready block false done.accessed ready.inside incoming (λ t. absurd t) (omega arith));
      word_is = word_is;
      outgoing_is = out ∙ ap (λ (t : Settings). put_block s.b j (replicate t.b 0) before) ready.settings_are;
    }

pub write_refused : (m : Memory) (s : Settings) (block : ℕ) → AccessReady m s block → (d store : List ℕ) → PinnedDone m block true d store
    → (j : ℕ) (incoming : List ℕ) → j * s.b + s.b ≤ length incoming
    → (word : ℕ) → word ≡ answer_word miss_refused → WriteDone m block (block_at s.b j incoming) (memory d m.bytes store) word
write_refused m s block ready d store done j incoming room word word_is =
    let size = ap (λ (t : Settings). t.b) ready.settings_are in
    record {
      answer = miss_refused;
      carried =
          rw done.store_is
          (access_carried m ready.ready block true done.accessed ready.inside (block_at s.b j incoming)
          (λ t. length_block_at s.b j incoming room ∙ size) (omega arith));
      word_is = word_is;
    }

-- ---- purge and pin

module _ (d : List ℕ) (block word : ℕ) where
  pub absent_done : lookup block (residents_in d) ≡ none → word ≡ answer_word absent → PurgeDone d block d word
  absent_done here word_is =
      record {
        answer = absent;
        carried = λ bytes store incoming ready. absent_carried (memory d bytes store) ready block incoming here;
        word_is = word_is;
      }

  pub pin_absent_done : (on : Bool) → lookup block (residents_in d) ≡ none → word ≡ answer_word absent → PinDone on d block d word
  pin_absent_done on here word_is =
      record {
        answer = absent;
        carried = λ bytes store incoming ready. pin_absent (memory d bytes store) ready block on incoming here;
        word_is = word_is;
      }

  module _ (e : ℕ) (here : lookup block (residents_in d) ≡ some (resident_at d e)) where
    pub purge_done : (r : Bool) (after : List ℕ) → (resident_at d e).marks.pinned ≡ false
        → ((b : ℕ) → lookup b (residents_in d) ≡ some (resident_at d e) → ((resident_at d e).marks.modified ≡ r) × Purged 15 d b after)
        → word ≡ answer_word (purged r) → PurgeDone d block after word
    purge_done r after free gone word_is =
        record {
          answer = purged r;
          carried =
              λ bytes store incoming ready. purge_carried (memory d bytes store) ready block incoming (gone block here).1 here
              (gone block here).0 free (omega arith);
          word_is = word_is;
        }

    pub refused_done : (resident_at d e).marks.pinned ≡ true → word ≡ answer_word purge_refused → PurgeDone d block d word
    refused_done mark word_is =
        record {
          answer = purge_refused;
          carried = λ bytes store incoming ready. refused_carried (memory d bytes store) ready block incoming here mark;
          word_is = word_is;
        }

    pub pin_done : (on : Bool) (after : List ℕ) → Pinned on d e after → word ≡ answer_word (pinned on) → PinDone on d block after word
    unfolding resident_at
    pin_done on after mark word_is =
        record {
          answer = pinned on;
          carried = λ bytes store incoming ready. pin_carried (memory d bytes store) ready block on incoming mark here;
          word_is = word_is;
        }
