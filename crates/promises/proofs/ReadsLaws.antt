-- Reads that don't depend on settings, from demand 3: what the plain stack beside the calls gives and stores, by the last bytes.
use Rattle.std.specs.Prelude.{ℕ, ◌*◌, ◌≤◌, ◌<◌, ◌≡◌, refl, Bool, false, ◌&&◌, length, take, drop, T, eqb}
use Rattle.std.proofs.Common.{arith, ◌∙◌, take_at}
use Rattle.std.proofs.Math.Path.{sym, ap, ap₂, subst, fun_ext}
use mathlib.Core.List.{List, [], ◌∷◌, map, flatten}
use Rattle.std.proofs.lemmas.List.{length-map}
use Rattle.std.proofs.Math.Facts.{and_yes, eqb_yes}
use Rattle.basics.specs.Basics.{total, block_at}
use Rattle.basics.specs.Lists.{counting}
use Rattle.settings.specs.declared.Settings.{Settings}
use Rattle.settings.specs.NumbersLaws.{legal_settings}
use Rattle.stack.specs.Stack.{Plain, Work, answer_word}
use Rattle.stack.specs.Recency.{lookup}
use Rattle.stack.specs.Batch.{work, is_read, how_many, batch_number, plain_run, batch, Ran}
use Rattle.stack.proofs.BufferLaws.{block_ends, block_front, same_front, blocks_stand}
use Rattle.stack.proofs.BatchLaws.{allowed, batch_accepted, batch_answers, works_inside}
use Rattle.stack.specs.Ticks.{bytes_if}
use Rattle.stack.proofs.SureLaws.{empty_sure}
use Rattle.stack.specs.LastBytes.{gives_up, sevens, Last, first_bytes, last_then, last_reads, ends_in_flush}
use Rattle.stack.proofs.LastLaws.{Knows, runs}
use Rattle.promises.specs.Promises.{over, Slices}
use Rattle.promises.specs.Demand3.{Memory, Lending, Linked, call, as_call, leaves, starts, Alike, Agrees, Follows, memory_left, stack_left}
use Rattle.promises.proofs.Demand3Laws.{fresh_legal, demand3}
use Rattle.promises.proofs.FollowLaws.{alike_store, alike_room, follows_alike}
use Rattle.promises.specs.Reads.{works_of, of_this_kind, all_of_this_kind, FromFresh, words_and_bytes, asks, reads_of, store_of}
use Rattle.promises.specs.Reads.{last_reads_of, last_of, closes, ReadsLast, StoreLast, ReadsAlike, ReadsGoOn}

-- ---- one call

-- what "of this kind" says
record Kind (s : Settings) (c : Lending) (n : ℕ) (after : Slices) : Type 0 where
  accepted : n ≡ 0
  no_purge : how_many gives_up (works_of s c) ≡ 0
  no_seven : sevens (take (length c.words) after.answers) ≡ 0

kind_says : (s : Settings) (c : Lending) (n : ℕ) (after : Slices) → T (of_this_kind s c n after) → Kind s c n after
unfolding of_this_kind
kind_says s c n after t =
    let (both, three) = and_yes (eqb n 0 && eqb (how_many gives_up (works_of s c)) 0) _ t in
    let (one, two) = and_yes (eqb n 0) _ both in
    record { accepted = eqb_yes one; no_purge = eqb_yes two; no_seven = eqb_yes three }

-- what a call gives and leaves beside the plain stack
record Goes (s : Settings) (last : Last) (flushed : Bool) (k : Plain) (c : Lending) (after : Slices) : Type 0 where
  reads : map (λ j. block_at s.b j after.outgoing) (counting 0 (how_many is_read (works_of s c)))
      ≡ last_reads s.b last (works_of s c) c.incoming
  knows : Knows s (last_then s.b last (works_of s c) c.incoming) (ends_in_flush flushed (works_of s c)) (batch k (as_call c)).ran.after

module _ {m : Memory} {k : Plain} {rest : List ℕ} (alike : Alike m k rest) (c : Lending) (fits : c.store_length ≤ length m.store)
    (n : ℕ) (after : Slices) (agrees : Agrees c n after k (batch k (as_call c))) (last : Last) (flushed : Bool) where
  -- the answers to its words
  answers_are : n ≡ 0 → take (length c.words) after.answers ≡ map answer_word (batch k (as_call c)).ran.answers
  answers_are z =
      let answers : List ℕ = map answer_word (batch k (as_call c)).ran.answers in
      ap (take (length c.words)) agrees.answers
      ∙ take_at answers (drop (length answers) c.answers) (length c.words)
      (length-map (batch k (as_call c)).ran.answers answer_word ∙ batch_answers k (as_call c) (sym agrees.number ∙ z))

  own : Kind k.settings c n after → Knows k.settings last flushed k → Goes k.settings last flushed k c after
  unfolding batch plain_run total
  own kind knows =
      let s = k.settings in
      let ws : List Work = works_of s c in
      let e : batch_number s k.totals (as_call c) ≡ 0 = sym agrees.number ∙ kind.accepted in
      let a = allowed s k.totals (as_call c) e in
      let same : (batch k (as_call c)).ran ≡ plain_run k ws c.incoming = batch_accepted k (as_call c) e in
      let free = subst (λ (r : Ran Plain). sevens (map answer_word r.answers) ≡ 0) same
      (subst (λ l. sevens l ≡ 0) (answers_are kind.accepted) kind.no_seven) in
      let r = runs s last flushed k ws c.incoming knows (alike_room alike c.store_length fits a.memory.store_exact)
      (works_inside s c.words) a.incoming kind.no_purge free in
      let blocks : List (List ℕ) = last_reads s.b last ws c.incoming in
      record {
        reads =
            ap₂ (λ buffer i. map (λ j. block_at s.b j buffer) (counting 0 i))
            (agrees.outgoing ∙ ap (λ (x : Ran Plain). over x.outgoing c.outgoing) same ∙ ap (λ l. over l c.outgoing) r.outgoing)
            (sym r.many)
            ∙ blocks_stand s.b 0 blocks [] (drop (length (flatten blocks)) c.outgoing) (omega arith) r.sizes;
        knows = rw same r.knows;
      }

  goes : {s : Settings} → Kind s c n after → Knows s last flushed k → Goes s last flushed k c after
  goes {s} kind knows = subst (λ t. Kind t c n after → Knows t last flushed k → Goes t last flushed k c after) knows.sure.settings own kind knows

-- ---- the list

-- what both say of the first call
record Called (rest : List ℕ) (m : Memory) (k : Plain) (c : Lending) (cs : List Lending) (n : ℕ) (after : Slices) (ts : List (ℕ × Slices)) : Type 0 where
  fits : c.store_length ≤ length m.store
  next : Linked (leaves m c after) cs ts
  alike : Alike m k rest
  agrees : Agrees c n after k (batch k (as_call c))
  later : Follows rest (leaves m c after) (batch k (as_call c)).ran.after cs ts

called : {rest : List ℕ} {m : Memory} {k : Plain} {c : Lending} {cs : List Lending} {n : ℕ} {after : Slices} {ts : List (ℕ × Slices)}
    → Linked m (c ∷ cs) ((n, after) ∷ ts) → Follows rest m k (c ∷ cs) ((n, after) ∷ ts) → Called rest m k c cs n after ts
called (call fits fits' promise next) (call alike agrees later) =
    record { fits = fits'; next = next; alike = alike; agrees = agrees; later = later }

list_last : (s : Settings) (rest : List ℕ) (cs : List Lending) (ts : List (ℕ × Slices)) (m : Memory) (k : Plain) (last : Last) (flushed : Bool)
    → Linked m cs ts → Follows rest m k cs ts → T (all_of_this_kind s cs ts) → Knows s last flushed k
    → (reads_of s cs ts ≡ last_reads_of s.b last (map (asks s) cs))
    × Knows s (last_of s.b last (map (asks s) cs)) (closes flushed (map (asks s) cs)) (stack_left k cs)
unfolding all_of_this_kind reads_of last_reads_of last_of closes
list_last s rest [] ts m k last flushed linked follows kinds knows = (refl, knows)
list_last s rest (c ∷ cs) [] m k last flushed linked follows kinds knows = elim linked [ ]
list_last s rest (c ∷ cs) ((n, after) ∷ ts) m k last flushed linked follows kinds knows =
    let w = called linked follows in
    let (kind, others) = and_yes (of_this_kind s c n after) (all_of_this_kind s cs ts) kinds in
    let now = goes w.alike c w.fits n after w.agrees last flushed (kind_says s c n after kind) knows in
    let (reads, then) =
    list_last s rest cs ts (leaves m c after) (batch k (as_call c)).ran.after (last_then s.b last (works_of s c) c.incoming)
    (ends_in_flush flushed (works_of s c)) w.next w.later others now.knows
    in
    (ap₂ (λ x y. x ∷ y) now.reads reads, then)

-- from whatever last bytes the first store has
module _ (s : Settings) (m : Memory) (cs : List Lending) (ts : List (ℕ × Slices)) (h : FromFresh s m cs ts) (first : Last)
    (stores : (b : ℕ) → b < s.m → block_at s.b b (store_of s m) ≡ first b) where
  begins : Knows s first false (starts s m.store)
  unfolding lookup bytes_if
  begins =
      record {
        sure = empty_sure s (store_of s m) (legal_settings s (fresh_legal s h.before m.directory h.fresh));
        has = stores;
        stored = λ t. absurd t;
      }

  follows : Follows (drop (s.m * s.b) m.store) m (starts s m.store) cs ts
  follows = demand3 s h.before m.directory m.bytes m.store cs ts h.fresh h.linked

  ends : (reads_of s cs ts ≡ last_reads_of s.b first (map (asks s) cs))
      × Knows s (last_of s.b first (map (asks s) cs)) (closes false (map (asks s) cs)) (stack_left (starts s m.store) cs)
  ends = list_last s (drop (s.m * s.b) m.store) cs ts m (starts s m.store) first false h.linked follows h.of_this_kind_lem begins

  store_left : store_of s (memory_left m cs ts) ≡ (stack_left (starts s m.store) cs).store
  store_left =
      ap (λ (t : Settings). store_of t (memory_left m cs ts)) (sym ends.1.sure.settings)
      ∙ alike_store (follows_alike follows)

pub reads_last : ReadsLast
reads_last s m cs ts h = (ends s m cs ts h (first_bytes s.b (store_of s m)) (λ b inside. refl)).0

-- a block of the cache's store is the memory's
own_block : (s : Settings) (m : Memory) (b : ℕ) → b < s.m → block_at s.b b (store_of s m) ≡ block_at s.b b m.store
own_block s m b inside = block_front s.b b (s.m * s.b) m.store (block_ends s.b b s.m inside)

pub store_last : StoreLast
store_last s m cs ts h closed b inside =
    let first = first_bytes s.b (store_of s m) in
    sym (own_block s (memory_left m cs ts) b inside)
    ∙ ap (block_at s.b b) (store_left s m cs ts h first (λ b inside. refl))
    ∙ (ends s m cs ts h first (λ b inside. refl)).1.stored closed b inside

-- ---- two caches

-- words ask for the same by equal M
same_works : (s s' : Settings) → s.m ≡ s'.m → work s ≡ work s'
unfolding work
same_works s s' e = fun_ext (λ w. rw e)

same_asks : (s s' : Settings) → s.m ≡ s'.m → (cs cs' : List Lending) → map words_and_bytes cs ≡ map words_and_bytes cs'
    → map (asks s) cs ≡ map (asks s') cs'
same_asks s s' e cs cs' same = asked s cs ∙ ap₂ (λ f l. map (meant f) l) (same_works s s' e) same ∙ sym (asked s' cs')
  where
    meant : (ℕ → Work) → List ℕ × List ℕ → List Work × List ℕ
    meant f c = (map f c.0, c.1)

    asked : (s : Settings) (cs : List Lending) → map (asks s) cs ≡ map (meant (work s)) (map words_and_bytes cs)
    asked s [] = refl
    asked s (c ∷ cs) = ap (λ l. asks s c ∷ l) (asked s cs)

same_store : (s s' : Settings) → s.b ≡ s'.b → s.m ≡ s'.m → (m : Memory) → store_of s m ≡ store_of s' m
same_store s s' same-b same-m m = ap₂ (λ i j. take (i * j) m.store) same-m same-b

pub reads_alike : ReadsAlike
reads_alike s s' m m' cs cs' ts ts' (same-b, same-m) equal list h h' = (
  reads_last s m cs ts h ∙ last_same last_reads_of ∙ sym (reads_last s' m' cs' ts' h'),
  λ closed. same_front s.b s.m left.store left'.store (blocks closed) ∙ same_store s s' same-b same-m left',
)
  where
    left : Memory
    left = memory_left m cs ts

    left' : Memory
    left' = memory_left m' cs' ts'

    asked : map (asks s) cs ≡ map (asks s') cs'
    asked = same_asks s s' same-m cs cs' list

    -- what is made of B, the first store and what the calls ask for
    last_same : {X : Type 0} (f : ℕ → Last → List (List Work × List ℕ) → X)
        → f s.b (first_bytes s.b (store_of s m)) (map (asks s) cs) ≡ f s'.b (first_bytes s'.b (store_of s' m')) (map (asks s') cs')
    last_same f =
        ap (f s.b (first_bytes s.b (store_of s m))) asked
        ∙ ap₂ (λ i l. f i (first_bytes i l) (map (asks s') cs')) same-b (equal ∙ same_store s s' same-b same-m m')

    blocks : T (closes false (map (asks s) cs)) → (b : ℕ) → b < s.m → block_at s.b b left.store ≡ block_at s.b b left'.store
    blocks closed b inside =
        store_last s m cs ts h closed b inside
        ∙ last_same (λ i last l. last_of i last l b)
        ∙ sym (store_last s' m' cs' ts' h' (subst (λ l. T (closes false l)) asked closed) b (subst (λ i. b < i) same-m inside))
        ∙ ap (λ i. block_at i b left'.store) (sym same-b)

pub reads_go_on : ReadsGoOn
reads_go_on s s' m m' cs cs' ts ts' (same-b, same-m) equal h closed h' =
    (ends s' m' cs' ts' h' last stores).0 ∙ ap₂ (λ i l. last_reads_of i last l) (sym same-b) (sym (same_asks s s' same-m cs' cs' refl))
  where
    last : Last
    last = last_of s.b (first_bytes s.b (store_of s m)) (map (asks s) cs)

    stores : (b : ℕ) → b < s'.m → block_at s'.b b (store_of s' m') ≡ last b
    stores b inside =
        let inside' : b < s.m = subst (λ i. b < i) (sym same-m) inside in
        ap₂ (λ i l. block_at i b l) (sym same-b) (sym (equal ∙ same_store s s' same-b same-m m'))
        ∙ own_block s (memory_left m cs ts) b inside'
        ∙ store_last s m cs ts h closed b inside'
