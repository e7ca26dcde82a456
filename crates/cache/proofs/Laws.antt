-- What the functions ask of each other and return, over variables.
use Prim.Native.Nat.{ℕ, ◌+◌, ◌-◌, ◌*◌, ◌^◌, ◌≤◌, ◌<◌}
use native.Mathlib.Omega.{arith}
use native.Mathlib.Nat.{one-mul}
use native.Mathlib.Numerals.{add-one}
use mathlib.Core.Path.{◌≡◌, refl, sym, ap, ap₂, subst, ◌∙◌}
use mathlib.Core.List.{List, [], ◌∷◌, ◌++◌, map, append-nil, map-append}
use lib.ListN.{length, take, get_or, set, length-map, length-set}
use lib.Seq.{length-take-le}
use Rattle.basics.specs.Basics.{block_at, put_block, total}
use Rattle.settings.specs.declared.Settings.{Settings}
use Rattle.stack.specs.Stack.{Work, read, write, purge, flush, tick, pin, unpin, invalid, Answer, flushed, answer_word}
use Rattle.batch_number.specs.declared.Work.{Work as Asked}
use Rattle.batch_number.specs.Tallies.{meant as means}
use Rattle.std.specs.Prelude.{Some}
use Rattle.stack.specs.Batch.{work, is_read, is_write, is_invalid, how_many, batch_number}
use Rattle.stack.proofs.BatchLaws.{allowed, works_inside}
use Rattle.layout.specs.Sound.{settings_in, totals_in}
use Rattle.promises.specs.Promises.{over, Slices, call_of, number_of, Batch}
use Rattle.promises.proofs.SliceLaws.{number_zero}
use Rattle.promises.specs.Demand3.{Memory}
use Rattle.cache_steps.specs.Carried.{settings_of, memory, Ready, Carried}
use Rattle.cache_steps.specs.Runs.{Chain, end, snoc_word, all_carried, chain_ready, chain_answers}
use Rattle.cache_steps.specs.BatchFacts.{valid_at, incoming_at, outgoing_at, one_more}
use Rattle.cache_steps.specs.GivenLaws.{carried_gives, chain_gives}
use Rattle.cache_steps.specs.TotalsLaws.{chain_totals}
use Rattle.cache_steps.specs.OverLaws.{over_set, over_put}
use Rattle.cache_steps.specs.Accepts.{memory_in, accepted}
use Rattle.accesses.specs.Done.{AccessReady, ReadDone, Rearranged}
use Rattle.cache.specs.declared.Passed.{Passed}
use Rattle.cache.specs.Words.{WordReady, WordDone, RunReady, RunDone}

-- ---- one word

module _ (m : Memory) (s : Settings) (passed : Passed) (incoming outgoing : List ℕ) where
  abbrev Before : Work → Type 0
  Before w = WordReady m s w passed incoming outgoing

  abbrev After : Work → ℕ → Memory → List ℕ → Type 0
  After w r after gave = WordDone m s w passed incoming outgoing r after gave

  -- the word is what it was decoded to
  pub at_work : {x y : Asked} → x ≡ y → Before (means (Some x)) → Before (means (Some y))
  at_work e ready = subst (λ x. Before (means (Some x))) e ready

  pub work_at : {x y : Asked} {r : ℕ} {after : Memory} {gave : List ℕ} → x ≡ y → After (means (Some y)) r after gave
      → After (means (Some x)) r after gave
  work_at {r = r} {after = after} {gave = gave} e done = subst (λ x. After (means (Some x)) r after gave) (sym e) done

  access_ready : (w : Work) (b : ℕ) → Before w → b < s.m → AccessReady m s b
  access_ready w b ready inside =
      record {
        ready = ready.ready;
        settings_are = ready.settings_are;
        inside = subst (λ (t : Settings). b < t.m) ready.settings_are inside;
        countable = ready.countable;
      }

  -- nothing is given
  gave_none : (front buffer : List ℕ) → length front ≡ passed.reads * s.b → outgoing ≡ over front buffer → outgoing ≡ over (front ++ []) buffer
  gave_none front buffer long is = is ∙ ap (λ t. over t buffer) (sym (append-nil front))

  read_ready : (b : ℕ) → Before (read b) → AccessReady m s b × (passed.reads * s.b + s.b ≤ length outgoing)
  read_ready b ready =
      let room = ready.outgoing_room in
      let one = one-mul s.b in
      (access_ready (read b) b ready ready.inside, omega arith)

  pub read_word : (b : ℕ) → Before (read b) → (after : Memory) (r : ℕ) (gave : List ℕ)
      → ReadDone m b after r s.b passed.reads outgoing gave → After (read b) r after gave
  read_word b ready after r gave done =
      let carried = done.carried (block_at s.b passed.writes incoming) in
      let size_is : s.b ≡ (settings_of m).b = ap (λ (t : Settings). t.b) ready.settings_are in
      let long : length done.given ≡ s.b = carried_gives ready.ready (read_ready b ready).0.inside carried ∙ one-mul (settings_of m).b
      ∙ sym size_is in
      record {
        answer = done.answer;
        given = done.given;
        carried = carried;
        word_is = done.word_is;
        gave_is =
            λ front buffer h is. done.outgoing_is ∙ ap (put_block s.b passed.reads done.given) is
            ∙ over_put s.b passed.reads front done.given buffer h long;
      }

  -- a purge or a pin
  pub still_word : (w : Work) → Ready m → (after : List ℕ) (r : ℕ) → Rearranged w m.directory after r
      → After w r (memory after m.bytes m.store) outgoing
  still_word w ready after r done =
      record {
        answer = done.answer;
        given = [];
        carried = done.carried m.bytes m.store (block_at s.b passed.writes incoming) ready;
        word_is = done.word_is;
        gave_is = gave_none;
      }

  pub flush_word : (w : Work) (after : Memory) (n : ℕ) → ((x : List ℕ) → Carried m w x after (flushed n) [])
      → (r : ℕ) → r ≡ answer_word (flushed n) → After w r after outgoing
  flush_word w after n carried r word_is =
      record { answer = flushed n; given = []; carried = carried (block_at s.b passed.writes incoming); word_is = word_is; gave_is = gave_none }

-- ---- all words

-- the first i of them
pub record Running (before : Slices) (words incoming : List ℕ) (s : Settings) (after : Slices) (passed : Passed) (i : ℕ) : Type 0 where
  pub start : RunReady before words incoming s
  pub answered : List Answer
  pub given : List ℕ
  pub chain : Chain s.b (memory_in before) (map (work s) (take i words)) incoming (memory_in after) answered given
  pub answers_are : after.answers ≡ over (map answer_word answered) before.answers
  pub outgoing_is : after.outgoing ≡ over given before.outgoing
  pub reads_are : passed.reads ≡ how_many is_read (map (work s) (take i words))
  pub writes_are : passed.writes ≡ how_many is_write (map (work s) (take i words))
  pub inside : i ≤ length words
  pub answers_long : length after.answers ≡ length before.answers
  pub outgoing_long : length after.outgoing ≡ length before.outgoing

pub run_start : (before : Slices) (words incoming : List ℕ) (s : Settings) → RunReady before words incoming s
    → Running before words incoming s before (record { reads = 0; writes = 0 }) 0
unfolding total
run_start before words incoming s h =
    record {
      start = h;
      answered = [];
      given = [];
      chain = end;
      answers_are = refl;
      outgoing_is = refl;
      reads_are = refl;
      writes_are = refl;
      inside = omega arith;
      answers_long = refl;
      outgoing_long = refl;
    }

module _ (before : Slices) (words incoming : List ℕ) (s : Settings) (after : Slices) (passed : Passed) (i : ℕ)
    (running : Running before words incoming s after passed i) (h : i < length words) where
  abbrev s₀ : Settings
  s₀ = settings_of (memory_in before)

  abbrev w : ℕ
  w = get_or words i 0

  same : s ≡ s₀
  same = running.start.settings_are

  number : batch_number s (totals_in before.directory) (call_of words incoming before) ≡ 0
  number = rw same running.start.number

  valid_word : is_invalid (work s (get_or words i 0)) ≡ 0
  valid_word = valid_at s (totals_in before.directory) (call_of words incoming before) number i h

  -- so it means something
  pub word_meant : invalid ≡ work s (get_or words i 0) → ⊥
  word_meant e = let v : 1 ≡ 0 = ap is_invalid e ∙ valid_word in omega (arith, v)

  -- counted so far: no more than words
  pub passed_few : (passed.reads ≤ 1024) × (passed.writes ≤ 1024)
  unfolding total
  passed_few =
      let few = (allowed s (totals_in before.directory) (call_of words incoming before) number).few in
      let e = running.reads_are in
      let f = running.writes_are in
      let a = how_many_lem is_read (λ x. one_read x) (take i words) in
      let b = how_many_lem is_write (λ x. one_write x) (take i words) in
      let l = length-take-le i words running.inside in
      (omega arith, omega arith)
    where
      one_read : (x : Work) → is_read x ≤ 1
      one_read (read x) = omega arith
      one_read (write x) = omega arith
      one_read (purge x) = omega arith
      one_read flush = omega arith
      one_read tick = omega arith
      one_read (pin x) = omega arith
      one_read (unpin x) = omega arith
      one_read invalid = omega arith

      one_write : (x : Work) → is_write x ≤ 1
      one_write (read x) = omega arith
      one_write (write x) = omega arith
      one_write (purge x) = omega arith
      one_write flush = omega arith
      one_write tick = omega arith
      one_write (pin x) = omega arith
      one_write (unpin x) = omega arith
      one_write invalid = omega arith

      how_many_lem : (f : Work → ℕ) → ((x : Work) → f x ≤ 1) → (xs : List ℕ) → how_many f (map (work s) xs) ≤ length xs
      how_many_lem f one [] = omega arith
      how_many_lem f one (x ∷ xs) = let g = one (work s x) in let r = how_many_lem f one xs in omega arith

  at_now : Ready (memory_in after)
  at_now = chain_ready running.chain running.start.ready

  kept : settings_of (memory_in after) ≡ s
  kept = (all_carried running.chain).settings_kept ∙ sym same

  few_totals : (totals_in after.directory).reads + (totals_in after.directory).writes < 2 ^ 56 - 1
  few_totals =
      let room = (allowed s (totals_in before.directory) (call_of words incoming before) number).totals in
      let sum = chain_totals running.chain in
      let l = length-take-le i words running.inside in
      let e = length-map (take i words) (work s) in
      omega arith

  now_ready : WordReady (memory_in after) s (work s (get_or words i 0)) passed incoming after.outgoing
  now_ready =
      record {
        ready = at_now;
        settings_are = sym kept;
        inside = (works_inside s (get_or words i 0 ∷ [])).0;
        countable = let t = few_totals in record { reads = omega arith; writes = omega arith };
        incoming_room = rw running.writes_are (incoming_at s (totals_in before.directory) (call_of words incoming before) number i h);
        outgoing_room =
            rw (running.reads_are, running.outgoing_long) (outgoing_at s (totals_in before.directory) (call_of words incoming before) number i h);
      }

  pub word_ready : (x : Work) → x ≡ work s (get_or words i 0) → WordReady (memory_in after) s x passed incoming after.outgoing
  word_ready x is = rw is now_ready

  -- the answer goes to its place
  pub answer_place : i < length after.answers
  answer_place =
      let room = (allowed s (totals_in before.directory) (call_of words incoming before) number).answers in let e =
      running.answers_long in omega arith

  module _ (x : Work) (x_is : x ≡ work s (get_or words i 0)) (d bytes store gave : List ℕ) (r : ℕ) (more : Passed)
      (x_done : WordDone (memory_in after) s x passed incoming after.outgoing r (memory d bytes store) gave)
      (x_counted : (more.reads ≡ passed.reads + is_read x) × (more.writes ≡ passed.writes + is_write x))
      (g-long : length gave ≡ length after.outgoing) where
    done : WordDone (memory_in after) s (work s (get_or words i 0)) passed incoming after.outgoing r (memory d bytes store) gave
    done = rw x_is at x_done

    counted : (more.reads ≡ passed.reads + is_read (work s (get_or words i 0))) × (more.writes ≡ passed.writes + is_write (work s (get_or words i 0)))
    counted = rw x_is at x_counted

    answered_long : length (map answer_word running.answered) ≡ i
    answered_long =
        length-map running.answered answer_word ∙ chain_answers running.chain ∙ length-map (take i words) (work s)
        ∙ length-take-le i words running.inside

    answers_next : set after.answers i r ≡ over (map answer_word (running.answered ++ (done.answer ∷ []))) before.answers
    answers_next =
        let place = answer_place in
        let long = running.answers_long in
        let l = answered_long in
        ap₂ (λ t x. set t i x) running.answers_are done.word_is
        ∙ ap (λ n. set (over (map answer_word running.answered) before.answers) n (answer_word done.answer)) (sym answered_long)
        ∙ over_set (map answer_word running.answered) before.answers (answer_word done.answer) (omega arith)
        ∙ ap (λ t. over t before.answers) (sym (map-append answer_word running.answered (done.answer ∷ [])))

    given_long : length running.given ≡ passed.reads * s.b
    given_long =
        chain_gives s (sym same) refl running.start.ready (works_inside s (take i words)) running.chain
        ∙ ap (λ n. n * s.b) (sym running.reads_are)

    pub run_next : Running before words incoming s (record {
      directory = d;
      bytes = bytes;
      store = store;
      answers =
          set after.answers i r;
      outgoing = gave;
    }) more (i + 1)
    run_next =
        record {
          start = running.start;
          answered = running.answered ++ (done.answer ∷ []);
          given = running.given ++ done.given;
          chain =
              snoc_word s words i h running.chain (subst (λ n. Carried (memory_in after) (work s (get_or words i 0)) (block_at s.b n incoming)
              (memory d bytes store) done.answer done.given) running.writes_are done.carried);
          answers_are = answers_next;
          outgoing_is = done.gave_is running.given before.outgoing given_long running.outgoing_is;
          reads_are = counted.0 ∙ ap (λ n. n + is_read (work s w)) running.reads_are ∙ sym (rw (add-one i) (one_more s is_read words i h));
          writes_are = counted.1 ∙ ap (λ n. n + is_write (work s w)) running.writes_are ∙ sym (rw (add-one i) (one_more s is_write words i h));
          inside = omega arith;
          answers_long = length-set after.answers i r ∙ running.answers_long;
          outgoing_long = g-long ∙ running.outgoing_long;
        }

-- ---- a batch

module _ (words incoming : List ℕ) (before : Slices) (n : ℕ) (is : n ≡ number_of words incoming before) where
  pub run_ready : n ≡ 0 → (s : Settings) → s ≡ settings_in before.directory → RunReady before words incoming s
  run_ready zero s same =
      let (ok, number) = number_zero words incoming before (sym is ∙ zero) in
      let its = settings_in before.directory in
      let memory = (allowed its (totals_in before.directory) (call_of words incoming before) number).memory in
      let room : its.m * its.b ≤ length before.store = omega (arith, memory.store_exact) in
      record { ready = record { is_sound = ok; bytes_long = memory.bytes_long; store_long = room }; settings_are = same; number = number }

  pub accepted_batch : n ≡ 0 → (s : Settings) → s ≡ settings_in before.directory → (after : Slices) → RunDone before words incoming s after
      → Batch words incoming before 0 after
  accepted_batch zero s same after done =
      let start = run_ready zero s same in
      let chain = subst (λ (t : Settings). Chain t.b (memory_in before) (map (work t) words) incoming (memory_in after) done.answered
      done.given) same done.chain in
      record {
        returned = sym zero ∙ is;
        accepted = λ e. accepted words incoming before after start.ready chain done.answers_are done.outgoing_is;
        declined = λ refused. absurd (refused refl);
      }
