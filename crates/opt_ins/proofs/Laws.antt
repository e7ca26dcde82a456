-- OPT's code keeps in its words what is awaited by OPT's residents. Over variables.
use Prim.Native.Nat.{ℕ, zero, suc, ◌+◌, ◌-◌, ◌≤◌, ◌<◌}
use native.Mathlib.Omega.{arith}
use mathlib.Core.Path.{◌≡◌, refl, sym, ap, subst, ◌∙◌}
use mathlib.Core.Logic.{◌≢◌}
use mathlib.Core.List.{List, [], ◌∷◌}
use lib.ListN.{length, get_or, set, drop, replicate, length-map, length-set, length-drop, length-replicate, get_or-replicate}
use lib.Seq.{get_or-set_same, get_or-set_other}
use lib.Dec.{eqb, ltb}
use borrow.Author.Tests.{ne_eqb, eq-eqb, lt-ltb, le-ltb}
use mir.Facts.{eqb_yes, yes_eqb}
use Rattle.basics.specs.Basics.{when◌then◌else◌, index_of}
use Rattle.stack.specs.Counts.{greatest}
use Rattle.stack.proofs.NumberLaws.{greatest_passes}
use Rattle.opt.specs.Opt.{opt, opt_ins}
use Rattle.opt.specs.Ins.{block_of, trace_of, most_reads}
use Rattle.opt.proofs.RemoveLaws.{either, same, apart, below, above}
use Rattle.opt.proofs.NearLaws.{soon, near, near_le, soon_yes, soon_no}
use Rattle.opt.proofs.InsLaws.{trace_step, trace_end}
use Rattle.opt.proofs.AwaitedLaws.{awaited_few, awaited_none, At, Rest, rest_as, noted, hit_waiting, hit_rest, room_rest, full_rest}
use Rattle.opt_ins.specs.Awaited.{last_awaited, room_awaited, room_waiting, note_awaited, note_waiting, next_at, step_awaited, step_waiting}
use Rattle.opt_ins.specs.Awaited.{RoomReady, StepReady, TraceReady}

-- ---- the first read of a block from a position on

pub record Seeking (trace : List ℕ) (block from j : ℕ) : Type 0 where
  pub within : j ≤ length trace
  pub same_read : from + index_of block (drop from (trace_of trace)) ≡ j + index_of block (drop j (trace_of trace))

module _ (trace : List ℕ) (block from j : ℕ) (s : Seeking trace block from j) where
  pub seek_found : j < length trace → block_of (get_or trace j 0) ≡ block → j ≡ from + index_of block (drop from (trace_of trace))
  unfolding index_of
  seek_found h e =
      let q = rw (trace_step trace j h, eq-eqb (block_of (get_or trace j 0)) block e) at s.same_read in
      omega arith

  pub seek_next : j < length trace → block_of (get_or trace j 0) ≢ block → Seeking trace block from (j + 1)
  unfolding index_of
  seek_next h n =
      let q = rw (trace_step trace j h, ne_eqb (block_of (get_or trace j 0)) block n) at s.same_read in
      record { within = omega arith; same_read = omega arith }

  pub seek_end : length trace ≤ j → j ≡ from + index_of block (drop from (trace_of trace))
  unfolding index_of
  seek_end h =
      let q = rw (trace_end trace j h) at s.same_read in
      omega arith

-- ---- the last that is awaited

module _ (awaited : List ℕ) (len j k : ℕ) (one : j ≡ suc k) (r : last_awaited awaited j ≡ last_awaited awaited len) where
  r' : last_awaited awaited (suc k) ≡ last_awaited awaited len
  r' = subst (λ n. last_awaited awaited n ≡ last_awaited awaited len) one r

  pub last_found : get_or awaited k 0 ≡ 1 → k ≡ last_awaited awaited len
  unfolding greatest
  last_found e = rw (eq-eqb (get_or awaited k 0) 1 e) at r'

  pub last_next : get_or awaited k 0 ≢ 1 → last_awaited awaited k ≡ last_awaited awaited len
  unfolding greatest
  last_next n = rw (ne_eqb (get_or awaited k 0) 1 n) at r'

pub last_none : (awaited : List ℕ) (len j : ℕ) → j ≤ 0 → last_awaited awaited j ≡ last_awaited awaited len → 0 ≡ last_awaited awaited len
unfolding greatest
last_none awaited len zero h r = r
last_none awaited len (suc j) h r = absurd (omega arith)

pub last_inside : (awaited : List ℕ) (n : ℕ) → 1 ≤ n → last_awaited awaited n < n
unfolding greatest
last_inside awaited zero h = absurd (omega arith)
last_inside awaited (suc zero) h = either (eqb (get_or awaited 0 0) 1) (λ e. rw e (omega arith)) (λ e. rw e (omega arith))
last_inside awaited (suc (suc n)) h =
    let rec = last_inside awaited (suc n) (omega arith) in
    either (eqb (get_or awaited (suc n) 0) 1) (λ e. rw e (omega arith)) (λ e. rw e (omega arith))

-- ---- room, and the block noted

module _ (awaited : List ℕ) (i len waiting n : ℕ) where
  pub room_hit : get_or awaited i 0 ≢ 0 → (waiting - 1 ≡ room_waiting awaited i waiting n) × (awaited ≡ room_awaited awaited i len waiting n)
  unfolding room_waiting room_awaited
  room_hit h = let e = ne_eqb (get_or awaited i 0) 0 h in (rw e refl, rw e refl)

  pub room_free : get_or awaited i 0 ≡ 0 → waiting < n → (waiting ≡ room_waiting awaited i waiting n) × (awaited ≡ room_awaited awaited i len waiting n)
  unfolding room_waiting room_awaited
  room_free z l = let e = eq-eqb (get_or awaited i 0) 0 z in let f = lt-ltb waiting n l in (rw (e, f) refl, rw (e, f) refl)

  pub room_full : get_or awaited i 0 ≡ 0 → n ≤ waiting → (top : ℕ) → top ≡ last_awaited awaited len
      → (waiting - 1 ≡ room_waiting awaited i waiting n) × (set awaited top 0 ≡ room_awaited awaited i len waiting n)
  unfolding room_waiting room_awaited
  room_full z l top is = let e = eq-eqb (get_or awaited i 0) 0 z in let f = le-ltb waiting n l in (rw (e, f) refl, rw (e, f, is) refl)

  pub room_waiting_lem : RoomReady awaited i len waiting n → get_or awaited i 0 ≡ 0 → n ≤ waiting → 1 ≤ waiting
  room_waiting_lem r z l = let s = r.some_blocks in omega arith

module _ (awaited : List ℕ) (next len waiting : ℕ) where
  pub note_yes : next < len → (waiting + 1 ≡ note_waiting next len waiting) × (set awaited next 1 ≡ note_awaited awaited next len)
  unfolding note_waiting note_awaited
  note_yes l = let f = lt-ltb next len l in (rw f refl, rw f refl)

  pub note_no : len ≤ next → (waiting ≡ note_waiting next len waiting) × (awaited ≡ note_awaited awaited next len)
  unfolding note_waiting note_awaited
  note_no l = let f = le-ltb next len l in (rw f refl, rw f refl)

-- ---- the words and OPT's contents

pub record Going (trace : List ℕ) (n : ℕ) (awaited : List ℕ) (waiting ins i : ℕ) : Type 0 where
  pub contents : List ℕ
  pub state : At n (drop i (trace_of trace)) (λ j. get_or awaited (i + j) 0) waiting contents
  pub counted : ins + opt n (drop i (trace_of trace)) contents ≡ opt_ins n (trace_of trace)
  pub within : i ≤ length trace
  pub few : ins ≤ i
  pub long : length awaited ≡ most_reads
  pub ready : TraceReady trace n

pub going_begins : (trace : List ℕ) (n : ℕ) (awaited : List ℕ) → awaited ≡ replicate most_reads 0 → TraceReady trace n → Going trace n awaited 0 0 0
unfolding near opt_ins
going_begins trace n awaited is ready =
    record {
      contents = [];
      state = record {
        distinct = tt;
        few = omega arith;
        awaited_are = λ j l.
            let k = length-map trace block_of in
            let s = ready.short in
            let e : 0 + j ≡ j = omega arith in
            rw (is, e) (get_or-replicate {A = ℕ} most_reads j 0 0 (omega arith)) ∙ sym (awaited_none (trace_of trace) j);
        waiting_is = refl;
      };
      counted = omega arith;
      within = omega arith;
      few = omega arith;
      long = rw is (length-replicate {A = ℕ} most_reads 0);
      ready = ready;
    }

module _ (trace : List ℕ) (n : ℕ) (awaited : List ℕ) (waiting ins i : ℕ) (g : Going trace n awaited waiting ins i) (h : i < length trace) where
  abbrev b : ℕ
  b = block_of (get_or trace i 0)

  abbrev t : List ℕ
  t = drop (i + 1) (trace_of trace)

  abbrev len : ℕ
  len = length trace

  long_t : length t + (i + 1) ≡ len
  long_t = let e = length-drop (i + 1) (trace_of trace) in let f = length-map trace block_of in omega arith

  state : At n (b ∷ t) (λ j. get_or awaited (i + j) 0) waiting g.contents
  state = subst (λ l. At n l (λ j. get_or awaited (i + j) 0) waiting g.contents) (trace_step trace i h) g.state

  here : get_or awaited (i + 0) 0 ≡ get_or awaited i 0
  here = let e : i + 0 ≡ i = omega arith in ap (λ k. get_or awaited k 0) e

  later : (j : ℕ) → get_or awaited (i + 1 + j) 0 ≡ get_or awaited (i + suc j) 0
  later j = let e : i + 1 + j ≡ i + suc j = omega arith in ap (λ k. get_or awaited k 0) e

  pub bit_here : get_or awaited i 0 ≤ 1
  bit_here = let e = state.awaited_are 0 (omega arith) in omega (arith, here, e, awaited_few (b ∷ t) g.contents 0)

  pub waiting_here : get_or awaited i 0 ≢ 0 → 1 ≤ waiting
  waiting_here z =
      let e = hit_waiting n g.ready.some_blocks b t (λ j. get_or awaited (i + j) 0) waiting g.contents state (λ q. z (sym here ∙ q)) in
      omega arith

  abbrev A : ℕ → ℕ
  A j = get_or awaited (i + j) 0

  abbrev Roomed : Type 0
  Roomed =
      Rest n b t g.contents (λ j. get_or (room_awaited awaited i len waiting n) (i + 1 + j) 0)
      (room_waiting awaited i waiting n) (1 - get_or awaited i 0)

  when_hit : get_or awaited i 0 ≢ 0 → Roomed
  when_hit z =
      let q = room_hit awaited i len waiting n z in
      let some : 1 ≤ get_or awaited i 0 = positive (get_or awaited i 0) z in
      rest_as (hit_rest n g.ready.some_blocks b t A waiting g.contents state (λ e. z (sym here ∙ e))) _ _ _
      (λ j l. ap (λ w. get_or w (i + 1 + j) 0) (sym q.1) ∙ later j) (sym q.0) (omega arith)
    where
      positive : (k : ℕ) → k ≢ 0 → 1 ≤ k
      positive zero z = absurd (z refl)
      positive (suc k) z = omega arith

  when_free : get_or awaited i 0 ≡ 0 → waiting < n → Roomed
  when_free z few =
      let q = room_free awaited i len waiting n z few in
      rest_as (room_rest n g.ready.some_blocks b t A waiting g.contents state (here ∙ z) few) _ _ _
      (λ j l. ap (λ w. get_or w (i + 1 + j) 0) (sym q.1) ∙ later j) (sym q.0) (omega arith)

  -- the last that is awaited, by the words
  last_is : (top : ℕ) → top < length t → A (suc top) ≡ 1
      → ((j : ℕ) → top < j → j < length t → A (suc j) ≡ 0) → last_awaited awaited len ≡ i + 1 + top
  unfolding greatest
  last_is top inside is none =
      let p : ℕ = i + 1 + top in
      let long = long_t in
      let found = greatest_passes (λ q. eqb (get_or awaited q 0) 1) len 0 p (omega arith) (yes_eqb (later top ∙ is)) in
      let one : get_or awaited (last_awaited awaited len) 0 ≡ 1 = eqb_yes found.0 in
      let most = found.2 in
      let least = found.1 in
      either (ltb p (last_awaited awaited len))
      (λ e.
      let above-p = below p (last_awaited awaited len) e in
      let j : ℕ = last_awaited awaited len - (i + 1) in
      let at_j : last_awaited awaited len ≡ i + 1 + j = omega arith in
      let zero-there = later j ∙ none j (omega arith) (omega arith) in
      let zero-here : get_or awaited (last_awaited awaited len) 0 ≡ 0 = ap (λ k. get_or awaited k 0) at_j ∙ zero-there in
      absurd (omega arith))
      (λ e. let l = above p (last_awaited awaited len) e in omega arith)

  when_full : get_or awaited i 0 ≡ 0 → n ≤ waiting → Roomed
  when_full z full =
      let q = room_full awaited i len waiting n z full (last_awaited awaited len) refl in
      let last = full_rest n g.ready.some_blocks b t A waiting g.contents state (here ∙ z) full in
      let top : ℕ = last.top in
      let is = last_is top last.top_inside last.top_awaited last.top_last in
      rest_as last.rest _ _ _
      (λ j l. ap (λ w. get_or w (i + 1 + j) 0) (sym q.1) ∙ words top last.top_inside is j) (sym q.0) (omega arith)
    where
      words : (top : ℕ) → top < length t → last_awaited awaited len ≡ i + 1 + top → (j : ℕ)
          → get_or (set awaited (last_awaited awaited len) 0) (i + 1 + j) 0 ≡ (when eqb top j then 0 else get_or awaited (i + suc j) 0)
      words top inside is j =
          either (eqb top j)
          (λ e. let k = same top j e in let at_j : i + 1 + j ≡ last_awaited awaited len = omega arith in
          let long = long_t in let room = g.long in let short = g.ready.short in
          rw (e, at_j) (get_or-set_same awaited (last_awaited awaited len) 0 0 (omega arith)))
          (λ e.
          rw e
          (get_or-set_other awaited (last_awaited awaited len) (i + 1 + j) 0 0
          (λ (k : i + 1 + j ≡ last_awaited awaited len). apart top j e (omega arith)) ∙ later j))

  pub roomed : Roomed
  roomed =
      either (eqb (get_or awaited i 0) 0)
      (λ e.
      let z = same (get_or awaited i 0) 0 e in
      either (ltb waiting n) (λ f. when_free z (below waiting n f)) (λ f. when_full z (above waiting n f)))
      (λ e. when_hit (apart (get_or awaited i 0) 0 e))

  pub room_few : room_waiting awaited i waiting n ≤ 4096
  room_few =
      let r = roomed in
      let l = r.alike.long in
      let f = r.few in
      let k = g.ready.few_blocks in
      omega (arith, r.waiting_is, near_le (length t) t r.others)

  -- ---- the block read, noted

  abbrev left : List ℕ
  left = room_awaited awaited i len waiting n

  room_long : length left ≡ length awaited
  unfolding room_awaited
  room_long =
      either (eqb (get_or awaited i 0) 0)
      (λ e. either (ltb waiting n) (λ f. rw (e, f) refl) (λ f. rw (e, f) (length-set awaited (last_awaited awaited len) 0)))
      (λ e. rw e refl)

  note_long : (w : List ℕ) (next : ℕ) → length (note_awaited w next len) ≡ length w
  unfolding note_awaited
  note_long w next = either (ltb next len) (λ e. rw e (length-set w next 1)) (λ e. rw e refl)

  abbrev far : ℕ
  far = i + 1 + index_of b t

  record Noted : Type 0 where
    pub waiting_is : note_waiting far len (room_waiting awaited i waiting n) ≡ room_waiting awaited i waiting n + soon (length t) t b
    pub words_are : (j : ℕ) → j < length t
        → get_or (note_awaited left far len) (i + 1 + j) 0 ≡ (when eqb (index_of b t) j then 1 else get_or left (i + 1 + j) 0)

  noted_words : Noted
  noted_words =
      let long = long_t in
      let room = room_long in
      let g-long = g.long in
      let g-short = g.ready.short in
      either (ltb (index_of b t) (length t))
      (λ e.
      let l = below (index_of b t) (length t) e in
      let q = note_yes left far len (room_waiting awaited i waiting n) (omega arith) in
      record {
        waiting_is = sym q.0 ∙ (let y = soon_yes (length t) t b l in omega arith);
        words_are = λ j k. ap (λ w. get_or w (i + 1 + j) 0) (sym q.1) ∙ either (eqb (index_of b t) j)
            (λ f.
            let is = same (index_of b t) j f in
            let at_j : i + 1 + j ≡ far = omega arith in
            rw (f, at_j) (get_or-set_same left far 1 0 (omega arith)))
            (λ f. rw f (get_or-set_other left far (i + 1 + j) 1 0 (λ (is : i + 1 + j ≡ far). apart (index_of b t) j f (omega arith))));
      })
      (λ e.
      let l = above (index_of b t) (length t) e in
      let q = note_no left far len (room_waiting awaited i waiting n) (omega arith) in
      record {
        waiting_is = sym q.0 ∙ (let y = soon_no (length t) t b e in omega arith);
        words_are = λ j k. ap (λ w. get_or w (i + 1 + j) 0) (sym q.1)
            ∙ sym (rw (ne_eqb (index_of b t) j (λ is. absurd (omega arith))) refl);
      })

  pub going_next :
      Going trace n (step_awaited awaited trace i waiting n) (step_waiting awaited trace i waiting n) (ins + (1 - get_or awaited i 0)) (i + 1)
  unfolding step_awaited step_waiting next_at
  going_next =
      let r = roomed in
      let s = noted r in
      let w = noted_words in
      let few = g.few in
      let c = ap (λ l. opt n l g.contents) (trace_step trace i h) in
      record {
        contents = r.after;
        state = record {
          distinct = s.distinct;
          few = s.few;
          awaited_are = λ j l. w.words_are j l ∙ s.awaited_are j l;
          waiting_is = w.waiting_is ∙ s.waiting_is;
        };
        counted = omega (arith, g.counted, c, r.opt_is);
        within = omega arith;
        few = omega arith;
        long = note_long left far ∙ room_long ∙ g.long;
        ready = g.ready;
      }

  pub step_ready : StepReady awaited trace i waiting n
  step_ready =
      record {
        room = record {
          inside = h;
          enough = let l = g.long in let k = g.ready.short in omega arith;
          some_blocks = g.ready.some_blocks;
          one_waiting = waiting_here;
        };
        few = g.ready.short;
        few_waiting = room_few;
      }

pub going_ends : (trace : List ℕ) (n : ℕ) (awaited : List ℕ) (waiting ins i : ℕ) → Going trace n awaited waiting ins i → length trace ≤ i
    → ins ≡ opt_ins n (trace_of trace)
unfolding opt
going_ends trace n awaited waiting ins i g left =
    let counted = rw (trace_end trace i left) at g.counted in
    omega arith

-- ---- as the functions return them

pub step_done : (awaited trace : List ℕ) (i waiting n : ℕ) (waiting₁ : ℕ) (awaited₁ : List ℕ)
    → (waiting₁ ≡ room_waiting awaited i waiting n) × (awaited₁ ≡ room_awaited awaited i (length trace) waiting n)
    → (far : ℕ) → far ≡ i + 1 + index_of (block_of (get_or trace i 0)) (drop (i + 1) (trace_of trace))
    → (waiting₂ : ℕ) (awaited₂ : List ℕ) → (waiting₂ ≡ note_waiting far (length trace) waiting₁) × (awaited₂ ≡ note_awaited awaited₁ far (length trace))
    → (waiting₂ ≡ step_waiting awaited trace i waiting n) × (awaited₂ ≡ step_awaited awaited trace i waiting n)
unfolding step_waiting step_awaited next_at
step_done awaited trace i waiting n waiting₁ awaited₁ q far e waiting₂ awaited₂ r = (r.0 ∙ rw (e, q.0) refl, r.1 ∙ rw (e, q.1) refl)

pub going_step : (trace : List ℕ) (n : ℕ) (awaited : List ℕ) (waiting ins i : ℕ) → Going trace n awaited waiting ins i → i < length trace
    → (waiting₁ : ℕ) (awaited₁ : List ℕ) → (waiting₁ ≡ step_waiting awaited trace i waiting n) × (awaited₁ ≡ step_awaited awaited trace i waiting n)
    → Going trace n awaited₁ waiting₁ (ins + (1 - get_or awaited i 0)) (i + 1)
going_step trace n awaited waiting ins i g h waiting₁ awaited₁ q = rw (q.0, q.1) (going_next trace n awaited waiting ins i g h)

pub going_long : (trace : List ℕ) (n : ℕ) (awaited₀ awaited : List ℕ) (waiting ins i : ℕ) → awaited₀ ≡ replicate most_reads 0
    → Going trace n awaited waiting ins i → length awaited ≡ length awaited₀
going_long trace n awaited₀ awaited waiting ins i is g =
    let e = ap length is ∙ length-replicate {A = ℕ} most_reads 0 in let l = g.long in omega arith
