-- The number and the figures of a comparison, as the functions return them. Over variables.
use Prim.Native.Nat.{ℕ, suc, ◌+◌, ◌-◌, ◌≤◌, ◌<◌}
use native.Mathlib.Omega.{arith}
use mathlib.Core.Path.{◌≡◌, refl, sym, ap, ◌∙◌}
use mathlib.Core.Logic.{◌≢◌}
use mathlib.Core.Bool.{Bool, true, false, ◌&&◌, not}
use mathlib.Core.List.{List}
use lib.ListN.{length, get_or, drop, drop_of_length-le}
use lib.Seq.{drop-cons}
use lib.IntN.{ℤ, pos, ◌-ℤ◌}
use lib.Dec.{eqb}
use borrow.Author.Tests.{ne_eqb, eq-eqb, lt-ltb, le-ltb}
use mir.Syntax.{w32}
use mir.Val.{SFits, to_z, of_z}
use mir.ValLaws.{to_z-of_z}
use Rattle.basics.specs.Basics.{when◌then◌else◌}
use Rattle.basics.specs.Lists.{all}
use Rattle.settings.specs.declared.Settings.{Settings}
use Rattle.settings.specs.Numbers.{settings_number}
use Rattle.settings.specs.NumbersLaws.{legal_settings}
use Rattle.std.proofs.Common.{Some, None}
use Rattle.refusals.specs.declared.Refusal.{Refusal}
use Rattle.refusals.specs.Refusals.{number}
use Rattle.refusals.proofs.Laws.{number_some}
use Rattle.stack.specs.Stack.{Work}
use Rattle.stack.specs.Batch.{work, is_read}
use Rattle.batch_number.specs.declared.Work.{Work as Asked}
use Rattle.batch_number.specs.declared.Work.TheVariants.{Read, Write, Purge, Flush, Tick, Pin, Unpin}
use Rattle.batch_number.specs.Tallies.{meant}
use Rattle.opt.specs.Opt.{opt_ins}
use Rattle.opt.specs.Ins.{trace_of, most_reads, ins_of, lru}
use Rattle.opt_ins.specs.Awaited.{TraceReady}
use Rattle.compare.specs.Compare.{Compared, is_trace_read, is_no_trace, compare_number, figures, declined, compared}
use Rattle.compare.specs.Reading.{Trace}
use Rattle.compare.proofs.CompareLaws.{Accepted, accepted, in_order, minus_small}

-- ---- one word

module _ (s : Settings) (w : ℕ) where
  pub is_read_word : (b : ℕ) → meant (Some (Read b)) ≡ work s w → true ≡ is_trace_read s w
  unfolding work
  is_read_word b e = ap (λ (k : Work). eqb (is_read k) 1) e

  pub no_work : meant None ≡ work s w → false ≡ is_trace_read s w
  unfolding work
  no_work e = ap (λ (k : Work). eqb (is_read k) 1) e

  pub other_work : (x : Asked) → meant (Some x) ≡ work s w → ((b : ℕ) → x ≡ Read b → ⊥) → false ≡ is_trace_read s w
  unfolding work
  other_work (Read b) e n = absurd (n b refl)
  other_work (Write b) e n = ap (λ (k : Work). eqb (is_read k) 1) e
  other_work (Purge b) e n = ap (λ (k : Work). eqb (is_read k) 1) e
  other_work Flush e n = ap (λ (k : Work). eqb (is_read k) 1) e
  other_work Tick e n = ap (λ (k : Work). eqb (is_read k) 1) e
  other_work (Pin b) e n = ap (λ (k : Work). eqb (is_read k) 1) e
  other_work (Unpin b) e n = ap (λ (k : Work). eqb (is_read k) 1) e

-- ---- the loop over the words

all_step : (f : ℕ → Bool) (words : List ℕ) (i : ℕ) → i < length words → all f (drop i words) ≡ (f (get_or words i 0) && all f (drop (i + 1) words))
unfolding all
all_step f words i h =
    let e : suc i ≡ i + 1 = omega arith in
    ap (all f) (drop-cons words i 0 h) ∙ ap (λ n. f (get_or words i 0) && all f (drop n words)) e

pub record Passing (s : Settings) (trace : List ℕ) (i : ℕ) : Type 0 where
  pub within : i ≤ length trace
  pub all_left : all (is_trace_read s) trace ≡ all (is_trace_read s) (drop i trace)

module _ (s : Settings) (trace : List ℕ) (i : ℕ) (p : Passing s trace i) (h : i < length trace) where
  left : (b : Bool) → b ≡ is_trace_read s (get_or trace i 0) → all (is_trace_read s) trace ≡ (b && all (is_trace_read s) (drop (i + 1) trace))
  left b e = p.all_left ∙ all_step (is_trace_read s) trace i h ∙ ap (λ (b : Bool). b && all (is_trace_read s) (drop (i + 1) trace)) (sym e)

  pub passing_stops : false ≡ is_trace_read s (get_or trace i 0) → false ≡ all (is_trace_read s) trace
  passing_stops e = sym (left false e)

  pub passing_next : true ≡ is_trace_read s (get_or trace i 0) → Passing s trace (i + 1)
  passing_next e = record { within = omega arith; all_left = left true e }

pub passing_ends : (s : Settings) (trace : List ℕ) (i : ℕ) → Passing s trace i → length trace ≤ i → true ≡ all (is_trace_read s) trace
unfolding all
passing_ends s trace i p left = sym (p.all_left ∙ ap (all (is_trace_read s)) (drop_of_length-le trace {i = i} left))

-- ---- the number

module _ (s : Settings) (words : List ℕ) where
  pub too_long : most_reads < length words → true ≡ is_no_trace s words
  unfolding is_no_trace
  too_long l = sym (rw (lt-ltb most_reads (length words) l) refl)

  pub by_words : length words ≤ most_reads → (b : Bool) → b ≡ all (is_trace_read s) words → not b ≡ is_no_trace s words
  unfolding is_no_trace
  by_words l b e = sym (rw (le-ltb most_reads (length words) l, ← e) refl)

  -- refused for the settings, and where these are legal, for the trace or not at all
  pub check_refused : (why : Refusal) → number why ≡ settings_number s → number why ≡ compare_number s words
  unfolding compare_number
  check_refused why is = is ∙ sym (rw (ne_eqb (settings_number s) 0 (λ e. number_some why (is ∙ e))) refl)

  pub check_trace : 0 ≡ settings_number s → (b : Bool) → b ≡ is_no_trace s words → (when b then 14 else 0) ≡ compare_number s words
  unfolding compare_number
  check_trace legal b e = sym (rw (eq-eqb (settings_number s) 0 (sym legal), ← e) refl)

-- ---- differences

signed_read : (n : ℕ) → n ≤ 4096 → to_z w32 n ≡ pos n
signed_read n h = to_z-of_z w32 (pos n) (record { sfits = omega arith })

module _ (a b : ℕ) (h : a ≤ 4096) (g : b ≤ 4096) where
  minus_here : SFits w32 (pos a -ℤ pos b)
  minus_here = let m = minus_small a b h g in record { sfits = omega arith }

  pub minus_fits : SFits w32 (to_z w32 a -ℤ to_z w32 b)
  minus_fits = rw (signed_read a h, signed_read b g) minus_here

  pub minus_is : to_z w32 (of_z w32 (to_z w32 a -ℤ to_z w32 b)) ≡ pos a -ℤ pos b
  minus_is = rw (signed_read a h, signed_read b g) (to_z-of_z w32 (pos a -ℤ pos b) minus_here)

  -- a difference kept as a signed word
  pub minus_back : (z : ℤ) → z ≡ pos a -ℤ pos b → to_z w32 (of_z w32 z) ≡ pos a -ℤ pos b
  minus_back z e = rw e (to_z-of_z w32 (pos a -ℤ pos b) minus_here)

-- ---- the figures

module _ (l c o : ℕ) where
  pub figures_even : l ≡ o → (g : ℤ) → g ≡ pos 0 → (p : ℕ) → p ≡ l - o
      → record { number = 0; lru = l; chosen = c; opt = o; gain = g; possible = p } ≡ figures l c o
  unfolding figures
  figures_even e g z p q =
      let none : p ≡ 0 = omega arith in
      sym (rw (eq-eqb l o e, ← z, ← none) refl)

  pub figures_apart : l ≢ o → (g : ℤ) → g ≡ pos l -ℤ pos c → (p : ℕ) → p ≡ l - o
      → record { number = 0; lru = l; chosen = c; opt = o; gain = g; possible = p } ≡ figures l c o
  unfolding figures
  figures_apart n g e p q = sym (rw (ne_eqb l o n, ← e, ← q) refl)

-- ---- the comparison

pub by_same : (x y : Settings) (t : List ℕ) (l : ℕ) → l ≡ ins_of x t → x ≡ y → l ≡ ins_of y t
by_same x y t l e q = e ∙ ap (λ z. ins_of z t) q

module _ (s : Settings) (words : List ℕ) where
  pub declined_is : (why : Refusal) → number why ≡ compare_number s words → declined (number why) ≡ compared s words
  unfolding compared
  declined_is why is = sym (rw (← is, ne_eqb (number why) 0 (number_some why)) refl)

  module _ (is : 0 ≡ compare_number s words) where
    fine : Accepted s words
    fine = accepted s words (sym is)

    pub chosen_ready : Trace s words
    chosen_ready = fine.trace

    pub lru_ready : Trace (lru s) words
    lru_ready = record { few = fine.trace.few; inside = fine.trace.inside }

    pub opt_ready : TraceReady words s.n
    opt_ready =
        let l = legal_settings s fine.is_legal in
        record { short = fine.trace.few; some_blocks = l.some_blocks; few_blocks = l.few_blocks }

    module _ (l c o : ℕ) (l-is : l ≡ ins_of (lru s) (trace_of words)) (c-is : c ≡ ins_of s (trace_of words))
        (o_is : o ≡ opt_ins s.n (trace_of words)) where
      pub figures_ready : (o ≤ l) × (l ≤ 4096) × (c ≤ 4096)
      figures_ready =
          let q = in_order s words fine in
          let a = q.opt_lru in let b = q.lru_few in let d = q.chosen_few in
          (omega arith, omega arith, omega arith)

      pub figures_are : (r : Compared) → r ≡ figures l c o → r ≡ compared s words
      unfolding compared
      figures_are r e = e ∙ rw (l-is, c-is, o_is) (sym (rw (← is) refl))
