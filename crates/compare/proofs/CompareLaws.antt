-- What number 0 of a comparison says: legal settings, and words that are reads of blocks below M. The figures against each other.
use Rattle.std.specs.Prelude.{ℕ, zero, suc, ◌+◌, ◌-◌, ◌/◌, ◌^◌, ◌≤◌, ◌<◌, ◌≢◌, Bool, ◌&&◌, ◌||◌, List, [], ◌∷◌, map, length, get_or, pos, ◌-ℤ◌}
use Rattle.std.proofs.Common.{arith, sym, ap₂, ◌∙◌, true≢false, ltb→lt}
use Rattle.std.proofs.Math.Path.{◌≡◌, refl}
use Rattle.std.proofs.Math.Bool.{true, false, not}
use Rattle.std.proofs.lemmas.List.{length-map}
use Rattle.std.specs.Int.Signed.{mag}
use Rattle.std.proofs.Math.Dec.{eqb, ltb}
use Rattle.std.proofs.Math.Facts.{and_yes}
use Rattle.basics.specs.Basics.{when◌then◌else◌}
use Rattle.basics.specs.Lists.{all}
use Rattle.settings.specs.declared.Settings.{Settings}
use Rattle.settings.specs.Numbers.{settings_number}
use Rattle.stack.specs.Stack.{read, write, purge, flush, tick, pin, unpin, invalid}
use Rattle.stack.specs.Batch.{work, is_read}
use Rattle.opt.specs.Opt.{opt_ins}
use Rattle.opt.specs.Ins.{block_of, trace_of, most_reads, ins_of, lru}
use Rattle.opt.proofs.RemoveLaws.{either, same, apart, above}
use Rattle.opt.proofs.InsLaws.{any_store, ins_few}
use Rattle.opt.proofs.StackSchemeLaws.{opt_at_most}
use Rattle.compare.specs.Compare.{Compared, is_trace_read, is_no_trace, compare_number, figures, declined, compared, Small}
use Rattle.compare.specs.Compare.{InsOfWords, NoFewerThanOpt, NoneGiven, Given}
use Rattle.compare.specs.Reading.{Trace}

-- ---- words of a trace

-- none of the other kinds is a read
other_kinds : (v : ℕ) (b c d e f g : Bool)
    → is_read
    (when b then write v else when c then purge v else when d then flush else when e then tick else when f then pin v else when g then unpin v else invalid)
    ≡ 0
other_kinds v true c d e f g = refl
other_kinds v false true d e f g = refl
other_kinds v false false true e f g = refl
other_kinds v false false false true f g = refl
other_kinds v false false false false true g = refl
other_kinds v false false false false false true = refl
other_kinds v false false false false false false = refl

read_word : (s : Settings) (w : ℕ) → is_trace_read s w ≡ true → (work s w ≡ read (block_of w)) × (block_of w < s.m)
unfolding work
read_word s w e =
    let k = w / 2 ^ 28 in
    let v = block_of w in
    either (eqb k 1 && ltb v s.m)
    (λ is. (rw is refl, ltb→lt v s.m (and_yes (eqb k 1) (ltb v s.m) (rw is tt)).1))
    (λ is.
    let block = ltb v s.m in
    let none = eqb v 0 in
    let z : is_read (work s w) ≡ 0
    = rw is (other_kinds v (eqb k 2 && block) (eqb k 3 && block) (eqb k 4 && none) (eqb k 5 && none) (eqb k 6 && block) (eqb k 7 && block)) in
    let n = same (is_read (work s w)) 1 e in
    absurd (omega arith))

all_at : (f : ℕ → Bool) (words : List ℕ) → all f words ≡ true → (i : ℕ) → i < length words → f (get_or words i 0) ≡ true
unfolding all
all_at f [] a i h = absurd (omega arith)
all_at f (w ∷ words) a i h = go (f w) refl a i h (all_at f words)
  where
    go : (b : Bool) → f w ≡ b → (b && all f words) ≡ true → (i : ℕ) → i < suc (length words)
        → (all f words ≡ true → (i : ℕ) → i < length words → f (get_or words i 0) ≡ true) → f (get_or (w ∷ words) i 0) ≡ true
    go true e a zero h rec = e
    go true e a (suc i) h rec = rec a i (omega arith)
    go false e a i h rec = absurd (true≢false (sym a))

-- they are the plain stack's reads of its blocks
reads_are : (s : Settings) (words : List ℕ) → all (is_trace_read s) words ≡ true → map (work s) words ≡ map read (trace_of words)
unfolding all
reads_are s [] a = refl
reads_are s (w ∷ words) a = go (is_trace_read s w) refl a (reads_are s words)
  where
    go : (b : Bool) → is_trace_read s w ≡ b → (b && all (is_trace_read s) words) ≡ true
        → (all (is_trace_read s) words ≡ true → map (work s) words ≡ map read (trace_of words))
        → map (work s) (w ∷ words) ≡ map read (trace_of (w ∷ words))
    go true e a rec = ap₂ ◌∷◌ (read_word s w e).0 (rec a)
    go false e a rec = absurd (true≢false (sym a))

module _ (s : Settings) (words : List ℕ) where
  abbrev t : List ℕ
  t = trace_of words

  -- ---- what number 0 says

  pub record Accepted : Type 0 where
    pub is_legal : settings_number s ≡ 0
    pub trace : Trace s words
    pub words_are : map (work s) words ≡ map read (trace_of words)

  pub accepted : compare_number s words ≡ 0 → Accepted
  unfolding compare_number is_no_trace
  accepted e =
      either (eqb (settings_number s) 0)
      (λ f. go f (ltb most_reads (length words)) refl (all (is_trace_read s) words) refl (rw f at e))
      (λ f. apart (settings_number s) 0 f (rw f at e))
    where
      go : eqb (settings_number s) 0 ≡ true → (a : Bool) → ltb most_reads (length words) ≡ a → (b : Bool) → all (is_trace_read s) words ≡ b
          → ◌≡◌ {A = ℕ} (when (a || not b) then 14 else 0) 0 → Accepted
      go f true la b lb z = absurd (omega (arith, z))
      go f false la false lb z = absurd (omega (arith, z))
      go f false la true lb z =
          record {
            is_legal = same (settings_number s) 0 f;
            trace = record {
              few = above most_reads (length words) la;
              inside = λ i h. (read_word s (get_or words i 0) (all_at (is_trace_read s) words lb i h)).1;
            };
            words_are = reads_are s words lb;
          }

  -- ---- the three ins against each other

  pub record InOrder : Type 0 where
    pub opt_lru : opt_ins s.n t ≤ ins_of (lru s) t
    pub opt_chosen : opt_ins s.n t ≤ ins_of s t
    pub lru_few : ins_of (lru s) t ≤ 4096
    pub chosen_few : ins_of s t ≤ 4096

  pub in_order : Accepted → InOrder
  in_order a =
      let few = a.trace.few in
      let k = length-map words block_of in
      let (chosen, by-lru) = opt_at_most s a.is_legal t in
      let l = ins_few (lru s) t in
      let c = ins_few s t in
      record { opt_lru = by-lru; opt_chosen = chosen; lru_few = omega arith; chosen_few = omega arith }

  -- ---- either figures of three ins in order, or a refusal

  pub compared_either : (P : Compared → Type 0) → ((l c o : ℕ) → o ≤ l → o ≤ c → l ≤ 4096 → c ≤ 4096 → P (figures l c o))
      → ((n : ℕ) → P (declined n)) → P (compared s words)
  unfolding compared
  compared_either P given none =
      either (eqb (compare_number s words) 0)
      (λ e.
      let o = in_order (accepted (same (compare_number s words) 0 e)) in
      rw e (given (ins_of (lru s) t) (ins_of s t) (opt_ins s.n t) o.opt_lru o.opt_chosen o.lru_few o.chosen_few))
      (λ e. rw e (none (compare_number s words)))

-- ---- the results

pub no_fewer : NoFewerThanOpt
unfolding figures
no_fewer s words =
    compared_either s words (λ c. (c.opt + c.possible ≡ c.lru) × (c.opt ≤ c.chosen)) ordered (λ n. (refl, omega arith))
  where
    ordered : (l c o : ℕ) → o ≤ l → o ≤ c → l ≤ 4096 → c ≤ 4096
        → ((figures l c o).opt + (figures l c o).possible ≡ (figures l c o).lru) × ((figures l c o).opt ≤ (figures l c o).chosen)
    ordered l c o h g k m = either (eqb l o) (λ e. rw e (let q = same l o e in (omega arith, g))) (λ e. rw e (omega arith, g))

pub none_given : NoneGiven
unfolding figures
none_given s words = compared_either s words (λ c. c.possible ≡ 0 → c.gain ≡ pos 0) none (λ n z. refl)
  where
    none : (l c o : ℕ) → o ≤ l → o ≤ c → l ≤ 4096 → c ≤ 4096 → (figures l c o).possible ≡ 0 → (figures l c o).gain ≡ pos 0
    none l c o h g k m =
        either (eqb l o) (λ e. rw e (λ z. refl)) (λ e. rw e (λ (z : l - o ≡ 0). apart l o e (omega arith)))

pub given : Given
unfolding figures
given s words = compared_either s words (λ c. c.possible ≢ 0 → c.gain ≡ pos c.lru -ℤ pos c.chosen) some (λ n z. absurd (z refl))
  where
    some : (l c o : ℕ) → o ≤ l → o ≤ c → l ≤ 4096 → c ≤ 4096
        → (figures l c o).possible ≢ 0 → (figures l c o).gain ≡ pos (figures l c o).lru -ℤ pos (figures l c o).chosen
    some l c o h g k m = either (eqb l o) (λ e. rw e (λ z. absurd (z refl))) (λ e. rw e (λ z. refl))

pub ins_of_words : InsOfWords
unfolding compared figures
ins_of_words s words store e =
    let a = accepted s words e in
    let given = ins_given (ins_of (lru s) (trace_of words)) (ins_of s (trace_of words)) (opt_ins s.n (trace_of words)) in
    rw (a.words_are, e) (any_store s store (trace_of words) ∙ sym given.0, any_store (lru s) store (trace_of words) ∙ sym given.1)
  where
    ins_given : (l c o : ℕ) → ((figures l c o).chosen ≡ c) × ((figures l c o).lru ≡ l)
    ins_given l c o = either (eqb l o) (λ e. rw e (refl, refl)) (λ e. rw e (refl, refl))

-- ---- figures that an i32 holds

pub minus_small : (a b : ℕ) → a ≤ 4096 → b ≤ 4096 → mag (pos a -ℤ pos b) ≤ 4096
minus_small a zero h g = omega arith
minus_small a (suc b) h g = either (ltb a (suc b)) (λ e. rw e (omega arith)) (λ e. rw e (omega arith))

pub small : (s : Settings) (words : List ℕ) → Small (compared s words)
unfolding figures
small s words =
    compared_either s words Small fits
    (λ n. record { lru_few = omega arith; chosen_few = omega arith; opt_few = omega arith; gain_few = omega arith; possible_few = omega arith })
  where
    fits : (l c o : ℕ) → o ≤ l → o ≤ c → l ≤ 4096 → c ≤ 4096 → Small (figures l c o)
    fits l c o h g k m =
        either (eqb l o)
        (λ e. rw e (record { lru_few = k; chosen_few = m; opt_few = omega arith; gain_few = omega arith; possible_few = omega arith }))
        (λ e.
        rw e
        (record { lru_few = k; chosen_few = m; opt_few = omega arith; gain_few = minus_small l c k m; possible_few = omega arith }))
