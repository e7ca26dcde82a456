-- From the directory's promises to a read, and from reads to the ins of a trace. Over variables.
use Prim.Native.Nat.{ℕ, ◌+◌, ◌^◌, ◌≤◌, ◌<◌}
use native.Mathlib.Omega.{arith}
use mathlib.Core.Path.{◌≡◌, refl, sym, ap, subst, ◌∙◌}
use mathlib.Core.Logic.{inr}
use mathlib.Core.Bool.{false}
use mathlib.Core.List.{List, [], ◌++◌}
use lib.ListN.{length, get_or, drop, length-map}
use borrow.Author.Tests.{le-ltb}
use Rattle.settings.specs.declared.Settings.{Settings}
use Rattle.settings.specs.Numbers.{settings_number}
use Rattle.settings.specs.NumbersLaws.{LegalSettings, legal_settings}
use Rattle.settings.specs.Buckets.{directory_length}
use Rattle.settings.specs.BucketLaws.{buckets_few}
use Rattle.stack.specs.Stack.{Stack, Answer}
use Rattle.layout.specs.Sound.{settings_in, totals_in, residents_in, view}
use Rattle.layout.specs.Layout.{fresh_words, fresh_number}
use Rattle.layout.proofs.FreshLaws.{sound_fresh, view_fresh}
use Rattle.promises.specs.Promises.{Fresh}
use Rattle.promises.specs.DirectoryPromises.{place_of, asked_of, halves_of, Accessed}
use Rattle.cache_steps.specs.Carried.{memory}
use Rattle.cache_steps.specs.Places.{placed_in}
use Rattle.accesses.specs.Done.{Clean, AskReady, AccessDone}
use Rattle.std.proofs.Common.{Option, Some, None}
use Rattle.accesses.specs.declared.Asked.{Asked}
use Rattle.opt.proofs.MarkLaws.{NotModified, unmodified_again, read_marked, settled_marked}
use Rattle.opt.specs.Ins.{block_of, trace_of, ins_of}
use Rattle.opt.proofs.InsLaws.{bare_entering, bare_read, ins_from_lem, ins_few, trace_step, trace_end}
use Rattle.opt.specs.Bare.{bare, ins_from}
use Rattle.compare.specs.Reading.{bare_in, Ready, ReadReady, ReadDone, Trace, most_words, FreshIn}

-- ---- one read

module _ (d : List ℕ) (s : Settings) (block : ℕ) (h : ReadReady d s block) where
  -- neither data nor store is needed
  pub read_asks : (bytes store : List ℕ) → AskReady (memory d bytes store) s block
  read_asks bytes store =
      record {
        is_sound = h.is_sound;
        settings_are = h.settings_are;
        inside = subst (λ (t : Settings). block < t.m) h.settings_are h.inside;
        countable = h.countable;
        lent = inr h.clean;
      }

  accessed_done : {k e : ℕ} {answer : Answer} {after : List ℕ} → Accessed k d block false e answer after → ReadDone d s block after
  accessed_done {e = e} {after = after} accessed =
      let same = h.settings_are in
      let totals = accessed.totals in
      record {
        sound_after = accessed.kept.sound_after;
        settings_kept = same ∙ sym accessed.kept.settings_kept;
        clean = subst Clean (sym accessed.residents)
            (settled_marked NotModified tt unmodified_again (halves_of d block false e) (asked_of d block false e)
            (read_marked NotModified tt unmodified_again (settings_in d) block e (residents_in d) h.clean (place_of d block)
            (placed_in d h.is_sound block)));
        residents = ap bare accessed.residents ∙ rw same (bare_read (settings_in d) block (residents_in d) e);
        ins = ap (λ t. t.ins) totals
            ∙ ap (λ (n : ℕ). (totals_in d).ins + n) (rw same (sym (bare_entering (settings_in d) block (residents_in d))));
        reads = ap (λ t. t.reads) totals;
        writes = let t = ap (λ t. t.writes) totals in omega arith;
      }

  -- at an entry, or refused, all being pinned
  pub read_done : (bytes store after store' : List ℕ) (r : Option Asked) → AccessDone (memory d bytes store) block false after store' r
      → ReadDone d s block after
  read_done bytes store after store' (Some a) done = accessed_done done.accessed
  read_done bytes store after store' None done = accessed_done done.accessed

-- ---- a trace

-- i words were read
pub record Running (before trace : List ℕ) (s : Settings) (now : List ℕ) (i : ℕ) : Type 0 where
  pub words : Trace s trace
  pub ready : Ready now s i
  pub within : i ≤ length trace
  pub counted : (totals_in now).ins + ins_from s (bare_in now) (drop i (trace_of trace)) ≡ ins_of s (trace_of trace)
  pub long : length now ≡ length before

pub run_start : (d trace : List ℕ) (s : Settings) → FreshIn d s → Trace s trace → Running d trace s d 0
run_start d trace s f t =
    record {
      words = t;
      ready = f.ready;
      within = omega arith;
      counted =
          let e = ins_from_lem s (trace_of trace) in
          let g = ap (λ l. ins_from s (bare l) (trace_of trace)) f.none in
          let z = f.no_ins in
          omega arith;
      long = refl;
    }

module _ (before trace : List ℕ) (s : Settings) (now : List ℕ) (i : ℕ) (r : Running before trace s now i) (h : i < length trace) where
  pub read_ready : ReadReady now s (block_of (get_or trace i 0))
  read_ready =
      let few = r.words.few in
      let a = r.ready.reads_are in
      let b = r.ready.writes_are in
      record {
        is_sound = r.ready.is_sound;
        settings_are = r.ready.settings_are;
        inside = r.words.inside i h;
        countable = record { reads = omega arith; writes = omega arith };
        clean = r.ready.clean;
      }

  pub run_next : {after : List ℕ} → ReadDone now s (block_of (get_or trace i 0)) after → length after ≡ length now
      → Running before trace s after (i + 1)
  unfolding ins_from
  run_next {after = after} d long =
      let a = r.ready.reads_are in
      let b = r.ready.writes_are in
      let c = d.reads in
      let e = d.writes in
      let counted = rw (trace_step trace i h) at r.counted in
      let came = d.ins in
      record {
        words = r.words;
        ready = record {
          is_sound = d.sound_after;
          settings_are = d.settings_kept;
          clean = d.clean;
          reads_are = omega arith;
          writes_are = omega arith;
        };
        within = omega arith;
        counted = rw d.residents (omega arith);
        long = long ∙ r.long;
      }

pub run_end : (before trace : List ℕ) (s : Settings) (now : List ℕ) (i : ℕ) → Running before trace s now i → length trace ≤ i
    → (totals_in now).ins ≡ ins_of s (trace_of trace)
unfolding ins_from
run_end before trace s now i r left = let counted = rw (trace_end trace i left) at r.counted in omega arith

-- ---- from a fresh directory

pub fresh_in : (s : Settings) → settings_number s ≡ 0 → (before after : List ℕ) (n : ℕ) → length before ≡ most_words → Fresh s before n after
    → FreshIn after s
unfolding settings_in view fresh_number
fresh_in s ok before after n long f =
    let legal = legal_settings s ok in
    let rest = drop (length (fresh_words s)) before in
    let accepted : after ≡ fresh_words s ++ rest = f.accepted (f.returned ∙ zero legal) in
    let v = ap (λ w. view w []) accepted ∙ view_fresh s ok rest [] in
    let none : residents_in after ≡ [] = ap (λ (k : Stack ℕ). k.residents) v in
    record {
      ready = record {
        is_sound = rw accepted (sound_fresh s ok rest);
        settings_are = sym (ap (λ (k : Stack ℕ). k.settings) v);
        clean = subst Clean (sym none) tt;
        reads_are = ap (λ (k : Stack ℕ). k.totals.reads) v;
        writes_are = ap (λ (k : Stack ℕ). k.totals.writes) v;
      };
      none = none;
      no_ins = ap (λ (k : Stack ℕ). k.totals.ins) v;
    }
  where
    zero : LegalSettings s → fresh_number s (length before) ≡ 0
    zero legal =
        let a = legal.few_blocks in
        let b = buckets_few s.n legal.few_blocks in
        let c = legal.few_chains in
        let fits : directory_length s ≤ length before = omega arith in
        rw (ok, le-ltb (length before) (directory_length s) fits)

-- the ins fit a word
pub ins_fit : (s : Settings) (trace : List ℕ) (r : ℕ) → r ≡ ins_of s (trace_of trace) → Trace s trace → r < 2 ^ 32
ins_fit s trace r is t = let few = t.few in let a = ins_few s (trace_of trace) in let k = length-map trace block_of in omega arith
