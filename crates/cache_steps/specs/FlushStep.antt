-- A flush or a tick, as a loop along the stack: residents are written out and cleaned one by one, those that are modified or those that a
-- tick finds due; every other modified one has then seen the tick.
use Prim.Native.Nat.{ℕ, suc, ◌+◌, ◌-◌, ◌*◌, ◌≤◌}
use Rattle.std.proofs.Common.{add-one, arith, ap₂, subst, ◌∙◌, drop_of_length-le, take-append-drop, length-drop, take_all}
use Rattle.std.specs.Prelude.{◌≡◌, Bool, true, false, length, drop}
use Rattle.std.proofs.Math.Path.{refl, sym, ap}
use mathlib.Core.List.{List, [], ◌∷◌, ◌++◌, map, append-nil}
use Rattle.std.proofs.Math.Option.{some}
use Rattle.std.proofs.Math.ListN.{take, get_elem?}
use Rattle.std.proofs.Math.Dec.{T}
use Rattle.basics.specs.AllLaws.{all_left, all_those}
use Rattle.basics.specs.Basics.{All, when◌then◌else◌, bit, block_at, put_block}
use Rattle.basics.specs.Lists.{those}
use Rattle.words.specs.Links.{links_changed}
use Rattle.words.specs.LinkLaws.{changed_same, changed_tri}
use Rattle.settings.specs.declared.Settings.{Settings}
use Rattle.settings.specs.Buckets.{directory_length}
use Rattle.stack.specs.declared.Marks.{Marks}
use Rattle.stack.specs.Recency.{Resident, remarked}
use Rattle.stack.specs.Stack.{Totals, Work, flush, tick, flushed, saved, saved_all, flushing, step}
use Rattle.stack.specs.Entries.{entry_bytes, entry_for, filled, entry_step, Pick}
use Rattle.stack.proofs.EntriesLaws.{Fit}
use Rattle.stack.proofs.ForgetLaws.{length_saved_all}
use Rattle.stack.proofs.PlaceLaws.{all_found}
use Rattle.layout.specs.Sound.{totals_in, sound, residents_in, settings_in, view}
use Rattle.layout.proofs.SoundLaws.{sound_long, sound_residents, sound_kept}
use Rattle.promises.specs.DirectoryPromises.{Kept, Marked, Cleaned, TickSeen, marked_at, more_outs}
use Rattle.promises.specs.Demand3.{Memory}
use Rattle.cache_steps.specs.Carried.{cache_of, settings_of, memory, Ready, Carried}
use Rattle.cache_steps.specs.Carries.{ready_after, carry}
use Rattle.cache_steps.specs.FlushLists.{sweep, changed, chosen, passed, gone, chosen_none, chosen_set, changed_chosen, changed_none, changed_seen, passed_next, passed_length, passed_clean, passed_marked, count_next, saved_next}
use Rattle.cache_steps.specs.MovedLaws.{Moved, unmoved, saved_front}

-- words that were kept are as many as before
kept_length : (before after : List ℕ) → T (sound before) → Kept before after → length before ≡ length after
kept_length before after h k =
    let n : ℕ = directory_length (settings_in before) in
    let a : n ≤ length before = sound_long before h in
    let b : n ≤ length after = rw k.settings_kept at (sound_long after k.sound_after) in
    omega (arith, ap length k.past_kept, length-drop n before, length-drop n after)

-- The first p residents were passed, n of them written out.
pub record Flushing (ticks : Bool) (start : Memory) (p : ℕ) (m : Memory) (n : ℕ) : Type 0 where
  pub kept : Kept start.directory m.directory
  pub residents : residents_in m.directory ≡ passed ticks p (residents_in start.directory)
  pub totals : totals_in m.directory ≡ more_outs n (totals_in start.directory)
  pub count : n ≡ length (gone ticks (take p (residents_in start.directory)))
  pub bytes_are : m.bytes ≡ start.bytes
  pub store_is : m.store ≡ saved_all (entry_bytes (settings_of start).b start.bytes) (settings_of start).b
      (gone ticks (take p (residents_in start.directory))) start.store
  pub links_none : links_changed start.directory m.directory ≡ 0

module _ (ticks : Bool) (start : Memory) (ready : Ready start) where
  abbrev s : Settings
  s = settings_of start

  abbrev l : List (Resident ℕ)
  l = residents_in start.directory

  abbrev f : ℕ → List ℕ
  f = entry_bytes s.b start.bytes

  -- ---- the loop

  more_none : (t : Totals) → t ≡ more_outs 0 t
  more_none t = let e : t.outs ≡ t.outs + 0 = omega arith in λ i. record { reads = t.reads; writes = t.writes; ins = t.ins; outs = e i }

  more_more : (a b : ℕ) (t : Totals) → more_outs b (more_outs a t) ≡ more_outs (a + b) t
  more_more a b t =
      let e : t.outs + a + b ≡ t.outs + (a + b) = omega arith in λ i. record { reads = t.reads; writes = t.writes; ins = t.ins; outs = e i }

  pub flush_start : Flushing ticks start 0 start 0
  unfolding saved_all those
  flush_start =
      record {
        kept = record { sound_after = ready.is_sound; settings_kept = refl; past_kept = refl };
        residents = refl;
        totals = more_none (totals_in start.directory);
        count = refl;
        bytes_are = refl;
        store_is = refl;
        links_none = changed_same start.directory;
      }

  module _ {p : ℕ} {m : Memory} {n : ℕ} (so_far : Flushing ticks start p m n) where
    -- the next resident is still as at the start
    flush_next : get_elem? (residents_in m.directory) p ≡ get_elem? l p
    flush_next = ap (λ r. get_elem? r p) so_far.residents ∙ passed_next ticks l p

    module _ {x : Resident ℕ} (at : get_elem? (residents_in m.directory) p ≡ some x) where
      here : get_elem? l p ≡ some x
      here = sym flush_next ∙ at

      -- one that isn't written out leaves the count and the store
      count_kept : chosen ticks x.marks ≡ false → n ≡ length (gone ticks (take (suc p) l))
      count_kept stays =
          let e : bit (chosen ticks x.marks) ≡ 0 = ap bit stays in let h = so_far.count in omega (arith, count_next ticks l p x here)

      store_kept : chosen ticks x.marks ≡ false → m.store ≡ saved_all f s.b (gone ticks (take (suc p) l)) start.store
      unfolding saved_all
      store_kept stays =
          so_far.store_is
          ∙ ap (λ b. saved_all f s.b (when b then x ∷ [] else []) (saved_all f s.b (gone ticks (take p l)) start.store)) (sym stays)
          ∙ sym (saved_next ticks l p x here f s.b start.store)

      -- a resident whose marks change as they should, with so many blocks out
      flush_one : {change : Marks → Marks} {outs : ℕ} {d : List ℕ} {store : List ℕ} → Marked change outs m.directory x.held d
          → change x.marks ≡ changed ticks x.marks
          → n + outs ≡ length (gone ticks (take (suc p) l)) → store ≡ saved_all f s.b (gone ticks (take (suc p) l)) start.store
          → Flushing ticks start (p + 1) (memory d m.bytes store) (n + outs)
      flush_one {change} {outs} {d} mark new count store_is =
          rw (add-one p) (record {
            kept = record {
              sound_after = mark.kept.sound_after;
              settings_kept = mark.kept.settings_kept ∙ so_far.kept.settings_kept;
              past_kept = rw so_far.kept.settings_kept at mark.kept.past_kept ∙ so_far.kept.past_kept;
            };
            residents =
                mark.residents ∙ ap (marked_at change x.held) so_far.residents
                ∙ passed_marked ticks change l p x (sound_residents start.directory ready.is_sound).apart here new;
            totals = mark.totals ∙ ap (more_outs outs) so_far.totals ∙ more_more n outs (totals_in start.directory);
            count = count;
            bytes_are = so_far.bytes_are;
            store_is = store_is;
            links_none =
                let same = kept_length start.directory m.directory ready.is_sound so_far.kept in
                omega (arith, changed_tri start.directory m.directory d same, so_far.links_none, mark.links_none);
          })

      -- an unmodified resident is passed
      pub flush_clean : x.marks.modified ≡ false → Flushing ticks start (p + 1) m n
      unfolding view
      flush_clean mark =
          let seen =
          all_found (λ y. T y.marks.seen → T y.marks.modified) l p x (sound_kept start.directory ready.is_sound []).seen here in
          rw (add-one p) (record {
            kept = so_far.kept;
            residents = so_far.residents ∙ passed_clean ticks l p x here (changed_none ticks x.marks seen mark);
            totals = so_far.totals;
            count = count_kept (chosen_none ticks x.marks mark);
            bytes_are = so_far.bytes_are;
            store_is = store_kept (chosen_none ticks x.marks mark);
            links_none = so_far.links_none;
          })

      -- a modified one, or one that is due, is written out and cleaned
      pub flush_modified : {d : List ℕ} → chosen ticks x.marks ≡ true → Cleaned m.directory x.held d
          → Flushing ticks start (p + 1)
          (memory d m.bytes (put_block (settings_of start).b x.block (block_at (settings_of start).b (x.held - 1) m.bytes) m.store))
          (n + 1)
      unfolding saved_all saved
      flush_modified out clean =
          flush_one clean (changed_chosen ticks x.marks out)
          (let e : bit (chosen ticks x.marks) ≡ 1 = ap bit out in let h = so_far.count in omega (arith, count_next ticks l p x here))
          (ap₂ (λ by st. put_block s.b x.block (block_at s.b (x.held - 1) by) st) so_far.bytes_are so_far.store_is
          ∙ ap (λ u. when u then put_block s.b x.block (f x.held) before else before) (sym (chosen_set ticks x.marks out))
          ∙ ap (λ b. saved_all f s.b (when b then x ∷ [] else []) before) (sym out)
          ∙ sym (saved_next ticks l p x here f s.b start.store))
        where
          before : List ℕ
          before = saved_all f s.b (gone ticks (take p l)) start.store

      -- one that is modified and isn't written out has seen the tick
      pub flush_seen : {d : List ℕ} → x.marks.modified ≡ true → chosen ticks x.marks ≡ false → TickSeen m.directory x.held d
          → Flushing ticks start (p + 1) (memory d m.bytes m.store) n
      flush_seen {d} mark stays seen =
          let e : n + 0 ≡ n = omega arith in
          subst (Flushing ticks start (p + 1) (memory d m.bytes m.store)) e
          (flush_one seen (changed_seen ticks x.marks mark stays) (e ∙ count_kept stays) (store_kept stays))

    -- ---- meanwhile

    pub flush_length : length (residents_in m.directory) ≡ length (residents_in start.directory)
    flush_length = ap length so_far.residents ∙ passed_length ticks l p

    gone_fit : All (Fit s) (gone ticks (take p l))
    gone_fit =
        all_those (Fit s) (λ x. chosen ticks x.marks) (take p l)
        (all_left (Fit s) (take p l) (drop p l) (rw (take-append-drop p l) (sound_residents start.directory ready.is_sound).fit))

    store_same : length m.store ≡ length start.store
    store_same =
        ap length so_far.store_is
        ∙ length_saved_all s start.bytes ready.bytes_long (gone ticks (take p l)) gone_fit start.store ready.store_long

    bytes_moved : Moved (s.n * s.b) (take (s.n * s.b) start.bytes) start.bytes m.bytes
    bytes_moved = rw so_far.bytes_are (unmoved (s.n * s.b) start.bytes)

    pub flush_ready : Ready m
    flush_ready = ready_after start ready m.directory m.bytes m.store so_far.kept bytes_moved.same store_same

    -- ---- the end

    module _ (all : length (residents_in start.directory) ≤ p) (incoming : List ℕ) where
      whole : l ≡ take p l
      whole = sym (take_all p l all)

      residents_left : map (remarked (changed ticks)) l ≡ residents_in m.directory
      residents_left =
          sym (so_far.residents
          ∙ ap₂ (λ a b. map (remarked (changed ticks)) a ++ b) (take_all p l all) (drop_of_length-le l all)
          ∙ append-nil (map (remarked (changed ticks)) l))

      abbrev front : ℕ → List ℕ
      front = entry_bytes s.b (take (s.n * s.b) start.bytes)

      stored : saved_all front s.b (gone ticks l) start.store ≡ m.store
      stored =
          ap (λ r. saved_all front s.b (gone ticks r) start.store) whole
          ∙ saved_front s start.bytes ready.bytes_long (gone ticks (take p l)) gone_fit start.store
          ∙ sym so_far.store_is

      count_all : length (gone ticks l) ≡ n
      count_all = ap (λ r. length (gone ticks r)) whole ∙ sym so_far.count

      totals_all : more_outs (length (gone ticks l)) (totals_in start.directory) ≡ totals_in m.directory
      totals_all = ap (λ k. more_outs k (totals_in start.directory)) count_all ∙ sym so_far.totals

      ended : (w : Work) → Pick (cache_of start) w 0
          → entry_step (cache_of start) (w, 0) incoming
          ≡ record {
            after = record {
              stack = (flushing front (λ q bytes. entry_for 0 q) (cache_of start).stack (chosen ticks) (changed ticks)).after;
              bytes = take (s.n * s.b) start.bytes;
            };
            answer = flushed (length (gone ticks l));
            given = [];
          }
          → Carried start w incoming m (flushed n) []
      unfolding flushing view
      ended w picked step_is =
          carry start ready m.directory m.bytes m.store so_far.kept bytes_moved store_same w incoming (flushed n) [] 0 picked
          (step_is ∙ (λ i. record {
            after = record {
              stack = record { settings = s; residents = residents_left i; store = stored i; totals = totals_all i };
              bytes = take (s.n * s.b) start.bytes;
            };
            answer = flushed (count_all i);
            given = [];
          }))
          (record { few = λ calm. let h = so_far.links_none in omega arith; none = λ still. so_far.links_none })

-- THE FLUSH, OR THE TICK, once all were passed
pub flush_carried : (ticks : Bool) (start : Memory) → Ready start → {p : ℕ} {m : Memory} {n : ℕ} → Flushing ticks start p m n
    → length (residents_in start.directory) ≤ p → (incoming : List ℕ) → Carried start (sweep ticks) incoming m (flushed n) []
unfolding entry_step step flushing filled view
flush_carried true start ready so_far all incoming = ended true start ready so_far all incoming tick tt refl
flush_carried false start ready so_far all incoming = ended false start ready so_far all incoming flush tt refl
