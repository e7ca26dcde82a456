-- Writing out on the tick over every list of calls: the words that it carried out are one story of the plain stack.
use Prim.Native.Nat.{ℕ, zero, suc, ◌*◌, ◌≤◌, ◌<◌}
use Rattle.std.specs.Prelude.{◌≡◌, List, [], map, length, take, eqb}
use Rattle.std.proofs.Common.{sym, ap, ◌∙◌}
use Rattle.std.proofs.Math.Path.{subst}
use Rattle.std.proofs.Math.Dec.{eqb-suc-zero}
use Rattle.basics.specs.Basics.{when◌then◌else◌, block_at}
use Rattle.settings.specs.declared.Settings.{Settings}
use Rattle.settings.specs.NumbersLaws.{legal_settings}
use Rattle.stack.specs.Stack.{Plain}
use Rattle.stack.specs.Batch.{work, batch_number, plain_run, batch}
use Rattle.stack.proofs.BufferLaws.{block_ends, block_front}
use Rattle.stack.proofs.BatchLaws.{allowed, batch_accepted, batch_declined, works_inside}
use Rattle.stack.proofs.SureLaws.{Sure, empty_sure}
use Rattle.stack.specs.Ticks.{Turn, turns}
use Rattle.stack.proofs.TicksLaws.{Story, join, last_sure, run_story, second_tick, loss_bound}
use Rattle.promises.specs.Promises.{Fresh, Slices}
use Rattle.promises.specs.Demand3.{Memory, Lending, Linked, end, call, as_call, starts, Alike, Agrees, Follows, memory_left, stack_left}
use Rattle.promises.proofs.Demand3Laws.{fresh_legal, demand3}
use Rattle.promises.proofs.FollowLaws.{alike_store, alike_room, follows_alike}
use Rattle.promises.specs.Ticks.{turns_of, AllSecondTick, AllLossBound}

-- ---- one call

module _ {m : Memory} {k : Plain} {rest : List ℕ} (alike : Alike m k rest) (c : Lending) (fits : c.store_length ≤ length m.store) where
  abbrev these : List Turn
  these = turns k.settings.b k (map (work k.settings) c.words) c.incoming

  accepted : batch_number k.settings k.totals (as_call c) ≡ 0 → Sure k.settings k
      → Story k.settings k these (batch k (as_call c)).ran.after
  unfolding plain_run
  accepted e sure =
      let s = k.settings in
      let a = allowed s k.totals (as_call c) e in
      rw (batch_accepted k (as_call c) e)
      (run_story s k (map (work s) c.words) c.incoming sure (alike_room alike c.store_length fits a.memory.store_exact)
      (works_inside s c.words) a.incoming)

  call_story : {s : Settings} → Sure s k → (n : ℕ) (after : Slices) → Agrees c n after k (batch k (as_call c))
      → Story s k (when eqb n 0 then these else []) (batch k (as_call c)).ran.after
  unfolding batch
  call_story {s} sure zero after agrees = subst (λ t. Sure t k → Story t k _ _) sure.settings (accepted (sym agrees.number)) sure
  call_story sure (suc n) after agrees = rw (batch_declined k (as_call c) n (sym agrees.number), eqb-suc-zero) Story.end

-- ---- the list

list_story : {s : Settings} {rest : List ℕ} {m : Memory} {k : Plain} {cs : List Lending} {ts : List (ℕ × Slices)} → Linked m cs ts
    → Follows rest m k cs ts → Sure s k → Story s k (turns_of k cs ts) (stack_left k cs)
list_story end (end alike) sure = Story.end
list_story {s} (call {c = c} {n = n} {after = after} fits fits' promise next) (call alike agrees later) sure =
    let one = call_story alike c fits' sure n after agrees in
    join s one (list_story next later (last_sure s sure one))

module _ (s : Settings) (before directory bytes store : List ℕ) (cs : List Lending) (ts : List (ℕ × Slices)) (fresh : Fresh s before 0 directory)
    (linked : Linked (record { directory = directory; bytes = bytes; store = store }) cs ts) where
  abbrev last : Plain
  last = stack_left (starts s store) cs

  abbrev left : Memory
  left = memory_left (record { directory = directory; bytes = bytes; store = store }) cs ts

  begins : Sure s (starts s store)
  begins = empty_sure s (take (s.m * s.b) store) (legal_settings s (fresh_legal s before directory fresh))

  story : Story s (starts s store) (turns_of (starts s store) cs ts) last
  story = list_story linked (demand3 s before directory bytes store cs ts fresh linked) begins

  -- the store left begins with the plain stack's
  same_store : take (s.m * s.b) left.store ≡ last.store
  same_store =
      ap (λ (t : Settings). take (t.m * t.b) left.store) (sym (last_sure s begins story).settings)
      ∙ alike_store (follows_alike (demand3 s before directory bytes store cs ts fresh linked))

  same_block : (b : ℕ) → b < s.m → block_at s.b b left.store ≡ block_at s.b b last.store
  same_block b inside = sym (block_front s.b b (s.m * s.b) left.store (block_ends s.b b s.m inside)) ∙ ap (block_at s.b b) same_store

pub all_second_tick : AllSecondTick
all_second_tick s before directory bytes store cs ts fresh linked = second_tick (story s before directory bytes store cs ts fresh linked)

pub all_loss_bound : AllLossBound
all_loss_bound s before directory bytes store cs ts fresh linked =
    loss_bound (story s before directory bytes store cs ts fresh linked) s.m (left s before directory bytes store cs ts fresh linked).store
    (same_block s before directory bytes store cs ts fresh linked)
