-- From the promises of fresh and of a batch to belt cycle's outcome, by demand 3 over a list of one call.
use Rattle.std.specs.Prelude.{ℕ, ◌+◌, ◌*◌, ◌≡◌, length, drop, replicate}
use Rattle.std.proofs.Common.{arith, subst, ◌∙◌, take-append-drop, drop_of_length-le, take_all}
use Rattle.std.proofs.Math.Path.{sym, ap, ap₂}
use mathlib.Core.List.{List, [], ◌∷◌, ◌++◌, map, append-nil}
use Rattle.std.proofs.Math.ListN.{take}
use Rattle.std.proofs.lemmas.List.{length-replicate}
use Rattle.std.proofs.Math.Seq.{take-length, drop-length}
use Rattle.settings.specs.declared.Settings.{Settings}
use Rattle.settings.specs.Numbers.{settings_number}
use Rattle.settings.specs.Buckets.{buckets}
use Rattle.stack.specs.Stack.{Plain, answer_word, empty}
use Rattle.stack.specs.Batch.{Call, batch}
use Rattle.stack.proofs.BatchLaws.{batch_answers}
use Rattle.stack.specs.Examples.{belt}
use Rattle.layout.specs.Layout.{fresh_number}
use Rattle.layout.specs.Sound.{view, totals_in}
use Rattle.promises.specs.Promises.{over, Fresh, Slices, Batch}
use Rattle.promises.specs.Demand3.{Memory, Lending, lends, leaves, as_call, starts, Alike, Follows, end, call}
use Rattle.promises.proofs.Demand3Laws.{demand3}
use Rattle.std.specs.Prelude.{Result as Returned}
use Rattle.refusals.specs.declared.Refusal.{Refusal}
use Rattle.refusals.specs.Refusals.{outcome}
use Rattle.belt.specs.Belt.{incoming_bytes}
use Rattle.belt.specs.declared.Outcome.{Outcome}
use Rattle.belt.specs.Cycles.{belt_start, belt_call, belt_result, Left, ReadOff, Cycled}

-- ---- one batch from a fresh directory

-- What a batch from fresh memory gives, as the plain stack has it.
pub record One (answers outgoing past : List ℕ) (k : Plain) (call : Call) (n : ℕ) (after : Slices) : Type 0 where
  pub number : n ≡ (batch k call).number
  pub answered : after.answers ≡ over (map answer_word (batch k call).ran.answers) answers
  pub given : after.outgoing ≡ over (batch k call).ran.outgoing outgoing
  pub stored : after.store ≡ (batch k call).ran.after.store ++ past
  pub totals : totals_in after.directory ≡ (batch k call).ran.after.totals

module _ (s : Settings) (before d words incoming bytes store answers outgoing : List ℕ) (n : ℕ) (after : Slices) where
  abbrev m : Memory
  m = record { directory = d; bytes = bytes; store = store }

  abbrev c : Lending
  c =
      record {
        words = words;
        incoming = incoming;
        answers = answers;
        outgoing = outgoing;
        bytes_length = length bytes;
        store_length = length store;
      }

  abbrev lent : Slices
  lent = record { directory = d; bytes = bytes; store = store; answers = answers; outgoing = outgoing }

  lends_all : lends m c ≡ lent
  lends_all = rw (take-length bytes, take-length store)

  abbrev past : List ℕ
  past = drop (s.m * s.b) store

  -- the memory lent whole: the plain stack's M blocks, then what lies behind them (nothing, where the call is accepted)
  stored : {k : Plain} → Alike (leaves m c after) k past → after.store ≡ k.store ++ past
  unfolding view
  stored {k} e =
      let left = (leaves m c after).store in
      let all : left ≡ after.store = rw (drop-length store) (append-nil after.store) in
      let blocks : take (k.settings.m * k.settings.b) left ≡ k.store = rw (← ap (λ x. x.settings) e.same) (ap (λ x. x.store) e.same) in
      sym all ∙ sym (take-append-drop (k.settings.m * k.settings.b) left) ∙ ap₂ (λ u v. u ++ v) blocks e.past

  from_follows : Follows past m (starts s store) (c ∷ []) ((n, after) ∷ []) → One answers outgoing past (starts s store) (as_call c) n after
  unfolding view
  from_follows (call a g (end e)) =
      record { number = g.number; answered = g.answers; given = g.outgoing; stored = stored e; totals = ap (λ k. k.totals) e.same }

  pub one_batch : Fresh s before 0 d → Batch words incoming lent n after → One answers outgoing past (starts s store) (as_call c) n after
  one_batch f b =
      from_follows (demand3 s before d bytes store (c ∷ []) ((n, after) ∷ []) f
      (call (omega arith) (omega arith) (subst (λ t. Batch words incoming t n after) (sym lends_all) b) end))

-- ---- the belt's

-- the plain stack's start, from a store of zeros
starts_zero : (store : List ℕ) → store ≡ replicate 512 0 → starts belt store ≡ belt_start
unfolding belt_start
starts_zero store e =
    ap (λ l. starts belt l) e
    ∙ ap (λ l. empty belt l) (take_all 512 (replicate 512 0) (omega (arith, length-replicate {A = ℕ} 512 0)))

-- a directory of 70 words is long enough
accepted_fresh : (before d : List ℕ) (f : ℕ) → length before ≡ 70 → Fresh belt before f d → Fresh belt before 0 d
unfolding fresh_number settings_number buckets
accepted_fresh before d f e p =
    let z : f ≡ 0 = p.returned ∙ ap (λ n. fresh_number belt n) e in
    subst (λ x. Fresh belt before x d) z p

-- what was lent
pub record Lent (before incoming bytes store outgoing : List ℕ) : Type 0 where
  pub directory_long : length before ≡ 70
  pub incoming_is : incoming ≡ incoming_bytes
  pub bytes_long : length bytes ≡ 32
  pub store_zero : store ≡ replicate 512 0
  pub outgoing_long : length outgoing ≡ 8192

module _ (work answers before d incoming bytes store outgoing : List ℕ) (after : Slices) (f : ℕ) (returned : Returned (Unit {0}) Refusal) (c : Outcome) where
  abbrev left : Left
  left = record { answers = after.answers; store = after.store; outgoing = after.outgoing }

  from_one : ReadOff work after.directory returned c → One answers outgoing [] belt_start (belt_call work (length answers)) (outcome returned) after
      → Cycled work answers outgoing c left
  unfolding belt_result
  from_one r o =
      record {
        number = ap outcome r.returned ∙ o.number;
        words = r.words;
        answered = λ z. r.words ∙ sym (batch_answers belt_start (belt_call work (length answers)) (sym (ap outcome r.returned ∙ o.number) ∙ z));
        answers = o.answered;
        outgoing = o.given;
        store = o.stored ∙ append-nil _;
        moves = r.moves ∙ ap (λ t. t.ins + t.outs) o.totals;
        references = r.references ∙ ap (λ t. t.reads + t.writes) o.totals;
      }

  pub belt_cycled : Fresh belt before f d
      → Batch work incoming (record { directory = d; bytes = bytes; store = store; answers = answers; outgoing = outgoing }) (outcome returned) after
      → ReadOff work after.directory returned c
      → Lent before incoming bytes store outgoing
      → Cycled work answers outgoing c left
  belt_cycled p b r l =
      let fresh = accepted_fresh before d f l.directory_long p in
      let one = one_batch belt before d work incoming bytes store answers outgoing (outcome returned) after fresh b in
      from_one r (rw (calls, starts_zero store l.store_zero, none_past) at one)
    where
      calls : as_call (record {
        words = work;
        incoming = incoming;
        answers = answers;
        outgoing = outgoing;
        bytes_length = length bytes;
        store_length =
            length store;
      }) ≡ belt_call work (length answers)
      calls = rw (l.incoming_is, l.bytes_long, l.store_zero, length-replicate {A = ℕ} 512 0, l.outgoing_long)

      none_past : drop 512 store ≡ []
      none_past = drop_of_length-le store {i = 512} (omega (arith, ap length l.store_zero, length-replicate {A = ℕ} 512 0))
