-- The answer word to a word of a proper cache: it reports the chains right, and is of kind 7 exactly if a miss is refused.
use Rattle.std.specs.Prelude.{ℕ, ◌/◌, ◌^◌, ◌≤◌, ◌<◌, ◌≡◌, refl, Bool, true, false, List, map, length}
use Rattle.std.proofs.Common.{arith, ◌∙◌}
use Rattle.std.proofs.Math.Option.{Option, none, some}
use Rattle.std.proofs.lemmas.List.{length-map}
use Rattle.basics.specs.AllLaws.{all_map, all_image}
use Rattle.basics.specs.Basics.{All}
use Rattle.basics.specs.ListLaws.{fewer_those}
use Rattle.basics.specs.Lists.{those}
use Rattle.basics.specs.TestLaws.{bit_small, if_either}
use Rattle.settings.specs.NumbersLaws.{old_fits}
use Rattle.stack.specs.Counts.{chains, chains_demanded, is_old, count_at, victim, Legal}
use Rattle.stack.specs.declared.Marks.{Marks}
use Rattle.stack.specs.Recency.{due, Resident, hold, Place, place, lookup, counts_pins}
use Rattle.stack.specs.Stack.{Plain, Answer, hit, entered, replaced, purged, absent, flushed, answer_word, Work, read, write, purge, flush, tick, invalid, answering, access, purging, flushing, step, plain_step, miss_refused, pinned, purge_refused, pinning, pin, unpin}
use Rattle.stack.specs.Batch.{Reported}
use Rattle.stack.proofs.AnswerLaws.{kind_told, chains_told}
use Rattle.stack.specs.Entries.{Cache, entry_bytes, plain}
use Rattle.stack.proofs.PlaceLaws.{Placed, hits, enters, replaces, placed, all_found, refusing}
use Rattle.stack.proofs.EntriesLaws.{Fit, Proper}
use Rattle.stack.proofs.StackLaws.{purging_either}
use Rattle.settings.specs.declared.Settings.{Settings}
use Rattle.std.proofs.Math.Nat.{min-le_right}
use Rattle.stack.specs.Pins.{Misses, AllPinned}
use Rattle.stack.proofs.PinLaws.{refused_only, refused_if}

-- an answer whose values fit its word and which, of a replacement, gives the chains as demanded
abbrev Right : Plain → Answer → Type 0
Right k (hit n halved) = n ≤ 65535
Right k (entered halved) = Unit {0}
Right k (replaced block n out) = (block < 2 ^ 18) × (n ≡ chains_demanded k.settings (counts_pins k.residents))
Right k (purged discarded) = Unit {0}
Right k absent = Unit {0}
Right k (flushed n) = n ≤ 4096
Right k miss_refused = Unit {0}
Right k (pinned on) = Unit {0}
Right k purge_refused = Unit {0}

pub demanded_few : (s : Settings) (xs : List (ℕ × Bool)) → chains_demanded s xs ≤ s.cmax
demanded_few s xs =
    if_either (λ n. n ≤ s.cmax) (is_old s (victim s xs)) _ _ (λ t. min-le_right (count_at xs (victim s xs)) s.cmax) (λ t. omega arith)

right_reported : (k : Plain) → k.settings.cmax ≤ 64 → (a : Answer) → Right k a → Reported k (answer_word a)
unfolding answer_word
right_reported k few (hit n halved) r = λ e. let h = bit_small halved in absurd (omega arith)
right_reported k few (entered halved) r = λ e. let h = bit_small halved in absurd (omega arith)
right_reported k few (replaced block n out) r = λ e.
    let c = demanded_few k.settings (counts_pins k.residents) in
    chains_told block n r.0 (omega (arith, r.1)) out ∙ r.1
right_reported k few (purged discarded) r = λ e. let h = bit_small discarded in absurd (omega arith)
right_reported k few absent r = λ e. absurd (omega arith)
right_reported k few (flushed n) r = λ e. absurd (omega arith)
right_reported k few miss_refused r = λ e. absurd (omega arith)
right_reported k few (pinned on) r = λ e. let h = bit_small on in absurd (omega arith)
right_reported k few purge_refused r = λ e. absurd (omega arith)

module _ (k : Plain) (stored : All (λ x. x.block < 2 ^ 18) k.residents) where
  answer_right : (h : Bool) (q : Place (List ℕ)) → Placed k.settings k.residents q
      → Right k (answering (chains k.settings (counts_pins k.residents)) h q)
  unfolding answering
  answer_right h q (hits p x n g ok up) = ok.1
  answer_right h q (enters g) = tt
  answer_right h q (refusing full all) = tt
  answer_right h q (replaces v x g full u c) = (all_found (λ y. y.block < 2 ^ 18) k.residents v x stored g, c)

  purge_right : (b : ℕ) (o : Option (Resident (List ℕ))) → Right k (purging (λ bytes. bytes) (λ q bytes. bytes) k b o).answer
  unfolding purging
  purge_right b none = tt
  purge_right b (some x) = purging_either (λ bytes. bytes) (λ q bytes. bytes) (λ t. Right k t.answer) k b x (λ t. tt) (λ t. tt)

  pin_right : (b : ℕ) (on : Bool) (o : Option (Resident (List ℕ))) → Right k (pinning (λ bytes. bytes) (λ q bytes. bytes) k b on o).answer
  unfolding pinning
  pin_right b on none = tt
  pin_right b on (some x) = tt

-- a word of kind 7 is that of a refused miss
right_seventh : (k : Plain) → k.settings.cmax ≤ 64 → (a : Answer) → Right k a → answer_word a / 2 ^ 28 ≡ 7 → a ≡ miss_refused
unfolding answer_word
right_seventh k few (hit n halved) r e = let h = bit_small halved in absurd (omega arith)
right_seventh k few (entered halved) r e = let h = bit_small halved in absurd (omega arith)
right_seventh k few (replaced block n out) r e =
    let c = demanded_few k.settings (counts_pins k.residents) in
    absurd (omega (arith, kind_told block n r.0 (omega (arith, r.1)) out))
right_seventh k few (purged discarded) r e = let h = bit_small discarded in absurd (omega arith)
right_seventh k few absent r e = absurd (omega arith)
right_seventh k few (flushed n) r e = absurd (omega arith)
right_seventh k few miss_refused r e = refl
right_seventh k few (pinned on) r e = let h = bit_small on in absurd (omega arith)
right_seventh k few purge_refused r e = absurd (omega arith)

-- what the answer to a word tells, of the plain stack before it
pub record Told (k : Plain) (w : Work) (a : Answer) : Type 0 where
  pub chains : Reported k (answer_word a)
  pub refused_only : answer_word a / 2 ^ 28 ≡ 7 → Misses k w × AllPinned k
  pub refused_if : Misses k w → AllPinned k → a ≡ miss_refused

pub step_told : (c : Cache) → Proper c → (w : Work) (incoming : List ℕ) → Told (plain c) w (plain_step (plain c) w incoming).answer
unfolding plain_step step access flushing
step_told c proper w incoming =
    record {
      chains = right_reported k few_chains (plain_step k w incoming).answer (go w);
      refused_only = λ e. refused_only k at_place incoming w (right_seventh k few_chains (plain_step k w incoming).answer (go w) e);
      refused_if = refused_if k at_place incoming w;
    }
  where
    k : Plain
    k = plain c

    f : Resident ℕ → Resident (List ℕ)
    f = hold (entry_bytes c.stack.settings.b c.bytes)

    l : List (Resident (List ℕ))
    l = map f c.stack.residents

    few_chains : k.settings.cmax ≤ 64
    few_chains = proper.legal.few_chains

    few : length l ≤ c.stack.settings.n
    few = rw (length-map c.stack.residents f) proper.residents.few

    stored : All (λ x. x.block < 2 ^ 18) l
    stored = all_image (λ x. x.block < 2 ^ 18) f c.stack.residents
        (all_map (Fit c.stack.settings) _ c.stack.residents
        (λ x t. let h = t.stored in let g = proper.legal.few_stored in omega arith) proper.residents.fit)

    at_place : (b : ℕ) → Placed c.stack.settings l (place c.stack.settings b l)
    at_place = placed c.stack.settings l proper.legal.some_old (old_fits c.stack.settings proper.legal) few_chains few
        (all_image (λ x. Legal x.count) f c.stack.residents
        (all_map (Fit c.stack.settings) _ c.stack.residents (λ x t. t.legal) proper.residents.fit))

    few_out : (chosen : Marks → Bool) → Right k (flushed (length (those (λ x. chosen x.marks) l)))
    few_out chosen = let n = proper.legal.few_blocks in let g = few in omega (arith, fewer_those (λ (x : Resident (List ℕ)). chosen x.marks) l)

    go : (w : Work) → Right k (plain_step k w incoming).answer
    go (read b) = answer_right k stored _ (place c.stack.settings b l) (at_place b)
    go (write b) = answer_right k stored _ (place c.stack.settings b l) (at_place b)
    go (purge b) = purge_right k stored b (lookup b l)
    go flush = few_out (λ m. m.modified)
    go tick = few_out due
    go (pin b) = pin_right k stored b true (lookup b l)
    go (unpin b) = pin_right k stored b false (lookup b l)
    go invalid = tt
