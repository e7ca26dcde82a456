-- Answer 7: a miss gets it exactly if all N residents are pinned, and then only its total rises.
use Rattle.std.specs.Prelude.{ℕ, ◌*◌, ◌≡◌, Bool, List, length, replicate, ltb}
use Rattle.std.proofs.Common.{add-zero, one-mul, zero-mul, arith, sym, subst}
use Rattle.std.proofs.Math.Path.{refl}
use Rattle.std.proofs.Math.Bool.{true, false}
use Rattle.std.proofs.Math.Option.{Option, none, some}
use Rattle.std.proofs.Math.ListN.{get_elem?}
use Rattle.std.proofs.Math.Dec.{T}
use Rattle.std.proofs.Math.Facts.{T_not}
use Rattle.basics.specs.Basics.{when◌then◌else◌, total}
use Rattle.settings.specs.declared.Settings.{Settings}
use Rattle.stack.specs.Counts.{victim}
use Rattle.stack.specs.Recency.{Resident, Place, found, unused, replacing, all_pinned, counts_pins, position, raise, replacing_at, found_at, place, settled, lookup, asked, refuses, halves}
use Rattle.stack.specs.Stack.{Plain, Work, read, write, purge, flush, tick, pin, unpin, invalid, miss_refused, is_refused}
use Rattle.stack.specs.Stack.{leaving, entering, modified_count, saved_all, present, answering, access, purging, pinning, flushing, step, plain_step}
use Rattle.stack.proofs.StackLaws.{purging_either}
use Rattle.stack.proofs.PlaceLaws.{Placed, hits, enters, replaces, refusing, all_found}
use Rattle.stack.proofs.KeepLaws.{Kept, kept_placed}
use Rattle.stack.specs.Batch.{is_read}
use Rattle.stack.specs.Pins.{Misses, AllPinned, only_counted, Refusing}

is_miss : {A : Type 0} → Place A → Bool
is_miss (found x m) = false
is_miss (unused m) = true
is_miss (replacing v m) = true
is_miss (all_pinned m) = true

missed : {A : Type 0} (s : Settings) (b : ℕ) (l : List (Resident A)) → lookup b l ≡ none → T (is_miss (place s b l))
unfolding place lookup found_at replacing_at is_miss
missed {A} s b l e =
    subst (λ o. T (is_miss (found_at s (position b l) l o))) (sym e)
    (go (ltb (length l) s.n) (get_elem? l (victim s (counts_pins l))))
  where
    go : (t : Bool) (o : Option (Resident A)) → T (is_miss (when t then unused l else replacing_at (victim s (counts_pins l)) l o))
    go true o = tt
    go false none = tt
    go false (some x) = tt

module _ (k : Plain) (at : (b : ℕ) → Placed k.settings k.residents (place k.settings b k.residents)) where
  abbrev s : Settings
  s = k.settings

  abbrev l : List (Resident (List ℕ))
  l = k.residents

  place_refused : (b : ℕ) → lookup b l ≡ none → AllPinned k → place s b l ≡ all_pinned l
  unfolding is_miss
  place_refused b e all = go (place s b l) (at b) (missed s b l e)
    where
      go : (q : Place (List ℕ)) → Placed s l q → T (is_miss q) → q ≡ all_pinned l
      go q (hits p x c g ok up) t = absurd t
      go q (enters g) t = absurd (let f = all.0 in omega arith)
      go q (replaces v x g full u c) t = absurd (T_not x.marks.pinned (all_found (λ y. T y.marks.pinned) l v x all.1 g) u)
      go q (refusing full pins) t = refl

  access_only : (b n : ℕ) (h : Bool) → T (is_refused (answering n h (place s b l))) → (lookup b l ≡ none) × AllPinned k
  unfolding answering place lookup found_at raise
  access_only b n h t = (absent_one (lookup b l) refl, by_case (place s b l) (at b) t)
    where
      by_case : (q : Place (List ℕ)) → Placed s l q → T (is_refused (answering n h q)) → AllPinned k
      by_case q (hits p x c g ok up) t = absurd t
      by_case q (enters g) t = absurd t
      by_case q (replaces v x g full u c) t = absurd t
      by_case q (refusing full all) t = (full, all)

      absent_one : (o : Option (Resident (List ℕ))) → lookup b l ≡ o → o ≡ none
      absent_one none g = refl
      absent_one (some x) g = absurd (subst (λ o. T (is_refused (answering n h (found_at s (position b l) l o)))) g t)

  -- no other word has it
  purging_answers : (b : ℕ) (o : Option (Resident (List ℕ))) → ¬ T (is_refused (purging (λ bytes. bytes) (λ q bytes. bytes) k b o).answer)
  unfolding purging
  purging_answers b none t = t
  purging_answers b (some x) t =
      purging_either (λ bytes. bytes) (λ q bytes. bytes) (λ now. ¬ T (is_refused now.answer)) k b x (λ p u. u) (λ p u. u) t

  pinning_answers : (b : ℕ) (on : Bool) (o : Option (Resident (List ℕ)))
      → ¬ T (is_refused (pinning (λ bytes. bytes) (λ q bytes. bytes) k b on o).answer)
  unfolding pinning
  pinning_answers b on none t = t
  pinning_answers b on (some x) t = t

  module _ (incoming : List ℕ) where
    only : (w : Work) → T (is_refused (plain_step k w incoming).answer) → Misses k w × AllPinned k
    unfolding plain_step step access flushing
    only (read b) t = access_only b _ _ t
    only (write b) t = access_only b _ _ t
    only (purge b) t = absurd (purging_answers b (lookup b l) t)
    only flush t = absurd t
    only tick t = absurd t
    only (pin b) t = absurd (pinning_answers b true (lookup b l) t)
    only (unpin b) t = absurd (pinning_answers b false (lookup b l) t)
    only invalid t = absurd t

    -- answer 7 only then
    pub refused_only : (w : Work) → (plain_step k w incoming).answer ≡ miss_refused → Misses k w × AllPinned k
    refused_only w e = only w (subst (λ a. T (is_refused a)) (sym e) tt)

    -- and always then
    pub refused_if : (w : Work) → Misses k w → AllPinned k → (plain_step k w incoming).answer ≡ miss_refused
    unfolding plain_step step access answering
    refused_if (read b) m all = rw (place_refused b m all)
    refused_if (write b) m all = rw (place_refused b m all)
    refused_if (purge b) m all = absurd m
    refused_if flush m all = absurd m
    refused_if tick m all = absurd m
    refused_if (pin b) m all = absurd m
    refused_if (unpin b) m all = absurd m
    refused_if invalid m all = absurd m

-- the whole step
pub step_refuses : (k : Plain) → Kept k → (w : Work) (incoming : List ℕ) → Refusing k w (plain_step k w incoming)
unfolding plain_step step access saved_all leaving entering modified_count total answering present asked halves refuses settled
step_refuses k kept w incoming = record { only = refused_only k at incoming w; always = always w }
  where
    at : (b : ℕ) → Placed k.settings k.residents (place k.settings b k.residents)
    at = kept_placed k kept

    always : (w : Work) → Misses k w → AllPinned k
        → plain_step k w incoming ≡ record { after = only_counted k w; answer = miss_refused; given = replicate (is_read w * k.settings.b) 0 }
    always (read b) m all = rw (place_refused k at b m all) (simp (add-zero, one-mul))
    always (write b) m all = rw (place_refused k at b m all) (simp (add-zero, zero-mul))
    always (purge b) m all = absurd m
    always flush m all = absurd m
    always tick m all = absurd m
    always (pin b) m all = absurd m
    always (unpin b) m all = absurd m
    always invalid m all = absurd m
