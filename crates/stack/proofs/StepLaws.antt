-- Every work word keeps what `Kept` says; so what holds of a word from such a stack holds of each word of a run.
use Rattle.std.specs.Prelude.{ℕ, ◌+◌, ◌*◌, ◌≤◌, Bool, not, List, [], ◌∷◌, map, refl, length, take, drop}
use Rattle.std.proofs.Common.{arith}
use Rattle.std.proofs.Math.Bool.{true, false}
use Rattle.std.proofs.Math.Option.{Option, none, some}
use Rattle.std.proofs.lemmas.List.{length-map}
use Rattle.std.proofs.Math.Dec.{T}
use Rattle.basics.specs.AllLaws.{all_image}
use Rattle.basics.specs.Basics.{when◌then◌else◌, bit}
use Rattle.settings.specs.declared.Settings.{Settings}
use Rattle.stack.specs.declared.Marks.{Marks}
use Rattle.stack.specs.Recency.{Resident, Place, found, unused, replacing, position, remarked, place, asked, lookup, removed, all_pinned, pin_at, halves}
use Rattle.stack.specs.Stack.{Stack, Plain, Step, Work, read, write, purge, flush, tick, invalid, entering, access, purging, flushing, step, Answer, purged, pinned, rearranged, pinning, pin, unpin, modified_count, plain_step}
use Rattle.stack.specs.Batch.{is_write, EachStep}
use Rattle.stack.proofs.StackLaws.{bytes_for, purging_either}
use Rattle.stack.proofs.PlaceLaws.{Placed, all_without}
use Rattle.stack.specs.Counts.{Legal}
use Rattle.stack.proofs.BlockLaws.{Differ_without, Differ_same, place_blocks, asked_differ, settled_differ, Differ}
use Rattle.stack.proofs.MarkLaws.{WritesOut, flush_out, tick_out}
use Rattle.stack.proofs.SumLaws.{settled_sum, sum}
use Rattle.stack.proofs.KeepLaws.{Kept, kept_placed, sum_marked, marks_flushed, seen_flushed, fewer_marks, fewer, asked_few, asked_legal, asked_seen, asked_marks_lem, settled_many, settled_legal, settled_seen, settled_marks, LegalCounts, SeenModified, marks_pinned, seen_pinned}

pub entering_one : {A : Type 0} (q : Place A) → entering q ≤ 1
unfolding entering
entering_one (found x l) = omega arith
entering_one (unused l) = omega arith
entering_one (replacing v l) = omega arith
entering_one (all_pinned l) = omega arith

module _ {A : Type 0} (bytes_of : A → List ℕ) (keep : Place A → List ℕ → A) (k : Stack A) (kept : Kept k) where
  abbrev s : Settings
  s = k.settings

  abbrev l : List (Resident A)
  l = k.residents

  access_kept : (b : ℕ) (w : Bool) (incoming : List ℕ) → Kept (access bytes_of keep k b w incoming).after
  unfolding access
  access_kept b w incoming =
      record {
        some_old = kept.some_old;
        old_fits = kept.old_fits;
        few_chains = kept.few_chains;
        some_average = kept.some_average;
        few = rw (settled_many halving next) next_few;
        legal = settled_legal halving next (asked_legal s l kept.few kept.legal b w held q at);
        differ = settled_differ halving next (asked_differ b w held q (place_blocks s b l kept.differ));
        seen = settled_seen halving next (asked_seen s l kept.few kept.legal b w held kept.seen q at);
        sums = settled_sum s l kept.sums b w held kept.legal kept.some_average q at next_few;
        ins = let h = kept.ins in read_in w;
        outs =
            let h = asked_marks_lem s l kept.few kept.legal b w held q at in let g = settled_marks halving next in let f =
            kept.outs in omega arith;
      }
    where
      q : Place A
      q = place s b l

      held : A
      held = keep q (bytes_for bytes_of k b w incoming)

      next : List (Resident A)
      next = asked b w held q

      halving : Bool
      halving = halves s q next

      at : Placed s l q
      at = kept_placed k kept b

      next_few : length next ≤ s.n
      next_few = asked_few s l kept.few kept.legal b w held q at

      read_in : (w : Bool) → k.totals.ins + (when w then 0 else entering q) ≤ k.totals.reads + bit (not w)
      read_in true = let h = kept.ins in omega arith
      read_in false = let h = kept.ins in let g = entering_one q in omega arith

  -- others in the residents' place
  rearranged_kept : (left : List (Resident A)) → length left ≤ s.n → LegalCounts left → Differ left → SeenModified left
      → sum left ≤ sum l → modified_count left ≤ modified_count l → (a : Answer) → Kept (rearranged k left a).after
  rearranged_kept left few legal differ seen sums marks a =
      record {
        some_old = kept.some_old;
        old_fits = kept.old_fits;
        few_chains = kept.few_chains;
        some_average = kept.some_average;
        few = few;
        legal = legal;
        differ = differ;
        seen = seen;
        sums = let g = kept.sums in omega arith;
        ins = kept.ins;
        outs = let g = kept.outs in omega arith;
      }

  purging_kept : (b : ℕ) (o : Option (Resident A)) → Kept (purging bytes_of keep k b o).after
  unfolding purging removed
  purging_kept b none = kept
  purging_kept b (some x) =
      let p = position b l in
      let h = fewer l p in
      purging_either bytes_of keep (λ t. Kept t.after) k b x (λ t. kept)
      (λ t. rearranged_kept (removed b l) (let g = kept.few in omega arith) (all_without (λ y. Legal y.count) l p kept.legal)
      (Differ_without l p kept.differ) (all_without (λ y. T y.marks.seen → T y.marks.modified) l p kept.seen) h.1 (fewer_marks l p)
      (purged x.marks.modified))

  pinning_kept : (b : ℕ) (on : Bool) (o : Option (Resident A)) → Kept (pinning bytes_of keep k b on o).after
  unfolding pinning
  pinning_kept b on none = kept
  pinning_kept b on (some x) =
      rearranged_kept (map (pin_at on b) l) (rw (length-map l (pin_at on b)) kept.few)
      (all_image (λ y. Legal y.count) (pin_at on b) l kept.legal)
      (Differ_same (pin_at on b) (λ y. refl) l kept.differ) (seen_pinned on b l kept.seen)
      (omega (arith, sum_marked (λ (y : Resident A). (pin_at on b y).marks) l)) (omega (arith, marks_pinned on b l)) (pinned on)

  flushing_kept : {chosen : Marks → Bool} {change : Marks → Marks} → WritesOut chosen change → Kept (flushing bytes_of keep k chosen change).after
  unfolding flushing
  flushing_kept {change = change} out =
      record {
        some_old = kept.some_old;
        old_fits = kept.old_fits;
        few_chains = kept.few_chains;
        some_average = kept.some_average;
        few = rw (length-map l (remarked change)) kept.few;
        legal = all_image (λ y. Legal y.count) (remarked change) l kept.legal;
        differ = Differ_same (remarked change) (λ x. refl) l kept.differ;
        seen = seen_flushed out l;
        sums = rw (sum_marked (λ (x : Resident A). change x.marks) l) kept.sums;
        ins = kept.ins;
        outs = let g = kept.outs in omega (arith, marks_flushed out l);
      }

  pub step_kept : (w : Work) (incoming : List ℕ) → Kept (step bytes_of keep k w incoming).after
  unfolding step
  step_kept (read b) incoming = access_kept b false incoming
  step_kept (write b) incoming = access_kept b true incoming
  step_kept (purge b) incoming = purging_kept b (lookup b l)
  step_kept flush incoming = flushing_kept flush_out
  step_kept tick incoming = flushing_kept tick_out
  step_kept (pin b) incoming = pinning_kept b true (lookup b l)
  step_kept (unpin b) incoming = pinning_kept b false (lookup b l)
  step_kept invalid incoming = kept

pub each_step : (P : Plain → Work → Step Plain → Type 0) → ((k : Plain) → Kept k → (w : Work) (incoming : List ℕ) → P k w (plain_step k w incoming))
    → (B : ℕ) (k : Plain) → Kept k → (ws : List Work) (incoming : List ℕ) → EachStep P B k ws incoming
unfolding plain_step
each_step P one B k kept [] incoming = tt
each_step P one B k kept (w ∷ ws) incoming =
    let now : List ℕ = take B incoming in
    (one k kept w now, each_step P one B (plain_step k w now).after (step_kept (λ bytes. bytes) (λ q bytes. bytes) k kept w now) ws (drop (is_write w * B) incoming))
