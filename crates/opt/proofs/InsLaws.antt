-- The ins of the plain stack as a sum over residents that hold nothing: the same whatever the store, and whatever the residents of another
-- stack hold. At most one for each read.
use Rattle.std.specs.Prelude.{ℕ, suc, ◌+◌, ◌*◌, ◌≤◌, ◌<◌, ◌≡◌, length, get_or, take, drop}
use Rattle.std.proofs.Common.{arith, ◌∙◌, drop_of_length-le, drop-cons}
use Rattle.std.proofs.Math.Path.{refl, sym, ap}
use Rattle.std.proofs.Math.Bool.{false}
use mathlib.Core.List.{List, [], ◌∷◌, map}
use Rattle.std.proofs.lemmas.List.{length-map}
use Rattle.std.proofs.Math.ListN.{get_or-map}
use Rattle.settings.specs.declared.Settings.{Settings}
use Rattle.stack.specs.Recency.{Resident, Place, found, unused, replacing, all_pinned, place, asked, halves, settled}
use Rattle.stack.proofs.RecencyLaws.{hold_place, place_hold, settled_hold, asked_hold, halves_hold}
use Rattle.stack.proofs.StepLaws.{entering_one}
use Rattle.stack.specs.Stack.{Plain, read, entering, access, step, plain_step, empty}
use Rattle.stack.specs.Batch.{run, plain_run}
use Rattle.opt.specs.Bare.{Bare, nothing, bare, read_at, after_read, ins_from}
use Rattle.opt.specs.Ins.{block_of, trace_of, ins_of}
use Rattle.opt.specs.Optimal.{AnyStore}

module _ {A : Type 0} (s : Settings) (b : ℕ) (l : List (Resident A)) where
  pub bare_entering : entering (place s b (bare l)) ≡ entering (place s b l)
  unfolding entering hold_place
  bare_entering = ap entering (place_hold nothing s b l) ∙ go (place s b l)
    where
      go : (q : Place A) → entering (hold_place nothing q) ≡ entering q
      go (found x l) = refl
      go (unused l) = refl
      go (replacing v l) = refl
      go (all_pinned l) = refl

  pub bare_read : (a : A) → bare (read_at s b a (place s b l)) ≡ after_read s b (bare l)
  unfolding after_read
  bare_read a =
      let q = place s b l in
      let next : List (Resident A) = asked b false a q in
      let e : asked b false tt (hold_place nothing q) ≡ bare next = asked_hold nothing nothing b false a tt q refl (λ t. refl) in
      sym
      (ap (read_at s b tt) (place_hold nothing s b l)
      ∙ ap (λ k. settled (halves s (hold_place nothing q) k) k) e
      ∙ ap (λ t. settled t (bare next)) (halves_hold nothing nothing s q next)
      ∙ settled_hold nothing (halves s q next) next)

-- ---- the plain stack

read_one : (k : Plain) (b : ℕ) (incoming : List ℕ) → let now = (plain_step k (read b) incoming).after in
    (now.totals.ins ≡ k.totals.ins + entering (place k.settings b k.residents))
    × (bare now.residents ≡ after_read k.settings b (bare k.residents))
    × (now.settings ≡ k.settings)
unfolding plain_step step access
read_one k b incoming = (refl, bare_read k.settings b k.residents _, refl)

run_ins : (B : ℕ) (t : List ℕ) (k : Plain) (incoming : List ℕ)
    → (run plain_step (λ w. w) B k (map read t) incoming).after.totals.ins ≡ k.totals.ins + ins_from k.settings (bare k.residents) t
unfolding run ins_from
run_ins B [] k incoming = omega arith
run_ins B (b ∷ t) k incoming =
    let now = (plain_step k (read b) (take B incoming)).after in
    let ih = run_ins B t now (drop (0 * B) incoming) in
    let (i, r, s) = read_one k b (take B incoming) in
    let ih' = rw (s, r) at ih in
    omega (arith, ih', i, bare_entering k.settings b k.residents)

pub ins_from_lem : (s : Settings) (t : List ℕ) → ins_of s t ≡ ins_from s [] t
unfolding ins_of plain_run
ins_from_lem s t = omega (arith, run_ins s.b t (empty s []) [])

pub any_store : AnyStore
unfolding plain_run
any_store s store t = omega (arith, run_ins s.b t (empty s store) [], ins_from_lem s t)

-- ---- words of a trace, one after the other

pub trace_step : (words : List ℕ) (i : ℕ) → i < length words
    → drop i (trace_of words) ≡ block_of (get_or words i 0) ∷ drop (i + 1) (trace_of words)
trace_step words i h =
    let e : suc i ≡ i + 1 = omega arith in
    drop-cons (trace_of words) i 0 (rw length-map h)
    ∙ rw (← e) (ap (λ b. b ∷ drop (suc i) (trace_of words)) (get_or-map block_of words i 0))

pub trace_end : (words : List ℕ) (i : ℕ) → length words ≤ i → drop i (trace_of words) ≡ []
trace_end words i h = drop_of_length-le (trace_of words) {i = i} (rw length-map h)

-- ---- no more than one for each read

from_few : (s : Settings) (l : List Bare) (t : List ℕ) → ins_from s l t ≤ length t
unfolding ins_from
from_few s l [] = omega arith
from_few s l (b ∷ t) = omega (arith, entering_one (place s b l), from_few s (after_read s b l) t)

pub ins_few : (s : Settings) (t : List ℕ) → ins_of s t ≤ length t
ins_few s t = omega (arith, ins_from_lem s t, from_few s [] t)
