-- A cache with a state of its own, such as a recency stack, is a scheme: the order of its residents does not matter.
use Rattle.std.specs.Prelude.{ℕ, suc, ◌≡◌, true, false}
use Rattle.std.proofs.Common.{sym, ◌∙◌}
use mathlib.Core.List.{List, [], ◌∷◌}
use Rattle.basics.specs.Basics.{when◌then◌else◌, member}
use Rattle.opt.specs.Opt.{remove}
use Rattle.opt.specs.Schemes.{Loads, room, full, Runs, done, hit, miss}
use Rattle.opt.proofs.RemoveLaws.{either, off_remove, Alike, alike_sym, alike_cons, alike_remove}

-- what one may load, so may another with the same residents
record Match (N b : ℕ) (D E : List ℕ) : Type 0 where
  rest : List ℕ
  loads : Loads N b E rest
  alike : Alike D rest

match : {N b : ℕ} {C D E : List ℕ} → member b C ≡ false → Alike C E → Loads N b C D → Match N b D E
match {b = b} {E = E} h a (room l) = record { rest = b ∷ E; loads = room (rw (← a.long) l); alike = alike_cons b h a }
match {b = b} {C = C} {E = E} h a (full v e m) =
    record {
      rest = b ∷ remove v E;
      loads = full v (sym a.long ∙ e) (sym (a.members v) ∙ m);
      alike = alike_cons b (off_remove b v C h) (alike_remove v m a);
    }

runs_alike : {N : ℕ} {t C E : List ℕ} {ins : ℕ} → Runs N t C ins → Alike C E → Runs N t E ins
runs_alike done a = done
runs_alike (hit {b = b} h r) a = hit (sym (a.members b) ∙ h) (runs_alike r a)
runs_alike (miss {b = b} h q r) a =
    let m = match h a q in
    miss (sym (a.members b) ∙ h) m.loads (runs_alike r m.alike)

-- Any cache: a state, its residents, what a read does to it; `Good` is what it keeps true of its states.
module _ {State : Type 0} (residents : State → List ℕ) (read : ℕ → State → State) where
  -- its ins on a trace: its misses
  unfoldable pub misses_of : List ℕ → State → ℕ
  misses_of [] s = 0
  misses_of (b ∷ t) s = let later = misses_of t (read b s) in when member b (residents s) then later else suc later

  -- It is a scheme of N blocks: a hit leaves the residents; a miss loads the block, and replaces one resident only when full.
  pub record Scheme (N : ℕ) (Good : State → Type 0) : Type 0 where
    pub good : (b : ℕ) (s : State) → Good s → Good (read b s)
    pub at_hit : (b : ℕ) (s : State) → Good s → member b (residents s) ≡ true → Alike (residents s) (residents (read b s))
    pub loaded : ℕ → State → List ℕ
    pub at_miss : (b : ℕ) (s : State) → Good s → member b (residents s) ≡ false
        → Loads N b (residents s) (loaded b s) × Alike (loaded b s) (residents (read b s))

  pub scheme_runs : (N : ℕ) (Good : State → Type 0) → Scheme N Good → (t : List ℕ) (s : State) → Good s
      → Runs N t (residents s) (misses_of t s)
  unfolding misses_of
  scheme_runs N Good c [] s g = done
  scheme_runs N Good c (b ∷ t) s g =
      let r = scheme_runs N Good c t (read b s) (c.good b s g) in
      either (member b (residents s))
      (λ e. rw e (hit e (runs_alike r (alike_sym (c.at_hit b s g e)))))
      (λ e. let (q, a) = c.at_miss b s g e in rw e (miss e q (runs_alike r (alike_sym a))))
