-- A purge: the resident leaves, data and store stay; or it is pinned or absent and nothing changes.
use Rattle.std.specs.Prelude.{ℕ, ◌*◌, ◌≤◌, ◌≡◌, Bool, true}
use Rattle.std.proofs.Common.{arith, ◌∙◌}
use Rattle.std.proofs.Math.Path.{refl, sym, ap}
use Rattle.std.proofs.Math.Bool.{false}
use mathlib.Core.List.{List, []}
use Rattle.std.proofs.Math.Option.{Option, none, some}
use Rattle.std.proofs.Math.ListN.{take}
use Rattle.basics.specs.Basics.{when◌then◌else◌}
use Rattle.settings.specs.declared.Settings.{Settings}
use Rattle.stack.specs.Recency.{Resident, lookup, removed}
use Rattle.stack.specs.Stack.{purge, purged, absent, Step, purging, step, Stack, purge_refused, rearranged, idle}
use Rattle.stack.specs.Entries.{Cache, entry_bytes, entry_for, filled, entry_step}
use Rattle.layout.specs.Sound.{residents_in, view}
use Rattle.promises.specs.DirectoryPromises.{Purged}
use Rattle.promises.specs.Demand3.{Memory}
use Rattle.cache_steps.specs.Carried.{cache_of, settings_of, memory, Ready, Carried}
use Rattle.cache_steps.specs.Carries.{cache_with, carry, idle_carried}
use Rattle.cache_steps.specs.MovedLaws.{unmoved}

module _ (m : Memory) (ready : Ready m) (b : ℕ) (incoming : List ℕ) where
  abbrev s : Settings
  s = settings_of m

  -- the machine over entries, with the resident found
  abbrev told : Step (Stack ℕ) → Step Cache
  told now = record { after = record { stack = now.after; bytes = (cache_of m).bytes }; answer = now.answer; given = now.given }

  abbrev purged_with : Option (Resident ℕ) → Step Cache
  purged_with o = told (purging (entry_bytes s.b (cache_of m).bytes) (λ q bytes. entry_for 0 q) (cache_of m).stack b o)

  looked_up : {o : Option (Resident ℕ)} → lookup b (residents_in m.directory) ≡ o → entry_step (cache_of m) (purge b, 0) incoming ≡ purged_with o
  unfolding entry_step step filled view
  looked_up at = ap purged_with at

  abbrev goes : Resident ℕ → Step (Stack ℕ)
  goes x = rearranged (cache_of m).stack (removed b (residents_in m.directory)) (purged x.marks.modified)

  -- by the pinned mark of the resident found
  by_pin : {x : Resident ℕ} (t : Bool) → lookup b (residents_in m.directory) ≡ some x → x.marks.pinned ≡ t
      → entry_step (cache_of m) (purge b, 0) incoming ≡ told (when t then idle (cache_of m).stack purge_refused else goes x)
  unfolding purging view
  by_pin {x} t at mark = looked_up at ∙ ap (λ c. told (when c then idle (cache_of m).stack purge_refused else goes x)) mark

  pub purge_carried : {k : ℕ} {modified : Bool} {d : List ℕ} {x : Resident ℕ} → Purged k m.directory b d
      → lookup b (residents_in m.directory) ≡ some x → x.marks.modified ≡ modified → x.marks.pinned ≡ false → k ≤ 20
      → Carried m (purge b) incoming (memory d m.bytes m.store) (purged modified) []
  unfolding view
  purge_carried {modified = modified} {d = d} {x = x} gone at mark free few =
      carry m ready d m.bytes m.store gone.kept (unmoved (s.n * s.b) m.bytes) refl (purge b) incoming (purged modified) [] 0 tt
      (by_pin false at free ∙ leaves) (record { few = λ calm. let h = gone.links_few in omega arith; none = λ still. absurd still })
    where
      leaves : told (goes x) ≡ record { after = cache_with s d (take (s.n * s.b) m.bytes) m.store; answer = purged modified; given = [] }
      leaves =
          let residents = sym gone.residents in
          let totals = sym gone.totals in
          λ i. record {
            after = record {
              stack = record { settings = s; residents = residents i; store = m.store; totals = totals i };
              bytes = take (s.n * s.b) m.bytes;
            };
            answer = purged (mark i);
            given = [];
          }

  pub refused_carried : {x : Resident ℕ} → lookup b (residents_in m.directory) ≡ some x → x.marks.pinned ≡ true
      → Carried m (purge b) incoming m purge_refused []
  refused_carried at mark = idle_carried m ready (purge b) incoming purge_refused tt (by_pin true at mark)

  pub absent_carried : lookup b (residents_in m.directory) ≡ none → Carried m (purge b) incoming m absent []
  unfolding purging
  absent_carried at = idle_carried m ready (purge b) incoming absent tt (looked_up at)
