-- A pin, or an unpin: the resident's pinned mark changes, data and store stay; or the block is absent and nothing changes.
use Rattle.std.specs.Prelude.{ℕ, zero, suc, ◌+◌, ◌*◌, ◌≡◌, ◌≢◌, Bool, eqb}
use Rattle.std.proofs.Common.{arith, ap, ap₂, subst, ◌∙◌, eq-eqb, ne_eqb}
use Rattle.std.proofs.Math.Path.{refl, sym}
use Rattle.std.proofs.Math.Bool.{true, false}
use mathlib.Core.List.{List, [], ◌∷◌, map}
use Rattle.std.proofs.Math.Option.{Option, none, some}
use Rattle.std.proofs.Math.ListN.{take, get_elem?}
use Rattle.basics.specs.Basics.{All, when◌then◌else◌}
use Rattle.settings.specs.declared.Settings.{Settings}
use Rattle.stack.specs.Recency.{Resident, marked, pinned_as, position, pin_at, lookup, remarked}
use Rattle.stack.specs.Stack.{Totals, Work, pin, unpin, pinned, absent, Step, pinning, step}
use Rattle.stack.specs.Entries.{Cache, entry_bytes, entry_for, filled, entry_step, Pick}
use Rattle.stack.proofs.PlaceLaws.{all_found}
use Rattle.stack.proofs.BlockLaws.{Differ, lookup_block}
use Rattle.stack.proofs.EntriesLaws.{Apart}
use Rattle.layout.specs.Sound.{totals_in, residents_in, view}
use Rattle.layout.proofs.SoundLaws.{sound_residents, sound_kept}
use Rattle.promises.specs.DirectoryPromises.{marked_at, more_outs, Pinned}
use Rattle.promises.specs.Demand3.{Memory}
use Rattle.cache_steps.specs.Carried.{cache_of, settings_of, memory, Ready, Carried}
use Rattle.cache_steps.specs.Carries.{carry, idle_carried}
use Rattle.cache_steps.specs.MovedLaws.{unmoved}

-- the word
abbrev pub pin_work : Bool → ℕ → Work
pin_work on b = when on then pin b else unpin b

-- ---- the resident of a block is the one of its entry, as blocks and entries differ

module _ (on : Bool) (b e : ℕ) where
  -- one resident, by the two tests
  same_pin : (y : Resident ℕ) (c : Bool) → eqb y.block b ≡ c → eqb y.held e ≡ c
      → pin_at on b y ≡ (when eqb y.held e then remarked (pinned_as on) y else y)
  same_pin y c p q = rw (p, q) (go c)
    where
      go : (t : Bool) → marked (when t then pinned_as on y.marks else y.marks) y ≡ (when t then remarked (pinned_as on) y else y)
      go true = refl
      go false = refl

  both_stay : (l : List (Resident ℕ)) → All (λ y. y.block ≢ b) l → All (λ y. y.held ≢ e) l → map (pin_at on b) l ≡ marked_at (pinned_as on) e l
  both_stay [] u v = refl
  both_stay (y ∷ l) u v = ap₂ ◌∷◌ (same_pin y false (ne_eqb y.block b u.0) (ne_eqb y.held e v.0)) (both_stay l u.1 v.1)

  pinned_one : (l : List (Resident ℕ)) (p : ℕ) (x : Resident ℕ) → Differ l → Apart l → get_elem? l p ≡ some x → x.block ≡ b → x.held ≡ e
      → map (pin_at on b) l ≡ marked_at (pinned_as on) e l
  pinned_one [] p x d a at q r = let z : ◌≡◌ {A = ℕ} 0 1 = cc in absurd (omega arith)
  pinned_one (y ∷ l) zero x d a at q r =
      let same : y ≡ x = cc in
      let block : y.block ≡ b = ap (λ z. z.block) same ∙ q in
      let held : y.held ≡ e = ap (λ z. z.held) same ∙ r in
      ap₂ ◌∷◌ (same_pin y true (eq-eqb y.block b block) (eq-eqb y.held e held))
      (both_stay l (subst (λ n. All (λ z. z.block ≢ n) l) block d.0) (subst (λ n. All (λ z. z.held ≢ n) l) held a.0))
  pinned_one (y ∷ l) (suc p) x d a at q r =
      let other : x.block ≢ y.block = all_found (λ z. z.block ≢ y.block) l p x d.0 at in
      let apart : x.held ≢ y.held = all_found (λ z. z.held ≢ y.held) l p x a.0 at in
      ap₂ ◌∷◌ (same_pin y false (ne_eqb y.block b (λ h. other (q ∙ sym h))) (ne_eqb y.held e (λ h. apart (r ∙ sym h))))
      (pinned_one l p x d.1 a.1 at q r)

-- ---- the word

none_more : (t : Totals) → t ≡ more_outs 0 t
none_more t = let e : t.outs ≡ t.outs + 0 = omega arith in λ i. record { reads = t.reads; writes = t.writes; ins = t.ins; outs = e i }

module _ (m : Memory) (ready : Ready m) (b : ℕ) (on : Bool) (incoming : List ℕ) where
  abbrev s : Settings
  s = settings_of m

  -- the machine over entries, with the resident found
  abbrev pinned_with : Bool → Option (Resident ℕ) → Step Cache
  pinned_with c o =
      let now = pinning (entry_bytes s.b (cache_of m).bytes) (λ q bytes. entry_for 0 q) (cache_of m).stack b c o in
      record { after = record { stack = now.after; bytes = (cache_of m).bytes }; answer = now.answer; given = now.given }

  stepped : (c : Bool) → entry_step (cache_of m) (pin_work c b, 0) incoming ≡ pinned_with c (lookup b (residents_in m.directory))
  unfolding entry_step step filled view
  stepped true = refl
  stepped false = refl

  looked_up : {o : Option (Resident ℕ)} → lookup b (residents_in m.directory) ≡ o
      → entry_step (cache_of m) (pin_work on b, 0) incoming ≡ pinned_with on o
  looked_up at = stepped on ∙ ap (pinned_with on) at

  picks : (c : Bool) → Pick (cache_of m) (pin_work c b) 0
  picks true = tt
  picks false = tt

  pub pin_carried : {d : List ℕ} {x : Resident ℕ} → Pinned on m.directory x.held d → lookup b (residents_in m.directory) ≡ some x
      → Carried m (pin_work on b) incoming (memory d m.bytes m.store) (pinned on) []
  unfolding pinning view lookup
  pin_carried {d} {x} mark at =
      let l : List (Resident ℕ) = residents_in m.directory in
      let differ : Differ l = (sound_kept m.directory ready.is_sound []).differ in
      let apart : Apart l = (sound_residents m.directory ready.is_sound).apart in
      let one = pinned_one on b x.held l (position b l) x differ apart at (lookup_block b l x at) refl in
      let residents : map (pin_at on b) l ≡ residents_in d = one ∙ sym mark.residents in
      let totals : totals_in m.directory ≡ totals_in d = none_more (totals_in m.directory) ∙ sym mark.totals in
      carry m ready d m.bytes m.store mark.kept (unmoved (s.n * s.b) m.bytes) refl
      (pin_work on b) incoming (pinned on) [] 0 (picks on)
      (looked_up at ∙ (λ i. record {
        after = record {
          stack = record { settings = s; residents = residents i; store = m.store; totals = totals i };
          bytes = take (s.n * s.b) m.bytes;
        };
        answer = pinned on;
        given = [];
      }))
      (record { few = λ calm. let h = mark.links_none in omega arith; none = λ still. mark.links_none })

  pub pin_absent : lookup b (residents_in m.directory) ≡ none → Carried m (pin_work on b) incoming m absent []
  unfolding pinning
  pin_absent at = idle_carried m ready (pin_work on b) incoming absent (picks on) (looked_up at)
