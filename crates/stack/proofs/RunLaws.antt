-- Forgetting entries over a whole run of words: what a proper cache does is what the plain stack does.
use Prim.Native.Nat.{ℕ, ◌+◌, ◌*◌, ◌≤◌}
use Rattle.std.proofs.Common.{add-mul, arith, sym, ◌∙◌, subst, length-drop, length-take-le}
use Rattle.std.specs.Prelude.{◌≡◌, Bool, take, drop}
use Rattle.std.proofs.Math.Path.{refl}
use Rattle.std.proofs.Math.Bool.{true, false}
use mathlib.Core.List.{List, [], ◌∷◌, ◌++◌, map}
use Rattle.std.proofs.Math.Option.{Option, none, some}
use Rattle.std.proofs.Math.ListN.{length}
use Rattle.basics.specs.AllLaws.{all_those}
use Rattle.basics.specs.Basics.{All, total}
use Rattle.basics.specs.Lists.{those}
use Rattle.settings.specs.declared.Settings.{Settings}
use Rattle.stack.specs.declared.Marks.{Marks}
use Rattle.stack.specs.Recency.{cleared, due, ticked, Resident, Place, position, lookup, removed, pin_at}
use Rattle.stack.specs.Stack.{Stack, Plain, Work, read, write, purge, flush, tick, invalid, access, purging, flushing, step, plain_step, answer_word, pin, unpin, pinning}
use Rattle.stack.proofs.StackLaws.{hold_step, purge_hold, flushing_hold, pin_hold, unpin_hold, purging_either}
use Rattle.stack.specs.Batch.{is_write, how_many, Ran, run, AllReported, EachStep}
use Rattle.stack.specs.Entries.{Cache, entry_bytes, plain, entry_for, filled, entry_step, Pick, Picks}
use Rattle.stack.proofs.EntriesLaws.{Fit, Proper, Residents_without, marked_residents}
use Rattle.stack.proofs.ReportLaws.{Told, step_told}
use Rattle.stack.proofs.ForgetLaws.{plain_of, InStore, length_saved_all, access_forget, access_proper}

-- ---- one word

-- A write brings a block.
abbrev pub Brings : ℕ → Work → List ℕ → Type 0
Brings B (read b) incoming = Unit {0}
Brings B (write b) incoming = length incoming ≡ B
Brings B (purge b) incoming = Unit {0}
Brings B flush incoming = Unit {0}
Brings B tick incoming = Unit {0}
Brings B (pin b) incoming = Unit {0}
Brings B (unpin b) incoming = Unit {0}
Brings B invalid incoming = Unit {0}

-- settings stay
module _ {A : Type 0} (f : A → List ℕ) (keep : Place A → List ℕ → A) (k : Stack A) where
  purging_settings : (b : ℕ) (o : Option (Resident A)) → (purging f keep k b o).after.settings ≡ k.settings
  unfolding purging
  purging_settings b none = refl
  purging_settings b (some x) = purging_either f keep (λ t. t.after.settings ≡ k.settings) k b x (λ t. refl) (λ t. refl)

  pinning_settings : (b : ℕ) (on : Bool) (o : Option (Resident A)) → (pinning f keep k b on o).after.settings ≡ k.settings
  unfolding pinning
  pinning_settings b on none = refl
  pinning_settings b on (some x) = refl

  pub step_settings : (w : Work) (incoming : List ℕ) → (step f keep k w incoming).after.settings ≡ k.settings
  unfolding step access flushing
  step_settings (read b) incoming = refl
  step_settings (write b) incoming = refl
  step_settings (purge b) incoming = purging_settings b (lookup b k.residents)
  step_settings flush incoming = refl
  step_settings tick incoming = refl
  step_settings (pin b) incoming = pinning_settings b true (lookup b k.residents)
  step_settings (unpin b) incoming = pinning_settings b false (lookup b k.residents)
  step_settings invalid incoming = refl

entry_settings : (c : Cache) (w : Work) (pick : ℕ) (incoming : List ℕ) → (entry_step c (w, pick) incoming).after.stack.settings ≡ c.stack.settings
unfolding entry_step
entry_settings c w pick incoming = step_settings (entry_bytes c.stack.settings.b c.bytes) (λ q bytes. entry_for pick q) c.stack w incoming

module _ (c : Cache) (proper : Proper c) (pick : ℕ) (incoming : List ℕ) where
  abbrev s : Settings
  s = c.stack.settings

  abbrev f : ℕ → List ℕ
  f = entry_bytes s.b c.bytes

  -- a flush or a tick
  flushing_forget : (chosen : Marks → Bool) (change : Marks → Marks)
      → flushing (λ bytes. bytes) (λ q bytes. bytes) (plain c) chosen change
      ≡ hold_step f (flushing f (λ q bytes. entry_for pick q) c.stack chosen change)
  flushing_forget = flushing_hold f (λ bytes. bytes) (λ q bytes. entry_for pick q) (λ q bytes. bytes) f (λ e. refl) c.stack

  -- a word that leaves all bytes where they are, B of them a block
  abbrev Held : ℕ → Work → Type 0
  Held B w = plain_step (plain c) w incoming ≡ hold_step (entry_bytes B c.bytes) (step f (λ q bytes. entry_for pick q) c.stack w incoming)

  still_forget : (w : Work) → Held s.b w → Held (entry_step c (w, pick) incoming).after.stack.settings.b w
  still_forget w e = subst (λ (t : Settings). Held t.b w) (sym (entry_settings c w pick incoming)) e

  pub step_forget : (w : Work) → InStore s.m w → Brings s.b w incoming → Pick c w pick
      → plain_step (plain c) w incoming ≡ plain_of (entry_step c (w, pick) incoming)
  unfolding plain_step entry_step step filled access flushing
  step_forget (read b) inside brings valid = access_forget c proper b inside false incoming pick (λ t. absurd t) valid
  step_forget (write b) inside brings valid = access_forget c proper b inside true incoming pick (λ t. brings) valid
  step_forget (purge b) inside brings valid =
      still_forget (purge b) (purge_hold f (λ bytes. bytes) (λ q bytes. entry_for pick q) (λ q bytes. bytes) f (λ e. refl) c.stack b incoming)
  step_forget flush inside brings valid = flushing_forget (λ m. m.modified) cleared
  step_forget tick inside brings valid = flushing_forget due ticked
  step_forget (pin b) inside brings valid =
      still_forget (pin b) (pin_hold f (λ bytes. bytes) (λ q bytes. entry_for pick q) (λ q bytes. bytes) f (λ e. refl) c.stack b incoming)
  step_forget (unpin b) inside brings valid =
      still_forget (unpin b) (unpin_hold f (λ bytes. bytes) (λ q bytes. entry_for pick q) (λ q bytes. bytes) f (λ e. refl) c.stack b incoming)
  step_forget invalid inside brings valid = refl

  purging_proper : (b : ℕ) (o : Option (Resident ℕ)) → Proper
      (record { stack = (purging f (λ q bytes. entry_for pick q) c.stack b o).after; bytes = c.bytes })
  unfolding purging removed
  purging_proper b none = proper
  purging_proper b (some x) =
      purging_either f (λ q bytes. entry_for pick q) (λ t. Proper (record { stack = t.after; bytes = c.bytes })) c.stack b x
      (λ t. proper)
      (λ t. record {
        legal = proper.legal;
        residents = Residents_without s (position b c.stack.residents) c.stack.residents proper.residents;
        bytes = proper.bytes;
        store = proper.store;
      })

  pinning_proper : (b : ℕ) (on : Bool) (o : Option (Resident ℕ))
      → Proper (record { stack = (pinning f (λ q bytes. entry_for pick q) c.stack b on o).after; bytes = c.bytes })
  unfolding pinning
  pinning_proper b on none = proper
  pinning_proper b on (some x) =
      record {
        legal = proper.legal;
        residents = marked_residents s (λ y. (pin_at on b y).marks) c.stack.residents proper.residents;
        bytes = proper.bytes;
        store = proper.store;
      }

  flushing_proper : (chosen : Marks → Bool) (change : Marks → Marks)
      → Proper (record { stack = (flushing f (λ q bytes. entry_for pick q) c.stack chosen change).after; bytes = c.bytes })
  unfolding flushing
  flushing_proper chosen change =
      let l = c.stack.residents in
      let out = those (λ x. chosen x.marks) l in
      let h : s.m * s.b ≤ length c.stack.store = omega (arith, proper.store) in
      record {
        legal = proper.legal;
        residents = marked_residents s (λ x. change x.marks) l proper.residents;
        bytes = proper.bytes;
        store =
            length_saved_all s c.bytes proper.bytes out (all_those (Fit s) (λ x. chosen x.marks) l proper.residents.fit)
            c.stack.store h
            ∙ proper.store;
      }

  pub step_proper : (w : Work) → InStore s.m w → Brings s.b w incoming → Pick c w pick → Proper (entry_step c (w, pick) incoming).after
  unfolding entry_step step filled access flushing
  step_proper (read b) inside brings valid = access_proper c proper b inside false incoming pick (λ t. absurd t) valid
  step_proper (write b) inside brings valid = access_proper c proper b inside true incoming pick (λ t. brings) valid
  step_proper (purge b) inside brings valid = purging_proper b (lookup b c.stack.residents)
  step_proper flush inside brings valid = flushing_proper (λ m. m.modified) cleared
  step_proper tick inside brings valid = flushing_proper due ticked
  step_proper (pin b) inside brings valid = pinning_proper b true (lookup b c.stack.residents)
  step_proper (unpin b) inside brings valid = pinning_proper b false (lookup b c.stack.residents)
  step_proper invalid inside brings valid = proper

-- ---- the words of a run

unfoldable pub plain_ran : Ran Cache → Ran Plain
plain_ran r = record { after = plain r.after; answers = r.answers; outgoing = r.outgoing }

abbrev pub works : List (Work × ℕ) → List Work
works = map (λ wp. wp.0)

-- ---- a run

pub rest_room : (B i n : ℕ) (incoming : List ℕ) → (i + n) * B ≤ length incoming → n * B ≤ length (drop (i * B) incoming)
rest_room B i n incoming h = let g : i * B + n * B ≤ length incoming = rw add-mul at h in simp length-drop (omega arith)

pub brings_first : (B : ℕ) (w : Work) (n : ℕ) (incoming : List ℕ) → (is_write w + n) * B ≤ length incoming → Brings B w (take B incoming)
brings_first B (read b) n incoming h = tt
brings_first B (write b) n incoming h = let g : 1 * B + n * B ≤ length incoming = rw add-mul at h in length-take-le B incoming (omega arith)
brings_first B (purge b) n incoming h = tt
brings_first B flush n incoming h = tt
brings_first B tick n incoming h = tt
brings_first B (pin b) n incoming h = tt
brings_first B (unpin b) n incoming h = tt
brings_first B invalid n incoming h = tt

-- what each answer tells
abbrev pub AllTold : ℕ → Plain → List Work → List ℕ → Type 0
AllTold = EachStep (λ k w now. Told k w now.answer)

-- in the answer words, whatever follows them
pub all_reported : (B : ℕ) (k : Plain) (ws : List Work) (incoming more : List ℕ) → AllTold B k ws incoming
    → AllReported B k ws incoming (map answer_word (run plain_step (λ w. w) B k ws incoming).answers ++ more)
unfolding run
all_reported B k [] incoming more told = tt
all_reported B k (w ∷ ws) incoming more told =
    (told.0.chains, all_reported B (plain_step k w (take B incoming)).after ws (drop (is_write w * B) incoming) more told.1)

module _ (s : Settings) where
  pub record Forgets (c : Cache) (ws : List (Work × ℕ)) (incoming : List ℕ) : Type 0 where
    pub same : run plain_step (λ w. w) s.b (plain c) (works ws) incoming ≡ plain_ran (run entry_step (λ wp. wp.0) s.b c ws incoming)
    pub proper : Proper (run entry_step (λ wp. wp.0) s.b c ws incoming).after
    pub kept : (run entry_step (λ wp. wp.0) s.b c ws incoming).after.stack.settings ≡ s
    pub told : AllTold s.b (plain c) (works ws) incoming

  pub forgets : (c : Cache) (ws : List (Work × ℕ)) (incoming : List ℕ) → c.stack.settings ≡ s → Proper c → All (InStore s.m) (works ws)
      → how_many is_write (works ws) * s.b ≤ length incoming → Picks s.b c ws incoming → Forgets c ws incoming
  unfolding run plain_ran total
  forgets c [] incoming e proper inside room picks = record { same = refl; proper = proper; kept = e; told = tt }
  forgets c (wp ∷ ws) incoming e proper inside room picks =
      let w = wp.0 in
      let n : ℕ = how_many is_write (works ws) in
      let B = s.b in
      let brings : Brings c.stack.settings.b w (take B incoming) = rw e (brings_first B w n incoming room) in
      let within : InStore c.stack.settings.m w = rw e inside.0 in
      let now = entry_step c wp (take B incoming) in
      let step_same : plain_step (plain c) w (take B incoming) ≡ plain_of now =
      step_forget c proper wp.1 (take B incoming) w within brings picks.0 in
      let rest : Forgets now.after ws (drop (is_write w * B) incoming) =
      forgets now.after ws (drop (is_write w * B) incoming) (entry_settings c w wp.1 (take B incoming) ∙ e)
      (step_proper c proper wp.1 (take B incoming) w within brings picks.0) inside.1 (rest_room B (is_write w) n incoming room) picks.1 in
      record {
        same = rw (step_same, rest.same);
        proper = rest.proper;
        kept = rest.kept;
        told = (step_told c proper w (take B incoming), rw step_same rest.told);
      }
