-- What words give: a read its block's B bytes, any other word none.
use Prim.Native.Nat.{ℕ, ◌*◌, ◌≤◌}
use Rattle.std.proofs.Common.{zero-mul, one-mul, add-mul, arith, ap, ◌∙◌, length-append, length-take-le}
use Rattle.std.specs.Prelude.{◌≡◌, Bool, take}
use Rattle.std.proofs.Math.Path.{refl, sym}
use Rattle.std.proofs.Math.Bool.{true, false}
use mathlib.Core.List.{List}
use Rattle.std.proofs.Math.Option.{Option, none, some}
use Rattle.std.proofs.Math.ListN.{length}
use Rattle.basics.specs.Basics.{All, total}
use Rattle.settings.specs.declared.Settings.{Settings}
use Rattle.stack.specs.Recency.{Resident, Place, lookup}
use Rattle.stack.specs.Stack.{Stack, Work, read, write, purge, flush, tick, pin, unpin, invalid, Answer, leaving, saved_all, access, purging, pinning, flushing, step}
use Rattle.stack.specs.Batch.{is_read, how_many}
use Rattle.stack.specs.Entries.{entry_bytes, entry_for, entry_step}
use Rattle.stack.proofs.ForgetLaws.{InStore, length_saved_all}
use Rattle.layout.specs.Sound.{residents_in, view}
use Rattle.promises.specs.DirectoryPromises.{place_of}
use Rattle.promises.specs.Demand3.{Memory}
use Rattle.cache_steps.specs.Carried.{cache_of, settings_of, Ready, Carried}
use Rattle.cache_steps.specs.MovedLaws.{Stands, leaving_fit, present_length}
use Rattle.cache_steps.specs.Places.{place_stands}
use Rattle.cache_steps.specs.Runs.{Chain, end, next}
use Rattle.stack.proofs.StackLaws.{purging_either}

module _ (m : Memory) (ready : Ready m) (pick : ℕ) (incoming : List ℕ) where
  abbrev s : Settings
  s = settings_of m

  abbrev bytes : List ℕ
  bytes = take (s.n * s.b) m.bytes

  bytes_long : s.n * s.b ≤ length bytes
  bytes_long = let h = ready.bytes_long in rw (length-take-le (s.n * s.b) m.bytes h) (omega arith)

  read_gives : (b : ℕ) → InStore s.m (read b) → length (entry_step (cache_of m) (read b, pick) incoming).given ≡ s.b
  unfolding entry_step step access view
  read_gives b inside =
      let q = place_of m.directory b in
      let at : Stands s q = place_stands m.directory ready.is_sound b in
      let same = length_saved_all s bytes bytes_long (leaving q) (leaving_fit s q at) m.store ready.store_long in
      let after : List ℕ = saved_all (entry_bytes s.b bytes) s.b (leaving q) m.store in
      present_length s bytes bytes_long b inside after (let h = ready.store_long in omega (arith, same)) q at

  purging_gives : (f : ℕ → List ℕ) (keep : Place ℕ → List ℕ → ℕ) (k : Stack ℕ) (b : ℕ) (o : Option (Resident ℕ))
      → length (purging f keep k b o).given ≡ 0
  unfolding purging
  purging_gives f keep k b none = refl
  purging_gives f keep k b (some x) = purging_either f keep (λ t. length t.given ≡ 0) k b x (λ t. refl) (λ t. refl)

  pinning_gives : (f : ℕ → List ℕ) (keep : Place ℕ → List ℕ → ℕ) (k : Stack ℕ) (b : ℕ) (on : Bool) (o : Option (Resident ℕ))
      → length (pinning f keep k b on o).given ≡ 0
  unfolding pinning
  pinning_gives f keep k b on none = refl
  pinning_gives f keep k b on (some x) = refl

  step_gives : (w : Work) → InStore s.m w → length (entry_step (cache_of m) (w, pick) incoming).given ≡ is_read w * s.b
  unfolding entry_step step access flushing view
  step_gives (read b) inside = read_gives b inside ∙ sym (one-mul s.b)
  step_gives (write b) inside = sym (zero-mul s.b)
  step_gives (purge b) inside =
      purging_gives (entry_bytes s.b bytes) (λ q bytes. entry_for pick q) (cache_of m).stack b (lookup b (residents_in m.directory))
      ∙ sym (zero-mul s.b)
  step_gives flush inside = sym (zero-mul s.b)
  step_gives tick inside = sym (zero-mul s.b)
  step_gives (pin b) inside =
      pinning_gives (entry_bytes s.b bytes) (λ q bytes. entry_for pick q) (cache_of m).stack b true (lookup b (residents_in m.directory))
      ∙ sym (zero-mul s.b)
  step_gives (unpin b) inside =
      pinning_gives (entry_bytes s.b bytes) (λ q bytes. entry_for pick q) (cache_of m).stack b false (lookup b (residents_in m.directory))
      ∙ sym (zero-mul s.b)
  step_gives invalid inside = sym (zero-mul s.b)

pub carried_gives : {m m₁ : Memory} {w : Work} {incoming : List ℕ} {a : Answer} {given : List ℕ} → Ready m → InStore (settings_of m).m w
    → Carried m w incoming m₁ a given → length given ≡ is_read w * (settings_of m).b
carried_gives {m} {w = w} {incoming = incoming} ready inside c =
    ap (λ t. length t.given) (sym c.step_is) ∙ step_gives m ready c.pick incoming w inside

-- the words of a batch, together
pub chain_gives : {B : ℕ} {m m₁ : Memory} {ws : List Work} {incoming : List ℕ} {answers : List Answer} {given : List ℕ} (s : Settings)
    → settings_of m ≡ s → B ≡ s.b → Ready m
    → All (InStore s.m) ws → Chain B m ws incoming m₁ answers given → length given ≡ how_many is_read ws * s.b
unfolding total
chain_gives s same size ready inside end = sym (zero-mul s.b)
chain_gives s same size ready inside (next {w = w} {ws = ws} {g = g} {given = given} c rest) =
    let one : length g ≡ is_read w * s.b = rw same at (carried_gives ready (rw same inside.0) c) in
    let more = chain_gives s (c.settings_kept ∙ same) size c.ready inside.1 rest in
    let both = add-mul (is_read w) (how_many is_read ws) s.b in
    omega (arith, length-append g given)
