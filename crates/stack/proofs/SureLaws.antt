-- A sure plain stack is as soundness asks; its residents have B bytes and stand within the store, and those that aren't modified have
-- the store's bytes. Every work word keeps it so.
use Rattle.std.specs.Prelude.{ℕ, ◌+◌, ◌*◌, ◌≤◌, ◌<◌, ◌≡◌, Bool, not, length, T}
use Rattle.std.proofs.Common.{arith, sym, subst, ◌∙◌}
use Rattle.std.proofs.Math.Path.{refl}
use Rattle.std.proofs.Math.Bool.{true, false}
use mathlib.Core.List.{List, map}
use Rattle.std.proofs.Math.Option.{Option, none, some}
use Rattle.basics.specs.AllLaws.{all_image, all_those}
use Rattle.basics.specs.Basics.{All, when◌then◌else◌, total, block_at}
use Rattle.basics.specs.Lists.{those}
use Rattle.settings.specs.declared.Settings.{Settings}
use Rattle.settings.specs.NumbersLaws.{LegalSettings, old_fits}
use Rattle.stack.proofs.BufferLaws.{block_ends, length_block_at}
use Rattle.stack.specs.declared.Marks.{Marks}
use Rattle.stack.specs.Recency.{cleared, due, ticked, Place, position, halve, remarked, place, asked, halves, settled, lookup, removed, pin_at}
use Rattle.stack.specs.Stack.{Plain, empty, Work, read, write, purge, flush, tick, invalid, leaving, modified_count, saved_all, present, pin, unpin, pinning}
use Rattle.stack.specs.Stack.{access, purging, flushing, step, plain_step}
use Rattle.stack.proofs.StackLaws.{bytes_for, purging_either}
use Rattle.stack.proofs.PlaceLaws.{Placed, hits, enters, replaces, all_found, all_without, refusing}
use Rattle.stack.proofs.KeepLaws.{Kept, kept_placed}
use Rattle.stack.proofs.StepLaws.{step_kept}
use Rattle.stack.proofs.ForgetLaws.{InStore}
use Rattle.stack.proofs.RunLaws.{Brings, step_settings}
use Rattle.stack.proofs.SavedLaws.{Sized, saved_length, saved_all_length}
use Rattle.stack.proofs.FateLaws.{Holder, itself, Fate, FateOf, away, entered, left, stayed, out, filled_unmodified, step_fate}

-- ---- sizes

-- residents of B bytes within a store, and the store's length
abbrev Sizes : ℕ → ℕ → Plain → Type 0
Sizes B n k = All (Sized itself B n) k.residents × (length k.store ≡ n)

module _ (k : Plain) (kept : Kept k) (sizes : All (Sized itself k.settings.b (length k.store)) k.residents)
    (room : k.settings.m * k.settings.b ≤ length k.store) where
  abbrev B : ℕ
  B = k.settings.b

  abbrev n : ℕ
  n = length k.store

  abbrev l : List Holder
  l = k.residents

  module _ (c : ℕ) (inside : c < k.settings.m) (written : Bool) (incoming : List ℕ) (brings : T written → length incoming ≡ B) where
    filled : (bytes : List ℕ) → length bytes ≡ B → length (when written then incoming else bytes) ≡ B
    filled bytes e = go written brings
      where
        go : (v : Bool) → (T v → length incoming ≡ B) → length (when v then incoming else bytes) ≡ B
        go true h = h tt
        go false h = e

    ends : c * B + B ≤ n
    ends = omega (arith, block_ends B c k.settings.m inside)

    asked_sized : (q : Place (List ℕ)) → Placed k.settings l q → let store = saved_all itself B (leaving q) k.store in
        All (Sized itself B n) (asked c written (when written then incoming else present itself B c store q) q) × (length store ≡ n)
    unfolding asked leaving present saved_all
    asked_sized q (hits p x m e ok up) =
        let size = all_found (Sized itself B n) l p x sizes e in
        (((filled x.held size.0, size.1), all_without (Sized itself B n) l p sizes), refl)
    asked_sized q (enters g) = (((filled _ (length_block_at B c k.store ends), ends), sizes), refl)
    asked_sized q (refusing full all) = (sizes, refl)
    asked_sized q (replaces v x e full free chains) =
        let long = saved_length itself B n x k.store (all_found (Sized itself B n) l v x sizes e) refl in
        (((filled _ (length_block_at B c _ (rw long ends)), ends), all_without (Sized itself B n) l v sizes), long)

    access_sized : Sizes B n (access itself (λ q bytes. bytes) k c written incoming).after
    unfolding access settled halve
    access_sized =
        let s = k.settings in
        let q = place s c l in
        let next : List Holder = asked c written (bytes_for itself k c written incoming) q in
        let (fit, long) = asked_sized q (kept_placed k kept c) in
        (settle next fit (halves s q next), long)
      where
        settle : (next : List Holder) → All (Sized itself B n) next → (t : Bool) → All (Sized itself B n) (when t then map halve next else next)
        settle next fit true = all_image (Sized itself B n) halve next fit
        settle next fit false = fit

  purging_sized : (c : ℕ) (o : Option Holder) → Sizes B n (purging itself (λ q bytes. bytes) k c o).after
  unfolding purging removed
  purging_sized c none = (sizes, refl)
  purging_sized c (some x) =
      purging_either itself (λ q bytes. bytes) (λ t. Sizes B n t.after) k c x
      (λ t. (sizes, refl))
      (λ t. (all_without (Sized itself B n) l (position c l) sizes, refl))

  pinning_sized : (c : ℕ) (on : Bool) (o : Option Holder) → Sizes B n (pinning itself (λ q bytes. bytes) k c on o).after
  unfolding pinning
  pinning_sized c on none = (sizes, refl)
  pinning_sized c on (some x) = (all_image (Sized itself B n) (pin_at on c) l sizes, refl)

  flushing_sized : (chosen : Marks → Bool) (change : Marks → Marks) → Sizes B n (flushing itself (λ q bytes. bytes) k chosen change).after
  unfolding flushing
  flushing_sized chosen change = (
    all_image (Sized itself B n) (remarked change) l sizes,
    saved_all_length itself B n (those (λ x. chosen x.marks) l) k.store (all_those (Sized itself B n) (λ x. chosen x.marks) l sizes) refl,
  )

  step_sized : (w : Work) (incoming : List ℕ) → InStore k.settings.m w → Brings B w incoming → Sizes B n (plain_step k w incoming).after
  unfolding plain_step step
  step_sized (read c) incoming inside brings = access_sized c inside false incoming (λ t. absurd t)
  step_sized (write c) incoming inside brings = access_sized c inside true incoming (λ t. brings)
  step_sized (purge c) incoming inside brings = purging_sized c (lookup c l)
  step_sized flush incoming inside brings = flushing_sized (λ m. m.modified) cleared
  step_sized tick incoming inside brings = flushing_sized due ticked
  step_sized (pin c) incoming inside brings = pinning_sized c true (lookup c l)
  step_sized (unpin c) incoming inside brings = pinning_sized c false (lookup c l)
  step_sized invalid incoming inside brings = (sizes, refl)

-- ---- clean blocks

-- A resident that isn't modified has the bytes that the block has in the store.
abbrev pub Faithful : List ℕ → Option Holder → Type 0
Faithful stored none = Unit {0}
Faithful stored (some x) = T (not x.marks.modified) → x.held ≡ stored

fate_faithful : {b : ℕ} {w : Work} {before after : List ℕ} {o o' : Option Holder} → Fate b w before after o o' → Faithful before o → Faithful after o'
fate_faithful (away e) clean = tt
fate_faithful (entered y e z filled) clean = filled_unmodified filled
fate_faithful (left x e) clean = tt
fate_faithful (stayed x y e same filled rises) clean = λ t. filled_unmodified filled t ∙ clean (same t) ∙ sym e
fate_faithful (out x word m e) clean = λ t. sym e

-- ---- sure

pub record Sure (s : Settings) (k : Plain) : Type 0 where
  pub settings : k.settings ≡ s
  pub kept : Kept k
  pub sizes : All (Sized itself s.b (length k.store)) k.residents
  pub clean : (b : ℕ) → Faithful (block_at s.b b k.store) (lookup b k.residents)

pub empty_sure : (s : Settings) (store : List ℕ) → LegalSettings s → Sure s (empty s store)
unfolding modified_count total lookup
empty_sure s store legal =
    record {
      settings = refl;
      kept = record {
        some_old = legal.some_old;
        old_fits = old_fits s legal;
        few_chains = legal.few_chains;
        some_average = legal.some_average;
        few = omega arith;
        legal = tt;
        differ = tt;
        seen = tt;
        sums = omega arith;
        ins = omega arith;
        outs = omega arith;
      };
      sizes = tt;
      clean = λ b. tt;
    }

-- A word carried out from one plain stack to another.
pub record Stepped (s : Settings) (k : Plain) (w : Work) (after : Plain) : Type 0 where
  pub fate : (b : ℕ) → FateOf s.b b w k after
  pub sure : Sure s after
  pub long : length after.store ≡ length k.store

abbrev pub Steps : Settings → Plain → Type 0
Steps s k =
    Sure s k → s.m * s.b ≤ length k.store → (w : Work) (incoming : List ℕ) → InStore s.m w → Brings s.b w incoming
    → Stepped s k w (plain_step k w incoming).after

pub stepped : (s : Settings) (k : Plain) → Steps s k
unfolding plain_step
stepped s k sure = subst (λ t. Steps t k) sure.settings own sure
  where
    own : Steps k.settings k
    own sure room w incoming inside brings =
        let (fit, long) = step_sized k sure.kept sure.sizes room w incoming inside brings in
        record {
          fate = λ b. step_fate k sure.kept sure.sizes b w incoming;
          sure = record {
            settings = step_settings itself (λ q bytes. bytes) k w incoming;
            kept = step_kept itself (λ q bytes. bytes) k sure.kept w incoming;
            sizes = rw long fit;
            clean = λ b. fate_faithful (step_fate k sure.kept sure.sizes b w incoming) (sure.clean b);
          };
          long = long;
        }
