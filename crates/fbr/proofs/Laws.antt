-- Figures stored as signed words, and the call that stores them. Over variables.
use Prim.Native.Nat.{ℕ, ◌≤◌, ◌<◌}
use native.Mathlib.Omega.{arith}
use mathlib.Core.Path.{◌≡◌, refl, ap, ◌∙◌}
use mathlib.Core.List.{List, [], ◌∷◌}
use mathlib.Core.Bool.{Bool, true, false}
use mathlib.Core.Logic.{◌≢◌}
use lib.ListN.{length}
use Rattle.std.proofs.Common.{Some, None, unwrap_or}
use Rattle.basics.specs.Basics.{pick}
use Rattle.layout.specs.Sound.{sound}
use Rattle.promises.specs.Occupancy.{occupancy_number, table_in, no_figures}
use lib.IntN.{ℤ, pos}
use lib.Signed.{mag}
use borrow.Author.Tests.{le-leb, lt-leb}
use mir.Syntax.{w32}
use mir.Val.{to_z, of_z}
use mir.ValLaws.{to_z-of_z}
use Rattle.settings.specs.declared.Settings.{Settings}
use Rattle.promises.specs.Promises.{over}
use Rattle.compare.specs.Compare.{Compared, compared, Small}
use Rattle.compare.proofs.CompareLaws.{small}
use Rattle.fbr.specs.Fronts.{fitted}
use Rattle.fbr.specs.Comparison.{compared_figures, compared_returns}

pub signed_is : (x : ℕ) → x ≤ 4096 → to_z w32 x ≡ pos x
signed_is x h = to_z-of_z w32 (pos x) (record { sfits = omega arith })

-- a number as a slice of signed words keeps it
abbrev pub stored : ℤ → ℤ
stored z = to_z w32 (of_z w32 z)

stored_small : (z : ℤ) → mag z ≤ 4096 → stored z ≡ z
stored_small z h = to_z-of_z w32 z (record { sfits = omega arith })

stored_as : (z : ℤ) (x : ℕ) → z ≡ pos x → x ≤ 4096 → stored z ≡ pos x
stored_as z x e h = ap stored e ∙ stored_small (pos x) h

pub put_done : (out : List ℤ) (c : Compared) → Small c → (l k o p : ℤ)
    → l ≡ pos c.lru → k ≡ pos c.chosen → o ≡ pos c.opt → p ≡ pos c.possible
    → over (stored l ∷ stored k ∷ stored o ∷ stored c.gain ∷ stored p ∷ []) out ≡ over (compared_figures c) out
put_done out c s l k o p el ek eo ep =
    rw (
      stored_as l c.lru el s.lru_few,
      stored_as k c.chosen ek s.chosen_few,
      stored_as o c.opt eo s.opt_few,
      stored_small c.gain s.gain_few,
      stored_as p c.possible ep s.possible_few,
    ) refl

-- ---- a number or none

pub given_or : (b : Bool) (x : ℕ) → unwrap_or (pick b (Some x) None) 0 ≡ pick b x 0
given_or true x = refl
given_or false x = refl

-- ---- the figures of an unsound directory

pub no_table : (words : List ℕ) → occupancy_number words ≢ 0 → table_in words ≡ no_figures
unfolding occupancy_number table_in
no_table words some = go (sound words) refl
  where
    go : (b : Bool) → sound words ≡ b → table_in words ≡ no_figures
    go true e = absurd (some (rw e refl))
    go false e = rw e refl

-- ---- the call

module _ (s : Settings) (words : List ℕ) (out : List ℤ) where
  pub no_room : length out < 5 → (10 ≡ compared_returns s words out) × (out ≡ fitted (compared_figures (compared s words)) out)
  no_room h = rw (lt-leb 5 (length out) h) (refl, refl)

  module _ (c : Compared) (is : c ≡ compared s words) where
    pub figures_fit : Small c
    figures_fit = rw is (small s words)

    pub with_room : 5 ≤ length out → (after : List ℤ) → after ≡ over (compared_figures c) out
        → (c.number ≡ compared_returns s words out) × (after ≡ fitted (compared_figures (compared s words)) out)
    with_room h after e = rw (← is, le-leb 5 (length out) h) (refl, e)
