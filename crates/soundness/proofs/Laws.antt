-- The check by its parts: the settings, the kinds, then the lists over the entries' words.
use Prim.Native.Nat.{ℕ, ◌+◌, ◌-◌, ◌*◌, ◌≤◌}
use native.Mathlib.Omega.{arith}
use mathlib.Core.Path.{◌≡◌, sym, ap, subst⁻¹, ◌∙◌}
use mathlib.Core.Bool.{false}
use mathlib.Core.List.{List}
use lib.ListN.{length, take, drop}
use borrow.Author.Tests.{le-ltb, eq-eqb, ne_eqb}
use Rattle.basics.specs.Basics.{pick}
use Rattle.refusals.specs.declared.Refusal.{Refusal}
use Rattle.refusals.specs.Refusals.{number}
use Rattle.refusals.specs.RefusalLaws.{number_some}
use Rattle.words.specs.Words.{val}
use Rattle.settings.specs.declared.Settings.{Settings}
use Rattle.settings.specs.Numbers.{settings_number}
use Rattle.settings.specs.Buckets.{buckets}
use Rattle.layout.specs.Addresses.{RESIDENTS, HEAD, UNUSED}
use Rattle.layout.specs.Sound.{settings_in, sound}
use Rattle.check_model.specs.Tests.{entry_word, first_of, kinds_ok, unused_ok, buckets_from, sound_test}
use Rattle.check_model.specs.Walk.{rest, walk_test, lists_walk, lists_walk_lem}
use Rattle.check_model.specs.Decides.{same_sound}

module _ (w : List ℕ) (s : Settings) (start many : ℕ) (begins : start ≡ 24 + 2 * s.cmax) where
  abbrev entries : List ℕ
  entries = take (length w - (start + many - 9)) (drop (start + many - 9) w)

  entries_are : entries ≡ drop (15 + 2 * s.cmax + many) w
  entries_are =
      let at : start + many - 9 ≡ 15 + 2 * s.cmax + many = omega arith in
      rest w (start + many - 9) ∙ ap (λ k. drop k w) at

  pub lists_are : val w RESIDENTS ≤ s.n → lists_walk w s.n s.nnew s.nold s.cmax s.amax s.m many
      ≡ pick (walk_test w (entry_word entries) s.n s.m s.nnew (s.n - s.nold) s.cmax s.amax (val w RESIDENTS) (val w HEAD))
      (pick (unused_ok (entry_word entries) s.n (s.n - val w RESIDENTS) (val w UNUSED))
      (buckets_from (entry_word entries) (first_of w start) s.n many many 0 (val w RESIDENTS)) false) false
  unfolding lists_walk
  lists_are few = rw (entries_are, begins, le-ltb _ _ few)

-- the whole check, of legal settings
abbrev Whole : List ℕ → ℕ → ℕ → Settings → Type 0
Whole w start many s =
    settings_number s ≡ 0 → start ≡ 24 + 2 * s.cmax → many ≡ buckets s.n
    → sound w ≡ pick (kinds_ok w (start + many) (start + many + 9 * s.n)) (lists_walk w s.n s.nnew s.nold s.cmax s.amax s.m many) false

whole : (w : List ℕ) (start many : ℕ) → Whole w start many (settings_in w)
unfolding sound_test settings_in
whole w start many legal b m = sym (same_sound w) ∙ rw (b, m, eq-eqb _ 0 legal, lists_walk_lem)

pub sound_is : (w : List ℕ) (start many : ℕ) (s : Settings) → s ≡ settings_in w → Whole w start many s
sound_is w start many s e = subst⁻¹ (Whole w start many) e (whole w start many)

-- and of others
pub refused : (w : List ℕ) (why : Refusal) → number why ≡ settings_number (settings_in w) → sound w ≡ false
unfolding sound_test
refused w why e = sym (same_sound w) ∙ rw (ne_eqb (settings_number (settings_in w)) 0 (λ q. let some = number_some why in omega (arith, some, e, q)))
