-- An accepted batch over slices, from a sound directory: what the machine over entries does is what the plain stack does.
use Rattle.std.specs.Prelude.{ℕ, ◌*◌, ◌≤◌, ◌≡◌, Bool, true, false, List, ◌++◌, map, length, take, T}
use Rattle.std.proofs.Common.{arith, sym, ◌∙◌, length-take-le}
use Rattle.std.proofs.Math.Path.{refl, ap, subst}
use Rattle.std.proofs.Math.ListN.{length-take}
use Rattle.basics.specs.Basics.{when◌then◌else◌}
use Rattle.settings.specs.declared.Settings.{Settings}
use Rattle.stack.specs.Stack.{Plain, Work, answer_word}
use Rattle.stack.specs.Batch.{Ran, work, batch_number, plain_run, AllReported, batch}
use Rattle.stack.specs.Entries.{plain, entry_run}
use Rattle.stack.proofs.EntriesLaws.{Proper}
use Rattle.stack.proofs.RunLaws.{plain_ran, AllTold, all_reported, Forgets, forgets}
use Rattle.stack.proofs.BatchLaws.{Allowed, allowed, batch_accepted, works_inside}
use Rattle.layout.specs.Sound.{settings_in, totals_in, sound, view}
use Rattle.layout.proofs.SoundLaws.{sound_proper}
use Rattle.promises.specs.Promises.{Slices, behind, call_of, number_of, Accepted}

pub number_sound : (words incoming : List ℕ) (t : Slices) → T (sound t.directory)
    → number_of words incoming t ≡ batch_number (settings_in t.directory) (totals_in t.directory) (call_of words incoming t)
unfolding number_of
number_sound words incoming t h = go (sound t.directory) h
  where
    n : ℕ
    n = batch_number (settings_in t.directory) (totals_in t.directory) (call_of words incoming t)

    go : (b : Bool) → T b → (when b then n else 6) ≡ n
    go true h = refl
    go false h = absurd h

-- number 0: the directory is sound, and none of 7 to 12
pub number_zero : (words incoming : List ℕ) (t : Slices) → number_of words incoming t ≡ 0
    → T (sound t.directory) × (batch_number (settings_in t.directory) (totals_in t.directory) (call_of words incoming t) ≡ 0)
unfolding number_of
number_zero words incoming t = go (sound t.directory)
  where
    n : ℕ
    n = batch_number (settings_in t.directory) (totals_in t.directory) (call_of words incoming t)

    go : (b : Bool) → (when b then n else 6) ≡ 0 → T b × (n ≡ 0)
    go true e = (tt, e)
    go false e = absurd (omega (arith, e))

module _ (words incoming : List ℕ) (t : Slices) (h : T (sound t.directory))
    (e : batch_number (settings_in t.directory) (totals_in t.directory) (call_of words incoming t) ≡ 0) where
  abbrev s : Settings
  s = settings_in t.directory

  has : Allowed s (totals_in t.directory) (call_of words incoming t)
  has = allowed s (totals_in t.directory) (call_of words incoming t) e

  behind_proper : Proper (behind t)
  behind_proper = sound_proper t.directory h (take (s.n * s.b) t.bytes) t.store
      (let g = has.memory.bytes_long in rw (length-take-le (s.n * s.b) t.bytes g) (omega arith))
      has.memory.store_exact

  module _ (after : Slices) (picked : List (Work × ℕ)) (acc : Accepted words incoming t after picked) where
    abbrev o : Ran Plain
    o = (batch (plain (behind t)) (call_of words incoming t)).ran

    forgotten : Forgets s (behind t) picked incoming
    unfolding view
    forgotten =
        forgets s (behind t) picked incoming refl behind_proper (rw acc.words_picked (works_inside s words))
        (rw acc.words_picked has.incoming) acc.picks

    -- the plain stack's batch is the machine's
    pub accepted_same : o ≡ plain_ran (entry_run (behind t) picked incoming)
    unfolding view plain_run entry_run
    accepted_same =
        batch_accepted (plain (behind t)) (call_of words incoming t) e
        ∙ ap (λ ws. plain_run (plain (behind t)) ws incoming) (sym acc.words_picked)
        ∙ forgotten.same

    -- what its answers tell
    pub accepted_told : AllTold s.b (plain (behind t)) (map (work s) words) incoming
    accepted_told = subst (λ ws. AllTold s.b (plain (behind t)) ws incoming) acc.words_picked forgotten.told

    -- in the answer words, whatever follows them
    pub accepted_reported : (more : List ℕ) → AllReported s.b (plain (behind t)) (map (work s) words) incoming
        (map answer_word o.answers ++ more)
    unfolding view plain_run
    accepted_reported more =
        rw (batch_accepted (plain (behind t)) (call_of words incoming t) e)
        (all_reported s.b (plain (behind t)) (map (work s) words) incoming more accepted_told)

    after_proper : Proper (behind after)
    unfolding entry_run view
    after_proper = subst Proper (sym acc.cache) forgotten.proper

    pub after_settings : settings_in after.directory ≡ s
    unfolding entry_run view
    after_settings = ap (λ c. c.stack.settings) acc.cache ∙ forgotten.kept

    pub after_bytes : (settings_in after.directory).n * (settings_in after.directory).b ≤ length after.bytes
    unfolding view
    after_bytes =
        let g = after_proper.bytes in omega (arith, length-take ((settings_in after.directory).n * (settings_in after.directory).b) after.bytes)

    pub after_store : length after.store ≡ (settings_in after.directory).m * (settings_in after.directory).b
    unfolding view
    after_store = after_proper.store
