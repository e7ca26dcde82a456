-- A look by the steps of the code: no part where its number is not 0; else data and store have room for the block's part.
use Prim.Native.Nat.{ℕ, ◌+◌, ◌-◌, ◌*◌, ◌≤◌}
use native.Mathlib.Omega.{arith}
use native.Mathlib.Nat.{zero-add}
use mathlib.Core.Path.{◌≡◌, sym, ◌∙◌}
use mathlib.Core.List.{List, []}
use Rattle.std.proofs.Math.Option.{none, some}
use lib.ListN.{length}
use lib.Dec.{T}
use borrow.Author.Tests.{eq-eqb, ne_eqb}
use Rattle.basics.specs.Basics.{block_at}
use Rattle.settings.specs.declared.Settings.{Settings}
use Rattle.stack.specs.Recency.{Resident, position, lookup}
use Rattle.stack.proofs.PlaceLaws.{all_found}
use Rattle.stack.proofs.EntriesLaws.{Fit}
use Rattle.layout.specs.Sound.{settings_in, sound, resident_at, residents_in}
use Rattle.layout.proofs.SoundLaws.{sound_residents}
use Rattle.promises.specs.Looks.{place_at, look_number, look_bytes, look_place}
use Rattle.promises.proofs.LookLaws.{LookAllowed, look_allowed}
use Rattle.cache_steps.specs.Carried.{Ready, memory}
use Rattle.cache_steps.specs.MovedLaws.{entry_room}
use Rattle.cache_steps.specs.Places.{store_room}

-- the entry that a lookup finds is one of 1 to N
found_fit : (w : List ℕ) → T (sound w) → (block : ℕ) (x : Resident ℕ) → lookup block (residents_in w) ≡ some x → Fit (settings_in w) x
unfolding lookup
found_fit w ok block x h = all_found (Fit (settings_in w)) (residents_in w) (position block (residents_in w)) x (sound_residents w ok).fit h

module _ (w bytes store : List ℕ) (block n : ℕ) (number : n ≡ look_number w bytes store block) where
  -- the part by its bytes and its place
  abbrev Held : (inData inStore : ℕ × ℕ) → List ℕ → ℕ × ℕ → Type 0
  Held inData inStore part place = (part ≡ look_bytes w bytes store block) × (place ≡ look_place w bytes store block inData inStore)

  pub no_part : (inData inStore : ℕ × ℕ) → (n ≡ 0 → ⊥) → Held inData inStore [] (inData.0, 0 + inData.1)
  unfolding look_bytes look_place
  no_part inData inStore h = (rw (← number, ne_eqb n 0 h), rw (← number, ne_eqb n 0 h, zero-add))

  module _ (zero : n ≡ 0) where
    its : LookAllowed w bytes store block
    its = look_allowed w bytes store block (sym number ∙ zero)

    pub is_sound : T (sound w)
    is_sound = its.is_sound

    ready : Ready (memory w bytes store)
    ready =
        let e = its.memory.store_exact in
        record { is_sound = is_sound; bytes_long = its.memory.bytes_long; store_long = omega (arith, e) }

    module _ (s : Settings) (e : s ≡ settings_in w) where
      pub store_holds : block * s.b + s.b ≤ length store
      store_holds = rw e (store_room (memory w bytes store) ready block its.inside)

      -- by what the lookup yields
      pub of_store : lookup block (residents_in w) ≡ none → (inData inStore : ℕ × ℕ) {part : List ℕ} {place : ℕ × ℕ}
          → (part ≡ block_at s.b block store) × (place ≡ place_at s.b block inStore) → Held inData inStore part place
      unfolding look_bytes look_place
      of_store absent inData inStore h =
          (rw (← number, eq-eqb n 0 zero, absent) (rw e at h.0), rw (← number, eq-eqb n 0 zero, absent) (rw e at h.1))

      module _ (entry : ℕ) (there : lookup block (residents_in w) ≡ some (resident_at w entry)) where
        fit : Fit (settings_in w) (resident_at w entry)
        fit = found_fit w is_sound block (resident_at w entry) there

        pub entry_least : 1 ≤ entry
        unfolding resident_at
        entry_least = fit.least

        pub data_holds : (entry - 1) * s.b + s.b ≤ length bytes
        unfolding resident_at
        data_holds = rw e (entry_room (settings_in w) bytes ready.bytes_long entry fit.least fit.most)

        pub of_data : (inData inStore : ℕ × ℕ) {part : List ℕ} {place : ℕ × ℕ}
            → (part ≡ block_at s.b (entry - 1) bytes) × (place ≡ place_at s.b (entry - 1) inData) → Held inData inStore part place
        unfolding look_bytes look_place resident_at
        of_data inData inStore h =
            (rw (← number, eq-eqb n 0 zero, there) (rw e at h.0), rw (← number, eq-eqb n 0 zero, there) (rw e at h.1))
