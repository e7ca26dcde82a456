-- Places of blocks in a sound directory: the residents that they name have entries within 1 to N and blocks below M.
use Rattle.std.specs.Prelude.{ℕ, zero, suc, ◌+◌, ◌-◌, ◌*◌, ◌≤◌, ◌<◌, ◌≡◌, refl, List, [], ◌∷◌, map, length, T}
use Rattle.std.proofs.Common.{arith}
use Rattle.std.proofs.Math.Option.{some}
use Rattle.std.proofs.Math.ListN.{get_elem?}
use Rattle.basics.specs.AllLaws.{all_map}
use Rattle.settings.specs.declared.Settings.{Settings}
use Rattle.settings.specs.NumbersLaws.{old_fits}
use Rattle.stack.specs.Recency.{Resident, Place}
use Rattle.stack.proofs.PlaceLaws.{Placed, hits, enters, replaces, refusing, placed, all_found}
use Rattle.stack.proofs.EntriesLaws.{Fit}
use Rattle.layout.specs.Sound.{settings_in, sound, order, resident_at, residents_in}
use Rattle.layout.proofs.SoundLaws.{sound_legal, sound_residents}
use Rattle.promises.specs.DirectoryPromises.{place_of}
use Rattle.promises.specs.Demand3.{Memory}
use Rattle.cache_steps.specs.Carried.{settings_of, Ready}
use Rattle.cache_steps.specs.FrontLaws.{block_room}
use Rattle.cache_steps.specs.MovedLaws.{Stands, entry_room}

module _ (d : List ℕ) (ok : T (sound d)) (b : ℕ) where
  abbrev s : Settings
  s = settings_in d

  pub placed_in : Placed (settings_in d) (residents_in d) (place_of d b)
  placed_in =
      let legal = sound_legal d ok in
      let r = sound_residents d ok in
      placed s (residents_in d) legal.some_old (old_fits s legal) legal.few_chains r.few
      (all_map (Fit s) _ (residents_in d) (λ x t. t.legal) r.fit) b

  stands : (q : Place ℕ) → Placed s (residents_in d) q → Stands s q
  stands q (hits p x n e legal up) =
      let fit = all_found (Fit s) (residents_in d) p x (sound_residents d ok).fit e in record
      { least = fit.least; most = fit.most; stored = fit.stored; legal = legal }
  stands q (enters h) = tt
  stands q (refusing full all) = tt
  stands q (replaces v x e full u c) = all_found (Fit s) (residents_in d) v x (sound_residents d ok).fit e

  pub place_stands : Stands (settings_in d) (place_of d b)
  place_stands = stands (place_of d b) placed_in

-- ---- room: a block below M stands in the store

pub store_room : (m : Memory) → Ready m → (b : ℕ) → b < (settings_of m).m → b * (settings_of m).b + (settings_of m).b ≤ length m.store
store_room m ready b inside = block_room (settings_of m).b b (settings_of m).m m.store inside ready.store_long

-- ---- residents by position, as a flush, a tick or a purge finds them

-- the resident at a position, by its entry
pub at_entry : (w : List ℕ) (p : ℕ) (x : Resident ℕ) → get_elem? (residents_in w) p ≡ some x → x ≡ resident_at w x.held
unfolding resident_at
at_entry w p x q = go (order w) p q
  where
    go : (l : List ℕ) (p : ℕ) → get_elem? (map (resident_at w) l) p ≡ some x → x ≡ resident_at w x.held
    go [] p q = let z : ◌≡◌ {A = ℕ} 0 1 = cc in absurd (omega arith)
    go (e ∷ l) zero q = let r : resident_at w e ≡ x = cc in rw (← r) refl
    go (e ∷ l) (suc p) q = go l p q

module _ (m : Memory) (ready : Ready m) (p : ℕ) {x : Resident ℕ} (at : get_elem? (residents_in m.directory) p ≡ some x) where
  pub resident_fit : Fit (settings_of m) x
  resident_fit = all_found (Fit (settings_of m)) (residents_in m.directory) p x (sound_residents m.directory ready.is_sound).fit at

  pub resident_entry : (x.held - 1) * (settings_of m).b + (settings_of m).b ≤ length m.bytes
  resident_entry = entry_room (settings_of m) m.bytes ready.bytes_long x.held resident_fit.least resident_fit.most

  pub resident_block : x.block * (settings_of m).b + (settings_of m).b ≤ length m.store
  resident_block = store_room m ready x.block resident_fit.stored
