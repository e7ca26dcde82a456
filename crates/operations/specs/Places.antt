-- What asking for a block comes to, in a sound directory. Assumes nothing.
use Rattle.std.specs.Prelude.{ℕ, ◌≤◌, ◌<◌, ◌≡◌, refl, List, [], ◌∷◌, ◌++◌, map, ltb}
use Rattle.std.proofs.Common.{◌∙◌, arith, lt-ltb}
use Rattle.std.proofs.Math.Path.{ap}
use Rattle.std.proofs.Math.Option.{none, some}
use Rattle.std.proofs.Math.ListN.{length, get_elem?, length-map}
use Rattle.basics.specs.AllLaws.{all_map}
use Rattle.basics.specs.Basics.{when◌then◌else◌, without}
use Rattle.basics.specs.TestLaws.{if_yes}
use Rattle.settings.specs.declared.Settings.{Settings}
use Rattle.stack.specs.Counts.{is_new, victim}
use Rattle.stack.specs.Recency.{Resident, found, unused, replacing, all_pinned, counts_pins, raise, replacing_at, found_at, place, lookup, removed}
use Rattle.layout.specs.Addresses.{BLOCK, COUNT}
use Rattle.linkage.specs.Fields.{Shape, Fields}
use Rattle.linkage.specs.WellLinked.{WellLinked, Entry}
use Rattle.victims.specs.Placed.{found_refused, found_replacing}
use Rattle.operations.specs.Enter.{NoneHas}
use Rattle.operations.specs.Residents.{resident, residents_of, elem_here, elem_none, without_here, Missing, alive, position_here, position_none}

pub missing : (s : Shape) (D : Fields) (residents free : List ℕ) (n : ℕ) → WellLinked s D residents free → NoneHas s D n → Missing D n residents
missing s D residents free n g a =
    all_map (λ x. Entry s x × (1 ≤ D COUNT x)) (λ x. ¬ (D BLOCK x ≡ n)) residents (λ x h. a x h.0 h.1) (alive s D residents free g)

-- ---- a block that a resident has

module _ (s : Shape) (D : Fields) (above : List ℕ) (e : ℕ) (below free : List ℕ) (g : WellLinked s D (above ++ (e ∷ below)) free) where
  abbrev l : List (Resident ℕ)
  l = residents_of D (above ++ (e ∷ below))

  pub place_hit : (t : Settings) → place t (D BLOCK e) (residents_of D (above ++ (e ∷ below))) ≡ found
      (when is_new t (length above) then resident D e else raise (resident D e)) (residents_of D (above ++ below))
  unfolding place found_at
  place_hit t =
      ap (λ (p : ℕ). found_at t p l (get_elem? l p)) (position_here s D above e below free g)
      ∙ ap (found_at t (length above) l) (elem_here (resident D) above e below)
      ∙ ap (found (when is_new t (length above) then resident D e else raise (resident D e))) (without_here (resident D) above e below)

  pub lookup_here : lookup (D BLOCK e) (residents_of D (above ++ (e ∷ below))) ≡ some (resident D e)
  unfolding lookup
  lookup_here = ap (get_elem? l) (position_here s D above e below free g) ∙ elem_here (resident D) above e below

  pub removed_here : removed (D BLOCK e) (residents_of D (above ++ (e ∷ below))) ≡ residents_of D (above ++ below)
  unfolding removed
  removed_here =
      ap (λ (p : ℕ). without p l) (position_here s D above e below free g) ∙ without_here (resident D) above e below

-- ---- a block that none has

pub lookup_none : (D : Fields) (n : ℕ) (residents : List ℕ) → Missing D n residents → lookup n (residents_of D residents) ≡ none
unfolding lookup
lookup_none D n residents a = ap (get_elem? (residents_of D residents)) (position_none D n residents a) ∙ elem_none (resident D) residents

without_end : (r : ℕ → Resident ℕ) (residents : List ℕ) → without (length residents) (map r residents) ≡ map r residents
without_end r [] = refl
without_end r (x ∷ residents) = ap (λ (t : List (Resident ℕ)). r x ∷ t) (without_end r residents)

module _ (t : Settings) (D : Fields) (n : ℕ) where
  pub place_none : (residents : List ℕ) → Missing D n residents
      → place t n (residents_of D residents) ≡ found_at t (length residents) (residents_of D residents) none
  unfolding place
  place_none residents a =
      ap (λ (p : ℕ). found_at t p (residents_of D residents) (get_elem? (residents_of D residents) p)) (position_none D n residents a)
      ∙ ap (found_at t (length residents) (residents_of D residents)) (elem_none (resident D) residents)

  pub place_unused : (residents : List ℕ) → Missing D n residents → length residents < t.n
      → place t n (residents_of D residents) ≡ unused (residents_of D residents)
  unfolding found_at
  place_unused residents a h =
      let l = residents_of D residents in
      let q : length l ≡ length residents = length-map residents (resident D) in
      place_none residents a
      ∙ if_yes (ltb (length l) t.n) (unused l) (replacing_at (victim t (counts_pins l)) l (get_elem? l (victim t (counts_pins l))))
      (rw (lt-ltb (length l) t.n (omega arith)) tt)

  pub place_replacing : (above : List ℕ) (e : ℕ) (below : List ℕ) → Missing D n (above ++ (e ∷ below)) → length (above ++ (e ∷ below)) ≡ t.n
      → length above ≡ victim t (counts_pins (residents_of D (above ++ (e ∷ below))))
      → place t n (residents_of D (above ++ (e ∷ below))) ≡ replacing (resident D e) (residents_of D (above ++ below))
  place_replacing above e below a h v =
      let residents = above ++ (e ∷ below) in
      let l = residents_of D residents in
      let q : length l ≡ length residents = length-map residents (resident D) in
      place_none residents a
      ∙ found_replacing t (length residents) l (q ∙ h) (length above) (resident D e) v (elem_here (resident D) above e below)
      ∙ ap (replacing (resident D e)) (without_here (resident D) above e below)

  -- every resident is pinned
  pub place_refused : (residents : List ℕ) → Missing D n residents → length residents ≡ t.n
      → length residents ≡ victim t (counts_pins (residents_of D residents)) → place t n (residents_of D residents) ≡ all_pinned (residents_of D residents)
  place_refused residents a h v =
      let q : length (residents_of D residents) ≡ length residents = length-map residents (resident D) in
      place_none residents a ∙ found_refused t (length residents) (residents_of D residents) (q ∙ h) (q ∙ v)
