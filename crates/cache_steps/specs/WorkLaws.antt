-- Work words that are not invalid, by their kind, as the loop over them tells them apart.
use Prim.Native.Nat.{ℕ, ◌/◌, ◌%◌, ◌^◌, ◌<◌, ◌≤◌}
use Rattle.std.proofs.Common.{arith}
use Rattle.std.proofs.Math.Decide.{ℕ_discrete}
use Rattle.std.specs.Prelude.{◌≡◌, refl, ◌≢◌, Bool, ◌&&◌, T, ltb}
use Rattle.std.proofs.Math.Bool.{true, false}
use Rattle.std.proofs.Math.Dec.{eqb}
use borrow.Author.Tests.{eq-eqb, ne_eqb, eqb-true}
use Rattle.std.proofs.Math.Facts.{ltb_yes}
use Rattle.basics.specs.Basics.{when◌then◌else◌}
use Rattle.settings.specs.declared.Settings.{Settings}
use Rattle.stack.specs.Stack.{Work, read, write, purge, flush, tick, invalid, pin, unpin}
use Rattle.stack.specs.Batch.{work, is_invalid}
use Rattle.cache_steps.specs.FlushLists.{sweep}
use Rattle.cache_steps.specs.PinStep.{pin_work}

-- a word that is x where its test passes, else invalid
valid_is : (x : Work) (t : Bool) → is_invalid (when t then x else invalid) ≡ 0 → ((when t then x else invalid) ≡ x) × T t
valid_is x true e = (refl, tt)
valid_is x false e = absurd (omega arith)

module _ (s : Settings) (w : ℕ) where
  pub work_read : w / 2 ^ 28 ≡ 1 → is_invalid (work s w) ≡ 0 → (work s w ≡ read (w % 2 ^ 28)) × (w % 2 ^ 28 < s.m)
  unfolding work
  work_read kind = rw kind (λ e. let g = valid_is (read (w % 2 ^ 28)) (ltb (w % 2 ^ 28) s.m) e in (g.0, ltb_yes g.1))

  pub work_write : w / 2 ^ 28 ≡ 2 → is_invalid (work s w) ≡ 0 → (work s w ≡ write (w % 2 ^ 28)) × (w % 2 ^ 28 < s.m)
  unfolding work
  work_write kind = rw kind (λ e. let g = valid_is (write (w % 2 ^ 28)) (ltb (w % 2 ^ 28) s.m) e in (g.0, ltb_yes g.1))

  pub work_purge : w / 2 ^ 28 ≡ 3 → is_invalid (work s w) ≡ 0 → (work s w ≡ purge (w % 2 ^ 28)) × (w % 2 ^ 28 < s.m)
  unfolding work
  work_purge kind = rw kind (λ e. let g = valid_is (purge (w % 2 ^ 28)) (ltb (w % 2 ^ 28) s.m) e in (g.0, ltb_yes g.1))

  -- above 5: a pin where its kind is 6, else it is taken off
  pub work_pin : 5 < w / 2 ^ 28 → is_invalid (work s w) ≡ 0 → (work s w ≡ pin_work (eqb (w / 2 ^ 28) 6) (w % 2 ^ 28)) × (w % 2 ^ 28 < s.m)
  unfolding work
  work_pin h =
      let not-it : (k : ℕ) → k < 6 → w / 2 ^ 28 ≢ k = λ k l q. omega (arith, h, l, q) in
      rw (
        ne_eqb (w / 2 ^ 28) 1 (not-it 1 (omega arith)),
        ne_eqb (w / 2 ^ 28) 2 (not-it 2 (omega arith)),
        ne_eqb (w / 2 ^ 28) 3 (not-it 3 (omega arith)),
        ne_eqb (w / 2 ^ 28) 4 (not-it 4 (omega arith)),
        ne_eqb (w / 2 ^ 28) 5 (not-it 5 (omega arith)),
      )
      (go (ℕ_discrete (w / 2 ^ 28) 6) (ℕ_discrete (w / 2 ^ 28) 7))
    where
      v : ℕ
      v = w % 2 ^ 28

      left : Work
      left = when eqb (w / 2 ^ 28) 6 && ltb v s.m then pin v else when eqb (w / 2 ^ 28) 7 && ltb v s.m then unpin v else invalid

      go : Dec (w / 2 ^ 28 ≡ 6) → Dec (w / 2 ^ 28 ≡ 7) → is_invalid left ≡ 0 → (left ≡ pin_work (eqb (w / 2 ^ 28) 6) v) × (v < s.m)
      go (yes q) r =
          rw (eq-eqb (w / 2 ^ 28) 6 q, ne_eqb (w / 2 ^ 28) 7 (λ z. omega (arith, q, z)))
          (λ e. let g = valid_is (pin v) (ltb v s.m) e in (g.0, ltb_yes g.1))
      go (no q) (yes r) =
          rw (ne_eqb (w / 2 ^ 28) 6 q, eq-eqb (w / 2 ^ 28) 7 r) (λ e. let g = valid_is (unpin v) (ltb v s.m) e in (g.0, ltb_yes g.1))
      go (no q) (no r) = rw (ne_eqb (w / 2 ^ 28) 6 q, ne_eqb (w / 2 ^ 28) 7 r) (λ e. absurd (omega arith))

  -- what is none of these: a flush, or a tick where its kind is 5
  pub work_flush : w / 2 ^ 28 ≢ 1 → w / 2 ^ 28 ≢ 2 → w / 2 ^ 28 ≢ 3 → w / 2 ^ 28 ≤ 5 → is_invalid (work s w) ≡ 0
      → work s w ≡ sweep (eqb (w / 2 ^ 28) 5)
  unfolding work
  work_flush a b c h =
      rw (
        ne_eqb (w / 2 ^ 28) 1 a,
        ne_eqb (w / 2 ^ 28) 2 b,
        ne_eqb (w / 2 ^ 28) 3 c,
        ne_eqb (w / 2 ^ 28) 6 (λ q. omega (arith, h, q)),
        ne_eqb (w / 2 ^ 28) 7 (λ q. omega (arith, h, q)),
      )
      (go (ℕ_discrete (w / 2 ^ 28) 4) (eqb (w / 2 ^ 28) 5) (eqb (w % 2 ^ 28) 0) refl)
    where
      go : Dec (w / 2 ^ 28 ≡ 4) → (k v : Bool) → eqb (w / 2 ^ 28) 5 ≡ k
          → is_invalid (when eqb (w / 2 ^ 28) 4 && v then flush else when k && v then tick else invalid) ≡ 0
          → (when eqb (w / 2 ^ 28) 4 && v then flush else when k && v then tick else invalid) ≡ sweep k
      go (yes q) true v is = absurd (omega (arith, q, eqb-true (w / 2 ^ 28) 5 is))
      go (yes q) false v is = rw (eq-eqb (w / 2 ^ 28) 4 q) (λ e. (valid_is flush v e).0)
      go (no q) true v is = rw (ne_eqb (w / 2 ^ 28) 4 q) (λ e. (valid_is tick v e).0)
      go (no q) false v is = rw (ne_eqb (w / 2 ^ 28) 4 q) (λ e. absurd (omega arith))
