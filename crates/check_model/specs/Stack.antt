-- The stack and the unused list: the check, the facts and the definition.
-- Assumes nothing.
use Prim.Native.Nat.{ℕ, suc, ◌+◌, ◌-◌, ◌≤◌, ◌<◌}
use Rattle.std.specs.Prelude.{◌≡◌, Bool, leb, eqb}
use Rattle.std.proofs.Math.Path.{refl}
use Rattle.std.proofs.Common.{◌∙◌, sym, arith, length-append, eqb→eq}
use mathlib.Core.List.{List, [], ◌∷◌, ◌++◌, reverse}
use Rattle.std.proofs.Math.ListN.{length}
use Rattle.std.proofs.Math.Dec.{T}
use Rattle.std.proofs.Math.Facts.{yes_eqb, yes_and, and_yes, yes_leb, leb_yes}
use Rattle.basics.specs.Lists.{same, all}
use Rattle.basics.specs.Basics.{All, within}
use Rattle.basics.specs.ListLaws.{all_yes, yes_all, same_is, is_same}
use Rattle.basics.specs.AllLaws.{all_map, all_join, all_left, all_right}
use Rattle.links.specs.Off.{Off, Distinct, off_join}
use Rattle.links.specs.Run.{Run, Back}
use Rattle.links.specs.Ring.{Dll}
use Rattle.links.specs.Walk.{dll_links}
use Rattle.links.proofs.Sll.{run_distinct}
use Rattle.links.specs.Find.{Below, all_there}
use Rattle.words.specs.Words.{val}
use Rattle.layout.specs.Addresses.{CACHE-BLOCKS, RESIDENTS, HEAD, TAIL, UNUSED, BLOCK, COUNT, SECTION, MODIFIED, TO-HEAD, TO-TAIL, CHAIN-TO-HEAD, CHAIN-TO-TAIL, NEXT-SYNONYM}
use Rattle.layout.specs.Sound.{field, along, walk, order, unused_entries, settings_in, stack_tests}
use Rattle.check_model.specs.Tests.{stack_ok, unused_ok}
use Rattle.check_model.specs.Runs.{zeros, Zeros, stack_read, stack_write, unused_read, unused_write}
use Rattle.check_model.specs.Along.{fw, field_is, along_run, along_off, along_is, reversed, backwards, off_reverse, length_reverse}
use Rattle.check_model.specs.Membership.{all_some, below_all, all_below, yes_distinct, distinct_join}

pub record Lists (w : List ℕ) : Type 0 where
  pub xs : List ℕ
  pub us : List ℕ
  pub fwd : Run (fw w TO-TAIL) (val w HEAD) xs 0
  pub bwd : Back (fw w TO-HEAD) 0 xs (val w TAIL)
  pub some : Off 0 xs
  pub many : length xs ≡ val w RESIDENTS
  pub low : Below (suc (val w CACHE-BLOCKS)) xs
  pub spare : Run (fw w TO-TAIL) (val w UNUSED) us 0
  pub spare_some : Off 0 us
  pub both : length xs + length us ≡ val w CACHE-BLOCKS
  pub spare_low : Below (suc (val w CACHE-BLOCKS)) us
  pub blank : Zeros (fw w) us

module _ (w : List ℕ) where
  pub lists_dll : (l : Lists w) → Dll (fw w TO-TAIL) (fw w TO-HEAD) (val w HEAD) (val w TAIL) l.xs
  lists_dll l = dll_links (fw w TO-TAIL) (fw w TO-HEAD) (val w HEAD) (val w TAIL) l.xs l.fwd l.bwd l.some

  -- ---- the check

  pub test_lists : val w RESIDENTS ≤ val w CACHE-BLOCKS → T (stack_ok (fw w) (val w CACHE-BLOCKS) (val w RESIDENTS) (val w HEAD) (val w TAIL))
      → T (unused_ok (fw w) (val w CACHE-BLOCKS) (val w CACHE-BLOCKS - val w RESIDENTS) (val w UNUSED)) → Lists w
  unfolding stack_ok unused_ok
  test_lists h a b =
      let s = stack_read (fw w) (val w CACHE-BLOCKS) (val w TAIL) (val w RESIDENTS) (val w HEAD) 0 a in
      let u = unused_read (fw w) (val w CACHE-BLOCKS) (val w CACHE-BLOCKS - val w RESIDENTS) (val w UNUSED) b in
      record {
        xs = s.xs;
        us = u.us;
        fwd = s.fwd;
        bwd = s.bwd;
        some = s.some;
        many = s.many;
        low = s.low;
        spare = u.fwd;
        spare_some = u.some;
        both = omega (arith, s.many, u.many);
        spare_low = u.low;
        blank = u.blank;
      }

  pub lists_fit : (l : Lists w) → val w RESIDENTS ≤ val w CACHE-BLOCKS
  lists_fit l = omega (arith, l.many, l.both)

  pub lists_stack : (l : Lists w) → T (stack_ok (fw w) (val w CACHE-BLOCKS) (val w RESIDENTS) (val w HEAD) (val w TAIL))
  unfolding stack_ok
  lists_stack l = rw (← l.many) (stack_write (fw w) (val w CACHE-BLOCKS) (val w TAIL) l.xs (val w HEAD) 0 l.fwd l.bwd l.some l.low)

  pub lists_unused : (l : Lists w) → T (unused_ok (fw w) (val w CACHE-BLOCKS) (val w CACHE-BLOCKS - val w RESIDENTS) (val w UNUSED))
  unfolding unused_ok
  lists_unused l =
      let e : val w CACHE-BLOCKS - val w RESIDENTS ≡ length l.us = omega (arith, l.many, l.both) in
      rw e (unused_write (fw w) (val w CACHE-BLOCKS) l.us (val w UNUSED) l.spare l.spare_some l.spare_low l.blank)

  -- ---- the definition

  pub order_is : (l : Lists w) → order w ≡ l.xs
  unfolding order walk settings_in
  order_is l = along_run w 5 (suc (val w CACHE-BLOCKS)) l.xs (val w HEAD) l.fwd l.some (omega (arith, l.both))

  pub unused_is : (l : Lists w) → unused_entries w ≡ l.us
  unfolding unused_entries walk settings_in
  unused_is l = along_run w 5 (suc (val w CACHE-BLOCKS)) l.us (val w UNUSED) l.spare l.spare_some (omega (arith, l.both))

  blank_no : (e : ℕ) → ¬ (e ≡ 0) → zeros (fw w) e ≡ 0 → T (eqb
      (field w BLOCK e + field w COUNT e + field w SECTION e + field w MODIFIED e + field w TO-HEAD e + field w CHAIN-TO-HEAD e + field w
      CHAIN-TO-TAIL e + field w NEXT-SYNONYM e) 0)
  blank_no e z h =
      rw (
        field_is w 0 e z,
        field_is w 1 e z,
        field_is w 2 e z,
        field_is w 3 e z,
        field_is w 4 e z,
        field_is w 6 e z,
        field_is w 7 e z,
        field_is w 8 e
            z,
      ) (yes_eqb h)

  no_blank : (e : ℕ) → ¬ (e ≡ 0) → T (eqb (field w BLOCK e + field w COUNT e + field w SECTION e + field w MODIFIED e + field w TO-HEAD e + field w
      CHAIN-TO-HEAD e + field w CHAIN-TO-TAIL e + field w NEXT-SYNONYM e) 0) → zeros (fw w) e ≡ 0
  no_blank e z h =
      rw (
        field_is w 0 e z,
        field_is w 1 e z,
        field_is w 2 e z,
        field_is w 3 e z,
        field_is w 4 e z,
        field_is w 6 e z,
        field_is w 7 e z,
        field_is w 8 e
            z,
      ) at (eqb→eq (field w BLOCK e + field w COUNT e + field w SECTION e + field w MODIFIED e + field w TO-HEAD e + field w CHAIN-TO-HEAD e + field
      w CHAIN-TO-TAIL e + field w NEXT-SYNONYM e) 0 h)

  pub zeros_all : (us : List ℕ) → Zeros (fw w) us → All (λ e. zeros (fw w) e ≡ 0) us
  zeros_all [] h = tt
  zeros_all (u ∷ us) h = (h.0, zeros_all us h.1)

  pub all_zeros : (us : List ℕ) → All (λ e. zeros (fw w) e ≡ 0) us → Zeros (fw w) us
  all_zeros [] h = tt
  all_zeros (u ∷ us) h = (h.0, all_zeros us h.1)

  -- a resident, whose count is not 0, is on the unused list nowhere
  pub apart_off : (x : ℕ) (us : List ℕ) → 1 ≤ fw w COUNT x → Zeros (fw w) us → Off x us
  apart_off x [] c z = tt
  apart_off x (u ∷ us) c z = (λ e. let c' : 1 ≤ fw w COUNT u = rw e at c in omega (arith, z.0), apart_off x us c z.1)

  pub apart : (xs us : List ℕ) → All (λ e. 1 ≤ fw w COUNT e) xs → Zeros (fw w) us → All (λ x. Off x us) xs
  apart [] us c z = tt
  apart (x ∷ xs) us c z = (apart_off x us c.0 z, apart xs us c.1 z)

  pub all_distinct : (l : Lists w) → All (λ e. 1 ≤ fw w COUNT e) l.xs → Distinct (l.xs ++ l.us)
  all_distinct l c =
      distinct_join l.xs l.us (lists_dll l).once (run_distinct (fw w TO-TAIL) (val w UNUSED) l.us l.spare l.spare_some)
      (apart l.xs l.us c l.blank)

  -- every entry is on one of the two
  pub everywhere : (l : Lists w) → All (λ e. 1 ≤ fw w COUNT e) l.xs → (x : ℕ) → ¬ (x ≡ 0) → x ≤ val w CACHE-BLOCKS → Off x (l.xs ++ l.us) → ⊥
  everywhere l c =
      all_there (val w CACHE-BLOCKS) (l.xs ++ l.us)
      (below_all (suc (val w CACHE-BLOCKS)) (l.xs ++ l.us)
      (all_join (λ x. x < suc (val w CACHE-BLOCKS)) l.xs l.us (all_below (suc (val w CACHE-BLOCKS)) l.xs l.low)
      (all_below (suc (val w CACHE-BLOCKS)) l.us l.spare_low)))
      (off_join 0 l.xs l.us l.some l.spare_some)
      (all_distinct l c)
      (length-append l.xs l.us ∙ l.both)

  abbrev blank_at : ℕ → Bool
  blank_at e =
      eqb (field w BLOCK e + field w COUNT e + field w SECTION e + field w MODIFIED e + field w TO-HEAD e + field w CHAIN-TO-HEAD e + field w
      CHAIN-TO-TAIL e + field w NEXT-SYNONYM e) 0

  abbrev s1 : List ℕ → Bool
  s1 xs = same (along w TO-HEAD (suc (val w CACHE-BLOCKS)) (val w TAIL)) (reverse xs)

  abbrev s2 : List ℕ → Bool
  s2 xs = eqb (length xs) (val w RESIDENTS)

  abbrev s3 : List ℕ → List ℕ → Bool
  s3 xs us = eqb (length (xs ++ us)) (val w CACHE-BLOCKS)

  abbrev s4 : List ℕ → List ℕ → Bool
  s4 xs us = all (within 1 (val w CACHE-BLOCKS)) (xs ++ us)

  abbrev s5 : List ℕ → Bool
  s5 us = all blank_at us

  within_yes : (e : ℕ) → ¬ (e ≡ 0) → e < suc (val w CACHE-BLOCKS) → T (within 1 (val w CACHE-BLOCKS) e)
  within_yes e z h =
      yes_and (leb 1 e) (leb e (val w CACHE-BLOCKS)) (yes_leb {a = 1} {b = e} (omega arith)) (yes_leb {a = e} {b = val w CACHE-BLOCKS} (omega arith))

  yes_within : (e : ℕ) → T (within 1 (val w CACHE-BLOCKS) e) → e < suc (val w CACHE-BLOCKS)
  yes_within e h = let q = leb_yes {a = e} {b = val w CACHE-BLOCKS} (and_yes (leb 1 e) (leb e (val w CACHE-BLOCKS)) h).1 in omega arith

  pub lists_sound : (l : Lists w) → All (λ e. 1 ≤ fw w COUNT e) l.xs → All T (stack_tests w)
  unfolding stack_tests walk settings_in
  lists_sound l c =
      rw (order_is l, unused_is l) (
        is_same (along w TO-HEAD (suc (val w CACHE-BLOCKS)) (val w TAIL)) (reverse l.xs)
            (along_run w 4 (suc (val w CACHE-BLOCKS)) (reverse l.xs) (val w TAIL) (reversed (fw w TO-HEAD) 0 l.xs (val w TAIL) [] l.bwd refl)
            (off_reverse 0 l.xs [] l.some tt) (omega (arith, length_reverse l.xs [], l.both))),
        (
          yes_eqb l.many,
          (
            yes_eqb (length-append l.xs l.us ∙ l.both),
            (
              yes_all (within 1 (val w CACHE-BLOCKS)) (l.xs ++ l.us)
                  (all_some (λ e. e < suc (val w CACHE-BLOCKS)) (λ e. T (within 1 (val w CACHE-BLOCKS) e)) (l.xs ++ l.us)
                  (off_join 0 l.xs l.us l.some l.spare_some) within_yes
                  (all_join (λ x. x < suc (val w CACHE-BLOCKS)) l.xs l.us (all_below (suc (val w CACHE-BLOCKS)) l.xs l.low)
                  (all_below (suc (val w CACHE-BLOCKS)) l.us l.spare_low))),
              (
                yes_distinct (l.xs ++ l.us) (all_distinct l c),
                (
                  yes_all blank_at l.us (all_some (λ e. zeros (fw w) e ≡ 0) (λ e. T (blank_at e)) l.us l.spare_some blank_no
                      (zeros_all l.us l.blank)),
                  tt,
                ),
              ),
            ),
          ),
        ),
      )

  order_along : order w ≡ along w TO-TAIL (suc (val w CACHE-BLOCKS)) (val w HEAD)
  unfolding order walk settings_in
  order_along = refl

  unused_along : unused_entries w ≡ along w TO-TAIL (suc (val w CACHE-BLOCKS)) (val w UNUSED)
  unfolding unused_entries walk settings_in
  unused_along = refl

  sound_lists_of : (xs us : List ℕ) → order w ≡ xs → unused_entries w ≡ us → T (s1 xs) → T (s2 xs) → T (s3 xs us) → T (s4 xs us) → T (s5 us) → Lists w
  sound_lists_of xs us ox uu a b c d e =
      let n : ℕ = val w CACHE-BLOCKS in
      let whole : length (xs ++ us) ≡ n = eqb→eq (length (xs ++ us)) n c in
      let both : length xs + length us ≡ n = sym (length-append xs us) ∙ whole in
      let ax : along w TO-TAIL (suc n) (val w HEAD) ≡ xs = sym order_along ∙ ox in
      let au : along w TO-TAIL (suc n) (val w UNUSED) ≡ us = sym unused_along ∙ uu in
      let some : Off 0 xs = rw (← ax) (along_off w 5 (suc n) (val w HEAD)) in
      let spare_some : Off 0 us = rw (← au) (along_off w 5 (suc n) (val w UNUSED)) in
      let fwd : Run (fw w TO-TAIL) (val w HEAD) xs 0 = rw ax at (along_is w 5 (suc n) (val w HEAD) (rw ax (omega arith))) in
      let spare : Run (fw w TO-TAIL) (val w UNUSED) us 0 = rw au at (along_is w 5 (suc n) (val w UNUSED) (rw au (omega arith))) in
      let rev : along w TO-HEAD (suc n) (val w TAIL) ≡ reverse xs = same_is (along w TO-HEAD (suc n) (val w TAIL)) (reverse xs) a in
      let back : Run (fw w TO-HEAD) (val w TAIL) (reverse xs) 0 =
      rw rev at (along_is w 4 (suc n) (val w TAIL) (rw rev (omega (arith, length_reverse xs [])))) in
      let q : (b : ℕ) × Back (fw w TO-HEAD) b xs (val w TAIL) × Run (fw w TO-HEAD) b [] 0 = backwards (fw w TO-HEAD) xs (val w TAIL) [] back in
      let low : All (λ x. x < suc n) (xs ++ us) = all_map (λ e. T (within 1 n e)) (λ x. x < suc n) (xs ++ us) yes_within
      (all_yes (within 1 n) (xs ++ us) d) in
      record {
        xs = xs;
        us = us;
        fwd = fwd;
        bwd = rw q.2 at q.1;
        some = some;
        many = eqb→eq (length xs) (val w RESIDENTS) b;
        low = below_all (suc n) xs (all_left (λ x. x < suc n) xs us low);
        spare = spare;
        spare_some = spare_some;
        both = both;
        spare_low = below_all (suc n) us (all_right (λ x. x < suc n) xs us low);
        blank = all_zeros us (all_some (λ e. T (blank_at e)) (λ e. zeros (fw w) e ≡ 0) us spare_some no_blank (all_yes blank_at us e));
      }

  pub sound_lists : All T (stack_tests w) → Lists w
  unfolding stack_tests walk settings_in
  sound_lists p = sound_lists_of (order w) (unused_entries w) refl refl p.0 p.1.0 p.1.1.0 p.1.1.1.0 p.1.1.1.1.1.0
