-- The check is the definition.
-- Assumes nothing.
use Prim.Native.Nat.{ℕ, ◌+◌, ◌-◌, ◌*◌, ◌%◌, ◌≤◌}
use Rattle.std.specs.Prelude.{◌≡◌, Bool, length, get_or, replicate, ltb}
use Rattle.std.proofs.Math.Path.{refl}
use Rattle.std.proofs.Common.{sym, ap, subst, arith}
use Rattle.std.proofs.Math.Bool.{true, false}
use mathlib.Core.List.{List, [], ◌∷◌, ◌++◌, map}
use Rattle.std.proofs.Math.Dec.{T, leb, eqb, eqb→eq}
use Rattle.std.proofs.Math.Facts.{yes_eqb, ltb_no, no_ltb, leb_yes, yes_leb}
use Rattle.basics.specs.Basics.{All, pick, bit, total}
use Rattle.basics.specs.Lists.{every, all, distinct, counting}
use Rattle.basics.specs.ListLaws.{every_yes, yes_every}
use Rattle.basics.specs.AllLaws.{all_map, all_join, all_left, all_right}
use Rattle.links.specs.Off.{Distinct}
use Rattle.words.specs.Words.{val}
use Rattle.settings.specs.Numbers.{settings_number}
use Rattle.settings.specs.NumbersLaws.{legal_settings}
use Rattle.settings.specs.Buckets.{buckets}
use Rattle.layout.specs.Addresses.{CACHE-BLOCKS, NEW-BLOCKS, OLD-BLOCKS, CHAIN-LIMIT, AVERAGE-LIMIT, STORE-BLOCKS, RESIDENTS, SUM, HEAD, TAIL, NEW-BOUNDARY, OLD-BOUNDARY, UNUSED, BLANK-14, BLANK-15, READS, WRITES, INS, OUTS, BLOCK, COUNT, MODIFIED}
use Rattle.layout.specs.ModifiedWord.{marks_in, is_modified_word}
use Rattle.layout.proofs.ModifiedWordLaws.{word_bit}
use Rattle.layout.specs.Sound.{field, sections_right, settings_in, totals_in, chain_right, bucket_right, stack_tests, resident_tests, chain_tests, sound}
use Rattle.check_model.specs.Tests.{head_of, tail_of, first_of, kinds_ok, stack_ok, unused_ok, fields_ok, chains_ok, buckets_from, numbers_test, totals_test, mark_bit, total_of, lists_test, sound_test}
use Rattle.check_model.specs.Bools.{pick_yes, yes_pick, pick_no, no_pick}
use Rattle.check_model.specs.Runs.{fields_on, fields_run, chains_on, chains_run}
use Rattle.check_model.specs.Along.{fw}
use Rattle.check_model.specs.Stack.{Lists, test_lists, lists_fit, lists_stack, lists_unused, order_is, lists_sound, sound_lists}
use Rattle.check_model.specs.Fields.{Good, Sections, fields_read, fields_write, sections_sound, sound_sections, block_at, count_at, mark_at, good_sound, sound_good, blocks_sound, sound_blocks, Numbers, numbers_read, numbers_write, sum_is, totals_read, totals_write}
use Rattle.check_model.specs.Chains.{loose_at, chains_sound, sound_chains}
use Rattle.check_model.specs.Listing.{buckets_sound, sound_buckets}
use Rattle.check_model.specs.Kinds.{kinds_same}
use Rattle.basics.specs.TestLaws.{same_truth}

-- how many of a list are modified, as the definition says it
abbrev said : List ℕ → List ℕ → ℕ
said w xs = total (map (λ e. bit (marks_in (field w MODIFIED e)).modified) xs)

said_is : (w xs : List ℕ) → said w xs ≡ total (map (mark_bit (field w)) xs)
said_is w xs = ap (λ g. total (map g xs)) (λ i e. word_bit (field w MODIFIED e) i)

module _ (w : List ℕ) where
  abbrev nb : ℕ
  nb = buckets (val w CACHE-BLOCKS)

  -- ---- the parts of the check

  abbrev t_stack : Bool
  t_stack = stack_ok (fw w) (val w CACHE-BLOCKS) (val w RESIDENTS) (val w HEAD) (val w TAIL)

  abbrev t_unused : Bool
  t_unused = unused_ok (fw w) (val w CACHE-BLOCKS) (val w CACHE-BLOCKS - val w RESIDENTS) (val w UNUSED)

  abbrev t_fields : Bool
  t_fields = fields_ok (fw w) (val w STORE-BLOCKS) (val w NEW-BLOCKS) (val w CACHE-BLOCKS - val w OLD-BLOCKS) (val w RESIDENTS) (val w HEAD)

  abbrev t_numbers : Bool
  t_numbers = numbers_test w (fw w) (val w CACHE-BLOCKS) (val w NEW-BLOCKS) (val w OLD-BLOCKS) (val w AVERAGE-LIMIT) (val w RESIDENTS) (val w HEAD)

  abbrev t_chains : Bool
  t_chains = chains_ok (fw w) (head_of w) (tail_of w) (val w CHAIN-LIMIT) (val w RESIDENTS) (val w HEAD)

  abbrev t_buckets : Bool
  t_buckets = buckets_from (fw w) (first_of w (24 + 2 * val w CHAIN-LIMIT)) (val w CACHE-BLOCKS) nb nb 0 (val w RESIDENTS)

  abbrev t_totals : Bool
  t_totals = totals_test w (fw w) (val w RESIDENTS) (val w HEAD)

  pub record Passed : Type 0 where
    pub fit : val w RESIDENTS ≤ val w CACHE-BLOCKS
    pub stack : T t_stack
    pub unused : T t_unused
    pub fields : T t_fields
    pub numbers : T t_numbers
    pub chains : T t_chains
    pub buckets : T t_buckets
    pub totals : T t_totals

  abbrev u7 : Bool
  u7 = pick t_buckets t_totals false

  abbrev u6 : Bool
  u6 = pick t_chains u7 false

  abbrev u5 : Bool
  u5 = pick t_numbers u6 false

  abbrev u4 : Bool
  u4 = pick t_fields u5 false

  abbrev u3 : Bool
  u3 = pick t_unused u4 false

  abbrev u2 : Bool
  u2 = pick t_stack u3 false

  pub passed : T (lists_test w (val w CACHE-BLOCKS) (val w NEW-BLOCKS) (val w OLD-BLOCKS) (val w CHAIN-LIMIT) (val w AVERAGE-LIMIT)
      (val w STORE-BLOCKS) nb) → Passed
  unfolding lists_test
  passed h =
      let a = pick_no (ltb (val w CACHE-BLOCKS) (val w RESIDENTS)) u2 h in
      let b = pick_yes t_stack u3 a.1 in
      let c = pick_yes t_unused u4 b.1 in
      let d = pick_yes t_fields u5 c.1 in
      let e = pick_yes t_numbers u6 d.1 in
      let f = pick_yes t_chains u7 e.1 in
      let g = pick_yes t_buckets t_totals f.1 in
      record {
        fit = ltb_no {a = val w CACHE-BLOCKS} {b = val w RESIDENTS} a.0;
        stack = b.0;
        unused = c.0;
        fields = d.0;
        numbers =
            e.0;
        chains = f.0;
        buckets = g.0;
        totals = g.1;
      }

  pub pass : Passed → T (lists_test w (val w CACHE-BLOCKS) (val w NEW-BLOCKS) (val w OLD-BLOCKS) (val w CHAIN-LIMIT) (val w AVERAGE-LIMIT)
      (val w STORE-BLOCKS) nb)
  unfolding lists_test
  pass p =
      no_pick (ltb (val w CACHE-BLOCKS) (val w RESIDENTS)) u2 (no_ltb p.fit)
      (yes_pick t_stack u3 p.stack
      (yes_pick t_unused u4 p.unused
      (yes_pick t_fields u5 p.fields
      (yes_pick t_numbers u6 p.numbers
      (yes_pick t_chains u7 p.chains
      (yes_pick t_buckets t_totals p.buckets p.totals))))))

  -- ---- there and back

  module _ (small : val w CHAIN-LIMIT ≤ 64) where
    pub fields_are : (l : Lists w) → t_fields ≡ fields_on (fw w) (val w STORE-BLOCKS) (val w NEW-BLOCKS) (val w CACHE-BLOCKS - val w OLD-BLOCKS) l.xs
        0
    unfolding fields_ok
    fields_are l =
        rw (← l.many) (fields_run (fw w) (val w STORE-BLOCKS) (val w NEW-BLOCKS) (val w CACHE-BLOCKS - val w OLD-BLOCKS) l.xs (val w HEAD) 0
        l.fwd)

    pub chains_on_lem : (l : Lists w) → t_chains ≡ chains_on (fw w) (head_of w) (tail_of w) (val w CHAIN-LIMIT) l.xs (replicate 65 0)
    unfolding chains_ok
    chains_on_lem l = rw (← l.many) (chains_run (fw w) (head_of w) (tail_of w) (val w CHAIN-LIMIT) l.xs (val w HEAD) (replicate 65 0) l.fwd)

    pub counts : (xs : List ℕ) → All (Good (fw w) (val w STORE-BLOCKS)) xs → All (λ e. 1 ≤ fw w COUNT e) xs
    counts xs g = all_map (Good (fw w) (val w STORE-BLOCKS)) (λ e. 1 ≤ fw w COUNT e) xs (λ x h. h.count) g

    short : (l : Lists w) → length l.xs ≤ val w CACHE-BLOCKS
    short l = omega (arith, l.both)

    -- the definition's tests
    abbrev tests : List Bool
    tests = stack_tests w ++ (resident_tests w ++ chain_tests w)

    residents_there : (l : Lists w) (p : Passed) → All (Good (fw w) (val w STORE-BLOCKS)) l.xs
        → Sections (fw w) (val w NEW-BLOCKS) (val w CACHE-BLOCKS - val w OLD-BLOCKS) 0 l.xs → Distinct (map (fw w BLOCK) l.xs)
        → All T (resident_tests w)
    unfolding resident_tests is_modified_word settings_in
    residents_there l p g s d =
        let n = numbers_read w l.xs l.fwd l.many l.some p.numbers in
        let q = good_sound w l.xs l.some g in
        rw (order_is w l) (
          blocks_sound w l.xs l.some d,
          (
            q.0,
            (
              q.1,
              (
                q.2,
                (
                  yes_eqb n.sum,
                  (
                    sections_sound w l.xs 0 l.some s,
                    (
                      yes_eqb n.new,
                      (
                        yes_eqb n.old,
                        (
                          yes_eqb {a = val w BLANK-14 + val w BLANK-15} {b = 0} (omega (arith, n.none, n.none')),
                          (
                            yes_leb n.average,
                            tt,
                          ),
                        ),
                      ),
                    ),
                  ),
                ),
              ),
            ),
          ),
        )

    chains_there : (l : Lists w) (p : Passed) → T (all (bucket_right w) (counting 0 nb)) → All T (chain_tests w)
    unfolding chain_tests marks_in settings_in totals_in total_of
    chains_there l p b =
        let k = chains_sound w l.xs (order_is w l) l.some (short l) small (subst T (chains_on_lem l) p.chains) in
        let t = totals_read w p.totals in
        rw (order_is w l) (
          k.0,
          (
            k.1,
            (
              b,
              (
                yes_leb {a = total_of w INS} {b = total_of w READS} t.0,
                (
                  yes_leb {a = total_of w OUTS + said w l.xs} {b = total_of w WRITES}
                      (rw (said_is w l.xs, ← sum_is w l.xs l.fwd l.many l.some (λ n. n % 2) 3) t.1),
                  tt,
                ),
              ),
            ),
          ),
        )

    there : Passed → T (every tests)
    there p =
        let l : Lists w = test_lists w p.fit p.stack p.unused in
        let f = fields_read (fw w) (val w STORE-BLOCKS) (val w NEW-BLOCKS) (val w CACHE-BLOCKS - val w OLD-BLOCKS) l.xs 0
        (subst T (fields_are l) p.fields) in
        let c : All (λ e. 1 ≤ fw w COUNT e) l.xs = counts l.xs f.0 in
        let b = buckets_sound w l c p.buckets in
        yes_every tests
        (all_join T (stack_tests w) (resident_tests w ++ chain_tests w) (lists_sound w l c)
        (all_join T (resident_tests w) (chain_tests w) (residents_there l p f.0 f.1 b.1) (chains_there l p b.0)))

    residents_back : (l : Lists w) → All T (resident_tests w)
        → All (Good (fw w) (val w STORE-BLOCKS)) l.xs × Sections (fw w) (val w NEW-BLOCKS) (val w CACHE-BLOCKS - val w OLD-BLOCKS) 0 l.xs
        × Distinct (map (fw w BLOCK) l.xs) × Numbers w l.xs l.fwd l.many l.some
    unfolding resident_tests is_modified_word settings_in
    residents_back l h =
        let xs : List ℕ = l.xs in
        let r : All T (distinct (map (field w BLOCK) xs) ∷ all (block_at w) xs ∷ all (count_at w) xs ∷ all (mark_at w) xs ∷ eqb (val w SUM)
        (total (map (field w COUNT) xs)) ∷ sections_right w 0 xs ∷ eqb (val w NEW-BOUNDARY) (get_or xs (val w NEW-BLOCKS) 0) ∷ eqb
        (val w OLD-BOUNDARY) (get_or xs (val w CACHE-BLOCKS - val w OLD-BLOCKS) 0) ∷ eqb (val w BLANK-14 + val w BLANK-15) 0 ∷ leb
        (total (map (field w COUNT) xs)) (val w AVERAGE-LIMIT * val w CACHE-BLOCKS) ∷ []) = rw (order_is w l) at h in
        let z : val w BLANK-14 + val w BLANK-15 ≡ 0 = eqb→eq (val w BLANK-14 + val w BLANK-15) 0 r.1.1.1.1.1.1.1.1.0 in (
          sound_good w xs l.some r.1.0 r.1.1.0 r.1.1.1.0,
          sound_sections w xs 0 l.some r.1.1.1.1.1.0,
          sound_blocks w xs l.some r.0,
          record {
            sum = eqb→eq (val w SUM) (total (map (field w COUNT) xs)) r.1.1.1.1.0;
            average = leb_yes {a = total (map (field w COUNT) xs)} {b = val w AVERAGE-LIMIT * val w CACHE-BLOCKS} r.1.1.1.1.1.1.1.1.1.0;
            new = eqb→eq (val w NEW-BOUNDARY) (get_or xs (val w NEW-BLOCKS) 0) r.1.1.1.1.1.1.0;
            old = eqb→eq (val w OLD-BOUNDARY) (get_or xs (val w CACHE-BLOCKS - val w OLD-BLOCKS) 0) r.1.1.1.1.1.1.1.0;
            none = omega arith;
            none' = omega arith;
          },
        )

    chains_back : (l : Lists w) → All T (chain_tests w)
        → T (all (chain_right w) (counting 1 (val w CHAIN-LIMIT)))
        × T (all (loose_at w l.xs (order_is w l) l.some (short l)) l.xs)
        × T (all (bucket_right w) (counting 0 nb))
        × (total_of w INS ≤ total_of w READS)
        × (total_of w OUTS + total (map (mark_bit (field w)) l.xs) ≤ total_of w WRITES)
    unfolding chain_tests marks_in settings_in totals_in total_of
    chains_back l h =
        let xs : List ℕ = l.xs in
        let r : All T (
        all (chain_right w) (counting 1 (val w CHAIN-LIMIT))
        ∷ all (loose_at w xs (order_is w l) l.some (short l)) xs
        ∷ all (bucket_right w) (counting 0 nb)
        ∷ leb (total_of w INS) (total_of w READS)
        ∷ leb (total_of w OUTS + said w xs) (total_of w WRITES)
        ∷ []
        ) =
        rw (order_is w l) at h in (
          r.0,
          r.1.0,
          r.1.1.0,
          leb_yes {a = total_of w INS} {b = total_of w READS} r.1.1.1.0,
          rw (said_is w xs) at (leb_yes {a = total_of w OUTS + said w xs} {b = total_of w WRITES} r.1.1.1.1.0),
        )

    back : T (every tests) → Passed
    back h =
        let a = every_yes tests h in
        let b = all_right T (stack_tests w) (resident_tests w ++ chain_tests w) a in
        let l : Lists w = sound_lists w (all_left T (stack_tests w) (resident_tests w ++ chain_tests w) a) in
        let xs : List ℕ = l.xs in
        let r = residents_back l (all_left T (resident_tests w) (chain_tests w) b) in
        let k = chains_back l (all_right T (resident_tests w) (chain_tests w) b) in
        record {
          fit = lists_fit w l;
          stack = lists_stack w l;
          unused = lists_unused w l;
          fields =
              subst T (sym (fields_are l)) (fields_write (fw w) (val w STORE-BLOCKS) (val w NEW-BLOCKS) (val w CACHE-BLOCKS - val w OLD-BLOCKS) xs 0
              r.0 r.1);
          numbers = numbers_write w xs l.fwd l.many l.some r.3;
          chains = subst T (sym (chains_on_lem l)) (sound_chains w xs (order_is w l) l.some (short l) small (counts xs r.0) k.0 k.1);
          buckets = sound_buckets w l (counts xs r.0) r.2 k.2;
          totals = totals_write w k.3 (rw (sum_is w xs l.fwd l.many l.some (λ n. n % 2) 3) k.4);
        }

    lists_same : lists_test w (val w CACHE-BLOCKS) (val w NEW-BLOCKS) (val w OLD-BLOCKS) (val w CHAIN-LIMIT) (val w AVERAGE-LIMIT) (val w STORE-BLOCKS)
        nb ≡ every tests
    lists_same =
        same_truth (lists_test w (val w CACHE-BLOCKS) (val w NEW-BLOCKS) (val w OLD-BLOCKS) (val w CHAIN-LIMIT) (val w AVERAGE-LIMIT)
        (val w STORE-BLOCKS) nb) (every tests) (λ h. there (passed h)) (λ h. pass (back h))

  abbrev legal : Bool
  legal = eqb (settings_number (settings_in w)) 0

  abbrev base : ℕ
  base = 24 + 2 * val w CHAIN-LIMIT + nb

  pub few_chains : T legal → val w CHAIN-LIMIT ≤ 64
  unfolding settings_in
  few_chains h = (legal_settings (settings_in w) (eqb→eq (settings_number (settings_in w)) 0 h)).few_chains

  pub same_sound : sound_test w ≡ sound w
  unfolding sound_test sound
  same_sound = rw (← kinds_same w) (go legal (λ h. lists_same (few_chains h)) (kinds_ok w base (base + 9 * val w CACHE-BLOCKS)))
    where
      go : (t : Bool)
          → (T t → lists_test w (val w CACHE-BLOCKS) (val w NEW-BLOCKS) (val w OLD-BLOCKS) (val w CHAIN-LIMIT) (val w AVERAGE-LIMIT)
          (val w STORE-BLOCKS) nb ≡ every (stack_tests w ++ (resident_tests w ++ chain_tests w)))
          → (u : Bool)
          → pick t (pick u (lists_test w (val w CACHE-BLOCKS) (val w NEW-BLOCKS) (val w OLD-BLOCKS) (val w CHAIN-LIMIT) (val w AVERAGE-LIMIT)
          (val w STORE-BLOCKS) nb) false) false
          ≡ pick t (pick u (every (stack_tests w ++ (resident_tests w ++ chain_tests w))) false) false
      go true r true = r tt
      go true r false = refl
      go false r u = refl
