-- What soundness gives: legal settings, proper residents, and what every work word keeps.
use Rattle.std.specs.Prelude.{ℕ, ◌+◌, ◌*◌, ◌/◌, ◌^◌, ◌≤◌, ◌≡◌, ◌≢◌, Bool, not, take, leb, eqb}
use Rattle.std.proofs.Common.{arith}
use Rattle.std.proofs.Math.Path.{refl, ap}
use Rattle.std.proofs.Math.Bool.{true, false}
use mathlib.Core.List.{List, [], ◌∷◌, ◌++◌, map}
use Rattle.std.proofs.Math.ListN.{length, length-append, length-map, length-take}
use Rattle.std.proofs.Math.Dec.{T, ltb}
use Rattle.std.proofs.Math.Facts.{and_yes, or_no, leb_yes, ltb_yes, eqb_yes, eqb_no}
use Rattle.basics.specs.AllLaws.{all_map, all_image, all_left, all_right}
use Rattle.basics.specs.Basics.{All, when◌then◌else◌, within, member, bit, total}
use Rattle.basics.specs.ListLaws.{every_yes, all_yes, same_is}
use Rattle.basics.specs.Lists.{every, distinct}
use Rattle.settings.specs.declared.Settings.{Settings}
use Rattle.settings.specs.Numbers.{settings_number}
use Rattle.settings.specs.NumbersLaws.{LegalSettings, legal_settings, old_fits}
use Rattle.settings.specs.Buckets.{directory_length}
use Rattle.stack.specs.Counts.{Legal}
use Rattle.stack.proofs.BlockLaws.{Differ}
use Rattle.stack.proofs.SumLaws.{sum}
use Rattle.stack.proofs.KeepLaws.{LegalCounts, SeenModified, Kept}
use Rattle.stack.specs.Stack.{modified_count}
use Rattle.stack.proofs.EntriesLaws.{Fit, Apart, Residents, Proper}
use Rattle.layout.specs.Addresses.{BLOCK, COUNT, MODIFIED}
use Rattle.layout.specs.Layout.{kinds, fresh_words}
use Rattle.layout.proofs.FreshKindLaws.{length_fresh, kinds_fresh}
use Rattle.layout.specs.ModifiedWord.{marks_in, is_modified_word}
use Rattle.layout.proofs.ModifiedWordLaws.{word_seen}
use Rattle.layout.specs.Sound.{settings_in, totals_in, field, order, unused_entries, stack_tests, resident_tests, chain_tests, kinds_right, sound, resident_at, view}

-- a number that is no member differs from every one
not_member : (n : ℕ) (xs : List ℕ) → T (not (member n xs)) → All (λ x. x ≢ n) xs
unfolding member
not_member n [] t = tt
not_member n (x ∷ xs) t = let q = or_no (eqb x n) (member n xs) t in (eqb_no q.0, not_member n xs q.1)

-- ---- a sound directory

module _ (ws : List ℕ) (h : T (sound ws)) where
  abbrev s : Settings
  s = settings_in ws

  gate : (b c d : Bool) → T (when b then (when c then d else false) else false) → T b × T d
  gate true true d t = (tt, t)
  gate true false d t = absurd t
  gate false c d t = absurd t

  passed : T (eqb (settings_number s) 0) × T (every (stack_tests ws ++ (resident_tests ws ++ chain_tests ws)))
  unfolding sound
  passed = gate (eqb (settings_number s) 0) (kinds_right ws) (every (stack_tests ws ++ (resident_tests ws ++ chain_tests ws))) h

  pub sound_legal : LegalSettings s
  sound_legal = legal_settings s (eqb_yes passed.0)

  -- the slice holds the directory
  pub sound_long : directory_length s ≤ length ws
  unfolding sound kinds_right
  sound_long =
      let same-kinds =
      same_is (map (λ w. w / 2 ^ 28) (take (directory_length s) ws)) (kinds s)
      (second (eqb (settings_number s) 0) (kinds_right ws) (every (stack_tests ws ++ (resident_tests ws ++ chain_tests ws))) h) in
      let e = ap length same-kinds in
      let k = ap length (kinds_fresh s sound_legal) in
      let lent = length-map (take (directory_length s) ws) (λ w. w / 2 ^ 28) in
      omega (arith, lent, length-take (directory_length s) ws, length-map (fresh_words s) (λ w. w / 2 ^ 28), length_fresh s)
    where
      second : (b c d : Bool) → T (when b then (when c then d else false) else false) → T c
      second true true d t = tt
      second true false d t = absurd t
      second false c d t = absurd t

  tests : All T (stack_tests ws ++ (resident_tests ws ++ chain_tests ws))
  tests = every_yes (stack_tests ws ++ (resident_tests ws ++ chain_tests ws)) passed.1

  pub stack_passes : All T (stack_tests ws)
  stack_passes = all_left T (stack_tests ws) (resident_tests ws ++ chain_tests ws) tests

  resident_passes : All T (resident_tests ws)
  resident_passes = all_left T (resident_tests ws) (chain_tests ws) (all_right T (stack_tests ws) (resident_tests ws ++ chain_tests ws) tests)

  -- ---- entries

  few : length (order ws) ≤ s.n
  unfolding stack_tests
  few = let e : length (order ws ++ unused_entries ws) ≡ s.n =
      eqb_yes stack_passes.1.1.0 in omega (arith, length-append (order ws) (unused_entries ws))

  entries_within : All (λ e. T (within 1 s.n e)) (order ws)
  unfolding stack_tests
  entries_within =
      all_left (λ e. T (within 1 s.n e)) (order ws) (unused_entries ws)
      (all_yes (within 1 s.n) (order ws ++ unused_entries ws) stack_passes.1.1.1.0)

  blocks_below : All (λ e. T (ltb (field ws BLOCK e) s.m)) (order ws)
  unfolding resident_tests
  blocks_below = all_yes (λ e. ltb (field ws BLOCK e) s.m) (order ws) resident_passes.1.0

  counts_legal : All (λ e. T (within 1 65535 (field ws COUNT e))) (order ws)
  unfolding resident_tests
  counts_legal = all_yes (λ e. within 1 65535 (field ws COUNT e)) (order ws) resident_passes.1.1.0

  fits : (es : List ℕ) → All (λ e. T (within 1 s.n e)) es → All (λ e. T (ltb (field ws BLOCK e) s.m)) es
      → All (λ e. T (within 1 65535 (field ws COUNT e))) es
      → All (Fit s) (map (resident_at ws) es)
  unfolding resident_at
  fits [] a b c = tt
  fits (e ∷ es) a b c =
      let w = and_yes (leb 1 e) (leb e s.n) a.0 in
      let n = and_yes (leb 1 (field ws COUNT e)) (leb (field ws COUNT e) 65535) c.0 in (
        record { least = leb_yes w.0; most = leb_yes w.1; stored = ltb_yes b.0; legal = (leb_yes n.0, leb_yes n.1) },
        fits es a.1
            b.1 c.1,
      )

  apart : (es more : List ℕ) → T (distinct (es ++ more)) → Apart (map (resident_at ws) es)
  unfolding resident_at distinct
  apart [] more t = tt
  apart (e ∷ es) more t =
      let q = and_yes (not (member e (es ++ more))) (distinct (es ++ more)) t in
      (all_image (λ y. y.held ≢ e) (resident_at ws) es (all_left (λ x. x ≢ e) es more (not_member e (es ++ more) q.0)), apart es more q.1)

  pub sound_residents : Residents s (map (resident_at ws) (order ws))
  unfolding stack_tests
  sound_residents =
      record {
        fit = fits (order ws) entries_within blocks_below counts_legal;
        apart = apart (order ws) (unused_entries ws) stack_passes.1.1.1.1.0;
        few = rw (length-map (order ws) (resident_at ws)) few;
      }

  -- with data that is long enough and a store of M blocks
  pub sound_proper : (bytes store : List ℕ) → s.n * s.b ≤ length bytes → length store ≡ s.m * s.b
      → Proper (record { stack = view ws store; bytes = bytes })
  unfolding view
  sound_proper bytes store g g' =
      record { legal = sound_legal; residents = sound_residents; bytes = g; store = g' }

  -- ---- what every work word keeps

  chain_passes : All T (chain_tests ws)
  chain_passes = all_right T (resident_tests ws) (chain_tests ws) (all_right T (stack_tests ws) (resident_tests ws ++ chain_tests ws) tests)

  legal_of : (es : List ℕ) → All (Fit s) (map (resident_at ws) es) → LegalCounts (map (resident_at ws) es)
  legal_of es = all_map (Fit s) (λ x. Legal x.count) (map (resident_at ws) es) (λ x t. t.legal)

  differ : (es : List ℕ) → T (distinct (map (field ws BLOCK) es)) → Differ (map (resident_at ws) es)
  unfolding resident_at distinct
  differ [] t = tt
  differ (e ∷ es) t =
      let q = and_yes (not (member (field ws BLOCK e) (map (field ws BLOCK) es))) (distinct (map (field ws BLOCK) es)) t in
      (others es (not_member (field ws BLOCK e) (map (field ws BLOCK) es) q.0), differ es q.1)
    where
      others : (es : List ℕ) → All (λ x. x ≢ field ws BLOCK e) (map (field ws BLOCK) es)
          → All (λ y. y.block ≢ field ws BLOCK e) (map (resident_at ws) es)
      others [] a = tt
      others (x ∷ es) a = (a.0, others es a.1)

  sum_of : (es : List ℕ) → sum (map (resident_at ws) es) ≡ total (map (field ws COUNT) es)
  unfolding resident_at total
  sum_of [] = refl
  sum_of (e ∷ es) = ap (λ n. field ws COUNT e + n) (sum_of es)

  marks_of : (es : List ℕ) → modified_count (map (resident_at ws) es) ≡ total (map (λ e. bit (marks_in (field ws MODIFIED e)).modified) es)
  unfolding resident_at total modified_count
  marks_of [] = refl
  marks_of (e ∷ es) = ap (λ n. bit (marks_in (field ws MODIFIED e)).modified + n) (marks_of es)

  -- seen only where modified
  seen_of : (es : List ℕ) → All (λ e. T (is_modified_word (field ws MODIFIED e))) es → SeenModified (map (resident_at ws) es)
  unfolding resident_at
  seen_of [] a = tt
  seen_of (e ∷ es) a = (word_seen (field ws MODIFIED e) a.0, seen_of es a.1)

  pub sound_kept : (store : List ℕ) → Kept (view ws store)
  unfolding view resident_tests chain_tests
  sound_kept store =
      record {
        some_old = sound_legal.some_old;
        old_fits = old_fits s sound_legal;
        few_chains = sound_legal.few_chains;
        some_average = sound_legal.some_average;
        few = sound_residents.few;
        legal = legal_of (order ws) sound_residents.fit;
        differ = differ (order ws) resident_passes.0;
        seen = seen_of (order ws) (all_yes (λ e. is_modified_word (field ws MODIFIED e)) (order ws) resident_passes.1.1.1.0);
        sums = let h : total (map (field ws COUNT) (order ws)) ≤ s.amax * s.n =
            leb_yes resident_passes.1.1.1.1.1.1.1.1.1.0 in rw (sum_of (order ws)) h;
        ins = leb_yes chain_passes.1.1.1.0;
        outs =
            let h : (totals_in ws).outs + total (map (λ e. bit (marks_in (field ws MODIFIED e)).modified) (order ws)) ≤ (totals_in ws).writes =
            leb_yes chain_passes.1.1.1.1.0 in
            let g = marks_of (order ws) in
            omega arith;
      }
