-- The buckets of a directory: the check, the facts and the definition.
-- Assumes nothing.
use Rattle.std.specs.Prelude.{ℕ, zero, suc, ◌+◌, ◌*◌, ◌%◌, ◌≤◌, ◌<◌, ◌≡◌, refl, true, List, ◌++◌, map, length, T, eqb}
use Rattle.std.proofs.Common.{◌∙◌, sym, ap, arith, mod-lt, eqb-true}
use Rattle.basics.specs.Basics.{All}
use Rattle.basics.specs.Lists.{all, those, counting, same_members}
use Rattle.basics.specs.ListLaws.{all_yes, yes_all, counting_all, counting_at}
use Rattle.basics.specs.AllLaws.{all_map}
use Rattle.links.specs.Off.{Off, Distinct, off_join}
use Rattle.links.specs.Run.{Run}
use Rattle.links.proofs.Sll.{run_distinct}
use Rattle.words.specs.Words.{val}
use Rattle.fnv.specs.Fnv.{fnv}
use Rattle.settings.specs.Buckets.{buckets}
use Rattle.settings.specs.BucketLaws.{buckets_some}
use Rattle.layout.specs.Addresses.{CACHE-BLOCKS, CHAIN-LIMIT, RESIDENTS, BLOCK, COUNT, NEXT-SYNONYM, bucket_of}
use Rattle.layout.specs.Sound.{field, along, walk, order, settings_in, bucket_right}
use Rattle.check_model.specs.Tests.{first_of, buckets_from}
use Rattle.check_model.specs.Along.{fw, field_is, along_run, along_off, along_is}
use Rattle.check_model.specs.Membership.{all_of, all_at, all_some, all_below}
use Rattle.check_model.specs.Members.{In, Inside, inside_of, inside_at, in_sift, sifted, one_value, map_distinct}
use Rattle.check_model.specs.Stack.{Lists, lists_dll, lists_fit, order_is, everywhere, apart_off}
use Rattle.check_model.specs.Chains.{those_sift, sift_length}
use Rattle.check_model.specs.Buckets.{Entry, Bucket, joined, buckets_read, buckets_write}
use Rattle.check_model.specs.Spread.{joins, own, members_same, all_listed, listed_own, own_many, blocks_differ}

module _ (w : List ℕ) where
  abbrev pub firsts : ℕ → ℕ
  firsts = first_of w (24 + 2 * val w CHAIN-LIMIT)

  abbrev pub nb : ℕ
  nb = buckets (val w CACHE-BLOCKS)

  abbrev pub place : ℕ → ℕ
  place x = fnv (fw w BLOCK x) % buckets (val w CACHE-BLOCKS)

  pub below : (x : ℕ) → place x < nb
  below x = mod-lt (fnv (fw w BLOCK x)) (buckets_some (val w CACHE-BLOCKS))

  abbrev pub lists : ℕ → List ℕ
  lists b = along w NEXT-SYNONYM (suc (val w CACHE-BLOCKS)) (firsts b)

  pub joined_is : (k b : ℕ) → joined (fw w) (val w CACHE-BLOCKS) nb firsts lists k b ≡ joins place nb below lists k b
  joined_is zero b = refl
  joined_is (suc k) b = ap (λ l. lists b ++ l) (joined_is k (b + 1))

  bucket_is : (x : ℕ) → ¬ (x ≡ 0) → bucket_of (settings_in w) (field w BLOCK x) ≡ place x
  unfolding bucket_of settings_in
  bucket_is x z = rw (field_is w 0 x z)

  place_is : (j x : ℕ) → ¬ (x ≡ 0) → eqb (bucket_of (settings_in w) (field w BLOCK x)) j ≡ eqb (place x) j
  place_is j x z = rw (bucket_is x z)

  pub canon : (b : ℕ) (ys : List ℕ) → Run (fw w NEXT-SYNONYM) (firsts b) ys 0 → Off 0 ys → length ys ≤ val w CACHE-BLOCKS → lists b ≡ ys
  canon b ys r o l = along_run w 8 (suc (val w CACHE-BLOCKS)) ys (firsts b) r o (omega arith)

  module _ (l : Lists w) (c : All (λ e. 1 ≤ fw w COUNT e) l.xs) where
    -- an entry with a count is a resident's
    pub counted_resident : (x : ℕ) → ¬ (x ≡ 0) → x ≤ val w CACHE-BLOCKS → 1 ≤ fw w COUNT x → In x l.xs
    counted_resident x z low count o = everywhere w l c x z low (off_join x l.xs l.us o (apart_off w x l.us count l.blank))

    own_is : (j : ℕ) → those (λ e. eqb (bucket_of (settings_in w) (field w BLOCK e)) j) (order w) ≡ own place nb below lists j l.xs
    own_is j =
        rw (order_is w l) (those_sift w (λ e. eqb (bucket_of (settings_in w) (field w BLOCK e)) j) (λ x. eqb (place x) j) l.xs l.some
        (place_is j))

    pub bucket_sound : (j : ℕ) → T (same_members (lists j) (own place nb below lists j l.xs)) → T (bucket_right w j)
    unfolding bucket_right walk settings_in first_of
    bucket_sound j h = rw (own_is j) h

    sound_bucket : (j : ℕ) → T (bucket_right w j) → T (same_members (lists j) (own place nb below lists j l.xs))
    unfolding bucket_right walk settings_in first_of
    sound_bucket j h = rw (own_is j) at h

    module _ (g : (j : ℕ) → j < nb → Bucket (fw w) (val w CACHE-BLOCKS) nb j (firsts j) (lists j))
        (full : length (joined (fw w) (val w CACHE-BLOCKS) nb firsts lists nb 0) ≡ val w RESIDENTS) where
      home : (j : ℕ) → j < nb → All (λ x. place x ≡ j) (lists j)
      home j u = all_map (Entry (fw w) (val w CACHE-BLOCKS) nb j) (λ x. place x ≡ j) (lists j) (λ x e. e.place) (g j u).each

      once : (j : ℕ) → j < nb → Distinct (lists j)
      once j u = run_distinct (fw w NEXT-SYNONYM) (firsts j) (lists j) (g j u).fwd (g j u).some

      within : (j : ℕ) → j < nb → Inside (lists j) l.xs
      within j u =
          all_some (Entry (fw w) (val w CACHE-BLOCKS) nb j) (λ x. In x l.xs) (lists j) (g j u).some
          (λ x z e. counted_resident x z e.low e.count) (g j u).each

      many : length (joins place nb below lists nb 0) ≡ length l.xs
      many = ap length (sym (joined_is nb 0)) ∙ full ∙ sym l.many

      -- each resident is on the list of its place, and no two have one block
      pub bucket_every : (x : ℕ) → In x l.xs → In x (lists (place x))
      bucket_every = all_listed place nb below lists home once l.xs (lists_dll w l).once within many

      pub bucket_own : (j : ℕ) → j < nb → T (same_members (lists j) (own place nb below lists j l.xs))
      bucket_own = listed_own place nb below lists home once l.xs (lists_dll w l).once within many

      pub blocks_once : Distinct (map (fw w BLOCK) l.xs)
      blocks_once =
          blocks_differ place nb below lists home once l.xs (lists_dll w l).once within (fw w BLOCK) (λ x y e. ap (λ b. fnv b % nb) e)
          (λ j u. (g j u).blocks) many

    pub buckets_sound : T (buckets_from (fw w) firsts (val w CACHE-BLOCKS) nb nb 0 (val w RESIDENTS))
        → T (all (bucket_right w) (counting 0 nb)) × Distinct (map (fw w BLOCK) l.xs)
    buckets_sound h =
        let p = buckets_read (fw w) (val w CACHE-BLOCKS) nb firsts lists (val w CACHE-BLOCKS) canon nb 0 (val w RESIDENTS) (lists_fit w l) h in
        let g : (j : ℕ) → j < nb → Bucket (fw w) (val w CACHE-BLOCKS) nb j (firsts j) (lists j) = λ j u. p.0 j (omega arith) (omega arith) in (
          yes_all (bucket_right w) (counting 0 nb) (counting_all (λ j. T (bucket_right w j)) 0 nb
              (λ j a u. bucket_sound j (bucket_own g p.1 j (omega arith)))),
          blocks_once g p.1,
        )

    pub sound_buckets : Distinct (map (fw w BLOCK) l.xs) → T (all (bucket_right w) (counting 0 nb))
        → T (buckets_from (fw w) firsts (val w CACHE-BLOCKS) nb nb 0 (val w RESIDENTS))
    sound_buckets d h =
        let dx : Distinct l.xs = (lists_dll w l).once in
        let s : (j : ℕ) → j < nb → T (same_members (lists j) (own place nb below lists j l.xs)) =
        λ j u. sound_bucket j (counting_at (λ j. T (bucket_right w j)) 0 nb (all_yes (bucket_right w) (counting 0 nb) h) j (omega arith)
        (omega arith)) in
        let m : (j : ℕ) → j < nb → (length (lists j) ≡ length (own place nb below lists j l.xs)) × Inside (lists j)
        (own place nb below lists j l.xs) = λ j u. members_same (lists j) (own place nb below lists j l.xs) (s j u) in
        let short : (j : ℕ) → j < nb → length (lists j) ≤ val w CACHE-BLOCKS =
        λ j u. omega (arith, (m j u).0, sift_length (λ x. eqb (place x) j) l.xs, l.both) in
        let fwd : (j : ℕ) → j < nb → Run (fw w NEXT-SYNONYM) (firsts j) (lists j) 0 =
        λ j u. along_is w 8 (suc (val w CACHE-BLOCKS)) (firsts j) (omega (arith, short j u)) in
        let some : (j : ℕ) → Off 0 (lists j) = λ j. along_off w 8 (suc (val w CACHE-BLOCKS)) (firsts j) in
        let once : (j : ℕ) → j < nb → Distinct (lists j) = λ j u. run_distinct (fw w NEXT-SYNONYM) (firsts j) (lists j) (fwd j u) (some j) in
        let home : (j : ℕ) → j < nb → All (λ x. place x ≡ j) (lists j) = λ j u. all_of (λ x. place x ≡ j) (lists j)
        (λ x i. eqb-true (place x) j (all_at (λ x. eqb (place x) j ≡ true) (own place nb below lists j l.xs) x
        (sifted (λ x. eqb (place x) j) l.xs) (inside_at (lists j) (own place nb below lists j l.xs) (m j u).1 x i))) in
        let within : (j : ℕ) → j < nb → Inside (lists j) l.xs = λ j u. inside_of (lists j) l.xs
        (λ x i. in_sift (λ x. eqb (place x) j) l.xs x (inside_at (lists j) (own place nb below lists j l.xs) (m j u).1 x i)) in
        let many : length (joins place nb below lists nb 0) ≡ length l.xs =
        own_many place nb below lists home once l.xs dx within (λ j u. (m j u).0) in
        buckets_write (fw w) (val w CACHE-BLOCKS) nb firsts lists (val w CACHE-BLOCKS) canon nb 0 (val w RESIDENTS)
        (λ j a u. let v : j < nb = omega arith in record {
          fwd = fwd j v;
          some = some j;
          each = all_of (Entry (fw w) (val w CACHE-BLOCKS) nb j) (lists j) (λ x i.
              let k : In x l.xs = inside_at (lists j) l.xs (within j v) x i in
              record {
                low = lower (all_at (λ x. x < suc (val w CACHE-BLOCKS)) l.xs x (all_below (suc (val w CACHE-BLOCKS)) l.xs l.low) k);
                count = all_at (λ e. 1 ≤ fw w COUNT e) l.xs x c k;
                place = all_at (λ x. place x ≡ j) (lists j) x (home j v) i;
              });
          blocks =
              map_distinct (fw w BLOCK) (lists j) (once j v)
              (λ x y i k q. one_value (fw w BLOCK) l.xs d x y (inside_at (lists j) l.xs (within j v) x i)
              (inside_at (lists j) l.xs (within j v) y k) q);
        })
        (ap length (joined_is nb 0) ∙ many ∙ l.many)
      where
        lower : {x : ℕ} → x < suc (val w CACHE-BLOCKS) → x ≤ val w CACHE-BLOCKS
        lower h = omega arith
