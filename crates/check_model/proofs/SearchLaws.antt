-- How far the check searches for a second resident, whatever the words are: the entries in front have been tested, so they have different blocks of
-- their bucket, and a bucket has only so many blocks below M.
-- Assumes nothing.
use Prim.Native.Nat.{ℕ, zero, suc, ◌-◌, ◌%◌, ◌≤◌, ◌<◌}
use Rattle.std.specs.Prelude.{◌≡◌, refl, List, [], ◌∷◌, length, T, eqb}
use Rattle.std.proofs.Math.Path.{ap}
use Rattle.std.proofs.Common.{subst, arith, eq-eqb}
use Rattle.basics.specs.Basics.{All}
use Rattle.basics.specs.Lists.{counting}
use Rattle.basics.specs.ListLaws.{counting_at}
use Rattle.links.specs.Off.{Distinct}
use Rattle.links.specs.All.{off_all}
use Rattle.links.specs.Sift.{sift}
use Rattle.words.specs.Words.{val}
use Rattle.fnv.specs.Fnv.{fnv}
use Rattle.settings.specs.Buckets.{buckets}
use Rattle.layout.specs.Addresses.{CACHE-BLOCKS, NEW-BLOCKS, OLD-BLOCKS, CHAIN-LIMIT, STORE-BLOCKS, RESIDENTS, HEAD, TAIL, UNUSED, BLOCK, NEXT-SYNONYM}
use Rattle.check_model.specs.SearchLaws.{bucket_blocks}
use Rattle.check_model.specs.Turns.{moved}
use Rattle.check_model.specs.LoopLaws.{moved_last}
use Rattle.check_model.specs.Tests.{stack_ok, unused_ok, fields_ok, nth_listed, Tested}
use Rattle.check_model.specs.Bools.{to_T}
use Rattle.check_model.specs.Along.{fw}
use Rattle.check_model.specs.Membership.{all_at, fits}
use Rattle.check_model.specs.Members.{In, Inside, sift_in}
use Rattle.check_model.specs.Stack.{Lists, test_lists}
use Rattle.check_model.specs.Fields.{Good, fields_read}
use Rattle.check_model.specs.Buckets.{Behind, behind_none, behind_next, test_read}
use Rattle.check_model.specs.Listing.{firsts, counted_resident}
use Rattle.check_model.specs.Decides.{fields_are, counts}

in_bucket : (nb b m v : ℕ) → v < m → fnv v % nb ≡ b → In v (bucket_blocks nb b m)
unfolding bucket_blocks
in_bucket nb b m v u e =
    sift_in (λ v. eqb (fnv v % nb) b) _ v (eq-eqb (fnv v % nb) b e)
    (λ o. counting_at (λ x. ¬ (v ≡ x)) 0 _ (off_all v _ o) v (omega arith) (omega arith) refl)

module _ (w : List ℕ) (small : val w CHAIN-LIMIT ≤ 64) where
  abbrev n : ℕ
  n = val w CACHE-BLOCKS

  abbrev nb : ℕ
  nb = buckets (val w CACHE-BLOCKS)

  module _ (l : Lists w) (good : All (Good (fw w) (val w STORE-BLOCKS)) l.xs) where
    -- the blocks of the entries in front, the last one first
    record Front (b ahead : ℕ) : Type 0 where
      pub bs : List ℕ
      pub behind : Behind (fw w) n nb (firsts w) b ahead (nth_listed (fw w) (firsts w) b ahead) bs
      pub many : length bs ≡ ahead
      pub once : Distinct bs
      pub inside : Inside bs (bucket_blocks nb b (val w STORE-BLOCKS))

    front : (b ahead : ℕ) → Tested (fw w) (firsts w) n nb b ahead → Front b ahead
    unfolding moved
    front b zero t = record { bs = []; behind = behind_none (fw w) n nb (firsts w) b; many = refl; once = tt; inside = tt }
    front b (suc ahead) t =
        let s = front b ahead (λ i u. t i (omega arith)) in
        let e : ℕ = nth_listed (fw w) (firsts w) b ahead in
        let h = t ahead (omega arith) in
        let p = test_read (fw w) n nb (firsts w) b ahead e (to_T _ h.1) in
        let r : In e l.xs = counted_resident w l (counts w small l.xs good) e h.0 p.0.low p.0.count in
        let below : fw w BLOCK e < val w STORE-BLOCKS = (all_at (Good (fw w) (val w STORE-BLOCKS)) l.xs e good r).block in
        record {
          bs = fw w BLOCK e ∷ s.bs;
          behind = rw (moved_last (fw w NEXT-SYNONYM) ahead (firsts w b)) (behind_next (fw w) n nb (firsts w) b ahead e s.bs s.behind);
          many = ap suc s.many;
          once = (s.behind.apart (fw w BLOCK e) p.1, s.once);
          inside = (in_bucket nb b (val w STORE-BLOCKS) (fw w BLOCK e) below p.0.place, s.inside);
        }

  -- The check tests the settings, stack, unused list and residents' numbers before the buckets, and an entry behind those in front. Then no more
  -- are in front than the bucket has blocks, and so far the search goes at most.
  pub search_short : val w RESIDENTS ≤ n
      → T (stack_ok (fw w) n (val w RESIDENTS) (val w HEAD) (val w TAIL))
      → T (unused_ok (fw w) n (n - val w RESIDENTS) (val w UNUSED))
      → T (fields_ok (fw w) (val w STORE-BLOCKS) (val w NEW-BLOCKS) (n - val w OLD-BLOCKS) (val w RESIDENTS) (val w HEAD))
      → (b ahead : ℕ) → Tested (fw w) (firsts w) n nb b ahead → ahead ≤ length (bucket_blocks nb b (val w STORE-BLOCKS))
  search_short fit stack unused fields b ahead t =
      let l : Lists w = test_lists w fit stack unused in
      let on = subst T (fields_are w small l) fields in
      let good = (fields_read (fw w) (val w STORE-BLOCKS) (val w NEW-BLOCKS) (n - val w OLD-BLOCKS) l.xs 0 on).0 in
      let s = front l good b ahead t in
      omega (arith, s.many, fits s.bs (bucket_blocks nb b (val w STORE-BLOCKS)) s.once s.inside)
