-- The working form makes the directory sound.
-- Assumes nothing.
use Prim.Native.Nat.{ℕ, zero, suc, ◌+◌, ◌-◌, ◌*◌, ◌%◌, ◌≤◌, ◌<◌}
use Rattle.std.specs.Prelude.{◌≡◌, Bool, true, false, List, [], ◌∷◌, map, length, get_or, T, eqb}
use Rattle.std.proofs.Math.Path.{refl}
use Rattle.std.proofs.Common.{◌∙◌, sym, ap, eq-eqb, eqb-true}
use native.Mathlib.Omega.{arith}
use Rattle.std.proofs.Math.Facts.{yes_eqb}
use Rattle.basics.specs.Basics.{All, total}
use Rattle.basics.specs.AllLaws.{all_map}
use Rattle.basics.specs.Lists.{counting}
use Rattle.basics.specs.ListLaws.{yes_all, counting_all}
use Rattle.links.specs.Off.{Off, Distinct, Same, off_join}
use Rattle.links.specs.Run.{Run, run_same, back_same}
use Rattle.links.specs.Ring.{Dll}
use Rattle.links.proofs.Sll.{run_distinct}
use Rattle.links.specs.Sift.{sift, put, off_sift, distinct_sift}
use Rattle.links.proofs.Chains.{keyed, chain, chain_sift}
use Rattle.links.specs.Find.{Below, few}
use Rattle.words.specs.Words.{val}
use Rattle.fnv.specs.Fnv.{fnv}
use Rattle.settings.specs.NumbersLaws.{LegalSettings, number_zero}
use Rattle.settings.specs.Buckets.{buckets}
use Rattle.layout.specs.Addresses.{CACHE-BLOCKS, NEW-BLOCKS, OLD-BLOCKS, CHAIN-LIMIT, AVERAGE-LIMIT, BLOCK-SIZE, STORE-BLOCKS, RESIDENTS, SUM, HEAD, TAIL, UNUSED, BLOCK, COUNT, SECTION, MODIFIED, TO-HEAD, TO-TAIL, CHAIN-TO-HEAD, CHAIN-TO-TAIL, NEXT-SYNONYM, chain_head, chain_tail}
use Rattle.layout.specs.Sound.{order, unused_entries, total_at, field, settings_in, bucket_right, sound}
use Rattle.check_model.specs.Tests.{fld, head_of, tail_of, first_of, total_of, section_at, buckets_from}
use Rattle.check_model.specs.Runs.{zeros, Zeros}
use Rattle.check_model.specs.Along.{fw, field_is}
use Rattle.check_model.specs.Membership.{all_at, below_all}
use Rattle.check_model.specs.Members.{In, inside_of, in_sift, sift_in, sifted, map_distinct}
use Rattle.check_model.specs.Stack.{Lists, lists_dll, lists_fit, everywhere, order_is, unused_is}
use Rattle.check_model.specs.Fields.{Good, Sections, Numbers, map_field}
use Rattle.check_model.specs.Chains.{Chained}
use Rattle.check_model.specs.Buckets.{buckets_read}
use Rattle.check_model.specs.Spread.{own, same_members_lem}
use Rattle.check_model.specs.Listing.{firsts, lists, canon, place, below, bucket_sound, sound_buckets}
use Rattle.check_model.specs.Facts.{Facts, legal, facts_sound}
use Rattle.linkage.specs.Fields.{Fields, entry, ends, header, View, view_get, CHAIN-HEADS, CHAIN-TAILS, BUCKET-HEADS, in_header}
use Rattle.linkage.specs.WellLinked.{Sum, Bucket, WellLinked}
use Rattle.linkage.specs.WordFields.{given, shape, of_view}
use Rattle.linkage.specs.FromSound.{sum_list, map_same, section_mark}
use Rattle.linkage.specs.Fields as addresses
use Rattle.linkage.specs.WellLinked as form

-- What the working form leaves out.
pub record Limits (w : List ℕ) : Type 0 where
  pub some_average : 1 ≤ val w AVERAGE-LIMIT
  pub few_average : val w AVERAGE-LIMIT ≤ 1000
  pub some_bytes : 1 ≤ val w BLOCK-SIZE
  pub few_bytes : val w BLOCK-SIZE ≤ 4096
  pub some_stored : 1 ≤ val w STORE-BLOCKS
  pub few_counted : val w SUM ≤ val w AVERAGE-LIMIT * val w CACHE-BLOCKS

sift_same_keys : (f g : ℕ → ℕ) (i : ℕ) (xs : List ℕ) → Same f g xs → sift (keyed f i) xs ≡ sift (keyed g i) xs
sift_same_keys f g i [] s = refl
sift_same_keys f g i (x ∷ xs) s = rw s.0 (ap (put (eqb (g x) i) x) (sift_same_keys f g i xs s.1))

sections_from : (f : ℕ → ℕ → ℕ) (new mid p : ℕ) (xs : List ℕ) → ((i : ℕ) → i < length xs → f SECTION (get_or xs i 0) ≡ section_at new mid (p + i))
    → Sections f new mid p xs
sections_from f new mid p [] h = tt
sections_from f new mid p (x ∷ xs) h = (
  h 0 (omega arith) ∙ ap (section_at new mid) (omega arith),
  sections_from f new mid (p + 1) xs
      (λ i l. h (suc i) (omega arith) ∙ ap (section_at new mid) (omega arith)),
)

all_sift_of : (P : ℕ → Type 0) (g : ℕ → Bool) (xs : List ℕ) → All P xs → All P (sift g xs)
all_sift_of P g [] h = tt
all_sift_of P g (x ∷ xs) h = go (g x) (all_sift_of P g xs h.1)
  where
    go : (t : Bool) → All P (sift g xs) → All P (put t x (sift g xs))
    go true r = (h.0, r)
    go false r = r

module _ (w : List ℕ) (D : Fields) (xs ys : List ℕ) (v : View (shape w) w D) (h : WellLinked (shape w) D xs ys) (t : Limits w) where
  abbrev N : ℕ
  N = val w CACHE-BLOCKS

  at : (j e : ℕ) → j < 9 → 1 ≤ e → e ≤ N → fw w j e ≡ D j e
  unfolding fld
  at j e a b c = view_get (shape w) w D v j e (15 + 2 * val w CHAIN-LIMIT + buckets (val w CACHE-BLOCKS) + 9 * e + j) (entry a b c refl)

  head_word : (i : ℕ) → i < 24 → ¬ (i ≡ 9) → ¬ (i ≡ 10) → val w i ≡ D (20 + i) 0
  head_word i a b c = view_get (shape w) w D v (20 + i) 0 i (header refl refl a b c)

  head_is : val w HEAD ≡ D TO-TAIL 0
  head_is = view_get (shape w) w D v 5 0 9 (ends refl refl (omega arith) (omega arith))

  tail_is : val w TAIL ≡ D TO-HEAD 0
  tail_is = view_get (shape w) w D v 4 0 10 (ends refl refl (omega arith) (omega arith))

  same_at : (j : ℕ) (l : List ℕ) → j < 9 → Off 0 l → All (λ x. x ≤ N) l → Same (D j) (fw w j) l
  same_at j [] a o b = tt
  same_at j (x ∷ l) a o b =
      let z : ¬ (0 ≡ x) = o.0 in
      (sym (at j x a (omega arith) b.0), same_at j l a o.1 b.1)

  ox : Off 0 xs
  ox = h.stack.ring.some

  oy : Off 0 ys
  oy = h.stack.free.some

  bx : All (λ x. x ≤ N) xs
  bx = h.stack.bound

  by : All (λ x. x ≤ N) ys
  by = all_map (λ y. (y ≤ N) × (D TO-HEAD y ≡ 0) × (D SECTION y ≡ 0)) (λ y. y ≤ N) ys (λ y q. q.0) h.stack.idle

  blank_one : (y : ℕ) → ¬ (0 ≡ y) → (y ≤ N) × (D TO-HEAD y ≡ 0) × (D SECTION y ≡ 0) → D COUNT y ≡ 0
      → (D CHAIN-TO-HEAD y ≡ 0) × (D CHAIN-TO-TAIL y ≡ 0) → zeros (fw w) y ≡ 0
  blank_one y z a b c =
      let o : 1 ≤ y = omega arith in
      let d = h.hash.idle y (o, a.0) b in
      omega (
        arith,
        at 0 y (omega arith) o a.0,
        at 1 y (omega arith) o a.0,
        at 2 y (omega arith) o a.0,
        at 3 y (omega arith) o a.0,
        at 4 y
            (omega arith) o a.0,
        at 6 y (omega arith) o a.0,
        at 7 y (omega arith) o a.0,
        at 8 y (omega arith) o a.0,
        d.0,
        d.1,
        a.1,
        a.2,
        b,
        c.0,
        c.1,
        h.flags.idle y (o, a.0) b,
      )

  blanks : (l : List ℕ) → Off 0 l → All (λ y. (y ≤ N) × (D TO-HEAD y ≡ 0) × (D SECTION y ≡ 0)) l → All (λ y. D COUNT y ≡ 0) l
      → All (λ y. (D CHAIN-TO-HEAD y ≡ 0) × (D CHAIN-TO-TAIL y ≡ 0)) l → Zeros (fw w) l
  blanks [] o a b c = tt
  blanks (y ∷ l) o a b c = (blank_one y o.0 a.0 b.0 c.0, blanks l o.1 a.1 b.1 c.1)

  lower : (l : List ℕ) → All (λ x. x ≤ N) l → Below (suc N) l
  lower l b = below_all (suc N) l (all_map (λ x. x ≤ N) (λ x. x < suc N) l (λ x q. omega arith) b)

  abbrev listing : Lists w
  listing =
      record {
        xs = xs;
        us = ys;
        fwd = rw head_is (run_same (D TO-TAIL) (fw w TO-TAIL) (D TO-TAIL 0) xs 0 (same_at 5 xs (omega arith) ox bx) h.stack.ring.fwd);
        bwd = rw tail_is (back_same (D TO-HEAD) (fw w TO-HEAD) 0 xs (D TO-HEAD 0) (same_at 4 xs (omega arith) ox bx) h.stack.ring.bwd);
        some = ox;
        many = h.stack.full ∙ sym (head_word 7 (omega arith) (omega arith) (omega arith));
        low = lower xs bx;
        spare =
            rw (head_word 13 (omega arith) (omega arith) (omega arith))
            (run_same (D TO-TAIL) (fw w TO-TAIL) (D (in_header UNUSED) 0) ys 0 (same_at 5 ys (omega arith) oy by) h.stack.free.fwd);
        spare_some = oy;
        both = h.stack.whole;
        spare_low = lower ys by;
        blank = blanks ys oy h.stack.idle h.count.idle h.chain.idle;
      }

  good_one : (x : ℕ) → ¬ (0 ≡ x) → x ≤ N → (1 ≤ D COUNT x) × (D COUNT x ≤ 65535) → Good (fw w) (val w STORE-BLOCKS) x
  good_one x z b c =
      let o : 1 ≤ x = omega arith in
      record {
        block = rw (at 0 x (omega arith) o b) (h.hash.range x (o, b) c.0);
        count = rw (at 1 x (omega arith) o b) c.0;
        most = rw (at 1 x (omega arith) o b) c.1;
        mark = rw (at 3 x (omega arith) o b) (h.flags.bits x (o, b));
      }

  goods : (l : List ℕ) → Off 0 l → All (λ x. x ≤ N) l → All (λ x. (1 ≤ D COUNT x) × (D COUNT x ≤ 65535)) l → All (Good (fw w) (val w STORE-BLOCKS)) l
  goods [] o b c = tt
  goods (x ∷ l) o b c = (good_one x o.0 b.0 c.0, goods l o.1 b.1 c.1)

  good : All (Good (fw w) (val w STORE-BLOCKS)) xs
  good = goods xs ox bx h.count.used

  counted : All (λ e. 1 ≤ fw w COUNT e) xs
  counted = all_map (Good (fw w) (val w STORE-BLOCKS)) (λ e. 1 ≤ fw w COUNT e) xs (λ x q. q.count) good

  entry_at : (l : List ℕ) (i : ℕ) → Off 0 l → All (λ x. x ≤ N) l → i < length l → (1 ≤ get_or l i 0) × (get_or l i 0 ≤ N)
  entry_at [] i o b u = absurd (omega arith)
  entry_at (x ∷ l) zero o b u = let z : ¬ (0 ≡ x) = o.0 in (omega arith, b.0)
  entry_at (x ∷ l) (suc i) o b u = entry_at l i o.1 b.1 (omega arith)

  sections : Sections (fw w) (val w NEW-BLOCKS) (val w CACHE-BLOCKS - val w OLD-BLOCKS) 0 xs
  sections =
      sections_from (fw w) (val w NEW-BLOCKS) (val w CACHE-BLOCKS - val w OLD-BLOCKS) 0 xs
      (λ i u. let e = entry_at xs i ox bx u in
      at 2 (get_or xs i 0) (omega arith) e.0 e.1 ∙ h.stack.sections i u
      ∙ sym (section_mark (val w NEW-BLOCKS) (val w CACHE-BLOCKS - val w OLD-BLOCKS) i h.legal.order)
      ∙ ap (section_at (val w NEW-BLOCKS) (val w CACHE-BLOCKS - val w OLD-BLOCKS)) (omega arith))

  -- an entry off the stack is unused
  unused_at : (x : ℕ) → 1 ≤ x → x ≤ N → Off x xs → In x ys
  unused_at x a b o q = everywhere w listing counted x (λ c. omega arith) b (off_join x xs ys o q)

  sum_of : (k : ℕ → ℕ) (j : ℕ) → j < 9 → ((x : ℕ) → 1 ≤ x → x ≤ N → Off x xs → k (D j x) ≡ 0)
      → total (map (λ x. k (field w j x)) xs) ≡ Sum N (λ x. k (D j x))
  sum_of k j a none =
      rw (map_field w k j xs ox, ← map_same k (D j) (fw w j) xs (same_at j xs a ox bx))
      (sym (sum_list N xs (λ x. k (D j x)) (lists_dll w listing).once ox (lower xs bx) none))

  count_none : (x : ℕ) → 1 ≤ x → x ≤ N → Off x xs → D COUNT x ≡ 0
  count_none x a b o = all_at (λ y. D COUNT y ≡ 0) ys x h.count.idle (unused_at x a b o)

  numbers : Numbers w xs listing.fwd listing.many ox
  numbers =
      let s : val w SUM ≡ total (map (field w COUNT) xs) =
      head_word 8 (omega arith) (omega arith) (omega arith) ∙ h.count.sum ∙ sym (sum_of (λ n. n) 1 (omega arith) count_none) in
      record {
        sum = s;
        average = rw (← s) t.few_counted;
        new = head_word 11 (omega arith) (omega arith) (omega arith) ∙ h.stack.young;
        old = head_word 12 (omega arith) (omega arith) (omega arith) ∙ h.stack.elder;
        none = head_word 14 (omega arith) (omega arith) (omega arith) ∙ h.settled.blank14;
        none' = head_word 15 (omega arith) (omega arith) (omega arith) ∙ h.settled.blank15;
      }

  chained : (i : ℕ) → 1 ≤ i → i ≤ val w CHAIN-LIMIT → Chained (fw w) (head_of w i) (tail_of w i) xs i
  unfolding head_of tail_of
  chained i a b =
      let k : chain (D COUNT) i xs ≡ sift (keyed (fw w COUNT) i) xs = chain_sift (D COUNT) i xs
      ∙ sift_same_keys (D COUNT) (fw w COUNT) i xs (same_at 1 xs (omega arith) ox bx) in
      let d : Dll (D CHAIN-TO-TAIL) (D CHAIN-TO-HEAD) (D CHAIN-HEADS i) (D CHAIN-TAILS i) (sift (keyed (fw w COUNT) i) xs) =
      rw k at (h.chain.chains i (a, b)) in
      let o : Off 0 (sift (keyed (fw w COUNT) i) xs) = off_sift (keyed (fw w COUNT) i) 0 xs ox in
      let c : All (λ x. x ≤ N) (sift (keyed (fw w COUNT) i) xs) = all_sift_of (λ x. x ≤ N) (keyed (fw w COUNT) i) xs bx in
      let h1 : val w (chain_head i) ≡ D CHAIN-HEADS i = view_get (shape w) w D v 10 i (22 + 2 * i)
      (addresses.chain (omega arith) (omega arith) a b (omega arith)) in
      let h2 : val w (chain_tail i) ≡ D CHAIN-TAILS i = view_get (shape w) w D v 11 i (23 + 2 * i)
      (addresses.chain (omega arith) (omega arith) a b (omega arith)) in
      record {
        fwd =
            rw h1 (run_same (D CHAIN-TO-TAIL) (fw w CHAIN-TO-TAIL) (D CHAIN-HEADS i) (sift (keyed (fw w COUNT) i) xs) 0
            (same_at 7 (sift (keyed (fw w COUNT) i) xs) (omega arith) o c) d.fwd);
        bwd =
            rw h2 (back_same (D CHAIN-TO-HEAD) (fw w CHAIN-TO-HEAD) 0 (sift (keyed (fw w COUNT) i) xs) (D CHAIN-TAILS i)
            (same_at 6 (sift (keyed (fw w COUNT) i) xs) (omega arith) o c) d.bwd);
      }

  looses : (l : List ℕ) → Off 0 l → All (λ x. x ≤ N) l → All (λ x. val w CHAIN-LIMIT < D COUNT x → (D CHAIN-TO-HEAD x ≡ 0) × (D CHAIN-TO-TAIL x ≡ 0))
      l → All (λ e. val w CHAIN-LIMIT < fw w COUNT e → (fw w CHAIN-TO-HEAD e ≡ 0) × (fw w CHAIN-TO-TAIL e ≡ 0)) l
  looses [] o b q = tt
  looses (x ∷ l) o b q =
      let z : ¬ (0 ≡ x) = o.0 in
      let u : 1 ≤ x = omega arith in
      (rw (at 1 x (omega arith) u b.0, at 6 x (omega arith) u b.0, at 7 x (omega arith) u b.0) q.0, looses l o.1 b.1 q.1)

  -- ---- buckets

  resident : (x : ℕ) → 1 ≤ x → x ≤ N → 1 ≤ D COUNT x → In x xs
  resident x a b c o = omega (arith, count_none x a b o)

  module _ (j : ℕ) (u : j < buckets (val w CACHE-BLOCKS)) where
    k : Bucket (shape w) (D COUNT) (D BLOCK) (D NEXT-SYNONYM) (D BUCKET-HEADS j) j
    k = h.hash.buckets j u

    abbrev zs : List ℕ
    zs = (h.hash.buckets j u).list

    oz : Off 0 zs
    oz = (h.hash.buckets j u).links.some

    bz : All (λ x. x ≤ N) zs
    bz =
        all_map (λ z. (z ≤ N) × (1 ≤ D COUNT z) × (fnv (D BLOCK z) % buckets (val w CACHE-BLOCKS) ≡ j)) (λ x. x ≤ N) zs (λ x q. q.0)
        (h.hash.buckets j u).its

    dz : Distinct zs
    dz = run_distinct (D NEXT-SYNONYM) (D BUCKET-HEADS j) zs (h.hash.buckets j u).links.fwd oz

    first_is : firsts w j ≡ D BUCKET-HEADS j
    unfolding first_of
    first_is = view_get (shape w) w D v 12 j (24 + 2 * val w CHAIN-LIMIT + j) (addresses.bucket refl u refl)

    run_z : Run (fw w NEXT-SYNONYM) (firsts w j) zs 0
    run_z =
        rw first_is (run_same (D NEXT-SYNONYM) (fw w NEXT-SYNONYM) (D BUCKET-HEADS j) zs 0 (same_at 8 zs (omega arith) oz bz)
        (h.hash.buckets j u).links.fwd)

    short : length zs ≤ N
    short = omega (arith, few (suc N) (0 ∷ zs) (omega arith, lower zs bz) (oz, dz))

    lists_are : lists w j ≡ zs
    lists_are = canon w j zs run_z oz short

    place_of : (x : ℕ) → 1 ≤ x → x ≤ N → place w x ≡ fnv (D BLOCK x) % buckets (val w CACHE-BLOCKS)
    place_of x a b = ap (λ n. fnv n % buckets (val w CACHE-BLOCKS)) (at 0 x (omega arith) a b)

    its_at : (x : ℕ) → In x zs → (1 ≤ x) × (x ≤ N) × (1 ≤ D COUNT x) × (fnv (D BLOCK x) % buckets (val w CACHE-BLOCKS) ≡ j)
    its_at x i =
        let q = all_at (λ z. (z ≤ N) × (1 ≤ D COUNT z) × (fnv (D BLOCK z) % buckets (val w CACHE-BLOCKS) ≡ j)) zs x (h.hash.buckets j u).its i in
        let z : ¬ (x ≡ 0) = λ e. i (rw e oz) in
        (omega arith, q.0, q.1, q.2)

    entry_of : (x : ℕ) → In x xs → (1 ≤ x) × (x ≤ N)
    entry_of x i =
        let z : ¬ (x ≡ 0) = λ e. i (rw e ox) in
        (omega arith, all_at (λ x. x ≤ N) xs x bx i)

    bucket_one : T (bucket_right w j)
    bucket_one =
        bucket_sound w listing counted j (rw lists_are
        (same_members_lem zs (own (place w) (buckets (val w CACHE-BLOCKS)) (below w) (lists w) j xs) dz
        (distinct_sift (λ x. eqb (place w x) j) xs (lists_dll w listing).once)
        (inside_of zs (own (place w) (buckets (val w CACHE-BLOCKS)) (below w) (lists w) j xs) (λ x i. let q = its_at x i in
        sift_in (λ x. eqb (place w x) j) xs x (eq-eqb (place w x) j (place_of x q.0 q.1 ∙ q.3)) (resident x q.0 q.1 q.2)))
        (inside_of (own (place w) (buckets (val w CACHE-BLOCKS)) (below w) (lists w) j xs) zs (λ x i.
        let e : place w x ≡ j = eqb-true (place w x) j (all_at (λ x. eqb (place w x) j ≡ true)
        (own (place w) (buckets (val w CACHE-BLOCKS)) (below w) (lists w) j xs) x (sifted (λ x. eqb (place w x) j) xs) i) in
        let m : In x xs = in_sift (λ x. eqb (place w x) j) xs x i in
        let r = entry_of x m in
        (h.hash.buckets j u).every x r (all_at (λ x. (1 ≤ D COUNT x) × (D COUNT x ≤ 65535)) xs x h.count.used m).0
        (sym (place_of x r.0 r.1) ∙ e)))))

  entry_in : (x : ℕ) → In x xs → (1 ≤ x) × (x ≤ N)
  entry_in x i =
      let z : ¬ (x ≡ 0) = λ e. i (rw e ox) in
      (omega arith, all_at (λ x. x ≤ N) xs x bx i)

  blocks : Distinct (map (fw w BLOCK) xs)
  blocks =
      map_distinct (fw w BLOCK) xs (lists_dll w listing).once
      (λ x y i k q. let a = entry_in x i in let b = entry_in y k in
      h.hash.once x y a b (all_at (λ x. (1 ≤ D COUNT x) × (D COUNT x ≤ 65535)) xs x h.count.used i).0
      (all_at (λ x. (1 ≤ D COUNT x) × (D COUNT x ≤ 65535)) xs y h.count.used k).0
      (sym (at 0 x (omega arith) a.0 a.1) ∙ q ∙ at 0 y (omega arith) b.0 b.1))

  bucketed : T (buckets_from (fw w) (firsts w) N (buckets N) (buckets N) 0 (val w RESIDENTS))
  bucketed =
      sound_buckets w listing counted blocks (yes_all (bucket_right w) (counting 0 (buckets N))
      (counting_all (λ j. T (bucket_right w j)) 0 (buckets N) (λ j a b. bucket_one j (omega arith))))

  mark_none : (x : ℕ) → 1 ≤ x → x ≤ N → Off x xs → D MODIFIED x ≡ 0
  mark_none x a b o = h.flags.idle x (a, b) (count_none x a b o)

  total_of_lem : (i : ℕ) → 16 ≤ i → i < 23 → total_of w i ≡ form.total D (20 + i)
  unfolding total_of
  total_of_lem i a b =
      let e : 20 + i + 1 ≡ 20 + suc i = omega arith in
      rw (e, head_word i (omega arith) (omega arith) (omega arith), head_word (suc i) (omega arith) (omega arith) (omega arith))

  facts : Facts w
  facts =
      let b = buckets_read (fw w) N (buckets N) (firsts w) (lists w) N (canon w) (buckets N) 0 (val w RESIDENTS) (lists_fit w listing) bucketed in
      record {
        listing = listing;
        good = good;
        sections = sections;
        numbers = numbers;
        chained = chained;
        loose = looses xs ox bx h.chain.loose;
        bucket = λ j u. b.0 j (omega arith) (omega arith);
        listed = b.1;
        in_read = rw (total_of_lem 20 (omega arith) (omega arith), total_of_lem 16 (omega arith) (omega arith)) h.flags.in_read;
        out_written =
            rw (
              total_of_lem 22 (omega arith) (omega arith),
              total_of_lem 18 (omega arith) (omega arith),
              sum_of (λ n. n % 2) 3 (omega arith) (λ x a b o. rw (mark_none x a b o)),
            ) h.flags.out_written;
      }

  legal_given : LegalSettings (given w)
  legal_given =
      record {
        some_blocks = h.legal.some;
        few_blocks = h.legal.few;
        some_old = let q = h.legal.old_some in omega arith;
        sections_fit = omega (arith, h.legal.order, h.settled.old_is, head_word 2 (omega arith) (omega arith) (omega arith));
        some_chain = h.legal.chained;
        few_chains = h.legal.short;
        some_average = t.some_average;
        few_average = t.few_average;
        some_bytes = t.some_bytes;
        few_bytes = t.few_bytes;
        some_stored = t.some_stored;
        few_stored = h.legal.blocks;
      }

  legally : T (legal w)
  unfolding settings_in
  legally = yes_eqb (number_zero (given w) legal_given)

  pub sound_of_linked : T (sound w)
  sound_of_linked = facts_sound w legally (of_view w D v) facts

  -- ---- the lists, residents and totals that the words are read off as

  pub order_of_linked : order w ≡ xs
  order_of_linked = order_is w listing

  pub unused_of_linked : unused_entries w ≡ ys
  unused_of_linked = unused_is w listing

  pub field_of_linked : (j e : ℕ) → j < 9 → 1 ≤ e → e ≤ N → field w j e ≡ D j e
  field_of_linked j e a b c = field_is w j e (λ z. omega arith) ∙ at j e a b c

  pub total_of_linked : (i : ℕ) → 16 ≤ i → i < 23 → total_at w i ≡ form.total D (20 + i)
  unfolding total_of
  total_of_linked i a b = total_of_lem i a b
