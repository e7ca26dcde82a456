-- The facts of a sound directory, and the working form.
-- Assumes nothing.
use Rattle.std.specs.Prelude.{ℕ, zero, suc, ◌+◌, ◌-◌, ◌%◌, ◌≤◌, ◌<◌, ◌≡◌, refl, List, [], ◌∷◌, map, length, get_or, T, eqb}
use Rattle.std.proofs.Common.{◌∙◌, ap₂, ⊎_elim, mod-lt}
use Rattle.std.proofs.Math.Path.{sym, ap}
use native.Mathlib.Omega.{arith}
use Rattle.std.proofs.Math.Decide.{ℕ_discrete}
use borrow.Author.Tests.{lt-ltb, le-ltb, ne_eqb}
use Rattle.basics.specs.Basics.{All, total}
use Rattle.basics.specs.AllLaws.{all_map, all_both}
use Rattle.links.specs.Upd.{upd, upd_same, upd_other}
use Rattle.links.specs.Off.{Off, Distinct, Same, off_join}
use Rattle.links.specs.Ring.{Dll}
use Rattle.links.proofs.Ends.{dll_same}
use Rattle.links.specs.Walk.{dll_links}
use Rattle.links.proofs.Sll.{sll_same}
use Rattle.links.specs.Sift.{sift, put, off_sift}
use Rattle.links.proofs.Chains.{keyed, chain, chain_sift}
use Rattle.links.specs.Find.{Below}
use Rattle.words.specs.Words.{val}
use Rattle.fnv.specs.Fnv.{fnv}
use Rattle.settings.specs.NumbersLaws.{LegalSettings}
use Rattle.settings.specs.BucketLaws.{buckets_some, buckets_few}
use Rattle.settings.specs.Buckets.{buckets}
use Rattle.layout.specs.Addresses.{CACHE-BLOCKS, NEW-BLOCKS, OLD-BLOCKS, CHAIN-LIMIT, STORE-BLOCKS, HEAD, TAIL, UNUSED, BLANK-14, BLANK-15, BLOCK, COUNT, SECTION, MODIFIED, TO-HEAD, TO-TAIL, CHAIN-TO-HEAD, CHAIN-TO-TAIL, NEXT-SYNONYM}
use Rattle.layout.specs.ModifiedWord.{is_modified_word}
use Rattle.layout.specs.Sound.{field}
use Rattle.check_model.specs.Tests.{fld, head_of, tail_of, first_of, total_of, section_at}
use Rattle.check_model.specs.Runs.{zeros}
use Rattle.check_model.specs.Along.{fw}
use Rattle.check_model.specs.Membership.{all_some, all_at, all_below}
use Rattle.check_model.specs.Members.{In, one_value}
use Rattle.check_model.specs.Stack.{Lists, lists_dll, apart, apart_off, everywhere, zeros_all}
use Rattle.check_model.specs.Fields.{less, Good, Sections, map_field}
use Rattle.check_model.specs.Chains.{Chained}
use Rattle.check_model.specs.Listing.{firsts, lists, bucket_every, blocks_once}
use Rattle.check_model.specs.Facts.{Facts}
use Rattle.check_model.specs.Buckets as listing
use Rattle.linkage.specs.Fields.{Fields, CHAIN-HEADS, CHAIN-TAILS, BUCKET-HEADS, in_header}
use Rattle.linkage.specs.Positions.{mark, mark_in, mark_out}
use Rattle.linkage.specs.WellLinked.{Legal, Sum, Bucket, Settled, WellLinked}
use Rattle.linkage.specs.WordFields.{given, shape, fields}
use Rattle.linkage.specs.WellLinkedLaws.{sum_upd}
use Rattle.linkage.specs.WellLinked as form

-- ---- sums over all entries

sum_none : (n : ℕ) (f : ℕ → ℕ) → ((x : ℕ) → 1 ≤ x → x ≤ n → f x ≡ 0) → Sum n f ≡ 0
unfolding Sum
sum_none zero f h = refl
sum_none (suc n) f h = omega (arith, h (suc n) (omega arith) (omega arith), sum_none n f (λ x a b. h x a (omega arith)))

pub map_same : (k f g : ℕ → ℕ) (xs : List ℕ) → Same f g xs → map (λ x. k (f x)) xs ≡ map (λ x. k (g x)) xs
map_same k f g [] s = refl
map_same k f g (x ∷ xs) s = ap₂ ◌∷◌ (ap k s.0) (map_same k f g xs s.1)

same_away : (f : ℕ → ℕ) (x v : ℕ) (xs : List ℕ) → Off x xs → Same (upd f x v) f xs
same_away f x v [] o = tt
same_away f x v (y ∷ ys) o = (upd_other f x v y (λ c. o.0 (sym c)), same_away f x v ys o.1)

pub sum_list : (n : ℕ) (xs : List ℕ) (f : ℕ → ℕ) → Distinct xs → Off 0 xs → Below (suc n) xs → ((x : ℕ) → 1 ≤ x → x ≤ n → Off x xs → f x ≡ 0)
    → Sum n f ≡ total (map f xs)
unfolding total
sum_list n [] f d o l h = sum_none n f (λ x a b. h x a b tt)
sum_list n (x ∷ xs) f d o l h =
    let g : ℕ → ℕ = upd f x 0 in
    let r : Sum n g ≡ total (map g xs) = sum_list n xs g d.1 o.1 l.1 (λ y a b q. none y a b q (ℕ_discrete y x)) in
    let s : map g xs ≡ map f xs = map_same (λ n. n) g f xs (same_away f x 0 xs d.0) in
    let z : ¬ (0 ≡ x) = o.0 in
    omega (arith, sum_upd n f x 0 (omega arith) (omega arith), r, ap total s)
  where
    none : (y : ℕ) → 1 ≤ y → y ≤ n → Off y xs → Dec (y ≡ x) → upd f x 0 y ≡ 0
    none y a b q (yes e) = rw (e, upd_same f x 0)
    none y a b q (no e) = rw (upd_other f x 0 y e) (h y a b (e, q))

-- ---- sections

sections_at : (f : ℕ → ℕ → ℕ) (new mid p : ℕ) (xs : List ℕ) (i : ℕ) → Sections f new mid p xs → i < length xs
    → f SECTION (get_or xs i 0) ≡ section_at new mid (p + i)
sections_at f new mid p [] i s h = absurd (omega arith)
sections_at f new mid p (x ∷ xs) zero s h = let q : p + 0 ≡ p = omega arith in rw q s.0
sections_at f new mid p (x ∷ xs) (suc i) s h =
    let q : p + 1 + i ≡ p + suc i = omega arith in
    rw (← q) (sections_at f new mid (p + 1) xs i s.1 (omega arith))

pub section_mark : (new mid i : ℕ) → new ≤ mid → section_at new mid i ≡ mark new i + mark mid i
unfolding section_at
section_mark new mid i h = ⊎_elim
    (λ a. rw (lt-ltb i new a, mark_out new i a, mark_out mid i (omega arith)))
    (λ a. ⊎_elim (λ b. rw (le-ltb i new a, lt-ltb i mid b, mark_in new i a, mark_out mid i b))
    (λ b. rw (le-ltb i new a, le-ltb i mid b, mark_in new i a, mark_in mid i b)) (less i mid))
    (less i new)

some_at : (xs : List ℕ) (i : ℕ) → Off 0 xs → i < length xs → ¬ (get_or xs i 0 ≡ 0)
some_at [] i o h = absurd (omega arith)
some_at (x ∷ xs) zero o h = λ c. o.0 (sym c)
some_at (x ∷ xs) (suc i) o h = some_at xs i o.1 (omega arith)

sift_keys : (f g : ℕ → ℕ) (i : ℕ) (xs : List ℕ) → Off 0 xs → ((x : ℕ) → ¬ (x ≡ 0) → f x ≡ g x) → sift (keyed f i) xs ≡ sift (keyed g i) xs
sift_keys f g i [] o h = refl
sift_keys f g i (x ∷ xs) o h = rw (h x (λ c. o.0 (sym c))) (ap (put (eqb (g x) i) x) (sift_keys f g i xs o.1 h))

module _ (w : List ℕ) where
  abbrev D : Fields
  D = fields w

  pub field_of : (j e : ℕ) → j < 9 → ¬ (e ≡ 0) → fw w j e ≡ D j e
  unfolding fld
  field_of j e h z = rw (lt-ltb j 9 h, ne_eqb e 0 z)

  same_of : (j : ℕ) (xs : List ℕ) → j < 9 → Off 0 xs → Same (fw w j) (D j) xs
  same_of j [] h o = tt
  same_of j (x ∷ xs) h o = (field_of j x h (λ c. o.0 (sym c)), same_of j xs h o.1)

  -- ---- from the facts

  module _ (legal : LegalSettings (given w)) (g : Facts w) where
    l : Lists w
    l = g.listing

    abbrev xs : List ℕ
    xs = g.listing.xs

    abbrev ys : List ℕ
    ys = g.listing.us

    o : Off 0 xs
    o = g.listing.some

    u : Off 0 ys
    u = g.listing.spare_some

    counted : All (λ e. 1 ≤ fw w COUNT e) xs
    counted = all_map (Good (fw w) (val w STORE-BLOCKS)) (λ e. 1 ≤ fw w COUNT e) xs (λ x h. h.count) g.good

    -- a resident, by its count, and an unused entry
    resident : (x : ℕ) → 1 ≤ x → x ≤ val w CACHE-BLOCKS → 1 ≤ D COUNT x → In x xs
    resident x a b c q =
        let z : ¬ (x ≡ 0) = λ e. omega arith in
        let c' : 1 ≤ fw w COUNT x = rw (field_of COUNT x (omega arith) z) c in
        everywhere w g.listing counted x z b (off_join x xs ys q (apart_off w x ys c' g.listing.blank))

    idle : (x : ℕ) → 1 ≤ x → x ≤ val w CACHE-BLOCKS → D COUNT x ≡ 0 → In x ys
    idle x a b c q =
        let z : ¬ (x ≡ 0) = λ e. omega arith in
        let c' : fw w COUNT x ≡ 0 = field_of COUNT x (omega arith) z ∙ c in
        everywhere w g.listing counted x z b (off_join x xs ys (away xs counted c') q)
      where
        away : (l : List ℕ) → All (λ e. 1 ≤ fw w COUNT e) l → fw w COUNT x ≡ 0 → Off x l
        away [] h e = tt
        away (y ∷ l) h e = (λ q. let e' : fw w COUNT y ≡ 0 = rw q at e in omega (arith, h.0), away l h.1 e)

    zero_at : (x : ℕ) → In x ys → zeros (fw w) x ≡ 0
    zero_at x i = all_at (λ e. zeros (fw w) e ≡ 0) ys x (zeros_all w ys g.listing.blank) i

    zero_all : (P : ℕ → Type 0) → ((y : ℕ) → ¬ (y ≡ 0) → y ≤ val w CACHE-BLOCKS → zeros (fw w) y ≡ 0 → P y) → All P ys
    zero_all P h =
        all_some (λ y. (y < suc (val w CACHE-BLOCKS)) × (zeros (fw w) y ≡ 0)) P ys u (λ y z q. h y z (omega (arith, q.0)) q.1)
        (all_both (λ y. y < suc (val w CACHE-BLOCKS)) (λ y. zeros (fw w) y ≡ 0) ys (all_below (suc (val w CACHE-BLOCKS)) ys g.listing.spare_low)
        (zeros_all w ys g.listing.blank))

    sum_of : (k : ℕ → ℕ) (j : ℕ) → j < 9 → ((y : ℕ) → ¬ (y ≡ 0) → zeros (fw w) y ≡ 0 → k (fw w j y) ≡ 0)
        → total (map (λ x. k (field w j x)) xs) ≡ Sum (val w CACHE-BLOCKS) (λ x. k (D j x))
    sum_of k j h none =
        rw (map_field w k j xs o, map_same k (fw w j) (D j) xs (same_of j xs h o))
        (sym (sum_list (val w CACHE-BLOCKS) xs (λ x. k (D j x)) (lists_dll w g.listing).once o g.listing.low (λ x a b q.
        let z : ¬ (x ≡ 0) = λ e. omega arith in
        ap k (sym (field_of j x h z)) ∙ none x z (zero_at x (λ r. everywhere w g.listing counted x z b (off_join x xs ys q r))))))

    pub stack_holds : form.StackOf (shape w) D xs ys
    stack_holds =
        record {
          ring =
              dll_same (fw w TO-TAIL) (fw w TO-HEAD) (D TO-TAIL) (D TO-HEAD) (val w HEAD) (val w TAIL) xs (same_of TO-TAIL xs (omega arith) o)
              (same_of TO-HEAD xs (omega arith) o) (lists_dll w g.listing);
          free =
              sll_same (fw w TO-TAIL) (D TO-TAIL) (val w UNUSED) ys (same_of TO-TAIL ys (omega arith) u)
              (record { fwd = g.listing.spare; some = u });
          full = g.listing.many;
          whole = g.listing.both;
          bound =
              all_map (λ x. x < suc (val w CACHE-BLOCKS)) (λ x. x ≤ val w CACHE-BLOCKS) xs (λ x h. omega arith)
              (all_below (suc (val w CACHE-BLOCKS)) xs g.listing.low);
          apart = apart w xs ys counted g.listing.blank;
          idle =
              zero_all (λ y. (y ≤ val w CACHE-BLOCKS) × (D TO-HEAD y ≡ 0) × (D SECTION y ≡ 0))
              (λ y z h q. (h, sym (field_of TO-HEAD y (omega arith) z) ∙ omega arith, sym (field_of SECTION y (omega arith) z) ∙ omega arith));
          sections =
              λ i h. sym (field_of SECTION (get_or xs i 0) (omega arith) (some_at xs i o h))
              ∙ sections_at (fw w) (val w NEW-BLOCKS) (val w CACHE-BLOCKS - val w OLD-BLOCKS) 0 xs i g.sections h
              ∙ ap (section_at (val w NEW-BLOCKS) (val w CACHE-BLOCKS - val w OLD-BLOCKS)) (omega arith)
              ∙ section_mark (val w NEW-BLOCKS) (val w CACHE-BLOCKS - val w OLD-BLOCKS) i (omega (arith, legal.sections_fit));
          young = g.numbers.new;
          elder = g.numbers.old;
        }

    pub count_holds : form.CountOf (shape w) D xs ys
    count_holds =
        record {
          used =
              all_some (Good (fw w) (val w STORE-BLOCKS)) (λ x. (1 ≤ D COUNT x) × (D COUNT x ≤ 65535)) xs o
              (λ x z h. rw (← field_of COUNT x (omega arith) z) (h.count, h.most)) g.good;
          idle = zero_all (λ y. D COUNT y ≡ 0) (λ y z h q. sym (field_of COUNT y (omega arith) z) ∙ omega arith);
          sum = g.numbers.sum ∙ sum_of (λ n. n) 1 (omega arith) (λ y z q. omega arith);
        }

    chain_one : (i : ℕ) → 1 ≤ i → i ≤ val w CHAIN-LIMIT → Dll (D CHAIN-TO-TAIL) (D CHAIN-TO-HEAD) (D CHAIN-HEADS i) (D CHAIN-TAILS i)
        (chain (D COUNT) i xs)
    unfolding head_of tail_of
    chain_one i a b =
        let c : Chained (fw w) (head_of w i) (tail_of w i) xs i = g.chained i a b in
        let k : chain (D COUNT) i xs ≡ sift (keyed (fw w COUNT) i) xs = chain_sift (D COUNT) i xs
        ∙ sym (sift_keys (fw w COUNT) (D COUNT) i xs o (λ x z. field_of COUNT x (omega arith) z)) in
        let q : Off 0 (sift (keyed (fw w COUNT) i) xs) = off_sift (keyed (fw w COUNT) i) 0 xs o in
        let h1 : D CHAIN-HEADS i ≡ head_of w i = ap (val w) (omega arith) in
        let h2 : D CHAIN-TAILS i ≡ tail_of w i = ap (val w) (omega arith) in
        rw (k, h1, h2)
        (dll_same (fw w CHAIN-TO-TAIL) (fw w CHAIN-TO-HEAD) (D CHAIN-TO-TAIL) (D CHAIN-TO-HEAD) (head_of w i) (tail_of w i)
        (sift (keyed (fw w COUNT) i) xs) (same_of CHAIN-TO-TAIL (sift (keyed (fw w COUNT) i) xs) (omega arith) q)
        (same_of CHAIN-TO-HEAD (sift (keyed (fw w COUNT) i) xs) (omega arith) q)
        (dll_links (fw w CHAIN-TO-TAIL) (fw w CHAIN-TO-HEAD) (head_of w i) (tail_of w i) (sift (keyed (fw w COUNT) i) xs) c.fwd c.bwd q))

    pub chain_holds : form.ChainOf (shape w) D xs ys
    chain_holds =
        record {
          chains = λ i h. chain_one i h.0 h.1;
          loose =
              all_some (λ e. val w CHAIN-LIMIT < fw w COUNT e → (fw w CHAIN-TO-HEAD e ≡ 0) × (fw w CHAIN-TO-TAIL e ≡ 0))
              (λ x. val w CHAIN-LIMIT < D COUNT x → (D CHAIN-TO-HEAD x ≡ 0) × (D CHAIN-TO-TAIL x ≡ 0)) xs o
              (λ x z h. rw (
                ← field_of COUNT x (omega arith) z,
                ← field_of CHAIN-TO-HEAD x (omega arith) z,
                ← field_of CHAIN-TO-TAIL x (omega arith)
                    z,
              ) h) g.loose;
          idle =
              zero_all (λ y. (D CHAIN-TO-HEAD y ≡ 0) × (D CHAIN-TO-TAIL y ≡ 0))
              (λ y z h q. (
                sym (field_of CHAIN-TO-HEAD y (omega arith) z) ∙ omega arith,
                sym (field_of CHAIN-TO-TAIL y (omega arith) z)
                    ∙ omega arith,
              ));
        }

    -- ---- buckets

    bucket_holds : (b : ℕ) → b < buckets (val w CACHE-BLOCKS) → Bucket (shape w) (D COUNT) (D BLOCK) (D NEXT-SYNONYM) (D BUCKET-HEADS b) b
    unfolding first_of
    bucket_holds b h =
        let k = g.bucket b h in
        record {
          list = lists w b;
          links =
              sll_same (fw w NEXT-SYNONYM) (D NEXT-SYNONYM) (firsts w b) (lists w b) (same_of NEXT-SYNONYM (lists w b) (omega arith) k.some)
              (record { fwd = k.fwd; some = k.some });
          its =
              all_some (listing.Entry (fw w) (val w CACHE-BLOCKS) (buckets (val w CACHE-BLOCKS)) b)
              (λ z. (z ≤ val w CACHE-BLOCKS) × (1 ≤ D COUNT z) × (fnv (D BLOCK z) % buckets (val w CACHE-BLOCKS) ≡ b)) (lists w b) k.some
              (λ x z e. rw (← field_of BLOCK x (omega arith) z, ← field_of COUNT x (omega arith) z) (e.low, e.count, e.place)) k.each;
          every = λ x e c q.
              let z : ¬ (x ≡ 0) = λ r. omega (arith, e.0) in
              let q' : fnv (fw w BLOCK x) % buckets (val w CACHE-BLOCKS) ≡ b = rw (field_of BLOCK x (omega arith) z) q in
              rw (← q') (bucket_every w g.listing counted g.bucket g.listed x (resident x e.0 e.1 c));
        }

    good_at : (x : ℕ) → In x xs → Good (fw w) (val w STORE-BLOCKS) x
    good_at x i = all_at (Good (fw w) (val w STORE-BLOCKS)) xs x g.good i

    pub hash_holds : form.HashOf (shape w) D
    hash_holds =
        record {
          buckets = bucket_holds;
          once = λ x y a b c d q.
              let zx : ¬ (x ≡ 0) = λ r. omega (arith, a.0) in
              let zy : ¬ (y ≡ 0) = λ r. omega (arith, b.0) in
              one_value (fw w BLOCK) xs (blocks_once w g.listing counted g.bucket g.listed) x y (resident x a.0 a.1 c)
              (resident y b.0 b.1 d)
              (field_of BLOCK x (omega arith) zx ∙ q ∙ sym (field_of BLOCK y (omega arith) zy));
          range = λ x a c.
              let z : ¬ (x ≡ 0) = λ r. omega (arith, a.0) in
              rw (← field_of BLOCK x (omega arith) z) (good_at x (resident x a.0 a.1 c)).block;
          idle = λ x a c.
              let z : ¬ (x ≡ 0) = λ r. omega (arith, a.0) in
              let q : zeros (fw w) x ≡ 0 = zero_at x (idle x a.0 a.1 c) in
              (sym (field_of BLOCK x (omega arith) z) ∙ omega arith, sym (field_of NEXT-SYNONYM x (omega arith) z) ∙ omega arith);
        }

    -- ---- marks and totals

    mark_none : (x : ℕ) → 1 ≤ x → x ≤ val w CACHE-BLOCKS → D COUNT x ≡ 0 → D MODIFIED x ≡ 0
    mark_none x a b c =
        let z : ¬ (x ≡ 0) = λ r. omega arith in
        let q : zeros (fw w) x ≡ 0 = zero_at x (idle x a b c) in
        sym (field_of MODIFIED x (omega arith) z) ∙ omega arith

    mark_small : (x : ℕ) → 1 ≤ x → x ≤ val w CACHE-BLOCKS → Dec (D COUNT x ≡ 0) → T (is_modified_word (D MODIFIED x))
    unfolding is_modified_word
    mark_small x a b (yes c) = rw (mark_none x a b c) tt
    mark_small x a b (no c) =
        let z : ¬ (x ≡ 0) = λ r. omega arith in
        rw (← field_of MODIFIED x (omega arith) z) (good_at x (resident x a b (omega arith))).mark

    pub flags_holds : form.FlagsOf (shape w) D
    unfolding total_of
    flags_holds =
        record {
          bits = λ x a. mark_small x a.0 a.1 (ℕ_discrete (D COUNT x) 0);
          idle = λ x a c. mark_none x a.0 a.1 c;
          in_read = g.in_read;
          out_written = rw (← sum_of (λ n. n % 2) 3 (omega arith) (λ y z q. let m : fw w MODIFIED y ≡ 0 = omega arith in rw m)) g.out_written;
        }

    pub legal_holds : Legal (shape w)
    legal_holds =
        record {
          some = legal.some_blocks;
          few = legal.few_blocks;
          order = omega (arith, legal.sections_fit);
          old_some = omega (arith, legal.some_blocks, legal.some_old);
          chained = legal.some_chain;
          short = legal.few_chains;
          buckets = buckets_few (val w CACHE-BLOCKS) legal.few_blocks;
          hashed = λ b. mod-lt (fnv b) (buckets_some (val w CACHE-BLOCKS));
          blocks = legal.few_stored;
        }

    pub settled_holds : Settled (shape w) (D (in_header CACHE-BLOCKS) 0) (D (in_header NEW-BLOCKS) 0) (D (in_header OLD-BLOCKS) 0)
        (D (in_header CHAIN-LIMIT) 0) (D (in_header STORE-BLOCKS) 0) (D (in_header BLANK-14) 0) (D (in_header BLANK-15) 0)
    settled_holds =
        record {
          blocks = refl;
          new_is = refl;
          old_is = omega (arith, legal.sections_fit);
          cmax_is = refl;
          store = refl;
          blank14 =
              g.numbers.none;
          blank15 = g.numbers.none';
        }

    -- the working form of a sound directory
    pub well_linked : WellLinked (shape w) D xs ys
    well_linked =
        record {
          legal = legal_holds;
          settled = settled_holds;
          stack = stack_holds;
          count = count_holds;
          chain = chain_holds;
          hash =
              hash_holds;
          flags = flags_holds;
        }
