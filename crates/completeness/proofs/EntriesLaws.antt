-- Two well linked families of fields with the same lists, and the same blocks, counts and marks of the residents, agree in every
-- field of an entry and in the ends of every list. Assumes nothing.
use Rattle.std.specs.Prelude.{ℕ, suc, ◌≤◌, ◌<◌, ◌≡◌, refl, List, ◌++◌}
use Rattle.std.proofs.Common.{◌∙◌, sym, ⊎_elim, arith, length-append}
use Rattle.std.proofs.Math.Decide.{dec_le}
use Rattle.basics.specs.AllLaws.{all_map, all_join}
use Rattle.links.specs.Off.{Off, Same, off_join}
use Rattle.links.specs.Ring.{Dll}
use Rattle.links.proofs.Sll.{Sll, sll_distinct}
use Rattle.links.specs.Walk.{run_one}
use Rattle.links.specs.Find.{find, all_there}
use Rattle.links.proofs.Chains.{keyed, chain, chain_sift, eqb_yes}
use Rattle.check_model.specs.Membership.{all_at, below_all, distinct_join}
use Rattle.check_model.specs.Members.{In, sift_in}
use Rattle.layout.specs.Addresses.{BLOCK, COUNT, SECTION, MODIFIED, TO-HEAD, TO-TAIL, CHAIN-TO-HEAD, CHAIN-TO-TAIL, NEXT-SYNONYM, UNUSED}
use Rattle.linkage.specs.Fields.{Shape, Fields, CHAIN-HEADS, CHAIN-TAILS, BUCKET-HEADS, in_header}
use Rattle.linkage.specs.WellLinked.{WellLinked, Entry, Has, section}
use Rattle.completeness.proofs.LinksLaws.{run_fixed, back_fixed, sec_fixed, chain_fixed, same_in, split_in, none_below, one_more}

-- the residents' own words, and a list for each bucket, the same of both
pub record Agreed (buckets : ℕ) (D E : Fields) (residents : List ℕ) : Type 0 where
  pub blocks : Same (D BLOCK) (E BLOCK) residents
  pub counts : Same (D COUNT) (E COUNT) residents
  pub marks : Same (D MODIFIED) (E MODIFIED) residents
  pub lists : ℕ → List ℕ
  pub here : (b : ℕ) → b < buckets → Sll (D NEXT-SYNONYM) (D BUCKET-HEADS b) (lists b)
  pub there : (b : ℕ) → b < buckets → Sll (E NEXT-SYNONYM) (E BUCKET-HEADS b) (lists b)

-- ---- of one family

module _ (s : Shape) (D : Fields) (xs ys : List ℕ) (g : WellLinked s D xs ys) where
  -- an entry that is no resident is unused
  every_entry : (x : ℕ) → Entry s x → Off x xs → In x ys
  every_entry x e o q =
      all_there s.N (xs ++ ys)
      (below_all (suc s.N) (xs ++ ys) (all_join (λ y. y < suc s.N) xs ys
      (all_map (λ y. y ≤ s.N) (λ y. y < suc s.N) xs (λ y l. omega arith) g.stack.bound)
      (all_map (λ y. (y ≤ s.N) × (D TO-HEAD y ≡ 0) × (D SECTION y ≡ 0)) (λ y. y < suc s.N) ys (λ y l. omega (arith, l.0)) g.stack.idle)))
      (off_join 0 xs ys g.stack.ring.some g.stack.free.some)
      (distinct_join xs ys g.stack.ring.once (sll_distinct (D TO-TAIL) (D (in_header UNUSED) 0) ys g.stack.free) g.stack.apart)
      (length-append xs ys ∙ g.stack.whole) x (λ c. omega (arith, e.0)) e.1 (off_join x xs ys o q)

  counted : (x : ℕ) → In x xs → 1 ≤ D COUNT x
  counted x i = (all_at (λ y. (1 ≤ D COUNT y) × (D COUNT y ≤ 65535)) xs x g.count.used i).0

  uncounted : (x : ℕ) → In x ys → D COUNT x ≡ 0
  uncounted x i = all_at (λ y. D COUNT y ≡ 0) ys x g.count.idle i

  idle_stack : (x : ℕ) → In x ys → (x ≤ s.N) × (D TO-HEAD x ≡ 0) × (D SECTION x ≡ 0)
  idle_stack x i = all_at (λ y. (y ≤ s.N) × (D TO-HEAD y ≡ 0) × (D SECTION y ≡ 0)) ys x g.stack.idle i

  idle_chain : (x : ℕ) → In x ys → (D CHAIN-TO-HEAD x ≡ 0) × (D CHAIN-TO-TAIL x ≡ 0)
  idle_chain x i = all_at (λ y. (D CHAIN-TO-HEAD y ≡ 0) × (D CHAIN-TO-TAIL y ≡ 0)) ys x g.chain.idle i

  -- in no chain
  loose : (x : ℕ) → In x xs → s.cmax < D COUNT x → (D CHAIN-TO-HEAD x ≡ 0) × (D CHAIN-TO-TAIL x ≡ 0)
  loose x i = all_at (λ y. s.cmax < D COUNT y → (D CHAIN-TO-HEAD y ≡ 0) × (D CHAIN-TO-TAIL y ≡ 0)) xs x g.chain.loose i

-- ---- of both

module _ (s : Shape) (D E : Fields) (xs ys : List ℕ) (g : WellLinked s D xs ys) (h : WellLinked s E xs ys) (a : Agreed s.nb D E xs) where
  -- what holds of residents and of unused entries holds of all
  either : (P : ℕ → Type 0) → ((x : ℕ) → Entry s x → In x xs → P x) → ((x : ℕ) → Entry s x → In x ys → P x) → (x : ℕ) → Entry s x → P x
  either P p q x e = ⊎_elim (λ o. q x e (every_entry s D xs ys g x e o)) (λ c. p x e (split_in x xs c)) (find x xs)

  abbrev At : ℕ → ℕ → Type 0
  At k x = D k x ≡ E k x

  -- the stack, both ways, with its head and its tail; the unused list
  stack_forth : (D TO-TAIL 0 ≡ E TO-TAIL 0) × Same (D TO-TAIL) (E TO-TAIL) xs
  stack_forth = run_fixed (D TO-TAIL) (E TO-TAIL) (D TO-TAIL 0) (E TO-TAIL 0) xs 0 g.stack.ring.fwd h.stack.ring.fwd

  stack_back : (D TO-HEAD 0 ≡ E TO-HEAD 0) × Same (D TO-HEAD) (E TO-HEAD) xs
  stack_back = back_fixed (D TO-HEAD) (E TO-HEAD) 0 xs (D TO-HEAD 0) (E TO-HEAD 0) g.stack.ring.bwd h.stack.ring.bwd

  unused_forth : (D (in_header UNUSED) 0 ≡ E (in_header UNUSED) 0) × Same (D TO-TAIL) (E TO-TAIL) ys
  unused_forth = run_fixed (D TO-TAIL) (E TO-TAIL) (D (in_header UNUSED) 0) (E (in_header UNUSED) 0) ys 0 g.stack.free.fwd h.stack.free.fwd

  pub head_same : D TO-TAIL 0 ≡ E TO-TAIL 0
  head_same = stack_forth.0

  pub tail_same : D TO-HEAD 0 ≡ E TO-HEAD 0
  tail_same = stack_back.0

  pub unused_same : D (in_header UNUSED) 0 ≡ E (in_header UNUSED) 0
  unused_same = unused_forth.0

  -- numbers
  block : (x : ℕ) → Entry s x → At BLOCK x
  block =
      either (At BLOCK) (λ x e i. same_in (D BLOCK) (E BLOCK) xs x a.blocks i)
      (λ x e i. (g.hash.idle x e (uncounted s D xs ys g x i)).0 ∙ sym (h.hash.idle x e (uncounted s E xs ys h x i)).0)

  pub count_same : (x : ℕ) → Entry s x → At COUNT x
  count_same =
      either (At COUNT) (λ x e i. same_in (D COUNT) (E COUNT) xs x a.counts i)
      (λ x e i. uncounted s D xs ys g x i ∙ sym (uncounted s E xs ys h x i))

  in_section : (x : ℕ) → Entry s x → At SECTION x
  in_section =
      either (At SECTION) (λ x e i. same_in (D SECTION) (E SECTION) xs x
      (sec_fixed (D SECTION) (E SECTION) (section s) xs g.stack.sections h.stack.sections) i)
      (λ x e i. (idle_stack s D xs ys g x i).2 ∙ sym (idle_stack s E xs ys h x i).2)

  modified : (x : ℕ) → Entry s x → At MODIFIED x
  modified =
      either (At MODIFIED) (λ x e i. same_in (D MODIFIED) (E MODIFIED) xs x a.marks i)
      (λ x e i. g.flags.idle x e (uncounted s D xs ys g x i) ∙ sym (h.flags.idle x e (uncounted s E xs ys h x i)))

  -- stack links
  to_head : (x : ℕ) → Entry s x → At TO-HEAD x
  to_head =
      either (At TO-HEAD) (λ x e i. same_in (D TO-HEAD) (E TO-HEAD) xs x stack_back.1 i)
      (λ x e i. (idle_stack s D xs ys g x i).1 ∙ sym (idle_stack s E xs ys h x i).1)

  to_tail : (x : ℕ) → Entry s x → At TO-TAIL x
  to_tail =
      either (At TO-TAIL) (λ x e i. same_in (D TO-TAIL) (E TO-TAIL) xs x stack_forth.1 i)
      (λ x e i. same_in (D TO-TAIL) (E TO-TAIL) ys x unused_forth.1 i)

  -- chain i, both ways, with its head and its tail
  module _ (i : ℕ) (l : Has s i) where
    chain_there : Dll (E CHAIN-TO-TAIL) (E CHAIN-TO-HEAD) (E CHAIN-HEADS i) (E CHAIN-TAILS i) (chain (D COUNT) i xs)
    chain_there = rw (chain_fixed (D COUNT) (E COUNT) i xs a.counts) (h.chain.chains i l)

    chain_forth : (At CHAIN-HEADS i) × Same (D CHAIN-TO-TAIL) (E CHAIN-TO-TAIL) (chain (D COUNT) i xs)
    chain_forth =
        run_fixed (D CHAIN-TO-TAIL) (E CHAIN-TO-TAIL) (D CHAIN-HEADS i) (E CHAIN-HEADS i) (chain (D COUNT) i xs) 0 (g.chain.chains i l).fwd
        chain_there.fwd

    chain_back : (At CHAIN-TAILS i) × Same (D CHAIN-TO-HEAD) (E CHAIN-TO-HEAD) (chain (D COUNT) i xs)
    chain_back =
        back_fixed (D CHAIN-TO-HEAD) (E CHAIN-TO-HEAD) 0 (chain (D COUNT) i xs) (D CHAIN-TAILS i) (E CHAIN-TAILS i) (g.chain.chains i l).bwd
        chain_there.bwd

    pub chain_head_same : At CHAIN-HEADS i
    chain_head_same = chain_forth.0

    pub chain_tail_same : At CHAIN-TAILS i
    chain_tail_same = chain_back.0

  in_chain : (x : ℕ) → In x xs → In x (chain (D COUNT) (D COUNT x) xs)
  in_chain x i = rw (chain_sift (D COUNT) (D COUNT x) xs) (sift_in (keyed (D COUNT) (D COUNT x)) xs x (eqb_yes (D COUNT x) (D COUNT x) refl) i)

  chain_links : (x : ℕ) → Entry s x → In x xs → (At CHAIN-TO-HEAD x) × (At CHAIN-TO-TAIL x)
  chain_links x e i = go (dec_le (D COUNT x) s.cmax)
    where
      go : Dec (D COUNT x ≤ s.cmax) → (At CHAIN-TO-HEAD x) × (At CHAIN-TO-TAIL x)
      go (yes c) =
          let l : Has s (D COUNT x) = (counted s D xs ys g x i, c) in (
            same_in (D CHAIN-TO-HEAD) (E CHAIN-TO-HEAD) (chain (D COUNT) (D COUNT x) xs) x (chain_back (D COUNT x) l).1 (in_chain x i),
            same_in (D CHAIN-TO-TAIL) (E CHAIN-TO-TAIL) (chain (D COUNT) (D COUNT x) xs) x (chain_forth (D COUNT x) l).1 (in_chain x i),
          )
      go (no c) =
          let p = loose s D xs ys g x i (omega arith) in
          let q = loose s E xs ys h x i (rw (← count_same x e) (omega arith)) in
          (p.0 ∙ sym q.0, p.1 ∙ sym q.1)

  chain_to_head : (x : ℕ) → Entry s x → At CHAIN-TO-HEAD x
  chain_to_head =
      either (At CHAIN-TO-HEAD) (λ x e i. (chain_links x e i).0)
      (λ x e i. (idle_chain s D xs ys g x i).0 ∙ sym (idle_chain s E xs ys h x i).0)

  chain_to_tail : (x : ℕ) → Entry s x → At CHAIN-TO-TAIL x
  chain_to_tail =
      either (At CHAIN-TO-TAIL) (λ x e i. (chain_links x e i).1)
      (λ x e i. (idle_chain s D xs ys g x i).1 ∙ sym (idle_chain s E xs ys h x i).1)

  -- a bucket's list, with its head
  bucket_forth : (b : ℕ) → b < s.nb → (At BUCKET-HEADS b) × Same (D NEXT-SYNONYM) (E NEXT-SYNONYM) (a.lists b)
  bucket_forth b l =
      run_fixed (D NEXT-SYNONYM) (E NEXT-SYNONYM) (D BUCKET-HEADS b) (E BUCKET-HEADS b) (a.lists b) 0 (a.here b l).fwd (a.there b l).fwd

  pub bucket_head_same : (b : ℕ) → b < s.nb → At BUCKET-HEADS b
  bucket_head_same b l = (bucket_forth b l).0

  synonym : (x : ℕ) → Entry s x → In x xs → At NEXT-SYNONYM x
  synonym x e i =
      let b : ℕ = s.hash (D BLOCK x) in
      let l : b < s.nb = g.legal.hashed (D BLOCK x) in
      let k = g.hash.buckets b l in
      let q : k.list ≡ a.lists b = run_one (D NEXT-SYNONYM) (D BUCKET-HEADS b) k.list (a.lists b) k.links.fwd k.links.some
      (a.here b l).fwd (a.here b l).some in
      same_in (D NEXT-SYNONYM) (E NEXT-SYNONYM) (a.lists b) x (bucket_forth b l).1 (λ o. k.every x e (counted s D xs ys g x i) refl (rw q o))

  next_synonym : (x : ℕ) → Entry s x → At NEXT-SYNONYM x
  next_synonym =
      either (At NEXT-SYNONYM) synonym
      (λ x e i. (g.hash.idle x e (uncounted s D xs ys g x i)).1 ∙ sym (h.hash.idle x e (uncounted s E xs ys h x i)).1)

  -- all nine words of an entry
  abbrev Every : ℕ → Type 0
  Every k = (x : ℕ) → Entry s x → At k x

  pub entry_same : (k : ℕ) → k < 9 → (x : ℕ) → Entry s x → At k x
  entry_same =
      one_more Every 8 (one_more Every 7 (one_more Every 6 (one_more Every 5
      (one_more Every 4 (one_more Every 3 (one_more Every 2 (one_more Every 1 (one_more Every 0
      (none_below Every) block) count_same) in_section) modified) to_head) to_tail) chain_to_head) chain_to_tail) next_synonym
