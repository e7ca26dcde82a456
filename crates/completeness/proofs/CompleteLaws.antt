-- Nothing is left out: from what two sound directories have in common to their fields, and from these to every word. Assumes nothing.
use Prim.Native.Nat.{ℕ, suc, ◌+◌, ◌-◌, ◌*◌, ◌≤◌, ◌<◌}
use Rattle.std.specs.Prelude.{◌≡◌, drop, get_or, T}
use Rattle.std.proofs.Math.Path.{refl, ap}
use Rattle.std.proofs.Common.{◌∙◌, sym, subst, ⊎_elim, arith, length-drop, ext_get_or, get_or-drop}
use mathlib.Core.List.{List, [], ◌∷◌, map}
use Rattle.std.proofs.Math.ListN.{length}
use Rattle.basics.specs.Basics.{All}
use Rattle.basics.specs.AllLaws.{all_map}
use Rattle.links.specs.Off.{Off, Same}
use Rattle.links.specs.Run.{run_same}
use Rattle.links.proofs.Sll.{Sll, sll_distinct}
use Rattle.links.specs.Find.{few}
use Rattle.words.specs.Words.{val}
use Rattle.settings.specs.Buckets.{buckets}
use Rattle.stack.specs.Recency.{Resident}
use Rattle.layout.specs.Addresses.{CACHE-BLOCKS, NEW-BLOCKS, OLD-BLOCKS, CHAIN-LIMIT, AVERAGE-LIMIT, BLOCK-SIZE, STORE-BLOCKS, BLOCK, COUNT, MODIFIED, NEXT-SYNONYM, bucket_word}
use Rattle.layout.specs.ModifiedWord.{modified_word, marks_in, is_modified_word}
use Rattle.layout.proofs.ModifiedWordLaws.{word_made}
use Rattle.layout.specs.Sound.{settings_in, totals_in, field, walk, order, unused_entries, sound, resident_at}
use Rattle.check_model.specs.Fields.{less}
use Rattle.check_model.specs.Along.{fw, field_is, along_run}
use Rattle.check_model.specs.Membership.{below_all}
use Rattle.linkage.specs.Fields.{size, kind, View, BUCKET-HEADS, in_header}
use Rattle.linkage.specs.WellLinked.{WellLinked}
use Rattle.linkage.specs.WordFields.{shape, fields, address_of}
use Rattle.linkage.specs.FromSound.{field_of}
use Rattle.linkage.specs.Linkage.{Linkage, linkage}
use Rattle.completeness.proofs.LinksLaws.{none_below, one_more}
use Rattle.completeness.proofs.EntriesLaws.{Agreed}
use Rattle.completeness.proofs.FieldsLaws.{Headed, fields_same}
use Rattle.completeness.specs.Complete.{Alike, Complete}

-- ---- of one directory

module _ (w : List ℕ) where
  as_field : (j e : ℕ) → j < 9 → ¬ (e ≡ 0) → field w j e ≡ fields w j e
  as_field j e h z = field_is w j e z ∙ field_of w j e h z

  same_of : (j : ℕ) (l : List ℕ) → j < 9 → Off 0 l → Same (fields w j) (fw w j) l
  same_of j [] h o = tt
  same_of j (x ∷ l) h o = (sym (field_of w j x h (λ c. o.0 (sym c))), same_of j l h o.1)

  -- a resident holds its entry
  held_is : (l : List ℕ) → map (λ r. r.held) (map (resident_at w) l) ≡ l
  unfolding resident_at
  held_is [] = refl
  held_is (e ∷ l) = ap (λ m. e ∷ m) (held_is l)

  module _ (h : Linkage w) where
    linked_is : WellLinked (shape w) (fields w) (order w) (unused_entries w)
    linked_is = rw (h.order_is, h.unused_is) h.linked

    -- what a walk along the synonyms meets is the bucket's list
    bucket_walk : (b : ℕ) → b < buckets (val w CACHE-BLOCKS)
        → Sll (fields w NEXT-SYNONYM) (fields w BUCKET-HEADS b) (walk w NEXT-SYNONYM (val w (bucket_word (settings_in w) b)))
    unfolding walk settings_in
    bucket_walk b l =
        let k = h.linked.hash.buckets b l in
        let low = all_map (λ z. (z ≤ val w CACHE-BLOCKS) × (1 ≤ fields w COUNT z) × ((shape w).hash (fields w BLOCK z) ≡ b))
        (λ z. z < suc (val w CACHE-BLOCKS)) k.list (λ z q. omega (arith, q.0)) k.its in
        let short : length k.list ≤ suc (val w CACHE-BLOCKS) =
        few (suc (val w CACHE-BLOCKS)) k.list (below_all (suc (val w CACHE-BLOCKS)) k.list low)
        (sll_distinct (fields w NEXT-SYNONYM) (fields w BUCKET-HEADS b) k.list k.links) in
        rw (along_run w 8 (suc (val w CACHE-BLOCKS)) k.list (val w (24 + 2 * val w CHAIN-LIMIT + b))
        (run_same (fields w NEXT-SYNONYM) (fw w NEXT-SYNONYM) (fields w BUCKET-HEADS b) k.list 0
        (same_of 8 k.list (omega arith) k.links.some) k.links.fwd) k.links.some short)
        k.links

-- ---- of residents that are alike

map_same : {A : Type 0} (f g : ℕ → A) (l : List ℕ) → map f l ≡ map g l → All (λ e. f e ≡ g e) l
map_same f g [] q = tt
map_same f g (e ∷ l) q =
    let here : f e ≡ g e = cc in
    let rest : map f l ≡ map g l = cc in
    (here, map_same f g l rest)

-- a modified word, by the marks that it says
mark_is : (m n : ℕ) → T (is_modified_word m) → T (is_modified_word n) → marks_in m ≡ marks_in n → m ≡ n
mark_is m n a b q = sym (word_made m a) ∙ ap modified_word q ∙ word_made n b

-- ---- of two directories

module _ (u w : List ℕ) (h : T (sound u)) (t : T (sound w)) (a : Alike u w) where
  n_is : val u CACHE-BLOCKS ≡ val w CACHE-BLOCKS
  unfolding settings_in
  n_is = ap (λ s. s.n) a.settings

  new_is : val u NEW-BLOCKS ≡ val w NEW-BLOCKS
  unfolding settings_in
  new_is = ap (λ s. s.nnew) a.settings

  old_is : val u OLD-BLOCKS ≡ val w OLD-BLOCKS
  unfolding settings_in
  old_is = ap (λ s. s.nold) a.settings

  cmax_is : val u CHAIN-LIMIT ≡ val w CHAIN-LIMIT
  unfolding settings_in
  cmax_is = ap (λ s. s.cmax) a.settings

  amax_is : val u AVERAGE-LIMIT ≡ val w AVERAGE-LIMIT
  unfolding settings_in
  amax_is = ap (λ s. s.amax) a.settings

  b_is : val u BLOCK-SIZE ≡ val w BLOCK-SIZE
  unfolding settings_in
  b_is = ap (λ s. s.b) a.settings

  m_is : val u STORE-BLOCKS ≡ val w STORE-BLOCKS
  unfolding settings_in
  m_is = ap (λ s. s.m) a.settings

  past_is : drop (size (shape w)) u ≡ drop (size (shape w)) w
  unfolding settings_in
  past_is = a.past

  same_shape : shape u ≡ shape w
  same_shape = rw (n_is, new_is, old_is, cmax_is, m_is, past_is)

  same_order : order u ≡ order w
  same_order = sym (held_is u (order u)) ∙ ap (map (λ (r : Resident ℕ). r.held)) a.residents ∙ held_is w (order w)

  U : Linkage u
  U = linkage u h

  W : Linkage w
  W = linkage w t

  view_u : View (shape w) u (fields u)
  view_u = rw same_shape at U.view

  linked_u : WellLinked (shape w) (fields u) (order w) (unused_entries w)
  linked_u = subst (WellLinked (shape w) (fields u) (order w)) a.orders.unused (rw (same_shape, same_order) at (linked_is u U))

  linked_w : WellLinked (shape w) (fields w) (order w) (unused_entries w)
  linked_w = linked_is w W

  -- the header's numbers that no list gives
  headed : Headed (fields u) (fields w)
  unfolding totals_in
  headed =
      record {
        settings =
            one_more Word 6 (one_more Word 5 (one_more Word 4
            (one_more Word 3 (one_more Word 2 (one_more Word 1 (one_more Word 0 (none_below Word) n_is) new_is) old_is) cmax_is) amax_is) b_is) m_is;
        reads = ap (λ c. c.reads) a.totals;
        writes = ap (λ c. c.writes) a.totals;
        ins = ap (λ c. c.ins) a.totals;
        outs = ap (λ c. c.outs) a.totals;
      }
    where
      Word : ℕ → Type 0
      Word i = fields u (in_header i) 0 ≡ fields w (in_header i) 0

  -- the residents' own words
  alike_residents : All (λ e. resident_at u e ≡ resident_at w e) (order w)
  alike_residents = map_same (resident_at u) (resident_at w) (order w) (ap (map (resident_at u)) (sym same_order) ∙ a.residents)

  across : (j e : ℕ) → j < 9 → ¬ (e ≡ 0) → field u j e ≡ field w j e → fields u j e ≡ fields w j e
  across j e l z q = sym (as_field u j e l z) ∙ q ∙ as_field w j e l z

  block_one : (e : ℕ) → resident_at u e ≡ resident_at w e → field u BLOCK e ≡ field w BLOCK e
  unfolding resident_at
  block_one e q = ap (λ r. r.block) q

  count_one : (e : ℕ) → resident_at u e ≡ resident_at w e → field u COUNT e ≡ field w COUNT e
  unfolding resident_at
  count_one e q = ap (λ r. r.count) q

  mark_one : (e : ℕ) → resident_at u e ≡ resident_at w e → marks_in (field u MODIFIED e) ≡ marks_in (field w MODIFIED e)
  unfolding resident_at
  mark_one e q = ap (λ r. r.marks) q

  mark_at_lem : (e : ℕ) → ¬ (e ≡ 0) → e ≤ val w CACHE-BLOCKS → resident_at u e ≡ resident_at w e → fields u MODIFIED e ≡ fields w MODIFIED e
  mark_at_lem e z l q =
      mark_is (fields u MODIFIED e) (fields w MODIFIED e) (linked_u.flags.bits e (omega arith, l)) (linked_w.flags.bits e (omega arith, l))
      (ap marks_in (sym (as_field u 3 e (omega arith) z)) ∙ mark_one e q ∙ ap marks_in (as_field w 3 e (omega arith) z))

  same_by : (j : ℕ) (l : List ℕ) → Off 0 l → All (λ e. e ≤ val w CACHE-BLOCKS) l
      → ((e : ℕ) → ¬ (e ≡ 0) → e ≤ val w CACHE-BLOCKS → resident_at u e ≡ resident_at w e → fields u j e ≡ fields w j e)
      → All (λ e. resident_at u e ≡ resident_at w e) l → Same (fields u j) (fields w j) l
  same_by j [] o b f r = tt
  same_by j (e ∷ l) o b f r = (f e (λ c. o.0 (sym c)) b.0 r.0, same_by j l o.1 b.1 f r.1)

  agreed : Agreed (buckets (val w CACHE-BLOCKS)) (fields u) (fields w) (order w)
  unfolding settings_in
  agreed =
      let o : Off 0 (order w) = linked_w.stack.ring.some in
      let b : All (λ e. e ≤ val w CACHE-BLOCKS) (order w) = linked_w.stack.bound in
      record {
        blocks = same_by 0 (order w) o b (λ e z l q. across 0 e (omega arith) z (block_one e q)) alike_residents;
        counts = same_by 1 (order w) o b (λ e z l q. across 1 e (omega arith) z (count_one e q)) alike_residents;
        marks = same_by 3 (order w) o b mark_at_lem alike_residents;
        lists = λ b. walk w NEXT-SYNONYM (val w (bucket_word (settings_in w) b));
        here = λ b l. rw (← a.orders.synonyms b l) (bucket_walk u U b (rw n_is l));
        there = bucket_walk w W;
      }

  -- ---- every word

  below : (i : ℕ) → i < size (shape w) → get_or u i 0 ≡ get_or w i 0
  below i l =
      let p = address_of w i l in
      let q : fields u p.0 p.1 ≡ fields w p.0 p.1 =
      fields_same (shape w) u w (fields u) (fields w) view_u W.view (order w) (unused_entries w) linked_u linked_w headed agreed p.0 p.1 i
      p.2 in
      view_u.holds p.0 p.1 i p.2 ∙ ap (λ n. kind p.0 * 268435456 + n) q ∙ sym (W.view.holds p.0 p.1 i p.2)

  beyond : (i : ℕ) → size (shape w) ≤ i → get_or u i 0 ≡ get_or w i 0
  beyond i l =
      let e : size (shape w) + (i - size (shape w)) ≡ i = omega arith in
      let p : get_or (drop (size (shape w)) u) (i - size (shape w)) 0 ≡ get_or u (size (shape w) + (i - size (shape w))) 0 =
      get_or-drop (size (shape w)) u (i - size (shape w)) 0 in
      let q : get_or (drop (size (shape w)) w) (i - size (shape w)) 0 ≡ get_or w (size (shape w) + (i - size (shape w))) 0 =
      get_or-drop (size (shape w)) w (i - size (shape w)) 0 in
      ap (λ n. get_or u n 0) (sym e) ∙ sym p ∙ ap (λ l. get_or l (i - size (shape w)) 0) past_is ∙ q ∙ ap (λ n. get_or w n 0) e

  long : length u ≡ length w
  long =
      let p : length (drop (size (shape w)) u) ≡ length u - size (shape w) = length-drop (size (shape w)) u in
      let q : length (drop (size (shape w)) w) ≡ length w - size (shape w) = length-drop (size (shape w)) w in
      omega (arith, p, q, ap length past_is, view_u.long, W.view.long)

  words_same : u ≡ w
  words_same = ext_get_or 0 u w long (λ i l. ⊎_elim (below i) (beyond i) (less i (size (shape w))))

pub complete : Complete
complete = words_same
