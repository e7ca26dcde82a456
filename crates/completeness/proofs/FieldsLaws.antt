-- Two well linked families of fields with the same lists, settings, totals and residents agree at every word of the directory.
-- Assumes nothing.
use Rattle.std.specs.Prelude.{ℕ, ◌+◌, ◌≤◌, ◌<◌, ◌≡◌, refl, List}
use Rattle.std.proofs.Common.{◌∙◌, sym, arith}
use Rattle.std.proofs.Math.Decide.{ℕ_discrete}
use Rattle.layout.specs.Addresses.{COUNT, READS, WRITES, INS, OUTS}
use Rattle.linkage.specs.Fields.{Shape, Fields, Address, entry, ends, chain, bucket, header, View, in_header}
use Rattle.linkage.specs.WellLinked.{WellLinked, total}
use Rattle.linkage.specs.WellLinkedLaws.{sum_same}
use Rattle.completeness.proofs.LinksLaws.{one_more}
use Rattle.completeness.proofs.EntriesLaws.{Agreed, head_same, tail_same, unused_same, count_same, chain_head_same, chain_tail_same, bucket_head_same, entry_same}

-- the header's numbers that no list gives
pub record Headed (D E : Fields) : Type 0 where
  pub settings : (i : ℕ) → i < 7 → D (in_header i) 0 ≡ E (in_header i) 0
  pub reads : total D (in_header READS) ≡ total E (in_header READS)
  pub writes : total D (in_header WRITES) ≡ total E (in_header WRITES)
  pub ins : total D (in_header INS) ≡ total E (in_header INS)
  pub outs : total D (in_header OUTS) ≡ total E (in_header OUTS)

module _ (s : Shape) (u w : List ℕ) (D E : Fields) (v : View s u D) (t : View s w E) (xs ys : List ℕ) (g : WellLinked s D xs ys)
    (h : WellLinked s E xs ys) (p : Headed D E) (a : Agreed s.nb D E xs) where
  -- both words of a total, as each is below 2^28
  total_words : (i : ℕ) → 16 ≤ i → i < 23 → total D (in_header i) ≡ total E (in_header i)
      → (D (in_header i) 0 ≡ E (in_header i) 0) × (D (in_header i + 1) 0 ≡ E (in_header i + 1) 0)
  total_words i l m e =
      let d : D (in_header i) 0 < 268435456 = v.small (in_header i) 0 i (header refl refl (omega arith) (omega arith) (omega arith)) in
      let f : E (in_header i) 0 < 268435456 = t.small (in_header i) 0 i (header refl refl (omega arith) (omega arith) (omega arith)) in
      (omega arith, omega arith)

  reads : (D 36 0 ≡ E 36 0) × (D 37 0 ≡ E 37 0)
  reads = total_words 16 (omega arith) (omega arith) p.reads

  writes : (D 38 0 ≡ E 38 0) × (D 39 0 ≡ E 39 0)
  writes = total_words 18 (omega arith) (omega arith) p.writes

  ins : (D 40 0 ≡ E 40 0) × (D 41 0 ≡ E 41 0)
  ins = total_words 20 (omega arith) (omega arith) p.ins

  outs : (D 42 0 ≡ E 42 0) × (D 43 0 ≡ E 43 0)
  outs = total_words 22 (omega arith) (omega arith) p.outs

  -- the header but head and tail of the stack, which are fields of entry 0
  abbrev Word : ℕ → Type 0
  Word i = ¬ (i ≡ 9) → ¬ (i ≡ 10) → D (in_header i) 0 ≡ E (in_header i) 0

  numbers : (i : ℕ) → i < 9 → Word i
  numbers =
      one_more Word 8 (one_more Word 7 (λ i l m n. p.settings i l)
      (λ m n. sym g.stack.full ∙ h.stack.full))
      (λ m n. g.count.sum ∙ sum_same s.N (D COUNT) (E COUNT) (λ x b c. count_same s D E xs ys g h a x (b, c)) ∙ sym h.count.sum)

  links : (i : ℕ) → i < 14 → Word i
  links =
      one_more Word 13 (one_more Word 12 (one_more Word 11 (one_more Word 10 (one_more Word 9 numbers
      (λ m n. absurd (m refl))) (λ m n. absurd (n refl)))
      (λ m n. g.stack.young ∙ sym h.stack.young))
      (λ m n. g.stack.elder ∙ sym h.stack.elder))
      (λ m n. unused_same s D E xs ys g h a)

  blanks : (i : ℕ) → i < 16 → Word i
  blanks =
      one_more Word 15 (one_more Word 14 links
      (λ m n. g.settled.blank14 ∙ sym h.settled.blank14))
      (λ m n. g.settled.blank15 ∙ sym h.settled.blank15)

  header_same : (i : ℕ) → i < 24 → Word i
  header_same =
      one_more Word 23 (one_more Word 22 (one_more Word 21 (one_more Word 20
      (one_more Word 19 (one_more Word 18 (one_more Word 17 (one_more Word 16 blanks
      (λ m n. reads.0)) (λ m n. reads.1)) (λ m n. writes.0)) (λ m n. writes.1)) (λ m n. ins.0)) (λ m n. ins.1)) (λ m n. outs.0))
      (λ m n. outs.1)

  ends_same : (k : ℕ) → 4 ≤ k → k ≤ 5 → D k 0 ≡ E k 0
  ends_same k l m = go (ℕ_discrete k 4)
    where
      go : Dec (k ≡ 4) → D k 0 ≡ E k 0
      go (yes e) = rw e (tail_same s D E xs ys g h a)
      go (no e) = let f : k ≡ 5 = omega arith in rw f (head_same s D E xs ys g h a)

  chain_same : (k i : ℕ) → 10 ≤ k → k ≤ 11 → 1 ≤ i → i ≤ s.cmax → D k i ≡ E k i
  chain_same k i l m b c = go (ℕ_discrete k 10)
    where
      go : Dec (k ≡ 10) → D k i ≡ E k i
      go (yes e) = rw e (chain_head_same s D E xs ys g h a i (b, c))
      go (no e) = let f : k ≡ 11 = omega arith in rw f (chain_tail_same s D E xs ys g h a i (b, c))

  pub fields_same : (k e i : ℕ) → Address s k e i → D k e ≡ E k e
  fields_same k e i (entry h1 h2 h3 h4) = entry_same s D E xs ys g h a k h1 e (h2, h3)
  fields_same k e i (ends h1 h2 h3 h4) = rw h1 (ends_same k h3 h4)
  fields_same k e i (chain h1 h2 h3 h4 h5) = chain_same k e h1 h2 h3 h4
  fields_same k e i (bucket h1 h2 h3) = rw h1 (bucket_head_same s D E xs ys g h a e h2)
  fields_same k e i (header h1 h2 h3 h4 h5) = rw (h1, h2) (header_same i h3 h4 h5)
