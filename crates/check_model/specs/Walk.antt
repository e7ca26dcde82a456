-- The stack's tests in one walk: links, numbers, chains and sums of an entry while it is at hand; the same as one walk for each.
use Prim.Native.Nat.{ℕ, zero, suc, ◌+◌, ◌*◌, ◌-◌, ◌%◌, ◌^◌, ◌<◌, ◌≤◌}
use Rattle.std.proofs.Common.{arith, eq-eqb, ne_eqb, lt-ltb, le-ltb, sym, ◌∙◌, length-drop, get_or-drop}
use Rattle.std.specs.Prelude.{◌≡◌, Bool, length, get_or, take, drop, replicate, T, ltb, eqb}
use Rattle.std.proofs.Math.Path.{refl, ap}
use Rattle.std.proofs.Math.Logic.{⊎_elim}
use Rattle.std.proofs.Math.Bool.{true, false}
use mathlib.Core.List.{List}
use Rattle.std.proofs.Math.Seq.{take-length}
use Rattle.basics.specs.Basics.{pick}
use Rattle.words.specs.Words.{val}
use Rattle.layout.specs.Addresses.{RESIDENTS, SUM, HEAD, TAIL, NEW-BOUNDARY, OLD-BOUNDARY, UNUSED, BLANK-14, BLANK-15, READS, WRITES, INS, OUTS, COUNT, TO-TAIL}
use Rattle.check_model.specs.Turns.{turns, moved}
use Rattle.check_model.specs.Fields.{less}
use Rattle.check_model.specs.LoopLaws.{link_low}
use Rattle.check_model.specs.Bools.{is_true, to_T, pick_yes, yes_pick, pick_pick}
use Rattle.check_model.specs.Tests.{fld, entry_word, head_of, tail_of, first_of, link_test, field_test, chain_test, last_at, noted, ends_ok, stack_ok, fields_ok, chains_ok, mark_bit, sum_of, nth_of, at_position, total_of, numbers_test, totals_test, unused_ok, buckets_from, lists_test}
use Rattle.basics.specs.TestLaws.{same_truth}

-- loops side by side

module _ {S : Type 0} (ok₁ ok₂ : S → Bool) (next : S → S) (done₁ done₂ : S → Bool) where
  pub turns_both : (k : ℕ) (s : S) → turns (λ s. pick (ok₁ s) (ok₂ s) false) next (λ s. pick (done₁ s) (done₂ s) false) k s ≡ pick
      (turns ok₁ next done₁ k s) (turns ok₂ next done₂ k s) false
  unfolding turns
  turns_both zero s = refl
  turns_both (suc k) s = go (ok₁ s) (ok₂ s) (turns ok₁ next done₁ k (next s)) (turns ok₂ next done₂ k (next s)) _ (turns_both k (next s))
    where
      go : (a b x y z : Bool) → z ≡ pick x y false → pick (pick a b false) z false ≡ pick (pick a x false) (pick b y false) false
      go true true x y z e = e
      go true false true y z e = refl
      go true false false y z e = refl
      go false b x y z e = refl

module _ {S : Type 0} (ok : S → Bool) (next : S → S) (done₁ done₂ : S → Bool) where
  pub turns_then : (k : ℕ) (s : S) → turns ok next (λ s. pick (done₁ s) (done₂ s) false) k s ≡ pick (turns ok next done₁ k s) (done₂ (moved next k s))
      false
  unfolding turns moved
  turns_then zero s = refl
  turns_then (suc k) s = pick_pick (ok s) (turns ok next done₁ k (next s)) (done₂ (moved next k (next s))) _ (turns_then k (next s))

module _ {S R : Type 0} (part : S → R) (next : S → S) (next' : R → R) (goes : (s : S) → part (next s) ≡ next' (part s)) where
  pub turns_part : (ok done : R → Bool) (k : ℕ) (s : S) → turns (λ s. ok (part s)) next (λ s. done (part s)) k s ≡ turns ok next' done k (part s)
  unfolding turns
  turns_part ok done zero s = refl
  turns_part ok done (suc k) s = rw (turns_part ok done k (next s), goes s)

  pub moved_part : (k : ℕ) (s : S) → part (moved next k s) ≡ moved next' k (part s)
  unfolding moved
  moved_part zero s = refl
  moved_part (suc k) s = rw (moved_part k (next s), goes s)

-- the numbers and totals with the sums at hand

unfoldable pub numbers_with : List ℕ → ℕ → ℕ → ℕ → ℕ → ℕ → Bool
numbers_with w n average s at_new at_old =
    pick (eqb (val w SUM) s)
    (pick (ltb (average * n) s) false
    (pick (eqb (val w NEW-BOUNDARY) at_new)
    (pick (eqb (val w OLD-BOUNDARY) at_old)
    (pick (eqb (val w BLANK-14) 0) (pick (eqb (val w BLANK-15) 0) true false) false) false) false)) false

unfoldable pub totals_with : List ℕ → ℕ → Bool
totals_with w marks =
    pick (ltb (total_of w READS) (total_of w INS)) false
    (pick (ltb (total_of w WRITES) (total_of w OUTS + marks)) false true)

-- the walk: entry, the one before, position, sum of counts, how many modified, the last of each count, the entries met at two positions

abbrev pub Place : Type 0
Place = ℕ × ℕ × ℕ × ℕ × ℕ × List ℕ × ℕ × ℕ

unfoldable pub met : ℕ → ℕ → ℕ → ℕ → ℕ
met p q e a = pick (eqb p q) e a

unfoldable pub entry_test : (ℕ → ℕ → ℕ) → (ℕ → ℕ) → ℕ → ℕ → ℕ → ℕ → ℕ → ℕ → ℕ → ℕ → List ℕ → Bool
entry_test f heads n m new mid cmax e before p l =
    pick (link_test f n e before) (pick (field_test f m new mid e p) (chain_test f heads cmax e (last_at l (f COUNT e))) false) false

pub entry_low : (f : ℕ → ℕ → ℕ) (heads : ℕ → ℕ) (n m new mid cmax e before p : ℕ) (l : List ℕ)
    → entry_test f heads n m new mid cmax e before p l ≡ true → e ≤ n
unfolding entry_test
entry_low f heads n m new mid cmax e before p l h = link_low f n e before (is_true _ (pick_yes (link_test f n e before) _ (to_T _ h)).0)

unfoldable pub walk_end : List ℕ → (ℕ → ℕ → ℕ) → ℕ → ℕ → ℕ → ℕ → ℕ → ℕ → ℕ → List ℕ → ℕ → ℕ → Bool
walk_end w f n cmax average e before s marks l at_new at_old =
    pick (pick (pick (eqb e 0) (eqb before (val w TAIL)) false) (ends_ok f (head_of w) (tail_of w) cmax l) false)
    (pick (numbers_with w n average s at_new at_old) (totals_with w marks) false) false

abbrev pub onward : (ℕ → ℕ → ℕ) → ℕ → ℕ → Place → Place
onward f new mid s = (
  f TO-TAIL s.0,
  s.0,
  s.2 + 1,
  s.3 + f COUNT s.0,
  s.4 + mark_bit f s.0,
  noted s.5 (f COUNT s.0) s.0,
  met s.2 new s.0 s.6,
  met s.2 mid s.0 s.7,
)

abbrev pub walk_from : List ℕ → (ℕ → ℕ → ℕ) → ℕ → ℕ → ℕ → ℕ → ℕ → ℕ → ℕ → Place → Bool
walk_from w f n m new mid cmax average k s =
    turns {S = Place} (λ s. entry_test f (head_of w) n m new mid cmax s.0 s.1 s.2 s.5) (onward f new mid)
    (λ s. walk_end w f n cmax average s.0 s.1 s.3 s.4 s.5 s.6 s.7) k s

unfoldable pub walk_test : List ℕ → (ℕ → ℕ → ℕ) → ℕ → ℕ → ℕ → ℕ → ℕ → ℕ → ℕ → ℕ → Bool
walk_test w f n m new mid cmax average r head = walk_from w f n m new mid cmax average r (head, 0, 0, 0, 0, replicate 65 0, 0, 0)

-- the entry met at a position

module _ (f : ℕ → ℕ → ℕ) (q : ℕ) where
  abbrev pub meet : ℕ × ℕ × ℕ → ℕ × ℕ × ℕ
  meet s = (f TO-TAIL s.0, s.1 + 1, met s.1 q s.0 s.2)

  met_past : (k e p a : ℕ) → q < p → (moved {S = ℕ × ℕ × ℕ} meet k (e, p, a)).2 ≡ a
  unfolding moved met
  met_past zero e p a h = refl
  met_past (suc k) e p a h =
      ap {A = Bool} (λ b. (moved {S = ℕ × ℕ × ℕ} meet k (f TO-TAIL e, p + 1, pick b e a)).2) (ne_eqb p q (λ x. omega arith))
      ∙ (met_past k (f TO-TAIL e) (p + 1) a (omega arith))

  met_none : (k e p a : ℕ) → p + k ≤ q → (moved {S = ℕ × ℕ × ℕ} meet k (e, p, a)).2 ≡ a
  unfolding moved met
  met_none zero e p a h = refl
  met_none (suc k) e p a h =
      ap {A = Bool} (λ b. (moved {S = ℕ × ℕ × ℕ} meet k (f TO-TAIL e, p + 1, pick b e a)).2) (ne_eqb p q (λ x. omega arith))
      ∙ (met_none k (f TO-TAIL e) (p + 1) a (omega arith))

  met_at : (k j e p a : ℕ) → p + j ≡ q → j < k → (moved {S = ℕ × ℕ × ℕ} meet k (e, p, a)).2 ≡ nth_of f j e
  unfolding moved met nth_of
  met_at zero j e p a h l = absurd (omega arith)
  met_at (suc k) zero e p a h l =
      ap {A = Bool} (λ b. (moved {S = ℕ × ℕ × ℕ} meet k (f TO-TAIL e, p + 1, pick b e a)).2) (eq-eqb p q (omega arith))
      ∙ (met_past k (f TO-TAIL e) (p + 1) e (omega arith))
  met_at (suc k) (suc j) e p a h l =
      ap {A = Bool} (λ b. (moved {S = ℕ × ℕ × ℕ} meet k (f TO-TAIL e, p + 1, pick b e a)).2) (ne_eqb p q (λ x. omega arith))
      ∙ (met_at k j (f TO-TAIL e) (p + 1) a (omega arith) (omega arith))

  met_is : (r head : ℕ) → (moved {S = ℕ × ℕ × ℕ} meet r (head, 0, 0)).2 ≡ at_position f r head q
  unfolding at_position
  met_is r head =
      ⊎_elim (λ h. rw (lt-ltb q r h) (met_at r q head 0 0 (omega arith) h)) (λ h. rw (le-ltb q r h) (met_none r head 0 0 (omega arith))) (less q r)

module _ (w : List ℕ) (f : ℕ → ℕ → ℕ) (n m new old cmax average r head : ℕ) where
  abbrev start : Place
  start = (head, 0, 0, 0, 0, replicate 65 0, 0, 0)

  abbrev mid : ℕ
  mid = n - old

  abbrev step : Place → Place
  step = onward f new mid

  abbrev links : Place → Bool
  links s = link_test f n s.0 s.1

  abbrev numbers : Place → Bool
  numbers s = field_test f m new (n - old) s.0 s.2

  abbrev chains : Place → Bool
  chains s = chain_test f (head_of w) cmax s.0 (last_at s.5 (f COUNT s.0))

  abbrev tail_is : Place → Bool
  tail_is s = pick (eqb s.0 0) (eqb s.1 (val w TAIL)) false

  abbrev ends : Place → Bool
  ends s = ends_ok f (head_of w) (tail_of w) cmax s.5

  abbrev sums : Place → Bool
  sums s = pick (numbers_with w n average s.3 s.6 s.7) (totals_with w s.4) false

  count_is : (moved step r start).3 ≡ sum_of f (f COUNT) r head
  unfolding sum_of
  count_is =
      ap {A = ℕ × ℕ} (λ z. z.1) (moved_part {S = Place} {R = ℕ × ℕ} (λ s. (s.0, s.3)) step (λ s. (f TO-TAIL s.0, s.1 + f COUNT s.0))
      (λ s. refl) r start)

  marks_is : (moved step r start).4 ≡ sum_of f (mark_bit f) r head
  unfolding sum_of
  marks_is =
      ap {A = ℕ × ℕ} (λ z. z.1)
      (moved_part {S = Place} {R = ℕ × ℕ} (λ s. (s.0, s.4)) step (λ s. (f TO-TAIL s.0, s.1 + mark_bit f s.0)) (λ s. refl) r start)

  new_is : (moved step r start).6 ≡ at_position f r head new
  new_is =
      ap {A = ℕ × ℕ × ℕ} (λ z. z.2) (moved_part {S = Place} {R = ℕ × ℕ × ℕ} (λ s. (s.0, s.2, s.6)) step (meet f new) (λ s. refl) r start)
      ∙ met_is f new r head

  old_is : (moved step r start).7 ≡ at_position f r head mid
  old_is =
      ap {A = ℕ × ℕ × ℕ} (λ z. z.2) (moved_part {S = Place} {R = ℕ × ℕ × ℕ} (λ s. (s.0, s.2, s.7)) step (meet f mid) (λ s. refl) r start)
      ∙ met_is f mid r head

  links_is : turns links step tail_is r start ≡ stack_ok f n r head (val w TAIL)
  unfolding stack_ok
  links_is =
      turns_part {S = Place} {R = ℕ × ℕ} (λ s. (s.0, s.1)) step (λ s. (f TO-TAIL s.0, s.0)) (λ s. refl) (λ s. link_test f n s.0 s.1)
      (λ s. pick (eqb s.0 0) (eqb s.1 (val w TAIL)) false) r start

  numbers_is : turns numbers step (λ _. true) r start ≡ fields_ok f m new (n - old) r head
  unfolding fields_ok
  numbers_is =
      turns_part {S = Place} {R = ℕ × ℕ} (λ s. (s.0, s.2)) step (λ s. (f TO-TAIL s.0, s.1 + 1)) (λ s. refl)
      (λ s. field_test f m new (n - old) s.0 s.1) (λ _. true) r start

  chains_is : turns chains step ends r start ≡ chains_ok f (head_of w) (tail_of w) cmax r head
  unfolding chains_ok
  chains_is =
      turns_part {S = Place} {R = ℕ × List ℕ} (λ s. (s.0, s.5)) step (λ s. (f TO-TAIL s.0, noted s.1 (f COUNT s.0) s.0)) (λ s. refl)
      (λ s. chain_test f (head_of w) cmax s.0 (last_at s.1 (f COUNT s.0))) (λ s. ends_ok f (head_of w) (tail_of w) cmax s.1) r start

  pub walk_same : walk_test w f n m new mid cmax average r head
      ≡ pick (pick (stack_ok f n r head (val w TAIL)) (pick (fields_ok f m new (n - old) r head) (chains_ok f (head_of w) (tail_of w) cmax r head) false)
      false)
      (pick (numbers_test w f n new old average r head) (totals_test w f r head) false) false
  unfolding walk_test entry_test walk_end numbers_with totals_with numbers_test totals_test
  walk_same =
      turns_then {S = Place} (λ s. pick (links s) (pick (numbers s) (chains s) false) false) step (λ s. pick (tail_is s) (ends s) false) sums r start
      ∙ rw (
        turns_both {S = Place} links (λ s. pick (numbers s) (chains s) false) step tail_is ends r start,
        turns_both {S = Place} numbers chains step (λ _. true) ends r start,
        links_is,
        numbers_is,
        chains_is,
        count_is,
        marks_is,
        new_is,
        old_is,
      )

-- the entries' words in the part that begins with entry 0

entry_word_lem : (w : List ℕ) (at j e : ℕ) → entry_word (drop at w) j e ≡ fld w at j e
unfolding entry_word fld val
entry_word_lem w at j e =
    let q : at + (9 * e + j) ≡ at + 9 * e + j = omega arith in
    ap (λ v. v % 2 ^ 28) (get_or-drop at w (9 * e + j) 0 ∙ ap (λ k. get_or w k 0) q)

entry_words : (w : List ℕ) (at : ℕ) → entry_word (drop at w) ≡ fld w at
entry_words w at = λ i j e. entry_word_lem w at j e i

-- all words from a place on
pub rest : (w : List ℕ) (at : ℕ) → take (length w - at) (drop at w) ≡ drop at w
rest w at = ap (λ k. take k (drop at w)) (sym (length-drop at w)) ∙ take-length (drop at w)

-- the lists, with the walk

unfoldable pub lists_walk : List ℕ → ℕ → ℕ → ℕ → ℕ → ℕ → ℕ → ℕ → Bool
lists_walk w n new old cmax average m nb =
    let f = entry_word (drop (15 + 2 * cmax + nb) w) in
    pick (ltb n (val w RESIDENTS)) false
    (pick (walk_test w f n m new (n - old) cmax average (val w RESIDENTS) (val w HEAD))
    (pick (unused_ok f n (n - val w RESIDENTS) (val w UNUSED))
    (buckets_from f (first_of w (24 + 2 * cmax)) n nb nb 0 (val w RESIDENTS)) false) false)

module _ (s u f n c b t : Bool) where
  abbrev apart : Bool
  apart = pick s (pick u (pick f (pick n (pick c (pick b t false) false) false) false) false) false

  abbrev joined : Bool
  joined = pick (pick (pick s (pick f c false) false) (pick n t false) false) (pick u b false) false

  there : T apart → T joined
  there h =
      let h1 = pick_yes s (pick u (pick f (pick n (pick c (pick b t false) false) false) false) false) h in
      let h2 = pick_yes u (pick f (pick n (pick c (pick b t false) false) false) false) h1.1 in
      let h3 = pick_yes f (pick n (pick c (pick b t false) false) false) h2.1 in
      let h4 = pick_yes n (pick c (pick b t false) false) h3.1 in
      let h5 = pick_yes c (pick b t false) h4.1 in
      let h6 = pick_yes b t h5.1 in
      yes_pick (pick (pick s (pick f c false) false) (pick n t false) false) (pick u b false)
      (yes_pick (pick s (pick f c false) false) (pick n t false) (yes_pick s (pick f c false) h1.0 (yes_pick f c h3.0 h5.0))
      (yes_pick n t h4.0 h6.1))
      (yes_pick u b h2.0 h6.0)

  back : T joined → T apart
  back h =
      let h1 = pick_yes (pick (pick s (pick f c false) false) (pick n t false) false) (pick u b false) h in
      let h2 = pick_yes (pick s (pick f c false) false) (pick n t false) h1.0 in
      let h3 = pick_yes s (pick f c false) h2.0 in
      let h4 = pick_yes f c h3.1 in
      let h5 = pick_yes n t h2.1 in
      let h6 = pick_yes u b h1.1 in
      yes_pick s (pick u (pick f (pick n (pick c (pick b t false) false) false) false) false) h3.0
      (yes_pick u (pick f (pick n (pick c (pick b t false) false) false) false) h6.0
      (yes_pick f (pick n (pick c (pick b t false) false) false) h4.0
      (yes_pick n (pick c (pick b t false) false) h5.0
      (yes_pick c (pick b t false) h4.1 (yes_pick b t h6.1 h5.1)))))

  pub regroup : apart ≡ joined
  regroup = same_truth apart joined there back

module _ (w : List ℕ) (n new old cmax average m nb : ℕ) where
  abbrev fw : ℕ → ℕ → ℕ
  fw = fld w (15 + 2 * cmax + nb)

  pub lists_walk_lem : lists_test w n new old cmax average m nb ≡ lists_walk w n new old cmax average m nb
  unfolding lists_test lists_walk
  lists_walk_lem =
      rw (
        entry_words w (15 + 2 * cmax + nb),
        walk_same w fw n m new old cmax average (val w RESIDENTS) (val w HEAD),
        regroup (stack_ok fw n (val w RESIDENTS) (val w HEAD) (val w TAIL)) (unused_ok fw n (n - val w RESIDENTS) (val w UNUSED))
            (fields_ok fw m new (n - old) (val w RESIDENTS) (val w HEAD)) (numbers_test w fw n new old average (val w RESIDENTS) (val w HEAD))
            (chains_ok fw (head_of w) (tail_of w) cmax (val w RESIDENTS) (val w HEAD))
            (buckets_from fw (first_of w (24 + 2 * cmax)) n nb nb 0 (val w RESIDENTS)) (totals_test w fw (val w RESIDENTS) (val w HEAD)),
      )
