-- Which of the reads to come are awaited: each resident's next one. OPT's ins depend on nothing else: a read that is awaited is a hit; a
-- miss costs the last one that is awaited, where as many are awaited as there are blocks.
use Prim.Native.Nat.{ℕ, zero, suc, ◌+◌, ◌-◌, ◌≤◌, ◌<◌}
use Rattle.std.proofs.Common.{arith, ◌∙◌, inl, inr, ne_eqb, le-ltb}
use Rattle.std.specs.Prelude.{◌≡◌, ◌≢◌, ◌⊎◌, true, false, ltb}
use Rattle.std.proofs.Math.Path.{refl, sym, ap}
use Rattle.std.proofs.lemmas.Bool.{false≢true}
use mathlib.Core.List.{List, [], ◌∷◌}
use Rattle.std.proofs.Math.ListN.{length}
use Rattle.std.proofs.Math.Dec.{eqb, eqb-suc-zero, eqb-zero-suc, eqb-suc-suc}
use Rattle.basics.specs.Basics.{when◌then◌else◌, bit, member, index_of}
use Rattle.opt.specs.Opt.{remove, next, victim, kept, opt}
use Rattle.opt.specs.Optimal.{Rather}
use Rattle.opt.proofs.RemoveLaws.{either, same, eqb_self, apart, swap, below, above, Distinct, off_remove, remove_off, distinct_remove}
use Rattle.opt.proofs.RemoveLaws.{length_remove, Alike, alike_sym, alike_self, alike_remove, alike_front, member_remove}
use Rattle.opt.proofs.NearLaws.{soon, near, soon_yes, soon_no, near_le, near_off, near_in, near_remove}
use Rattle.opt.proofs.VictimLaws.{victim_in, victim_first}
use Rattle.opt.proofs.OptLaws.{Loaded, loaded, kept_near, kept_loads, opt_hit, opt_miss}

-- 1 where the read at position j of a trace is the next one of a resident
unfoldable pub awaited : List ℕ → List ℕ → ℕ → ℕ
unfolding member remove
awaited C [] j = 0
awaited C (b ∷ t) zero = bit (member b C)
awaited C (b ∷ t) (suc j) = awaited (remove b C) t j

-- ---- what is awaited

pub awaited_few : (t C : List ℕ) (j : ℕ) → awaited C t j ≤ 1
unfolding awaited
awaited_few [] C j = omega arith
awaited_few (b ∷ t) C zero = either (member b C) (λ e. rw e (omega arith)) (λ e. rw e (omega arith))
awaited_few (b ∷ t) C (suc j) = awaited_few t (remove b C) j

pub awaited_none : (t : List ℕ) (j : ℕ) → awaited [] t j ≡ 0
unfolding awaited
awaited_none [] j = refl
awaited_none (b ∷ t) zero = refl
awaited_none (b ∷ t) (suc j) = awaited_none t j

awaited_alike : (t : List ℕ) {C D : List ℕ} → Alike C D → (j : ℕ) → awaited C t j ≡ awaited D t j
unfolding awaited
awaited_alike [] a j = refl
awaited_alike (b ∷ t) a zero = ap bit (a.members b)
awaited_alike (b ∷ t) {C = C} {D = D} a (suc j) =
    either (member b C)
    (λ e. awaited_alike t (alike_remove b e a) j)
    (λ e. rw (remove_off b C e, remove_off b D (sym (a.members b) ∙ e)) (awaited_alike t a j))

awaited_add : (b : ℕ) (t R : List ℕ) → member b R ≡ false → (j : ℕ) → j < length t
    → awaited (b ∷ R) t j ≡ (when eqb (next b t) j then 1 else awaited R t j)
unfolding awaited index_of remove member
awaited_add b [] R h j l = absurd (omega arith)
awaited_add b (c ∷ t) R h zero l =
    either (eqb c b)
    (λ e. rw (same c b e, eqb_self b) refl)
    (λ e. rw (e, swap c b e, eqb-suc-zero) refl)
awaited_add b (c ∷ t) R h (suc j) l =
    let rec = awaited_add b t (remove c R) (off_remove b c R h) j (omega arith) in
    either (eqb c b)
    (λ e. rw (same c b e, eqb_self b, eqb-zero-suc, remove_off b R h) refl)
    (λ e. rw (e, swap c b e, eqb-suc-suc) rec)

awaited_gone : (v : ℕ) (t R : List ℕ) → member v R ≡ false → awaited R t (next v t) ≡ 0
unfolding awaited index_of
awaited_gone v [] R h = refl
awaited_gone v (c ∷ t) R h =
    either (eqb c v)
    (λ e. rw e (rw (same c v e, h) refl))
    (λ e. rw e (awaited_gone v t (remove c R) (off_remove v c R h)))

module _ (t C : List ℕ) (u : Distinct C) (x : ℕ) (m : member x C ≡ true) where
  awaited_front : (j : ℕ) → j < length t → awaited C t j ≡ (when eqb (next x t) j then 1 else awaited (remove x C) t j)
  awaited_front j l = let a = alike_front x m u in awaited_alike t a j ∙ awaited_add x t (remove x C) a.right.0 j l

  awaited_in : next x t < length t → awaited C t (next x t) ≡ 1
  awaited_in l = awaited_front (next x t) l ∙ rw (eqb_self (next x t)) refl

  awaited_other : (j : ℕ) → j < length t → next x t ≢ j → awaited (remove x C) t j ≡ awaited C t j
  awaited_other j l n = sym (awaited_front j l ∙ rw (ne_eqb (next x t) j n) refl)

awaited_out : (t C : List ℕ) → Distinct C → (j : ℕ) → awaited C t j ≢ 0 → (x : ℕ) × (member x C ≡ true) × (next x t ≡ j)
unfolding awaited index_of
awaited_out [] C u j h = absurd (h refl)
awaited_out (b ∷ t) C u zero h = either (member b C) (λ e. (b, e, rw (eqb_self b) refl)) (λ e. absurd (h (rw e refl)))
awaited_out (b ∷ t) C u (suc j) h =
    let (x, m, n) = awaited_out t (remove b C) (distinct_remove b C u) j h in
    let k = sym (member_remove x b C u) ∙ m in
    either (eqb b x)
    (λ e. absurd (false≢true (rw e at k)))
    (λ e. (x, rw e at k, rw e (ap suc n)))

-- ---- the last that is awaited

no_other : (n : ℕ) → (n ≢ 0 → ⊥) → n ≡ 0
no_other zero h = refl
no_other (suc n) h = absurd (h (λ (e : suc n ≡ 0). absurd (omega arith)))

-- where all residents are read again, whom OPT replaces is read last
record LastLeaves (t C : List ℕ) : Type 0 where
  pub inside : next (victim t C) t < length t
  pub is_awaited : awaited C t (next (victim t C) t) ≡ 1
  pub is_last : (j : ℕ) → next (victim t C) t < j → j < length t → awaited C t j ≡ 0
  pub gone : (j : ℕ) → j < length t → awaited (remove (victim t C) C) t j ≡ (when eqb (next (victim t C) t) j then 0 else awaited C t j)
  pub fewer_awaited : near (length t) t C ≡ suc (near (length t) t (remove (victim t C) C))

last_leaves : (t C : List ℕ) → Distinct C → 1 ≤ length C → length C ≤ near (length t) t C → LastLeaves t C
last_leaves t [] u some all = absurd (omega arith)
last_leaves t (a ∷ C) u some all =
    record {
      inside = inside;
      is_awaited = awaited_in t (a ∷ C) u v m inside;
      is_last = λ j g l. no_other (awaited (a ∷ C) t j)
          (λ n. let (x, k, e) = awaited_out t (a ∷ C) u j n in further_off x j g e (victim_first t a C x k));
      gone = λ j l. either (eqb (next v t) j)
          (λ e. rw (e, ← same (next v t) j e) (awaited_gone v t (remove v (a ∷ C)) (alike_front v m u).right.0))
          (λ e. rw e (awaited_other t (a ∷ C) u v m j l (apart (next v t) j e)));
      fewer_awaited = omega (arith, parts, soon_yes (length t) t v inside);
    }
  where
    v : ℕ
    v = victim t (a ∷ C)

    m : member v (a ∷ C) ≡ true
    m = victim_in t a C

    parts : near (length t) t (a ∷ C) ≡ soon (length t) t v + near (length t) t (remove v (a ∷ C))
    parts = near_remove (length t) t v (a ∷ C) m

    inside : next v t < length t
    inside =
        either (ltb (next v t) (length t))
        (λ e. below (next v t) (length t) e)
        (λ e. absurd (omega (arith, all, parts, soon_no (length t) t v e, near_le (length t) t (remove v (a ∷ C)), length_remove v (a ∷ C) m)))

    further_off : (x j : ℕ) → next v t < j → next x t ≡ j → Rather t v x → ⊥
    further_off x j g e (inl q) = absurd (omega arith)
    further_off x j g e (inr q) = absurd (omega (arith, q.0))

-- ---- one read

-- what is known of contents: which reads are awaited, and how many
pub record At (N : ℕ) (t : List ℕ) (A : ℕ → ℕ) (waiting : ℕ) (C : List ℕ) : Type 0 where
  pub distinct : Distinct C
  pub few : length C ≤ N
  pub awaited_are : (j : ℕ) → j < length t → A j ≡ awaited C t j
  pub waiting_is : waiting ≡ near (length t) t C

-- From contents C, block b was read and is not yet noted as awaited again: the others.
pub record Rest (N b : ℕ) (t : List ℕ) (C : List ℕ) (A : ℕ → ℕ) (waiting came : ℕ) : Type 0 where
  pub others : List ℕ
  pub after : List ℕ
  pub absent : member b others ≡ false
  pub alike : Alike (b ∷ others) after
  pub few : length after ≤ N
  pub near_is : near (length t) t after ≡ soon (length t) t b + near (length t) t others
  pub awaited_are : (j : ℕ) → j < length t → A j ≡ awaited others t j
  pub waiting_is : waiting ≡ near (length t) t others
  pub opt_is : opt N (b ∷ t) C ≡ came + opt N t after

-- by the same words
pub rest_as : {N b : ℕ} {t C : List ℕ} {A : ℕ → ℕ} {waiting came : ℕ} → Rest N b t C A waiting came → (A' : ℕ → ℕ) (waiting' came' : ℕ)
    → ((j : ℕ) → j < length t → A' j ≡ A j) → waiting' ≡ waiting → came' ≡ came → Rest N b t C A' waiting' came'
rest_as r A' waiting' came' words l k =
    record {
      others = r.others;
      after = r.after;
      absent = r.absent;
      alike = r.alike;
      few = r.few;
      near_is = r.near_is;
      awaited_are = λ j e. words j e ∙ r.awaited_are j e;
      waiting_is = l ∙ r.waiting_is;
      opt_is = omega (arith, r.opt_is, k);
    }

pub noted : {N b : ℕ} {t C : List ℕ} {A : ℕ → ℕ} {waiting came : ℕ} (r : Rest N b t C A waiting came)
    → At N t (λ j. when eqb (next b t) j then 1 else A j) (waiting + soon (length t) t b) r.after
noted {b = b} {t = t} r =
    record {
      distinct = r.alike.right;
      few = r.few;
      awaited_are = λ j l. ap (λ (n : ℕ). when eqb (next b t) j then 1 else n) (r.awaited_are j l)
          ∙ sym (awaited_add b t r.others r.absent j l) ∙ awaited_alike t r.alike j;
      waiting_is = omega (arith, r.waiting_is, r.near_is);
    }

module _ (N : ℕ) (pos : 1 ≤ N) (b : ℕ) (t : List ℕ) (A : ℕ → ℕ) (waiting : ℕ) (C : List ℕ) (h : At N (b ∷ t) A waiting C) where
  first_awaited : A 0 ≡ bit (member b C)
  unfolding awaited
  first_awaited = h.awaited_are 0 (omega arith)

  later_awaited : (j : ℕ) → j < length t → A (suc j) ≡ awaited (remove b C) t j
  unfolding awaited
  later_awaited j l = h.awaited_are (suc j) (omega arith)

  awaited_member : A 0 ≢ 0 → member b C ≡ true
  awaited_member n = either (member b C) (λ e. e) (λ e. absurd (n (first_awaited ∙ rw e refl)))

  not_member : A 0 ≡ 0 → member b C ≡ false
  not_member z = either (member b C) (λ e. let one : A 0 ≡ 1 = first_awaited ∙ rw e refl in absurd (omega arith)) (λ e. e)

  -- a hit
  pub hit_waiting : A 0 ≢ 0 → waiting ≡ suc (near (length t) t (remove b C))
  hit_waiting n =
      let m = awaited_member n in
      omega (arith, h.waiting_is, near_in (length t) t b C h.distinct m, near_remove (length t) t b C m)

  pub hit_rest : A 0 ≢ 0 → Rest N b t C (λ j. A (suc j)) (waiting - 1) 0
  hit_rest n =
      let m = awaited_member n in
      let a = alike_front b m h.distinct in
      record {
        others = remove b C;
        after = C;
        absent = a.right.0;
        alike = alike_sym a;
        few = h.few;
        near_is = near_remove (length t) t b C m;
        awaited_are = later_awaited;
        waiting_is = omega (arith, hit_waiting n);
        opt_is = omega (arith, opt_hit N b t C m);
      }

  -- a miss
  module _ (z : A 0 ≡ 0) where
    waiting_near : waiting ≡ near (length t) t C
    waiting_near = h.waiting_is ∙ near_off (length t) t b C (not_member z)

    miss_awaited : (j : ℕ) → j < length t → A (suc j) ≡ awaited C t j
    miss_awaited j l = later_awaited j l ∙ ap (λ D. awaited D t j) (remove_off b C (not_member z))

    after : Loaded N b C (b ∷ kept N t C)
    after = loaded h.few h.distinct (not_member z) (kept_loads N b t C pos h.few)

    near_fewer : near (length t) t (kept N t C) ≤ near (length t) t C
    unfolding near
    near_fewer = omega (arith, after.near_fewer (length t) t)

    miss_rest : (A' : ℕ → ℕ) (waiting' : ℕ) → ((j : ℕ) → j < length t → A' j ≡ awaited (kept N t C) t j)
        → waiting' ≡ near (length t) t (kept N t C) → Rest N b t C A' waiting' 1
    unfolding near
    miss_rest A' waiting' d l =
        record {
          others = kept N t C;
          after = b ∷ kept N t C;
          absent = after.once.0;
          alike = alike_self after.once;
          few = after.short;
          near_is = refl;
          awaited_are = d;
          waiting_is = l;
          opt_is = omega (arith, opt_miss N b t C (not_member z));
        }

    -- fewer are awaited than there are blocks: none of them leaves
    kept_awaited : waiting < N → (near (length t) t (kept N t C) ≡ near (length t) t C)
        → (j : ℕ) → j < length t → awaited (kept N t C) t j ≡ awaited C t j
    unfolding kept
    kept_awaited few e j l = either (ltb (length C) N) (λ f. rw f refl) (λ f. rw f (go C h.distinct (above (length C) N f) (rw f at e)))
      where
        go : (C : List ℕ) → Distinct C → N ≤ length C → near (length t) t (remove (victim t C) C) ≡ near (length t) t C
            → awaited (remove (victim t C) C) t j ≡ awaited C t j
        go [] u g e = refl
        go (a ∷ C) u g e =
            let v : ℕ = victim t (a ∷ C) in
            let m = victim_in t a C in
            let n = near_remove (length t) t v (a ∷ C) m in
            awaited_other t (a ∷ C) u v m j l (λ (is : next v t ≡ j). let y = soon_yes (length t) t v (omega arith) in absurd (omega arith))

    pub room_rest : waiting < N → Rest N b t C (λ j. A (suc j)) waiting 1
    room_rest few =
        let e : near (length t) t (kept N t C) ≡ near (length t) t C = go (kept_near N (length t) t C pos) in
        miss_rest (λ j. A (suc j)) waiting (λ j l. miss_awaited j l ∙ sym (kept_awaited few e j l)) (waiting_near ∙ sym e)
      where
        go : (near (length t) t (kept N t C) ≡ near (length t) t C) ⊎ (N ≤ suc (near (length t) t (kept N t C)))
            → near (length t) t (kept N t C) ≡ near (length t) t C
        go (inl e) = e
        go (inr e) = omega (arith, waiting_near, near_fewer)

    -- as many are awaited as there are blocks: the last of them leaves
    pub record Last : Type 0 where
      pub top : ℕ
      pub top_inside : top < length t
      pub top_awaited : A (suc top) ≡ 1
      pub top_last : (j : ℕ) → top < j → j < length t → A (suc j) ≡ 0
      pub rest : Rest N b t C (λ j. when eqb top j then 0 else A (suc j)) (waiting - 1) 1

    pub full_rest : N ≤ waiting → Last
    unfolding kept
    full_rest full =
        let most = near_le (length t) t C in
        let f = h.few in
        let n = waiting_near in
        let l = last_leaves t C h.distinct (omega arith) (omega arith) in
        let k : kept N t C ≡ remove (victim t C) C = rw (le-ltb (length C) N (omega arith)) refl in
        record {
          top = next (victim t C) t;
          top_inside = l.inside;
          top_awaited = miss_awaited _ l.inside ∙ l.is_awaited;
          top_last = λ j g e. miss_awaited j e ∙ l.is_last j g e;
          rest = miss_rest _ _
              (λ j e. ap (λ (n : ℕ). when eqb (next (victim t C) t) j then 0 else n) (miss_awaited j e)
              ∙ sym (l.gone j e) ∙ sym (ap (λ D. awaited D t j) k))
              (let g = ap (near (length t) t) k in let q = l.fewer_awaited in omega arith);
        }
