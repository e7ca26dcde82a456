-- OPT has the fewest block ins. Within the next d reads, whatever d, a scheme has at most as many more residents that are read than OPT as
-- it has had more ins.
use Rattle.std.specs.Prelude.{ℕ, zero, suc, ◌+◌, ◌≤◌, ◌<◌, ◌≡◌, refl, ◌⊎◌, true, false, length, eqb, ltb}
use Rattle.std.proofs.Common.{arith, sym, ap, ◌∙◌, inl, inr}
use Rattle.std.proofs.Math.Logic.{⊎_elim}
use mathlib.Core.List.{List, [], ◌∷◌}
use Rattle.std.proofs.Math.Facts.{ltb_yes, ltb_no}
use Rattle.basics.specs.Basics.{when◌then◌else◌, member}
use Rattle.basics.specs.TestLaws.{if_either}
use Rattle.opt.specs.Opt.{remove, next, victim, kept, opt, opt_ins}
use Rattle.opt.specs.Schemes.{Loads, room, full, Runs, done, hit, miss, Rule, Names, rule_ins}
use Rattle.opt.specs.Optimal.{OptFewest, RulesNoFewer, opt_rule, OptIsARule}
use Rattle.opt.proofs.RemoveLaws.{either, eqb_self, below, Distinct, length_remove, off_remove, distinct_remove}
use Rattle.opt.proofs.NearLaws.{soon, near, soon_zero, soon_yes, soon_no, near_le, near_zero, near_off, near_in, near_remove}
use Rattle.opt.proofs.VictimLaws.{victim_in, victim_last, victim_furthest}

-- ---- what a load leaves

pub record Loaded (N b : ℕ) (C D : List ℕ) : Type 0 where
  pub near_fewer : (d : ℕ) (t : List ℕ) → near d t D ≤ soon d t b + near d t C
  pub near_short : (d : ℕ) (t : List ℕ) → near d t D < soon d t b + N
  pub short : length D ≤ N
  pub once : Distinct D

pub loaded : {N b : ℕ} {C D : List ℕ} → length C ≤ N → Distinct C → member b C ≡ false → Loads N b C D → Loaded N b C D
unfolding near
loaded {C = C} l u h (room s) =
    record {
      near_fewer = λ d t. omega arith;
      near_short = λ d t. omega (arith, near_le d t C);
      short = s;
      once = (h, u);
    }
loaded {b = b} {C = C} l u h (full v e m) =
    record {
      near_fewer = λ d t. omega (arith, near_remove d t v C m);
      near_short = λ d t. omega (arith, near_le d t (remove v C), length_remove v C m);
      short = omega (arith, length_remove v C m);
      once = (off_remove b v C h, distinct_remove v C u);
    }

-- ---- whom OPT replaces

all_near : (d : ℕ) (t C : List ℕ) → ((x : ℕ) → member x C ≡ true → next x t < d) → near d t C ≡ length C
unfolding near member
all_near d t [] h = refl
all_near d t (y ∷ C) h =
    omega
    (arith, soon_yes d t y (h y (rw (eqb_self y) refl)), all_near d t C (λ x m. h x (rw m (either (eqb y x) (λ e. rw e) (λ e. rw e)))))

-- where even the victim is read soon, all are
victim_near : (d : ℕ) (t : List ℕ) (a : ℕ) (C : List ℕ) → next (victim t (a ∷ C)) t < d → near d t (a ∷ C) ≡ length (a ∷ C)
victim_near d t a C h = all_near d t (a ∷ C) (λ x m. let l = victim_last t a C x m in omega arith)

-- as many are read soon as before, or all that can be
pub kept_near : (N d : ℕ) (t C : List ℕ) → 1 ≤ N → (near d t (kept N t C) ≡ near d t C) ⊎ (N ≤ suc (near d t (kept N t C)))
unfolding kept
kept_near N d t C p =
    if_either (λ D. (near d t D ≡ near d t C) ⊎ (N ≤ suc (near d t D))) (ltb (length C) N) C (remove (victim t C) C)
    (λ e. inl refl)
    (λ e. go C (ltb_no e))
  where
    go : (C : List ℕ) → N ≤ length C
        → (near d t (remove (victim t C) C) ≡ near d t C) ⊎ (N ≤ suc (near d t (remove (victim t C) C)))
    go [] l = absurd (omega arith)
    go (a ∷ C) l =
        let v : ℕ = victim t (a ∷ C) in
        let n = near_remove d t v (a ∷ C) (victim_in t a C) in
        either (ltb (next v t) d)
        (λ e. let h : next v t < d = below (next v t) d e in inr (omega (arith, n, soon_yes d t v h, victim_near d t a C h)))
        (λ e. inl (omega (arith, n, soon_no d t v e)))

pub kept_loads : (N b : ℕ) (t C : List ℕ) → 1 ≤ N → length C ≤ N → Loads N b C (b ∷ kept N t C)
unfolding kept
kept_loads N b t C p l =
    if_either (λ D. Loads N b C (b ∷ D)) (ltb (length C) N) C (remove (victim t C) C) (λ e. room (ltb_yes e)) (λ e. go C l (ltb_no e))
  where
    go : (C : List ℕ) → length C ≤ N → N ≤ length C → Loads N b C (b ∷ remove (victim t C) C)
    go [] l m = absurd (omega arith)
    go (a ∷ C) l m = full (victim t (a ∷ C)) (omega arith) (victim_in t a C)

-- ---- OPT at one read

pub opt_hit : (N b : ℕ) (t S : List ℕ) → member b S ≡ true → opt N (b ∷ t) S ≡ opt N t S
unfolding opt
opt_hit N b t S e = rw (e, opt)

pub opt_miss : (N b : ℕ) (t S : List ℕ) → member b S ≡ false → opt N (b ∷ t) S ≡ suc (opt N t (b ∷ kept N t S))
unfolding opt
opt_miss N b t S e = rw (e, opt)

-- ---- the invariant

-- Within the next d reads, residents C have at most k more that are read than OPT's residents S.
abbrev Ahead : List ℕ → List ℕ → List ℕ → ℕ → Type 0
Ahead t C S k = (d : ℕ) → near d t C ≤ near d t S + k

module _ (N : ℕ) (pos : 1 ≤ N) (b : ℕ) (t C S : List ℕ) where
  hit_hit : (k : ℕ) → Distinct C → Distinct S → member b C ≡ true → member b S ≡ true → Ahead (b ∷ t) C S k → Ahead t C S k
  hit_hit k u w h g a d = omega (arith, a (suc d), near_in d t b C u h, near_in d t b S w g)

  -- the scheme hits and OPT doesn't: it was ahead
  hit_miss_0 : Distinct C → member b C ≡ true → member b S ≡ false → Ahead (b ∷ t) C S 0 → ⊥
  hit_miss_0 u h g a = omega (arith, a 1, near_in 0 t b C u h, near_off 0 t b S g, near_zero t C, near_zero t S, soon_zero t b)

  hit_miss : (k : ℕ) → Distinct C → length C ≤ N → member b C ≡ true → member b S ≡ false → Ahead (b ∷ t) C S (suc k)
      → Ahead t C (b ∷ kept N t S) k
  unfolding near
  hit_miss k u l h g a d =
      ⊎_elim
      (λ e. omega (arith, a (suc d), near_in d t b C u h, near_off d t b S g))
      (λ e. omega (arith, near_in d t b C u h, near_le (suc d) (b ∷ t) C))
      (kept_near N d t S pos)

  miss_hit : (k : ℕ) (D : List ℕ) → Distinct S → member b C ≡ false → member b S ≡ true → Loaded N b C D → Ahead (b ∷ t) C S k
      → Ahead t D S (suc k)
  miss_hit k D w h g f a d = omega (arith, a (suc d), near_off d t b C h, near_in d t b S w g, f.near_fewer d t)

  miss_miss : (k : ℕ) (D : List ℕ) → member b C ≡ false → member b S ≡ false → Loaded N b C D → Ahead (b ∷ t) C S k
      → Ahead t D (b ∷ kept N t S) k
  unfolding near
  miss_miss k D h g f a d =
      ⊎_elim
      (λ e. omega (arith, a (suc d), near_off d t b C h, near_off d t b S g, f.near_fewer d t))
      (λ e. omega (arith, f.near_short d t))
      (kept_near N d t S pos)

kept_distinct : (N b : ℕ) (t S : List ℕ) → Distinct S → member b S ≡ false → Distinct (b ∷ kept N t S)
unfolding kept
kept_distinct N b t S w g =
    if_either (λ D. Distinct (b ∷ D)) (ltb (length S) N) S (remove (victim t S) S)
    (λ e. (g, w))
    (λ e. (off_remove b (victim t S) S g, distinct_remove (victim t S) S w))

-- ---- OPT against any run, from any residents

least : (N : ℕ) → 1 ≤ N → {t C : List ℕ} {ins : ℕ} → Runs N t C ins → (S : List ℕ) (k : ℕ)
    → Distinct C → Distinct S → length C ≤ N → Ahead t C S k → opt N t S ≤ ins + k
unfolding opt
least N pos done S k u w l a = omega arith
least N pos (hit {b = b} {t = t} {C = C} {ins = ins} h r) S k u w l a =
    either (member b S)
    (λ g. rw (opt_hit N b t S g) (least N pos r S k u w l (hit_hit N pos b t C S k u w h g a)))
    (λ g. rw (opt_miss N b t S g) (go k g a (λ k'. least N pos r (b ∷ kept N t S) k' u (kept_distinct N b t S w g) l)))
  where
    go : (k : ℕ) → member b S ≡ false → Ahead (b ∷ t) C S k
        → ((k' : ℕ) → Ahead t C (b ∷ kept N t S) k' → opt N t (b ∷ kept N t S) ≤ ins + k')
        → suc (opt N t (b ∷ kept N t S)) ≤ ins + k
    go zero g a rec = absurd (hit_miss_0 N pos b t C S u h g a)
    go (suc k) g a rec = omega (arith, rec k (hit_miss N pos b t C S k u l h g a))
least N pos (miss {b = b} {t = t} {C = C} {D = D} {ins = ins} h q r) S k u w l a =
    let f = loaded l u h q in
    either (member b S)
    (λ g.
    rw (opt_hit N b t S g)
    (omega (arith, least N pos r S (suc k) f.once w f.short (miss_hit N pos b t C S k D w h g f a))))
    (λ g.
    rw (opt_miss N b t S g)
    (omega (arith, least N pos r (b ∷ kept N t S) k f.once (kept_distinct N b t S w g) f.short (miss_miss N pos b t C S k D h g f a))))

pub opt_fewest : OptFewest
unfolding opt_ins
opt_fewest N pos t ins r = omega (arith, least N pos r [] 0 tt tt (omega arith) (λ d. omega arith))

-- ---- what goes by a rule

module _ (rule : Rule) (N : ℕ) where
  abbrev stay : List ℕ → List ℕ → List ℕ → List ℕ
  stay past t C = when ltb (length C) N then C else remove (rule past t C) C

  rule_hit : (b : ℕ) (past t C : List ℕ) → member b C ≡ true → rule_ins rule N past (b ∷ t) C ≡ rule_ins rule N (b ∷ past) t C
  unfolding rule_ins
  rule_hit b past t C e = rw (e, rule_ins)

  rule_miss : (b : ℕ) (past t C : List ℕ) → member b C ≡ false
      → rule_ins rule N past (b ∷ t) C ≡ suc (rule_ins rule N (b ∷ past) t (b ∷ stay (b ∷ past) t C))
  unfolding rule_ins
  rule_miss b past t C e = rw (e, rule_ins)

-- ---- it is a scheme

module _ (rule : Rule) (names : Names rule) (N : ℕ) (pos : 1 ≤ N) where
  rule_loads : (b : ℕ) (past t C : List ℕ) → length C ≤ N → Loads N b C (b ∷ stay rule N past t C)
  rule_loads b past t C l =
      if_either (λ D. Loads N b C (b ∷ D)) (ltb (length C) N) C (remove (rule past t C) C)
      (λ e. room (ltb_yes e))
      (λ e. let m : N ≤ length C = ltb_no e in full (rule past t C) (omega arith) (names past t C (omega arith)))

  rule_runs : (past t C : List ℕ) → length C ≤ N → Distinct C → Runs N t C (rule_ins rule N past t C)
  unfolding rule_ins
  rule_runs past [] C l u = done
  rule_runs past (b ∷ t) C l u =
      either (member b C)
      (λ g. rw (rule_hit rule N b past t C g) (hit g (rule_runs (b ∷ past) t C l u)))
      (λ g.
      let q = rule_loads b (b ∷ past) t C l in
      let f = loaded l u g q in
      rw (rule_miss rule N b past t C g) (miss g q (rule_runs (b ∷ past) t (b ∷ stay rule N (b ∷ past) t C) f.short f.once)))

pub rules_no_fewer : RulesNoFewer
rules_no_fewer rule names N pos t =
    opt_fewest N pos t (rule_ins rule N [] t []) (rule_runs rule names N pos [] t [] (omega arith) tt)

-- ---- OPT goes by a rule

by_rule : (N : ℕ) (past t C : List ℕ) → rule_ins opt_rule N past t C ≡ opt N t C
unfolding rule_ins opt kept
by_rule N past [] C = refl
by_rule N past (b ∷ t) C =
    either (member b C)
    (λ g. rule_hit opt_rule N b past t C g ∙ by_rule N (b ∷ past) t C ∙ sym (opt_hit N b t C g))
    (λ g. rule_miss opt_rule N b past t C g ∙ ap suc (by_rule N (b ∷ past) t (b ∷ stay opt_rule N (b ∷ past) t C)) ∙ sym (missed g))
  where
    kept_is : kept N t C ≡ stay opt_rule N (b ∷ past) t C
    kept_is = refl

    missed : member b C ≡ false → opt N (b ∷ t) C ≡ suc (opt N t (b ∷ stay opt_rule N (b ∷ past) t C))
    missed g = opt_miss N b t C g ∙ ap (λ D. suc (opt N t (b ∷ D))) kept_is

pub opt_is_a_rule : OptIsARule
unfolding opt_ins
opt_is_a_rule = ((λ past coming C some. (victim_furthest coming C some).0), λ N t. by_rule N [] t [])
