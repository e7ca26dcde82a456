-- Singly linked lists, from a head to 0.
-- Assumes nothing.
use Rattle.std.specs.Prelude.{ℕ, suc, ◌<◌, ◌≡◌, refl, List, [], ◌∷◌, ◌++◌, length}
use Rattle.std.proofs.Common.{sym, arith}
use Rattle.links.specs.Upd.{upd, upd_same, upd_other}
use Rattle.links.specs.Off.{Off, Distinct, Same, same_off, off_right, off_less}
use Rattle.links.specs.Run.{Run, run_same, run_keep, last}
use Rattle.links.specs.Ring.{cut_run}
use Rattle.links.proofs.Ends.{at_is, end_is}
use Rattle.links.specs.Ends.{at, end}
use Rattle.links.specs.Walk.{Depth, depth_one}

-- no field says that the entries differ: that follows
pub record Sll (n : ℕ → ℕ) (h : ℕ) (xs : List ℕ) : Type 0 where
  pub fwd : Run n h xs 0
  pub some : Off 0 xs

run_depth : (n : ℕ → ℕ) (h : ℕ) (xs : List ℕ) → Run n h xs 0 → Off 0 xs → Depth n (length xs) h
run_depth n h [] r o = r
run_depth n h (e ∷ xs) r o =
    rw r.0 (λ w. o.0 (sym w), run_depth n (n e) xs r.1 o.1)

-- what lies deeper than the whole run stands off it
run_deep : (n : ℕ → ℕ) (h : ℕ) (xs : List ℕ) (k z : ℕ) → Run n h xs 0 → Off 0 xs → Depth n k z → length xs < k → Off z xs
run_deep n h [] k z r o v c = tt
run_deep n h (e ∷ xs) k z r o v c =
    let y : Depth n (suc (length xs)) e = (λ w. o.0 (sym w), run_depth n (n e) xs r.1 o.1) in
    (λ w. omega (arith, depth_one n k (suc (length xs)) e (rw w at v) y), run_deep n (n e) xs k z r.1 o.1 v (omega arith))

pub run_distinct : (n : ℕ → ℕ) (h : ℕ) (xs : List ℕ) → Run n h xs 0 → Off 0 xs → Distinct xs
run_distinct n h [] r o = tt
run_distinct n h (e ∷ xs) r o =
    let y : Depth n (suc (length xs)) e = (λ w. o.0 (sym w), run_depth n (n e) xs r.1 o.1) in
    (run_deep n (n e) xs (suc (length xs)) e r.1 o.1 y (omega arith), run_distinct n (n e) xs r.1 o.1)

pub sll_distinct : (n : ℕ → ℕ) (h : ℕ) (xs : List ℕ) → Sll n h xs → Distinct xs
sll_distinct n h xs g = run_distinct n h xs g.fwd g.some

pub sll_same : (n m : ℕ → ℕ) (h : ℕ) (xs : List ℕ) → Same n m xs → Sll n h xs → Sll m h xs
sll_same n m h xs s g = record { fwd = run_same n m h xs 0 s g.fwd; some = g.some }

-- frame
pub sll_keep : (n : ℕ → ℕ) (h : ℕ) (xs : List ℕ) (e v : ℕ) → Off e xs → Sll n h xs → Sll (upd n e v) h xs
sll_keep n h xs e v o g = record { fwd = run_keep n e v h xs 0 o g.fwd; some = g.some }

pub sll_push : (n : ℕ → ℕ) (h e : ℕ) (xs : List ℕ) → Off e (0 ∷ xs) → Sll n h xs → Sll (upd n e h) e (e ∷ xs)
sll_push n h e xs z g =
    record { fwd = (refl, rw upd_same (run_keep n e h h xs 0 z.1 g.fwd)); some = (omega arith, g.some) }

pub sll_pop : (n : ℕ → ℕ) (h e : ℕ) (xs : List ℕ) → Sll n h (e ∷ xs) → Sll n (n h) xs
sll_pop n h e xs g = record { fwd = rw g.fwd.0 g.fwd.1; some = g.some.1 }

-- `e` is taken out: what it names goes to the link of `q`, the last of `us`, or to the head where there is none.
pub sll_remove : (n : ℕ → ℕ) (h : ℕ) (us : List ℕ) (e : ℕ) (vs : List ℕ) (q : ℕ) → q ≡ last 0 us → Sll n h (us ++ (e ∷ vs))
    → Sll (at n q (n e)) (end h q (n e)) (us ++ vs)
sll_remove n h us e vs q l g =
    let z : ¬ (e ≡ 0) = λ c. (off_right 0 us (e ∷ vs) g.some).0 (sym c) in
    let d : Distinct (us ++ (e ∷ vs)) = sll_distinct n h (us ++ (e ∷ vs)) g in
    let n' : ℕ → ℕ = upd n 0 h in
    let o : Off 0 (us ++ vs) = off_less 0 us e vs g.some in
    let f : Run n' (n' 0) (us ++ (e ∷ vs)) 0 = rw upd_same (run_keep n 0 h h (us ++ (e ∷ vs)) 0 g.some g.fwd) in
    let r : Run (upd n' q (n e)) (upd n' q (n e) 0) (us ++ vs) 0 =
    rw (upd_other n 0 h e z) at (cut_run n' 0 us e vs 0 q l f g.some d) in
    record {
      fwd =
          rw (← end_is n h q (n e)) (run_same (upd n' q (n e)) (at n q (n e)) (upd n' q (n e) 0) (us ++ vs) 0
          (same_off (upd n' q (n e)) (at n q (n e)) 0 (us ++ vs) (at_is n h q (n e)) o) r);
      some = o;
    }
