-- A stack's entries in chains by a key: chain `i` lists the entries of key `i` in the stack's order. All chains share the two link fields.
-- Assumes nothing.
use Rattle.std.specs.Prelude.{ℕ, ◌≡◌, Bool, true, false, T, eqb}
use Rattle.std.proofs.Math.Path.{refl}
use Rattle.std.proofs.Common.{◌∙◌, sym, ap, eqb→eq}
use mathlib.Core.List.{List, [], ◌∷◌, ◌++◌}
use Rattle.std.proofs.Math.Decide.{ℕ_discrete}
use Rattle.std.proofs.Math.Dec.{eqb_refl}
use Rattle.basics.specs.Basics.{All, pick}
use Rattle.basics.specs.AllLaws.{all_map}
use Rattle.links.specs.Upd.{upd, upd_same, upd_other}
use Rattle.links.specs.Off.{Off, Same, same_off, off_join, off_left, off_right}
use Rattle.links.specs.Run.{run_first_of, back_last_of, run_first, last, first}
use Rattle.links.specs.Ring.{Dll}
use Rattle.links.proofs.Ends.{dll_same, dll_keep, to_ring, remove_ends, insert_ends}
use Rattle.links.specs.Ends.{at, end}
use Rattle.links.specs.All.{all_sift, all_next, all_prev, all_head}
use Rattle.links.specs.Sift.{sift, sift_append, sift_in, sift_out, sift_same, off_sift, off_fails, sift_last, sift_first}

is_true : (t : Bool) → T t → t ≡ true
is_true true h = refl
is_true false h = absurd h

is_false : (t : Bool) → (T t → ⊥) → t ≡ false
is_false true h = absurd (h tt)
is_false false h = refl

to_T : (t : Bool) → t ≡ true → T t
to_T t h = rw h tt

pub eqb_yes : (a b : ℕ) → a ≡ b → eqb a b ≡ true
eqb_yes a b h = rw h (is_true (eqb b b) (eqb_refl b))

pub eqb_no : (a b : ℕ) → ¬ (a ≡ b) → eqb a b ≡ false
eqb_no a b h = is_false (eqb a b) (λ t. h (eqb→eq a b t))

pub eqb_is : (a b : ℕ) → eqb a b ≡ true → a ≡ b
eqb_is a b h = eqb→eq a b (to_T (eqb a b) h)

abbrev pub keyed : (ℕ → ℕ) → ℕ → ℕ → Bool
keyed key i x = eqb (key x) i

pub chain : (ℕ → ℕ) → ℕ → List ℕ → List ℕ
chain key i xs = sift (keyed key i) xs

-- The chains `i` of which `Has i`; head and tail of each stand in words of its own.
abbrev pub Chains : (ℕ → Type 0) → (ℕ → ℕ) → (ℕ → ℕ) → (ℕ → ℕ) → (ℕ → ℕ) → (ℕ → ℕ) → List ℕ → Type 0
Chains Has n p heads tails key xs = (i : ℕ) → Has i → Dll n p (heads i) (tails i) (chain key i xs)

-- A store at `q` or at an end leaves a list that `q` stands off.
pub same_at : (f : ℕ → ℕ) (q v : ℕ) (xs : List ℕ) → Off q xs → Same f (at f q v) xs
same_at f q v xs o = same_off f (at f q v) q xs (λ x h. go x (eqb q 0) h) o
  where
    go : (x : ℕ) (t : Bool) → ¬ (x ≡ q) → f x ≡ pick t (f x) (upd f q v x)
    go x true h = refl
    go x false h = sym (upd_other f q v x h)

-- The last entry of chain `c` stands off chain `i`, and so does the first.
other_last : (key : ℕ → ℕ) (c i : ℕ) (us xs : List ℕ) → ¬ (i ≡ c) → Off 0 (chain key i xs) → Off (last 0 (chain key c us)) (chain key i xs)
unfolding chain
other_last key c i us xs h o =
    sift_last (λ x. Off x (chain key i xs)) (keyed key c) 0 us o
    (λ x k. off_fails (keyed key i) x xs (eqb_no (key x) i (λ w. h (sym w ∙ eqb_is (key x) c k))))

other_first : (key : ℕ → ℕ) (c i : ℕ) (vs xs : List ℕ) → ¬ (i ≡ c) → Off 0 (chain key i xs) → Off (first (chain key c vs) 0) (chain key i xs)
unfolding chain
other_first key c i vs xs h o =
    sift_first (λ x. Off x (chain key i xs)) (keyed key c) vs 0 o
    (λ x k. off_fails (keyed key i) x xs (eqb_no (key x) i (λ w. h (sym w ∙ eqb_is (key x) c k))))

chain_in_lem : (key : ℕ → ℕ) (us : List ℕ) (e : ℕ) (vs : List ℕ) (i : ℕ) → i ≡ key e
    → chain key i (us ++ (e ∷ vs)) ≡ chain key i us ++ (e ∷ chain key i vs)
unfolding chain
chain_in_lem key us e vs i h = sift_in (keyed key i) us e vs (eqb_yes (key e) i (sym h))

chain_out_lem : (key : ℕ → ℕ) (us : List ℕ) (e : ℕ) (vs : List ℕ) (i : ℕ) → ¬ (i ≡ key e) → chain key i (us ++ (e ∷ vs)) ≡ chain key i (us ++ vs)
unfolding chain
chain_out_lem key us e vs i h = sift_out (keyed key i) us e vs (eqb_no (key e) i (λ w. h (sym w)))

chain_append : (key : ℕ → ℕ) (us vs : List ℕ) (i : ℕ) → chain key i (us ++ vs) ≡ chain key i us ++ chain key i vs
unfolding chain
chain_append key us vs i = sift_append (keyed key i) us vs

-- A key matters at the stack's own entries alone.
pub chain_same : (key key' : ℕ → ℕ) (e : ℕ) (xs : List ℕ) (i : ℕ) → ((x : ℕ) → ¬ (x ≡ e) → key x ≡ key' x) → Off e xs
    → chain key i xs ≡ chain key' i xs
unfolding chain
chain_same key key' e xs i h o = sift_same (keyed key i) (keyed key' i) e xs (λ x q. ap (λ (k : ℕ). eqb k i) (h x q)) o

off_chain : (key : ℕ → ℕ) (i z : ℕ) (xs : List ℕ) → Off z xs → Off z (chain key i xs)
unfolding chain
off_chain key i z xs o = off_sift (keyed key i) z xs o

pub chains_key : (Has : ℕ → Type 0) (n p heads tails key : ℕ → ℕ) (e v : ℕ) (xs : List ℕ) → Off e xs → Chains Has n p heads tails key xs
    → Chains Has n p heads tails (upd key e v) xs
chains_key Has n p heads tails key e v xs o g i hi =
    rw (chain_same key (upd key e v) e xs i (λ x q. sym (upd_other key e v x q)) o) at (g i hi)

module _ (Has : ℕ → Type 0) (n p heads tails key : ℕ → ℕ) (us : List ℕ) (e : ℕ) (vs : List ℕ) where
  -- `e` leaves its chain.
  pub chains_remove : (c : ℕ) → c ≡ key e → Has c → Chains Has n p heads tails key (us ++ (e ∷ vs))
      → Chains Has (at n (p e) (n e)) (at p (n e) (p e)) (upd heads c (end (heads c) (p e) (n e))) (upd tails c (end (tails c) (n e) (p e))) key
      (us ++ vs)
  chains_remove c k hc g i hi = go (ℕ_discrete i c)
    where
      own : Dll n p (heads c) (tails c) (chain key c us ++ (e ∷ chain key c vs))
      own = rw (chain_in_lem key us e vs c k) at (g c hc)

      go : Dec (i ≡ c) → Dll (at n (p e) (n e)) (at p (n e) (p e)) (upd heads c (end (heads c) (p e) (n e)) i)
          (upd tails c (end (tails c) (n e) (p e)) i) (chain key i (us ++ vs))
      go (yes w) = rw (w, upd_same, upd_same, chain_append) (remove_ends n p (heads c) (tails c) (chain key c us) e (chain key c vs) own)
      go (no w) =
          let d : Dll n p (heads i) (tails i) (chain key i (us ++ vs)) = rw (chain_out_lem key us e vs i (rw (← k) w)) at (g i hi) in
          let o : Off (p e) (chain key i (us ++ vs)) = rw (back_last_of p 0 (chain key c us) e (chain key c vs) (tails c) own.bwd)
          (other_last key c i us (us ++ vs) w d.some) in
          let q : Off (n e) (chain key i (us ++ vs)) = rw (run_first_of n (heads c) (chain key c us) e (chain key c vs) 0 own.fwd)
          (other_first key c i vs (us ++ vs) w d.some) in
          rw (upd_other heads c (end (heads c) (p e) (n e)) i w, upd_other tails c (end (tails c) (n e) (p e)) i w)
          (dll_same n p (at n (p e) (n e)) (at p (n e) (p e)) (heads i) (tails i) (chain key i (us ++ vs))
          (same_at n (p e) (n e) (chain key i (us ++ vs)) o) (same_at p (n e) (p e) (chain key i (us ++ vs)) q) d)

  -- `e` enters its chain, behind `q`, the last of those before it there, and before `f`.
  pub chains_insert : (c q f : ℕ) → c ≡ key e → Has c → q ≡ last 0 (chain key c us) → f ≡ upd n 0 (heads c) q → Off e (0 ∷ (us ++ vs))
      → Chains Has n p heads tails key (us ++ vs) → Chains Has (at (upd n e f) q e) (at (upd p e q) f e) (upd heads c (end (heads c) q e))
      (upd tails c (end (tails c) f e)) key (us ++ (e ∷ vs))
  chains_insert c q f k hc l m z g i hi = go (ℕ_discrete i c)
    where
      own : Dll n p (heads c) (tails c) (chain key c us ++ chain key c vs)
      own = rw chain_append at (g c hc)

      away : Off e (0 ∷ (chain key c us ++ chain key c vs))
      away = (
        z.0,
        off_join e (chain key c us) (chain key c vs) (off_chain key c e us (off_left e us vs z.1))
            (off_chain key c e vs (off_right e us vs z.1)),
      )

      next : f ≡ first (chain key c vs) 0
      next =
          m ∙ rw l (run_first (upd n 0 (heads c)) 0 (chain key c us) (chain key c vs) 0
          (to_ring n p (heads c) (tails c) (chain key c us ++ chain key c vs) own).fwd)

      go : Dec (i ≡ c) → Dll (at (upd n e f) q e) (at (upd p e q) f e) (upd heads c (end (heads c) q e) i) (upd tails c (end (tails c) f e) i)
          (chain key i (us ++ (e ∷ vs)))
      go (yes w) =
          rw (w, upd_same, upd_same, chain_in_lem key us e vs c k)
          (insert_ends n p (heads c) (tails c) (chain key c us) e (chain key c vs) q f l m away own)
      go (no w) =
          let ys : List ℕ = chain key i (us ++ vs) in
          let d : Dll (upd n e f) (upd p e q) (heads i) (tails i) ys =
          dll_keep n p (heads i) (tails i) ys e f e q (off_chain key i e (us ++ vs) z.1) (off_chain key i e (us ++ vs) z.1) (g i hi) in
          let o : Off q ys = rw l (other_last key c i us (us ++ vs) w d.some) in
          let r : Off f ys = rw next (other_first key c i vs (us ++ vs) w d.some) in
          rw (upd_other heads c (end (heads c) q e) i w, upd_other tails c (end (tails c) f e) i w, chain_out_lem key us e vs i (rw (← k) w))
          (dll_same (upd n e f) (upd p e q) (at (upd n e f) q e) (at (upd p e q) f e) (heads i) (tails i) ys (same_at (upd n e f) q e ys o)
          (same_at (upd p e q) f e ys r) d)

-- ---- laws for one entry that moves

pub all_chain : (P : ℕ → Type 0) (key : ℕ → ℕ) (c : ℕ) (xs : List ℕ) → All (λ x. key x ≡ c → P x) xs → All P (chain key c xs)
unfolding chain
all_chain P key c xs a =
    all_sift P (keyed key c) xs (all_map (λ x. key x ≡ c → P x) (λ x. keyed key c x ≡ true → P x) xs (λ x h q. h (eqb_is (key x) c q)) a)

module _ (Has : ℕ → Type 0) (n p heads tails key : ℕ → ℕ) where
  -- the chain links of `e`, and the head of a chain
  pub chain_links : (P : ℕ → Type 0) (us : List ℕ) (e : ℕ) (vs : List ℕ) (c : ℕ) → c ≡ key e → Has c → P 0
      → All (λ x. key x ≡ c → P x) (us ++ (e ∷ vs)) → Chains Has n p heads tails key (us ++ (e ∷ vs)) → P (p e) × P (n e)
  chain_links P us e vs c k hc z a g =
      let own : Dll n p (heads c) (tails c) (chain key c us ++ (e ∷ chain key c vs)) = rw (chain_in_lem key us e vs c k) at (g c hc) in
      let all : All P (chain key c us ++ (e ∷ chain key c vs)) = rw (chain_in_lem key us e vs c k) at (all_chain P key c (us ++ (e ∷ vs)) a) in (
        all_prev P p (tails c) (chain key c us) e (chain key c vs) z all own.bwd,
        all_next P n (heads c) (chain key c us) e (chain key c vs) z all
            own.fwd,
      )

  pub chain_head_lem : (P : ℕ → Type 0) (xs : List ℕ) (c : ℕ) → Has c → P 0 → All (λ x. key x ≡ c → P x) xs → Chains Has n p heads tails key xs
      → P (heads c)
  chain_head_lem P xs c hc z a g = all_head P n (heads c) (chain key c xs) z (all_chain P key c xs a) (g c hc).fwd

  -- an entry whose key has no chain comes and goes
  pub chains_less : (us : List ℕ) (e : ℕ) (vs : List ℕ) → (Has (key e) → ⊥) → Chains Has n p heads tails key (us ++ (e ∷ vs))
      → Chains Has n p heads tails key (us ++ vs)
  chains_less us e vs h g i hi =
      rw (chain_out_lem key us e vs i (λ q. h (rw q at hi))) at (g i hi)

  pub chains_more : (us : List ℕ) (e : ℕ) (vs : List ℕ) → (Has (key e) → ⊥) → Chains Has n p heads tails key (us ++ vs)
      → Chains Has n p heads tails key (us ++ (e ∷ vs))
  chains_more us e vs h g i hi = rw (chain_out_lem key us e vs i (λ q. h (rw q at hi))) (g i hi)

  -- links of an entry off the list
  pub chains_aside : (e v u : ℕ) (xs : List ℕ) → Off e xs → Chains Has n p heads tails key xs → Chains Has (upd n e v) (upd p e u) heads tails key xs
  chains_aside e v u xs o g i hi =
      dll_keep n p (heads i) (tails i) (chain key i xs) e v e u (off_chain key i e xs o) (off_chain key i e xs o) (g i hi)

  -- `e` goes to the front of the stack and of its chain
  pub chains_push : (e : ℕ) (xs : List ℕ) (c : ℕ) → c ≡ key e → Has c → Off e (0 ∷ xs) → Chains Has n p heads tails key xs
      → Chains Has (upd n e (heads c)) (at (upd p e 0) (heads c) e) (upd heads c e) (upd tails c (end (tails c) (heads c) e)) key (e ∷ xs)
  unfolding chain
  chains_push e xs c k hc z g =
      chains_insert Has n p heads tails key [] e xs c 0 (heads c) k hc refl (sym (upd_same n 0 (heads c))) z g

pub chain_nil : (key : ℕ → ℕ) (i : ℕ) → chain key i [] ≡ []
unfolding chain
chain_nil key i = refl

pub chain_sift : (key : ℕ → ℕ) (i : ℕ) (xs : List ℕ) → chain key i xs ≡ sift (keyed key i) xs
unfolding chain
chain_sift key i xs = refl
