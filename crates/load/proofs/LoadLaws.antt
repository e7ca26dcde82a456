-- Laws of a load: its length, each of its words, loads one after the other, the states' cycle, and that no word of a load is invalid.
use Rattle.std.specs.Prelude.{ℕ, zero, suc, ◌+◌, ◌/◌, ◌%◌, ◌^◌, ◌≤◌, ◌<◌, ◌≡◌, refl, ◌≢◌, Bool, true, false, ◌||◌, not, List, [], ◌∷◌, ◌++◌, map, length, get_or, T, leb, ltb, eqb}
use Rattle.std.proofs.Common.{arith, le_of_suc-le-suc, not-suc-le-zero, zero-add, suc-add, add-zero, add-suc, mod-lt, sym, ap, subst, ◌∙◌, inl, inr, ⊎_elim, lt-ltb, le-ltb, le-leb}
use Rattle.std.proofs.Math.Arith.{digits_div, digits_mod}
use Rattle.std.proofs.Math.Facts.{and_yes, or_no, T_not-not, ltb_yes, ltb_no, leb_yes}
use Rattle.basics.specs.Basics.{All, when◌then◌else◌, word, total}
use Rattle.basics.specs.AllLaws.{all_left, all_right}
use Rattle.basics.specs.TestLaws.{split, same_or_not, if_either}
use Rattle.settings.specs.declared.Settings.{Settings}
use Rattle.settings.specs.Numbers.{legal_store}
use Rattle.settings.specs.NumbersLaws.{LegalSettings}
use Rattle.stack.specs.Stack.{Work, read, write, purge, flush, tick, pin, unpin, invalid}
use Rattle.stack.specs.Batch.{work, is_invalid, how_many}
use Rattle.stack.proofs.BatchLaws.{number_nine}
use Rattle.layout.specs.Sound.{settings_in, totals_in, sound}
use Rattle.layout.proofs.SoundLaws.{sound_legal}
use Rattle.promises.specs.Promises.{call_of, number_of}
use Rattle.load.specs.Xorshift.{State, step}
use Rattle.load.proofs.XorshiftLaws.{step_injective, never_to_zero}
use Rattle.load.proofs.StateLaws.{step_state}
use Rattle.load.specs.Load.{states, load_word, load, state_after, too_many, declines, load_state}
use Rattle.load.specs.Load.{WholeLoad, Accesses, Blocks, WordSays, AllAccesses, NeverNine, GoesOn, ZeroDeclines, ComesRound}

-- ---- what 13 leaves

pub record LegalLoad (m count room : ℕ) : Type 0 where
  pub blocks : T (legal_store m)
  pub fits : count ≤ room

pub legal_load : (seed m count room : ℕ) → declines seed m count room ≡ false → LegalLoad m count room
unfolding declines
legal_load seed m count room accepted =
    let seed-or-store = eqb seed 0 || not (legal_store m) in
    let a = or_no (seed-or-store || too_many count) (ltb room count) (rw accepted tt) in
    let b = or_no seed-or-store (too_many count) a.0 in
    let c = or_no (eqb seed 0) (not (legal_store m)) b.0 in
    record { blocks = T_not-not (legal_store m) c.1; fits = ltb_no a.1 }

pub few_stored : (m : ℕ) → T (legal_store m) → (1 ≤ m) × (m ≤ 262144)
few_stored m t = let d = and_yes (leb 1 m) (leb m 262144) t in (leb_yes d.0, leb_yes d.1)

pub whole_load : WholeLoad
whole_load seed m count before n n' after after' o o' = (same, same_or_not n 0 written kept)
  where
    same : n ≡ n'
    same = o.returned ∙ sym o'.returned

    written : n ≡ 0 → after ≡ after'
    written e = o.accepted e ∙ sym (o'.accepted (sym same ∙ e))

    kept : n ≢ 0 → after ≡ after'
    kept z = o.declined z ∙ sym (o'.declined (λ e. z (same ∙ e)))

-- ---- length, words, states

pub load_length : (m seed n : ℕ) → length (load m seed n) ≡ n
unfolding load states
load_length m seed zero = refl
load_length m seed (suc n) = ap suc (load_length m (step seed) n)

-- one state more
pub after_suc : (seed n : ℕ) → state_after seed (suc n) ≡ step (state_after seed n)
unfolding state_after
after_suc seed zero = refl
after_suc seed (suc n) = after_suc (step seed) n

pub load_at : (m seed n i : ℕ) → i < n → get_or (load m seed n) i 0 ≡ load_word m (state_after seed (suc i))
unfolding load states state_after
load_at m seed zero i h = absurd (not-suc-le-zero h)
load_at m seed (suc n) zero h = refl
load_at m seed (suc n) (suc i) h = load_at m (step seed) n i (le_of_suc-le-suc h)

load_append : (m seed j k : ℕ) → load m seed (j + k) ≡ load m seed j ++ load m (state_after seed j) k
unfolding load states state_after
load_append m seed zero k = ap (load m seed) (zero-add k)
load_append m seed (suc j) k = ap (load m seed) (suc-add j k) ∙ ap (λ (l : List ℕ). load_word m (step seed) ∷ l) (load_append m (step seed) j k)

-- what the companion gives: 0 for more than 1,024 words, else the state
pub state_declined : (seed count : ℕ) → 1024 < count → load_state seed count ≡ 0
unfolding load_state
state_declined seed count many = rw (lt-ltb 1024 count many)

pub state_given : (seed count : ℕ) → count ≤ 1024 → load_state seed count ≡ state_after seed count
unfolding load_state
state_given seed count few = rw (le-ltb 1024 count few)

pub goes_on : GoesOn
goes_on m seed j k few = load_append m seed j k ∙ ap (λ (x : ℕ). load m seed j ++ load m x k) (sym (state_given seed j few))

-- states stay states
after_state : (seed n : ℕ) → State seed → State (state_after seed n)
unfolding state_after
after_state seed zero h = h
after_state seed (suc n) h = after_state (step seed) n (step_state seed h)

-- of a seed other than 0 none is 0, of the seed 0 all are
after_nonzero : (seed n : ℕ) → State seed → seed ≢ 0 → state_after seed n ≢ 0
unfolding state_after
after_nonzero seed zero h z = z
after_nonzero seed (suc n) h z = after_nonzero (step seed) n (step_state seed h) (never_to_zero seed h z)

after_zero : (n : ℕ) → state_after 0 n ≡ 0
unfolding state_after step
after_zero zero = refl
after_zero (suc n) = after_zero n

pub comes_round : ComesRound
unfolding state_after
comes_round seed zero k h e = ap (state_after seed) (sym (add-zero k)) ∙ e
comes_round seed (suc j) k h e =
    comes_round seed j k h
    (step_injective (state_after seed (k + j)) (state_after seed j) (after_state seed (k + j) h) (after_state seed j h)
    (sym (after_suc seed (k + j)) ∙ ap (state_after seed) (sym (add-suc k j)) ∙ e ∙ after_suc seed j))

pub zero_declines : ZeroDeclines
zero_declines seed count h =
    split (too_many count)
    (λ t. let many : 1024 < count = ltb_yes t in ((λ e. inr many), λ d. state_declined seed count many))
    (λ t.
    let few : count ≤ 1024 = ltb_no t in
    let given = state_given seed count few in (
      (λ e. same_or_not seed 0 inl (λ other. absurd (after_nonzero seed count h other (sym given ∙ e)))),
      ⊎_elim (λ z. given ∙ ap (λ (x : ℕ). state_after x count) z ∙ after_zero count) (λ many. absurd (omega (arith, many, few))),
    ))

-- ---- the words are reads and writes of blocks below M

pub block_below : (m x : ℕ) → 1 ≤ m → x / 4 % m < m
block_below m x h = mod-lt (x / 4) h

pub word_says : WordSays
unfolding work load_word
word_says s m x (some, fewer, legal) = go (eqb (x % 4) 0)
  where
    v : ℕ
    v = x / 4 % m

    stored : v < s.m
    stored = let b = block_below m x some in omega arith

    small : v < 2 ^ 28
    small = let b = stored in let l = (few_stored s.m legal).1 in omega arith

    go : (b : Bool) → work s (word (when b then 2 else 1) v) ≡ (when b then write v else read v)
    go true = rw (digits_div 2 small, digits_mod 2 small, lt-ltb v s.m stored)
    go false = rw (digits_div 1 small, digits_mod 1 small, lt-ltb v s.m stored)

word_accesses : (s : Settings) (m x : ℕ) → Blocks m s.m → Accesses m (work s (load_word m x))
word_accesses s m x blocks = rw (word_says s m x blocks) (go (eqb (x % 4) 0))
  where
    go : (b : Bool) → Accesses m (when b then write (x / 4 % m) else read (x / 4 % m))
    go true = block_below m x blocks.0
    go false = block_below m x blocks.0

pub all_accesses : AllAccesses
unfolding load states
all_accesses s m seed zero blocks = tt
all_accesses s m seed (suc n) blocks = (word_accesses s m (step seed) blocks, all_accesses s m (step seed) n blocks)

-- ---- so none is invalid

valid : (s : Settings) (m : ℕ) (ws : List ℕ) → All (λ w. Accesses m (work s w)) ws → how_many is_invalid (map (work s) ws) ≡ 0
unfolding total
valid s m [] a = refl
valid s m (w ∷ ws) a = omega (arith, one (work s w) a.0, valid s m ws a.1)
  where
    one : (v : Work) → Accesses m v → is_invalid v ≡ 0
    one (read b) h = refl
    one (write b) h = refl
    one (purge b) h = absurd h
    one flush h = absurd h
    one tick h = absurd h
    one (pin b) h = absurd h
    one (unpin b) h = absurd h
    one invalid h = absurd h

-- the middle of three parts
all_middle : (P : ℕ → Type 0) (us vs ws : List ℕ) → All P (us ++ vs ++ ws) → All P vs
all_middle P us vs ws a = all_right P us vs (all_left P (us ++ vs) ws a)

legal_store_lem : (s : Settings) → LegalSettings s → T (legal_store s.m)
legal_store_lem s legal = rw (le-leb 1 s.m legal.some_stored, le-leb s.m 262144 legal.few_stored) tt

pub never_nine : NeverNine
unfolding number_of
never_nine m seed n front words rest part incoming t low high =
    if_either (λ (k : ℕ). k ≢ 9) (sound t.directory) _ 6
    (λ h.
    let s = settings_in t.directory in
    let blocks : Blocks m s.m = (low, high, legal_store_lem s (sound_legal t.directory h)) in
    let all = subst (All (λ w. Accesses m (work s w))) (sym part) (all_accesses s m seed n blocks) in
    number_nine s (totals_in t.directory) (call_of words incoming t)
    (valid s m words (all_middle (λ w. Accesses m (work s w)) front words rest all)))
    (λ h e. omega (arith, e))
