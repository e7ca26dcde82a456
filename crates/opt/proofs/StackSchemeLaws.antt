-- The plain stack, under whatever legal settings, is a scheme of N blocks: its ins on a trace of reads are at least OPT's.
use Prim.Native.Nat.{ℕ, zero, suc, ◌+◌, ◌*◌, ◌≤◌}
use Rattle.std.proofs.Common.{arith, sym, ◌∙◌, true≢false}
use Rattle.std.proofs.Math.Path.{◌≡◌, refl, ap, subst}
use Rattle.std.specs.Prelude.{◌≢◌, ◌⊎◌, true, false, length, take, drop, T, eqb}
use Rattle.std.proofs.Math.Logic.{inl, inr}
use Rattle.std.proofs.lemmas.Bool.{false≢true}
use mathlib.Core.List.{List, [], ◌∷◌, map}
use Rattle.std.proofs.Math.Option.{some}
use Rattle.std.proofs.Math.ListN.{get_elem?, length-map}
use Rattle.std.proofs.Math.Facts.{T_not}
use Rattle.basics.specs.Basics.{All, when◌then◌else◌, member, without}
use Rattle.basics.specs.TestLaws.{if_either}
use Rattle.settings.specs.declared.Settings.{Settings}
use Rattle.settings.specs.NumbersLaws.{LegalSettings, legal_settings}
use Rattle.stack.specs.Recency.{Resident, Place, blocks, halve, place, asked, halves, settled}
use Rattle.stack.proofs.RecencyLaws.{below}
use Rattle.stack.proofs.PlaceLaws.{Placed, hits, enters, replaces, refusing, all_found}
use Rattle.stack.proofs.BlockLaws.{Absent, Differ, AtPlace, place_blocks}
use Rattle.stack.proofs.KeepLaws.{Kept, kept_placed}
use Rattle.stack.proofs.StepLaws.{step_kept}
use Rattle.stack.proofs.SureLaws.{empty_sure}
use Rattle.stack.specs.Stack.{Plain, read, entering, access, step, plain_step, empty}
use Rattle.stack.specs.Batch.{run, plain_run}
use Rattle.opt.specs.Opt.{remove}
use Rattle.opt.specs.Ins.{ins_of, lru}
use Rattle.opt.specs.Schemes.{Loads, room, full, Runs}
use Rattle.opt.specs.Optimal.{SameBlocks, after, StackIsAScheme, StackRuns, OptAtMost}
use Rattle.opt.proofs.RemoveLaws.{either, same, eqb_self, Distinct, Alike, alike_self, alike_front}
use Rattle.opt.proofs.MarkLaws.{NotPinned, read_marked, settled_marked}
use Rattle.opt.proofs.LruLaws.{lru_legal}
use Rattle.opt.proofs.OptLaws.{opt_fewest}
use Rattle.opt.proofs.SchemeLaws.{misses_of, Scheme, scheme_runs}

module _ {A : Type 0} where
  -- ---- blocks

  absent_off : (b : ℕ) (l : List (Resident A)) → Absent b l → member b (blocks l) ≡ false
  unfolding member
  absent_off b [] a = refl
  absent_off b (y ∷ l) a =
      either (eqb y.block b) (λ e. absurd (a.0 (same y.block b e))) (λ e. rw (e, absent_off b l a.1))

  differ_distinct : (l : List (Resident A)) → Differ l → Distinct (blocks l)
  differ_distinct [] d = tt
  differ_distinct (x ∷ l) d = (absent_off x.block l d.0, differ_distinct l d.1)

  at_member : (l : List (Resident A)) (p : ℕ) (x : Resident A) → get_elem? l p ≡ some x → member x.block (blocks l) ≡ true
  unfolding member
  at_member [] p x e = let z : ◌≡◌ {A = ℕ} 0 1 = cc in absurd (omega arith)
  at_member (y ∷ l) zero x e = let q : y ≡ x = cc in rw (q, eqb_self x.block)
  at_member (y ∷ l) (suc p) x e = rw (at_member l p x e) (either (eqb y.block x.block) (λ f. rw f) (λ f. rw f))

  without_remove : (l : List (Resident A)) (p : ℕ) (x : Resident A) → Differ l → get_elem? l p ≡ some x
      → blocks (without p l) ≡ remove x.block (blocks l)
  unfolding remove
  without_remove [] p x d e = let z : ◌≡◌ {A = ℕ} 0 1 = cc in absurd (omega arith)
  without_remove (y ∷ l) zero x d e = let q : y ≡ x = cc in rw (q, eqb_self x.block)
  without_remove (y ∷ l) (suc p) x d e =
      let other : x.block ≢ y.block = all_found (λ w. w.block ≢ y.block) l p x d.0 e in
      either (eqb y.block x.block)
      (λ f. absurd (other (sym (same y.block x.block f))))
      (λ f. rw (f, without_remove l p x d.1 e))

  -- absent from all, where neither the one that left nor the others have it
  absent_back : (b : ℕ) (l : List (Resident A)) (p : ℕ) (x : Resident A) → get_elem? l p ≡ some x → x.block ≢ b
      → Absent b (without p l) → Absent b l
  absent_back b [] p x e n a = tt
  absent_back b (y ∷ l) zero x e n a = let q : y ≡ x = cc in (subst (λ z. z.block ≢ b) (sym q) n, a)
  absent_back b (y ∷ l) (suc p) x e n a = (a.0, absent_back b l p x e n a.1)

  settled_blocks : (t : _) (l : List (Resident A)) → blocks (settled t l) ≡ blocks l
  unfolding settled halve
  settled_blocks t l = if_either (λ k. blocks k ≡ blocks l) t (map halve l) l (λ h. halved l) (λ h. refl)
    where
      halved : (l : List (Resident A)) → blocks (map halve l) ≡ blocks l
      halved [] = refl
      halved (x ∷ l) = ap (λ t. x.block ∷ t) (halved l)

  -- ---- none is pinned

  abbrev Free : List (Resident A) → Type 0
  Free = All (λ x. NotPinned x.marks)

  free_pinned : (l : List (Resident A)) → 1 ≤ length l → Free l → All (λ x. T x.marks.pinned) l → ⊥
  free_pinned [] h f a = omega arith
  free_pinned (x ∷ l) h f a = T_not x.marks.pinned a.0 f.0

  -- ---- what a read does to the blocks: a hit leaves them, a miss loads one

  module _ (s : Settings) (b : ℕ) (a : A) (l : List (Resident A)) (q : Place A) where
    record Hit : Type 0 where
      is_there : member b (blocks l) ≡ true
      comes : entering q ≡ 0
      alike : Alike (blocks l) (blocks (asked b false a q))

    record Miss : Type 0 where
      is_absent : member b (blocks l) ≡ false
      comes : entering q ≡ 1
      loads : Loads s.n b (blocks l) (b ∷ blocks (below q))
      alike : Alike (b ∷ blocks (below q)) (blocks (asked b false a q))

  module _ (s : Settings) (blocked : 1 ≤ s.n) (b : ℕ) (a : A) (l : List (Resident A)) (d : Differ l) (f : Free l) where
    read_one : (q : Place A) → Placed s l q → AtPlace b q → Hit s b a l q ⊎ Miss s b a l q
    unfolding entering asked below
    read_one q (hits p x n e ok up) t =
        inl record {
          is_there = subst (λ c. member c (blocks l) ≡ true) t.0 (at_member l p x e);
          comes = refl;
          alike = rw (without_remove l p x d e) (alike_front x.block (at_member l p x e) (differ_distinct l d));
        }
    read_one q (enters h) t =
        inr record {
          is_absent = absent_off b l t.0;
          comes = refl;
          loads = room (rw length-map h);
          alike = alike_self (absent_off b l t.0, differ_distinct l t.1);
        }
    read_one q (replaces v x e h u c) t =
        inr record {
          is_absent = absent_off b l (absent_back b l v x e t.2 t.0);
          comes = refl;
          loads = rw (without_remove l v x d e) (full x.block (length-map l (λ y. y.block) ∙ h) (at_member l v x e));
          alike = alike_self (absent_off b (without v l) t.0, differ_distinct (without v l) t.1);
        }
    read_one q (refusing h all) t = absurd (free_pinned l (omega arith) f all)

-- ---- the plain stack

abbrev contents : Plain → List ℕ
contents k = blocks k.residents

abbrev after_read : ℕ → Plain → Plain
after_read b k = (plain_step k (read b) []).after

record Good (N : ℕ) (k : Plain) : Type 0 where
  kept : Kept k
  free : Free k.residents
  blocks_are : k.settings.n ≡ N
  some : 1 ≤ N

module _ (N b : ℕ) (k : Plain) (g : Good N k) where
  abbrev s : Settings
  s = k.settings

  abbrev l : List (Resident (List ℕ))
  l = k.residents

  abbrev q : Place (List ℕ)
  q = place s b l

  held : List ℕ
  unfolding access plain_step step
  held = (plain_step k (read b) []).given

  next : List (Resident (List ℕ))
  next = asked b false held q

  one : Hit s b held l q ⊎ Miss s b held l q
  one =
      let n = g.blocks_are in let m = g.some in
      read_one s (omega arith) b held l g.kept.differ g.free q (kept_placed k g.kept b) (place_blocks s b l g.kept.differ)

  blocks_then : contents (after_read b k) ≡ blocks next
  unfolding plain_step step access held next
  blocks_then = settled_blocks (halves s q next) next

  ins_then : (after_read b k).totals.ins ≡ k.totals.ins + entering q
  unfolding plain_step step access
  ins_then = refl

  -- its ins: one for a miss
  read_ins : (after_read b k).totals.ins ≡ k.totals.ins + (when member b (contents k) then 0 else 1)
  read_ins = go one
    where
      go : Hit s b held l q ⊎ Miss s b held l q → (after_read b k).totals.ins ≡ k.totals.ins + (when member b (contents k) then 0 else 1)
      go (inl h) = rw h.is_there (ins_then ∙ ap (λ (n : ℕ). k.totals.ins + n) h.comes)
      go (inr h) = rw h.is_absent (ins_then ∙ ap (λ (n : ℕ). k.totals.ins + n) h.comes)

  after_hit : member b (contents k) ≡ true → Alike (contents k) (contents (after_read b k))
  unfolding next
  after_hit e = subst (Alike (contents k)) (sym blocks_then) (go one)
    where
      go : Hit s b held l q ⊎ Miss s b held l q → Alike (contents k) (blocks next)
      go (inl h) = h.alike
      go (inr h) = absurd (true≢false (sym e ∙ h.is_absent))

  after_miss : member b (contents k) ≡ false
      → Loads N b (contents k) (b ∷ blocks (below q)) × Alike (b ∷ blocks (below q)) (contents (after_read b k))
  unfolding next
  after_miss e = go one
    where
      go : Hit s b held l q ⊎ Miss s b held l q
          → Loads N b (contents k) (b ∷ blocks (below q)) × Alike (b ∷ blocks (below q)) (contents (after_read b k))
      go (inl h) = absurd (false≢true (sym e ∙ h.is_there))
      go (inr h) = (
        subst (λ n. Loads n b (contents k) (b ∷ blocks (below q))) g.blocks_are h.loads,
        subst (Alike (b ∷ blocks (below q))) (sym blocks_then) h.alike,
      )

  after_free : Free (after_read b k).residents
  unfolding plain_step step access held next
  after_free =
      settled_marked NotPinned tt (λ m h. h) (halves s q next) next
      (read_marked NotPinned tt (λ m h. h) s b held l g.free q (kept_placed k g.kept b))

  after_good : Good N (after_read b k)
  unfolding plain_step step access
  after_good =
      record {
        kept = step_kept (λ bytes. bytes) (λ q bytes. bytes) k g.kept (read b) [];
        free = after_free;
        blocks_are = settings_then ∙ g.blocks_are;
        some = g.some;
      }
    where
      settings_then : (after_read b k).settings.n ≡ k.settings.n
      settings_then = refl

stack_scheme : (N : ℕ) → Scheme contents after_read N (Good N)
stack_scheme N =
    record {
      good = λ b k g. after_good N b k g;
      at_hit = λ b k g e. after_hit N b k g e;
      loaded = λ b k. b ∷ blocks (below (place k.settings b k.residents));
      at_miss = λ b k g e. after_miss N b k g e;
    }

-- what a run counts as ins
read_same : (k : Plain) (b : ℕ) (incoming : List ℕ) → (plain_step k (read b) incoming).after ≡ after_read b k
unfolding plain_step step access
read_same k b incoming = refl

run_ins : (N B : ℕ) (t : List ℕ) (k : Plain) → Good N k → (incoming : List ℕ)
    → (run plain_step (λ w. w) B k (map read t) incoming).after.totals.ins ≡ k.totals.ins + misses_of contents after_read t k
unfolding run misses_of plain_step member
run_ins N B [] k g incoming = omega arith
run_ins N B (b ∷ t) k g incoming =
    let ih = run_ins N B t (after_read b k) (after_good N b k g) (drop (0 * B) incoming) in
    let i = read_ins N b k g in
    rw (read_same k b (take B incoming))
    (either (member b (contents k))
    (λ e. rw e (let j : (after_read b k).totals.ins ≡ k.totals.ins + 0 = rw e at i in omega (arith, ih, j)))
    (λ e. rw e (let j : (after_read b k).totals.ins ≡ k.totals.ins + 1 = rw e at i in omega (arith, ih, j))))

empty_good : (s : Settings) → LegalSettings s → Good s.n (empty s [])
empty_good s legal = record { kept = (empty_sure s [] legal).kept; free = tt; blocks_are = refl; some = legal.some_blocks }

run_good : (N B : ℕ) (t : List ℕ) (k : Plain) → Good N k → (incoming : List ℕ)
    → Good N (run plain_step (λ w. w) B k (map read t) incoming).after
unfolding run plain_step
run_good N B [] k g incoming = g
run_good N B (b ∷ t) k g incoming =
    let next = drop (0 * B) incoming in
    subst (λ (j : Plain). Good N (run plain_step (λ w. w) B j (map read t) next).after) (sym (read_same k b (take B incoming)))
    (run_good N B t (after_read b k) (after_good N b k g) next)

-- ---- the results

same_blocks : {C D : List ℕ} → Alike C D → SameBlocks C D
same_blocks a = (a.members, a.long)

pub stack_is_a_scheme : StackIsAScheme
unfolding plain_run
stack_is_a_scheme s legal t b =
    let N : ℕ = s.n in
    let g = run_good N s.b t (empty s []) (empty_good s (legal_settings s legal)) [] in
    record {
      at_hit = λ e. same_blocks (after_hit N b (after s t) g e);
      at_miss = λ e. let (q, a) = after_miss N b (after s t) g e in (_, q, same_blocks a);
    }

stack_runs_legal : (s : Settings) → LegalSettings s → (t : List ℕ) → Runs s.n t [] (ins_of s t)
unfolding ins_of plain_run
stack_runs_legal s legal t =
    let g = empty_good s legal in
    let counted = run_ins s.n s.b t (empty s []) g [] in
    let is : misses_of contents after_read t (empty s []) ≡ ins_of s t = omega arith in
    subst (Runs s.n t []) is (scheme_runs contents after_read s.n (Good s.n) (stack_scheme s.n) t (empty s []) g)

pub stack_runs : StackRuns
stack_runs s legal t = stack_runs_legal s (legal_settings s legal) t

pub opt_at_most : OptAtMost
opt_at_most s legal t =
    let ok = legal_settings s legal in (
      opt_fewest s.n ok.some_blocks t (ins_of s t) (stack_runs_legal s ok t),
      opt_fewest s.n ok.some_blocks t (ins_of (lru s) t) (stack_runs_legal (lru s) (lru_legal s ok) t),
    )
