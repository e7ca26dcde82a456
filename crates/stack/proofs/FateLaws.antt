-- What a work word does to one block: to its resident, if it has one, and to its bytes in the store.
use Prim.Native.Nat.{ℕ, ◌+◌, ◌≤◌}
use Rattle.std.proofs.Common.{arith, ap, ◌∙◌, subst}
use Rattle.std.specs.Prelude.{◌≡◌, ◌≢◌, ◌⊎◌, ◌&&◌, ◌||◌, not, length, eqb}
use Rattle.std.proofs.Math.Path.{refl, sym}
use Rattle.std.proofs.Math.Logic.{inl, inr}
use Rattle.std.proofs.Math.Bool.{Bool, true, false}
use mathlib.Core.List.{List, ◌∷◌, map}
use Rattle.std.proofs.Math.Option
use Rattle.std.proofs.Math.Option.{Option, none, some}
use Rattle.std.proofs.Math.Dec.{T}
use Rattle.std.proofs.Math.Facts.{T_not, yes_eqb, no_eqb}
use Rattle.basics.specs.AllLaws.{all_those}
use Rattle.basics.specs.Basics.{All, when◌then◌else◌, bit, without, block_at}
use Rattle.basics.specs.Lists.{those}
use Rattle.basics.specs.TestLaws.{split, same_or_not, if_no}
use Rattle.stack.specs.declared.Marks.{Marks}
use Rattle.stack.specs.Recency.{unmarked, asked_marks, cleared, Resident, Place, position, halve, remarked, place, asked, halves, settled, lookup, removed, pin_at}
use Rattle.stack.specs.Stack.{Plain, Work, read, write, purge, flush, tick, invalid, leaving, saved, saved_all, present, pin, unpin, pinning}
use Rattle.stack.specs.Stack.{access, purging, flushing, step, plain_step}
use Rattle.stack.proofs.StackLaws.{bytes_for, purging_either}
use Rattle.stack.specs.Batch.{is_read, is_write}
use Rattle.stack.proofs.PlaceLaws.{Placed, hits, enters, replaces, all_found, refusing}
use Rattle.stack.proofs.BlockLaws.{Absent, AtPlace, place_blocks, Differ_at, lookup_none}
use Rattle.stack.proofs.MarkLaws.{WritesOut, flush_out, tick_out, chosen_modified, spared_unmodified, tick_seen_lem}
use Rattle.stack.proofs.KeepLaws.{Kept, kept_placed, pin_keeps}
use Rattle.stack.proofs.LookupLaws.{lookup_first, lookup_past, lookup_absent, lookup_without, lookup_same, lookup_at}
use Rattle.stack.proofs.SavedLaws.{Sized, saved_other, saved_same, saved_unmodified, saved_all_other, those_at, those_away}
use Rattle.stack.specs.Ticks.{is_tick}
use Rattle.stack.specs.LastBytes.{gives_up, writes_to}

-- a resident of the plain stack, which holds its bytes
abbrev pub Holder : Type 0
Holder = Resident (List ℕ)

abbrev pub itself : List ℕ → List ℕ
itself bytes = bytes

abbrev pub Swept : Work → Type 0
Swept w = (w ≡ flush) ⊎ (w ≡ tick)

-- The bytes of block b's resident after a word: those that it `had`, unless the word wrote it, and left it modified.
pub record Filled (b : ℕ) (w : Work) (y : Holder) (had : List ℕ) : Type 0 where
  pub modified : T (writes_to b w) → T y.marks.modified
  pub same : T (not (writes_to b w)) → y.held ≡ had

-- By its bytes in the store, and its resident, before and after the word. One that enters has the store's bytes, unless it was written. One
-- that leaves modified is in the store, unless it was purged. One that stays is unmodified only if it was, and is left modified by a tick
-- only if it had seen none.
pub data Fate (b : ℕ) (w : Work) (before after : List ℕ) : Option Holder → Option Holder → Type 0 where
  away : after ≡ before → Fate b w before after none none
  entered : (y : Holder) → after ≡ before → is_tick w ≡ 0 → Filled b w y after → Fate b w before after none (some y)
  left : (x : Holder) → ((after ≡ before) × (T x.marks.modified → gives_up w ≡ 1)) ⊎ (after ≡ x.held) → Fate b w before after (some x) none
  stayed : (x y : Holder) → after ≡ before → (T (not y.marks.modified) → T (not x.marks.modified)) → Filled b w y x.held
      → (T y.marks.modified → bit x.marks.seen + is_tick w ≤ bit y.marks.seen) → Fate b w before after (some x) (some y)
  out : (x : Holder) → Swept w → T x.marks.modified → after ≡ x.held → Fate b w before after (some x) (some (remarked cleared x))

-- of block b, from one plain stack to another, B bytes a block
abbrev pub FateOf : ℕ → ℕ → Work → Plain → Plain → Type 0
FateOf B b w k now = Fate b w (block_at B b k.store) (block_at B b now.store) (lookup b k.residents) (lookup b now.residents)

module _ {b : ℕ} {w : Work} where
  -- the bytes that it had
  same_filled : T (not (writes_to b w)) → (y : Holder) (had : List ℕ) → y.held ≡ had → Filled b w y had
  same_filled quiet y had e = record { modified = λ t. absurd (T_not (writes_to b w) t quiet); same = λ t. e }

  -- an unmodified resident wasn't written
  pub filled_unmodified : {y : Holder} {had : List ℕ} → Filled b w y had → T (not y.marks.modified) → y.held ≡ had
  filled_unmodified {y} filled t = split (writes_to b w) (λ u. absurd (T_not y.marks.modified (filled.modified u) t)) filled.same

  module _ {before after : List ℕ} where
    -- neither a tick nor a word that touches the block
    untouched : (o : Option Holder) → is_tick w ≡ 0 → T (not (writes_to b w)) → after ≡ before → Fate b w before after o o
    untouched none z quiet e = away e
    untouched (some x) z quiet e = stayed x x e (λ t. t) (same_filled quiet x x.held refl) (λ t. omega (arith, z))

    -- once counts were halved
    halved : (Swept w → ⊥) → {o o' : Option Holder} → Fate b w before after o o' → Fate b w before after o (Option.map halve o')
    unfolding halve
    halved unswept (away e) = away e
    halved unswept (entered y e z filled) = entered (halve y) e z (record { modified = filled.modified; same = filled.same })
    halved unswept (left x e) = left x e
    halved unswept (stayed x y e same filled rises) = stayed x (halve y) e same (record { modified = filled.modified; same = filled.same }) rises
    halved unswept (out x swept m e) = absurd (unswept swept)

    -- of the block of the first resident, and of another block
    module _ {o : Option Holder} (y : Holder) (l : List Holder) where
      first_fate : y.block ≡ b → Fate b w before after o (some y) → Fate b w before after o (lookup b (y ∷ l))
      first_fate h fate = rw (lookup_first b y l h) fate

      past_fate : y.block ≢ b → Fate b w before after o (lookup b l) → Fate b w before after o (lookup b (y ∷ l))
      past_fate h fate = rw (lookup_past b y l h) fate

-- of a block that was purged
purged_fate : {b c : ℕ} {before after : List ℕ} (o : Option Holder) → after ≡ before → Fate b (purge c) before after o none
purged_fate none e = away e
purged_fate (some x) e = left x (inl (e, λ t. refl))

swept_no_access : (w : Work) → Swept w → is_read w + is_write w ≡ 0
swept_no_access w (inl e) = ap (λ v. is_read v + is_write v) e
swept_no_access w (inr e) = ap (λ v. is_read v + is_write v) e

module _ (k : Plain) (kept : Kept k) (sizes : All (Sized itself k.settings.b (length k.store)) k.residents) (b : ℕ) where
  abbrev B : ℕ
  B = k.settings.b

  abbrev n : ℕ
  n = length k.store

  abbrev l : List Holder
  l = k.residents

  -- ---- a read or a write

  module _ (w : Work) (z : is_tick w ≡ 0) (unswept : Swept w → ⊥) (c : ℕ) (written : Bool) (is : writes_to b w ≡ (written && eqb c b))
      (incoming : List ℕ) where
    abbrev store_at : Place (List ℕ) → List ℕ
    store_at q = saved_all itself B (leaving q) k.store

    abbrev bytes_at : Place (List ℕ) → List ℕ
    bytes_at q = when written then incoming else present itself B c (store_at q) q

    -- the other blocks' bytes stay
    other : c ≢ b → T (not (writes_to b w))
    other h = rw is (go written (eqb c b) (no_eqb h))
      where
        go : (v t : Bool) → T (not t) → T (not (v && t))
        go true t u = u
        go false t u = tt

    -- this one is modified if it is written, and else has the bytes that it had
    module _ (h : c ≡ b) where
      here : writes_to b w ≡ written
      here = is ∙ go written (eqb c b) (yes_eqb h)
        where
          go : (v t : Bool) → T t → (v && t) ≡ v
          go true true u = refl
          go true false u = absurd u
          go false t u = refl

      asked_filled : (d n : ℕ) (m : Marks) (bytes had : List ℕ) → bytes ≡ had
          → Filled b w (record { block = d; count = n; marks = asked_marks written m; held = when written then incoming else bytes }) had
      asked_filled d n m bytes had e =
          record {
            modified = λ t. or_yes m.modified (subst T here t);
            same = λ t. if_no written incoming bytes (subst (λ v. T (not v)) here t) ∙ e;
          }
        where
          or_yes : (a : Bool) → T written → T (a || written)
          or_yes true u = tt
          or_yes false u = u

    still_unmodified : (m : Bool) → T (not (m || written)) → T (not m)
    still_unmodified true t = t
    still_unmodified false t = tt

    asked_fate : (q : Place (List ℕ)) → Placed k.settings l q → AtPlace c q
        → Fate b w (block_at B b k.store) (block_at B b (store_at q)) (lookup b l) (lookup b (asked c written (bytes_at q) q))
    unfolding asked leaving present saved_all
    asked_fate q (hits p x m e ok up) at =
        let still : bit x.marks.seen + is_tick w ≤ bit (asked_marks written x.marks).seen = omega (arith, z) in
        same_or_not x.block b
        (λ h. let f : c ≡ b = sym at.0 ∙ h in
        first_fate _ (without p l) h
        (rw (lookup_at b l p x kept.differ e h)
        (stayed x _ refl (still_unmodified x.marks.modified) (asked_filled f x.block m x.marks x.held x.held refl) (λ t. still))))
        (λ h. past_fate _ (without p l) h (rw (lookup_without b l p x e h) (untouched (lookup b l) z (other (λ f. h (at.0 ∙ f))) refl)))
    asked_fate q (enters g) at = same_or_not c b
        (λ h. first_fate _ l h
        (rw (lookup_absent b l (rw h at at.0))
        (entered _ refl z (asked_filled h c 1 unmarked (block_at B c k.store) (block_at B b k.store) (rw h)))))
        (λ h. past_fate _ l h (untouched (lookup b l) z (other h) refl))
    asked_fate q (refusing full all) at = same_or_not c b
        (λ h. rw (lookup_absent b l (rw h at at.0)) (away refl))
        (λ h. untouched (lookup b l) z (other h) refl)
    asked_fate q (replaces v x e full free chains) at =
        let size : Sized itself B n x = all_found (Sized itself B n) l v x sizes e in
        let spared = saved_other itself B n x k.store size refl b in
        let store : List ℕ = saved itself B x k.store in
        same_or_not c b
        (λ h. let ne : x.block ≢ b = rw h at at.2 in
        first_fate _ (without v l) h
        (rw (sym (lookup_without b l v x e ne) ∙ lookup_absent b (without v l) (rw h at at.0))
        (entered _ (spared ne) z (asked_filled h c 1 unmarked (block_at B c store) (block_at B b store) (rw h)))))
        (λ h. past_fate _ (without v l) h
        (same_or_not x.block b
        (λ g. rw (lookup_at b l v x kept.differ e g, lookup_absent b (without v l) (rw g at (Differ_at l v x kept.differ e)))
        (left x (split x.marks.modified
        (λ m. inr (saved_same itself B n x k.store size refl b g m))
        (λ m. inl (ap (block_at B b) (saved_unmodified itself B n x k.store size refl m), λ t. absurd (T_not x.marks.modified t m))))))
        (λ g. rw (lookup_without b l v x e g) (untouched (lookup b l) z (other h) (spared g)))))

    access_fate : FateOf B b w k (access itself (λ q bytes. bytes) k c written incoming).after
    unfolding access settled halve
    access_fate =
        let s = k.settings in
        let q = place s c l in
        let next : List Holder = asked c written (bytes_for itself k c written incoming) q in
        settle next (halves s q next)
        (asked_fate q (kept_placed k kept c) (place_blocks s c l kept.differ))
      where
        settle : {before after : List ℕ} {o : Option Holder} (next : List Holder) (t : Bool) → Fate b w before after o (lookup b next)
            → Fate b w before after o (lookup b (when t then map halve next else next))
        settle next true fate = rw (lookup_same b halve (λ x. refl) next) (halved unswept fate)
        settle next false fate = fate

  -- ---- a purge

  purging_fate : (c : ℕ) (o : Option Holder) → lookup c l ≡ o → FateOf B b (purge c) k (purging itself (λ q bytes. bytes) k c o).after
  unfolding purging removed lookup
  purging_fate c none e = untouched (lookup b l) refl tt refl
  purging_fate c (some x) e =
      let p = position c l in
      purging_either itself (λ q bytes. bytes) (λ t. FateOf B b (purge c) k t.after) k c x
      (λ t. untouched (lookup b l) refl tt refl)
      (λ t. same_or_not x.block b
      (λ h. rw (lookup_absent b (without p l) (rw h at (Differ_at l p x kept.differ e))) (purged_fate (lookup b l) refl))
      (λ h. rw (lookup_without b l p x e h) (untouched (lookup b l) refl tt refl)))

  -- ---- a pin or an unpin

  pinning_fate : (w : Work) → is_tick w ≡ 0 → T (not (writes_to b w)) → (c : ℕ) (on : Bool) (o : Option Holder)
      → FateOf B b w k (pinning itself (λ q bytes. bytes) k c on o).after
  unfolding pinning
  pinning_fate w z quiet c on none = untouched (lookup b l) z quiet refl
  pinning_fate w z quiet c on (some x) = rw (lookup_same b (pin_at on c) (λ y. refl) l) (go (lookup b l))
    where
      go : (o : Option Holder) → Fate b w (block_at B b k.store) (block_at B b k.store) o (Option.map (pin_at on c) o)
      go none = away refl
      go (some y) =
          let e = pin_keeps on c y in
          let same = same_filled quiet (pin_at on c y) y.held refl in
          stayed y (pin_at on c y) refl (subst (λ m. T (not m)) e.0) same (λ t. rw e.1 (omega (arith, z)))

  -- ---- a flush or a tick

  module _ {w : Work} {chosen : Marks → Bool} {change : Marks → Marks} (swept : Swept w) (quiet : T (not (writes_to b w)))
      (writes : WritesOut chosen change)
      (rises : (m : Marks) → T (not (chosen m)) → T (change m).modified → bit m.seen + is_tick w ≤ bit (change m).seen) where
    flushing_fate : FateOf B b w k (flushing itself (λ q bytes. bytes) k chosen change).after
    unfolding flushing
    flushing_fate = rw (lookup_same b (remarked change) (λ x. refl) l) (go (lookup b l) refl)
      where
        f : Holder → Bool
        f x = chosen x.marks

        others : Absent b (those f l) → block_at B b (saved_all itself B (those f l) k.store) ≡ block_at B b k.store
        others = saved_all_other itself B n b (those f l) k.store (all_those (Sized itself B n) f l sizes) refl

        go : (o : Option Holder) → lookup b l ≡ o
            → Fate b w (block_at B b k.store) (block_at B b (saved_all itself B (those f l) k.store)) o (Option.map (remarked change) o)
        go none e = away (others (all_those (λ x. x.block ≢ b) f l (lookup_none b l e)))
        go (some x) e = split (f x)
            (λ t. let m = chosen_modified writes x.marks t in
            rw (writes.clears x.marks t) (out x swept m (those_at itself B n f b l k.store x sizes refl kept.differ e t m)))
            (λ t. stayed x (remarked change x) (others (those_away itself B n f b l x kept.differ e t))
            (spared_unmodified writes x.marks t)
            (same_filled quiet (remarked change x) x.held refl)
            (rises x.marks t))

  -- ---- every word

  pub step_fate : (w : Work) (incoming : List ℕ) → FateOf B b w k (plain_step k w incoming).after
  unfolding plain_step step
  step_fate (read c) incoming = access_fate (read c) refl (λ e. omega (arith, swept_no_access (read c) e)) c false refl incoming
  step_fate (write c) incoming = access_fate (write c) refl (λ e. omega (arith, swept_no_access (write c) e)) c true refl incoming
  step_fate (purge c) incoming = purging_fate c (lookup c l) refl
  step_fate flush incoming = flushing_fate (inl refl) tt flush_out (λ m t u. absurd u)
  step_fate tick incoming = flushing_fate (inr refl) tt tick_out tick_seen_lem
  step_fate (pin c) incoming = pinning_fate (pin c) refl tt c true (lookup c l)
  step_fate (unpin c) incoming = pinning_fate (unpin c) refl tt c false (lookup c l)
  step_fate invalid incoming = untouched (lookup b l) refl tt refl
