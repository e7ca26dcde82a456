-- A pinned resident is no victim, isn't purged, and stays pinned until it is unpinned; whatever residents hold.
use Rattle.std.specs.Prelude.{ℕ, ◌*◌, ◌≡◌, ◌≢◌, Bool, not, take, drop, eqb}
use Rattle.std.proofs.Common.{arith, sym, ap, subst, ◌∙◌}
use Rattle.std.proofs.Math.Path.{refl}
use Rattle.std.proofs.Math.Bool.{true, false}
use mathlib.Core.List.{List, [], ◌∷◌, map}
use Rattle.std.proofs.Math.Option
use Rattle.std.proofs.Math.Option.{Option, none, some}
use Rattle.std.proofs.Math.ListN.{get_elem?}
use Rattle.std.proofs.lemmas.List.{length-map}
use Rattle.std.proofs.Math.Dec.{T}
use Rattle.std.proofs.Math.Facts.{T_not, eqb_yes}
use Rattle.basics.specs.AllLaws.{all_image}
use Rattle.basics.specs.Basics.{All, without}
use Rattle.basics.specs.TestLaws.{same_or_not, if_yes, if_either}
use Rattle.settings.specs.declared.Settings.{Settings}
use Rattle.settings.specs.NumbersLaws.{legal_settings}
use Rattle.stack.specs.declared.Marks.{Marks}
use Rattle.stack.specs.Recency.{cleared, due, saw_tick, ticked, hold, Resident, Place, position, halve, remarked, place, asked, halves, settled, lookup, removed, pin_at}
use Rattle.stack.specs.Stack.{Stack, Plain, empty, Work, read, write, purge, flush, tick, pin, unpin, invalid, Answer, hit, entered, replaced, purged, absent, flushed, miss_refused, pinned, purge_refused}
use Rattle.stack.specs.Stack.{idle, answering, access, purging, pinning, flushing, step, plain_step}
use Rattle.stack.proofs.StackLaws.{bytes_for, purging_either, hold_stack, marks_hold}
use Rattle.stack.proofs.RecencyLaws.{counts_hold}
use Rattle.stack.specs.Batch.{work, is_write, run}
use Rattle.stack.specs.Entries.{plain, Cache, entry_bytes, entry_for, entry_step}
use Rattle.stack.proofs.PlaceLaws.{Placed, hits, enters, replaces, refusing}
use Rattle.stack.specs.Counts.{Legal}
use Rattle.stack.proofs.BlockLaws.{Differ, Absent, AtPlace, place_blocks, lookup_block}
use Rattle.stack.proofs.LookupLaws.{lookup_first, lookup_past, lookup_absent, lookup_without, lookup_same, lookup_at}
use Rattle.stack.proofs.KeepLaws.{Kept, kept_placed}
use Rattle.stack.proofs.StepLaws.{step_kept, each_step}
use Rattle.stack.proofs.RunLaws.{works}
use Rattle.stack.proofs.FateLaws.{itself}
use Rattle.stack.proofs.SureLaws.{empty_sure}
use Rattle.stack.specs.Pins.{Refusing, Holds, Sparing, PlainPins}
use Rattle.stack.proofs.PinLaws.{step_refuses}

-- ---- a pinned block

module _ {A : Type 0} (b : ℕ) (l : List (Resident A)) where
  -- what is found of it is pinned
  found_pinned : Holds b l → (x : Resident A) → lookup b l ≡ some x → T x.marks.pinned
  found_pinned (y, here, t) x e = let same : y ≡ x = cc in subst (λ z. T z.marks.pinned) same t

  -- an unpinned resident has another block
  unpinned_other : Holds b l → (x : Resident A) → T (not x.marks.pinned) → (x.block ≡ b → lookup b l ≡ some x) → x.block ≢ b
  unpinned_other holds x u finds e = T_not x.marks.pinned (found_pinned holds x (finds e)) u

  holds_as : (l' : List (Resident A)) → lookup b l' ≡ lookup b l → Holds b l → Holds b l'
  holds_as l' e (y, here, t) = (y, e ∙ here, t)

  -- the same blocks in the same order, where this one's mark stays
  holds_same : (f : Resident A → Resident A) → ((x : Resident A) → (f x).block ≡ x.block)
      → ((x : Resident A) → x.block ≡ b → T x.marks.pinned → T (f x).marks.pinned) → Holds b l → Holds b (map f l)
  holds_same f same marks (y, here, t) = (f y, lookup_same b f same l ∙ ap (Option.map f) here, marks y (lookup_block b l y here) t)

-- an answer tells of no victim with the block
abbrev NoVictim : ℕ → Answer → Type 0
NoVictim b (hit n h) = Unit {0}
NoVictim b (entered h) = Unit {0}
NoVictim b (replaced v n o) = v ≢ b
NoVictim b (purged d) = Unit {0}
NoVictim b absent = Unit {0}
NoVictim b (flushed n) = Unit {0}
NoVictim b miss_refused = Unit {0}
NoVictim b (pinned on) = Unit {0}
NoVictim b purge_refused = Unit {0}

-- a block that no resident has is another
absent_other : {A : Type 0} (b c : ℕ) (l : List (Resident A)) → Holds b l → Absent c l → c ≢ b
absent_other b c l (y, here, t) a e =
    let none_found : lookup b l ≡ none = subst (λ n. lookup n l ≡ none) e (lookup_absent c l a) in
    let z : ◌≡◌ {A = ℕ} 0 1 = cc in absurd (omega arith)

module _ {A : Type 0} (bytes_of : A → List ℕ) (keep : Place A → List ℕ → A) (k : Stack A) (kept : Kept k) where
  abbrev s : Settings
  s = k.settings

  abbrev l : List (Resident A)
  l = k.residents

  module _ (b : ℕ) (holds : Holds b l) where
    -- ---- no victim

    victim_other : (p : ℕ) (x : Resident A) → get_elem? l p ≡ some x → T (not x.marks.pinned) → x.block ≢ b
    victim_other p x e u = unpinned_other b l holds x u (lookup_at b l p x kept.differ e)

    answering_spares : (n : ℕ) (h : Bool) (q : Place A) → Placed s l q → NoVictim b (answering n h q)
    unfolding answering
    answering_spares n h q (hits p x c e ok up) = tt
    answering_spares n h q (enters g) = tt
    answering_spares n h q (replaces v x e full u c) = victim_other v x e u
    answering_spares n h q (refusing full all) = tt

    purging_spares : (c : ℕ) (o : Option (Resident A)) → NoVictim b (purging bytes_of keep k c o).answer
    unfolding purging
    purging_spares c none = tt
    purging_spares c (some x) = purging_either bytes_of keep (λ t. NoVictim b t.answer) k c x (λ t. tt) (λ t. tt)

    pinning_spares : (c : ℕ) (on : Bool) (o : Option (Resident A)) → NoVictim b (pinning bytes_of keep k c on o).answer
    unfolding pinning
    pinning_spares c on none = tt
    pinning_spares c on (some x) = tt

    spares : (w : Work) (incoming : List ℕ) → NoVictim b (step bytes_of keep k w incoming).answer
    unfolding step access flushing
    spares (read c) incoming = answering_spares _ _ (place s c l) (kept_placed k kept c)
    spares (write c) incoming = answering_spares _ _ (place s c l) (kept_placed k kept c)
    spares (purge c) incoming = purging_spares c (lookup c l)
    spares flush incoming = tt
    spares tick incoming = tt
    spares (pin c) incoming = pinning_spares c true (lookup c l)
    spares (unpin c) incoming = pinning_spares c false (lookup c l)
    spares invalid incoming = tt

    -- ---- it stays

    asked_holds : (c : ℕ) (written : Bool) (a : A) (q : Place A) → Placed s l q → AtPlace c q → Holds b (asked c written a q)
    unfolding asked
    asked_holds c written a q (hits p x n e ok up) at = same_or_not x.block b
        (λ h. (_, lookup_first b _ (without p l) h, found_pinned b l holds x (lookup_at b l p x kept.differ e h)))
        (λ h. holds_as b l _ (lookup_past b _ (without p l) h ∙ lookup_without b l p x e h) holds)
    asked_holds c written a q (enters g) at = holds_as b l _ (lookup_past b _ l (absent_other b c l holds at.0)) holds
    asked_holds c written a q (replaces v x e full u m) at =
        let rest = holds_as b l (without v l) (lookup_without b l v x e (victim_other v x e u)) holds in
        holds_as b (without v l) _ (lookup_past b _ (without v l) (absent_other b c (without v l) rest at.0)) rest
    asked_holds c written a q (refusing full all) at = holds

    access_holds : (c : ℕ) (written : Bool) (incoming : List ℕ) → Holds b (access bytes_of keep k c written incoming).after.residents
    unfolding access settled halve
    access_holds c written incoming =
        let q = place s c l in
        let next : List (Resident A) = asked c written (keep q (bytes_for bytes_of k c written incoming)) q in
        let now : Holds b next = asked_holds c written _ q (kept_placed k kept c) (place_blocks s c l kept.differ) in
        if_either (Holds b) (halves s q next) (map halve next) next
        (λ t. holds_same b next halve (λ x. refl) (λ x e t. t) now)
        (λ t. now)

    purging_holds : (c : ℕ) (o : Option (Resident A)) → lookup c l ≡ o → Holds b (purging bytes_of keep k c o).after.residents
    unfolding purging removed lookup
    purging_holds c none e = holds
    purging_holds c (some x) e = purging_either bytes_of keep (λ t. Holds b t.after.residents) k c x
        (λ t. holds)
        (λ u. holds_as b l (removed c l) (lookup_without b l (position c l) x e (victim_other (position c l) x e u)) holds)

    pinning_holds : (c : ℕ) (on : Bool) → (c ≡ b → T on) → (o : Option (Resident A))
        → Holds b (pinning bytes_of keep k c on o).after.residents
    unfolding pinning
    pinning_holds c on own none = holds
    pinning_holds c on own (some x) = holds_same b l (pin_at on c) (λ y. refl)
        (λ y e t. if_either (λ (m : Marks). T m.pinned) (eqb y.block c) _ _ (λ h. own (sym (eqb_yes h) ∙ e)) (λ h. t))
        holds

    flushing_holds : (chosen : Marks → Bool) (change : Marks → Marks) → ((m : Marks) → T m.pinned → T (change m).pinned)
        → Holds b (flushing bytes_of keep k chosen change).after.residents
    unfolding flushing
    flushing_holds chosen change still = holds_same b l (remarked change) (λ x. refl) (λ x e t. still x.marks t) holds

    pub stays : (w : Work) (incoming : List ℕ) → w ≢ unpin b → Holds b (step bytes_of keep k w incoming).after.residents
    unfolding step
    stays (read c) incoming other = access_holds c false incoming
    stays (write c) incoming other = access_holds c true incoming
    stays (purge c) incoming other = purging_holds c (lookup c l) refl
    stays flush incoming other = flushing_holds (λ m. m.modified) cleared (λ m t. t)
    stays tick incoming other =
        flushing_holds due ticked (λ m t. if_either (λ (x : Marks). T x.pinned) (due m) (cleared m) (saw_tick m) (λ u. t) (λ u. t))
    stays (pin c) incoming other = pinning_holds c true (λ e. tt) (lookup c l)
    stays (unpin c) incoming other = pinning_holds c false (λ e. absurd (other (ap unpin e))) (lookup c l)
    stays invalid incoming other = holds

    -- ---- nor is it purged

    purge_refused_lem : (incoming : List ℕ) → step bytes_of keep k (purge b) incoming ≡ idle k purge_refused
    unfolding step purging
    purge_refused_lem incoming = go holds
      where
        go : Holds b l → purging bytes_of keep k b (lookup b l) ≡ idle k purge_refused
        go (x, here, t) = rw here (if_yes x.marks.pinned (idle k purge_refused) _ t)

-- ---- of the plain stack

pub step_spares : (k : Plain) → Kept k → (w : Work) (incoming : List ℕ) → Sparing k w (plain_step k w incoming)
unfolding plain_step
step_spares k kept w incoming =
    record {
      never_victim = λ v n out e holds. subst (NoVictim v) e (spares itself keeps k kept v holds w incoming) refl;
      never_purged = λ b e holds. ap (λ x. step itself keeps k x incoming) e ∙ purge_refused_lem itself keeps k kept b holds incoming;
      stays = λ b other holds. stays itself keeps k kept b holds w incoming other;
    }
  where
    keeps : Place (List ℕ) → List ℕ → List ℕ
    keeps q bytes = bytes

pub step_pins : (k : Plain) → Kept k → (w : Work) (incoming : List ℕ)
    → let now = plain_step k w incoming in Refusing k w now × Sparing k w now
step_pins k kept w incoming = (step_refuses k kept w incoming, step_spares k kept w incoming)

pub plain_pins : PlainPins
plain_pins s store words incoming legal =
    each_step (λ k w now. Refusing k w now × Sparing k w now) step_pins s.b (empty s store) (empty_sure s store (legal_settings s legal)).kept
    (map (work s) words) incoming

-- ---- of a run over entries

pub run_holds : (b B : ℕ) (c : Cache) → Kept c.stack → (ws : List (Work × ℕ)) (incoming : List ℕ)
    → All (λ w. w ≢ unpin b) (works ws) → Holds b c.stack.residents
    → Holds b (run entry_step (λ wp. wp.0) B c ws incoming).after.stack.residents
unfolding run entry_step
run_holds b B c kept [] incoming others holds = holds
run_holds b B c kept ((w, pick) ∷ ws) incoming others holds =
    let f = entry_bytes c.stack.settings.b c.bytes in
    let g : Place ℕ → List ℕ → ℕ = λ q bytes. entry_for pick q in
    let now : List ℕ = take B incoming in
    run_holds b B (entry_step c (w, pick) now).after (step_kept f g c.stack kept w now) ws (drop (is_write w * B) incoming) others.1
    (stays f g c.stack kept b holds w now others.0)

-- ---- forgetting entries

kept_hold : {A B : Type 0} (f : A → B) (k : Stack A) → Kept k → Kept (hold_stack f k)
kept_hold {A} {B} f k kept =
    let l = k.residents in
    record {
      some_old = kept.some_old;
      old_fits = kept.old_fits;
      few_chains = kept.few_chains;
      some_average = kept.some_average;
      few = rw (length-map l (hold f)) kept.few;
      legal = all_image (λ x. Legal x.count) (hold f) l kept.legal;
      differ = differ l kept.differ;
      seen = all_image (λ x. T x.marks.seen → T x.marks.modified) (hold f) l kept.seen;
      sums = rw (counts_hold f l) kept.sums;
      ins = kept.ins;
      outs = rw (marks_hold f l) kept.outs;
    }
  where
    differ : (l : List (Resident A)) → Differ l → Differ (map (hold f) l)
    differ [] d = tt
    differ (x ∷ l) d = (all_image (λ y. y.block ≢ x.block) (hold f) l d.0, differ l d.1)

pub kept_plain : (c : Cache) → Kept c.stack → Kept (plain c)
kept_plain c kept = kept_hold (entry_bytes c.stack.settings.b c.bytes) c.stack kept
