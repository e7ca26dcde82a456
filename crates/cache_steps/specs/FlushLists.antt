-- A flush or a tick along the stack: what one more resident adds to the residents passed, to the count of those written out and to the
-- store. `ticks` says which of the two it is.
use Rattle.std.specs.Prelude.{ℕ, zero, suc, ◌+◌, ◌≡◌, refl, ◌≢◌, Bool, true, false, ◌&&◌, List, [], ◌∷◌, ◌++◌, map, length, take, drop, T, eqb}
use Rattle.std.proofs.Common.{arith, sym, ap, ap₂, subst, ◌∙◌, length-append, ne_eqb}
use Rattle.std.proofs.Math.Option.{some}
use Rattle.std.proofs.Math.ListN.{get_elem?}
use Rattle.std.proofs.Math.Dec.{eqb_refl}
use Rattle.basics.specs.Basics.{All, when◌then◌else◌, bit}
use Rattle.basics.specs.Lists.{those}
use Rattle.basics.specs.TestLaws.{if_yes}
use Rattle.stack.specs.declared.Marks.{Marks}
use Rattle.stack.specs.Recency.{cleared, due, saw_tick, ticked, Resident, marked, remarked}
use Rattle.stack.specs.Stack.{Work, flush, tick, saved, saved_all}
use Rattle.stack.proofs.PlaceLaws.{all_found}
use Rattle.stack.proofs.MarkLaws.{WritesOut, flush_out, tick_out, chosen_modified}
use Rattle.stack.proofs.EntriesLaws.{Apart}
use Rattle.promises.specs.DirectoryPromises.{marked_at}

-- the word
abbrev pub sweep : Bool → Work
sweep ticks = when ticks then tick else flush

-- the marks of a resident that was passed, and whether it is written out
abbrev pub changed : Bool → Marks → Marks
changed ticks m = when ticks then ticked m else cleared m

abbrev pub chosen : Bool → Marks → Bool
chosen ticks m = when ticks then due m else m.modified

-- the residents once the first p were passed, and those of a list that are written out
abbrev pub passed : Bool → ℕ → List (Resident ℕ) → List (Resident ℕ)
passed ticks p l = map (remarked (changed ticks)) (take p l) ++ drop p l

abbrev pub gone : Bool → List (Resident ℕ) → List (Resident ℕ)
gone ticks l = those (λ x. chosen ticks x.marks) l

-- ---- marks

writes_out : (ticks : Bool) → WritesOut (chosen ticks) (changed ticks)
writes_out true = tick_out
writes_out false = flush_out

pub chosen_set : (ticks : Bool) (m : Marks) → chosen ticks m ≡ true → m.modified ≡ true
chosen_set ticks m e = go m.modified (chosen_modified (writes_out ticks) m (subst T (sym e) tt))
  where
    go : (a : Bool) → T a → a ≡ true
    go true t = refl
    go false t = absurd t

pub chosen_none : (ticks : Bool) (m : Marks) → m.modified ≡ false → chosen ticks m ≡ false
chosen_none true m e = ap (λ a. a && m.seen) e
chosen_none false m e = e

-- one chosen is cleared, one that isn't modified stays as it is, and any other has then seen the tick
pub changed_chosen : (ticks : Bool) (m : Marks) → chosen ticks m ≡ true → cleared m ≡ changed ticks m
changed_chosen ticks m e = sym ((writes_out ticks).clears m (subst T (sym e) tt))

pub changed_none : (ticks : Bool) (m : Marks) → (T m.seen → T m.modified) → m.modified ≡ false → changed ticks m ≡ m
changed_none ticks m h e = go ticks
  where
    unseen : (t : Bool) → (T t → T m.modified) → t ≡ false
    unseen true h = absurd (subst T e (h tt))
    unseen false h = refl

    same : cleared m ≡ m
    same = λ i. record { modified = sym e i; seen = sym (unseen m.seen h) i; pinned = m.pinned }

    go : (ticks : Bool) → changed ticks m ≡ m
    go true = ap (λ a. when a && m.seen then cleared m else record { modified = a; seen = a; pinned = m.pinned }) e ∙ same
    go false = same

pub changed_seen : (ticks : Bool) (m : Marks) → m.modified ≡ true → chosen ticks m ≡ false → saw_tick m ≡ changed ticks m
changed_seen true m set e = ap (λ a. when a then cleared m else saw_tick m) (sym e)
changed_seen false m set e = let z : ◌≡◌ {A = ℕ} 0 1 = cc in absurd (omega arith)

-- ---- the residents

-- the next one stands as it did
pub passed_next : (ticks : Bool) (l : List (Resident ℕ)) (p : ℕ) → get_elem? (passed ticks p l) p ≡ get_elem? l p
passed_next ticks [] zero = refl
passed_next ticks [] (suc p) = refl
passed_next ticks (x ∷ l) zero = refl
passed_next ticks (x ∷ l) (suc p) = passed_next ticks l p

pub passed_length : (ticks : Bool) (l : List (Resident ℕ)) (p : ℕ) → length (passed ticks p l) ≡ length l
passed_length ticks [] zero = refl
passed_length ticks [] (suc p) = refl
passed_length ticks (x ∷ l) zero = refl
passed_length ticks (x ∷ l) (suc p) = ap suc (passed_length ticks l p)

-- one that stays as it is
pub passed_clean : (ticks : Bool) (l : List (Resident ℕ)) (p : ℕ) (x : Resident ℕ) → get_elem? l p ≡ some x → changed ticks x.marks ≡ x.marks
    → passed ticks p l ≡ passed ticks (suc p) l
passed_clean ticks [] p x at e = let z : ◌≡◌ {A = ℕ} 0 1 = cc in absurd (omega arith)
passed_clean ticks (y ∷ l) zero x at e =
    let same : y ≡ x = cc in
    let stays : changed ticks y.marks ≡ y.marks = subst (λ z. changed ticks z.marks ≡ z.marks) (sym same) e in
    ap (λ z. z ∷ l) (λ i. marked (sym stays i) y)
passed_clean ticks (y ∷ l) (suc p) x at e = ap (λ t. remarked (changed ticks) y ∷ t) (passed_clean ticks l p x at e)

-- one whose marks change, and no other's: entries differ
others_stay : (change : Marks → Marks) (e : ℕ) (l : List (Resident ℕ)) → All (λ y. y.held ≢ e) l → marked_at change e l ≡ l
others_stay change e [] a = refl
others_stay change e (y ∷ l) a = rw (ne_eqb y.held e a.0, others_stay change e l a.1)

pub passed_marked : (ticks : Bool) (change : Marks → Marks) (l : List (Resident ℕ)) (p : ℕ) (x : Resident ℕ) → Apart l → get_elem? l p ≡ some x
    → change x.marks ≡ changed ticks x.marks
    → marked_at change x.held (passed ticks p l) ≡ passed ticks (suc p) l
passed_marked ticks change [] p x a at e = let z : ◌≡◌ {A = ℕ} 0 1 = cc in absurd (omega arith)
passed_marked ticks change (y ∷ l) zero x a at e =
    let same : y ≡ x = cc in
    let new : change y.marks ≡ changed ticks y.marks = subst (λ z. change z.marks ≡ changed ticks z.marks) (sym same) e in
    subst (λ z. marked_at change z.held (y ∷ l) ≡ remarked (changed ticks) y ∷ l) same
    (ap₂ ◌∷◌
    (if_yes (eqb y.held y.held) (remarked change y) y (eqb_refl y.held) ∙ (λ i. marked (new i) y))
    (others_stay change y.held l a.0))
passed_marked ticks change (y ∷ l) (suc p) x a at e = ap₂ ◌∷◌ earlier (passed_marked ticks change l p x a.1 at e)
  where
    z : Resident ℕ
    z = remarked (changed ticks) y

    other : x.held ≢ y.held
    other = all_found (λ w. w.held ≢ y.held) l p x a.0 at

    earlier : (when eqb y.held x.held then remarked change z else z) ≡ z
    earlier = ap (λ t. when t then remarked change z else z) (ne_eqb y.held x.held (λ h. other (sym h)))

-- ---- those written out

gone_next : (c : Resident ℕ → Bool) (l : List (Resident ℕ)) (p : ℕ) (x : Resident ℕ) → get_elem? l p ≡ some x
    → those c (take (suc p) l) ≡ those c (take p l) ++ (when c x then x ∷ [] else [])
unfolding those
gone_next c [] p x at = let z : ◌≡◌ {A = ℕ} 0 1 = cc in absurd (omega arith)
gone_next c (y ∷ l) zero x at = let same : y ≡ x = cc in ap (λ z. when c z then z ∷ [] else []) same
gone_next c (y ∷ l) (suc p) x at = go (c y) (gone_next c l p x at)
  where
    go : (b : Bool) → those c (take (suc p) l) ≡ those c (take p l) ++ (when c x then x ∷ [] else [])
        → (when b then y ∷ those c (take (suc p) l) else those c (take (suc p) l))
        ≡ (when b then y ∷ those c (take p l) else those c (take p l)) ++ (when c x then x ∷ [] else [])
    go true h = ap (λ t. y ∷ t) h
    go false h = h

saved_append : (f : ℕ → List ℕ) (B : ℕ) (l m : List (Resident ℕ)) (store : List ℕ)
    → saved_all f B (l ++ m) store ≡ saved_all f B m (saved_all f B l store)
unfolding saved_all
saved_append f B [] m store = refl
saved_append f B (x ∷ l) m store = saved_append f B l m (saved f B x store)

module _ (ticks : Bool) (l : List (Resident ℕ)) (p : ℕ) (x : Resident ℕ) (at : get_elem? l p ≡ some x) where
  abbrev one : List (Resident ℕ)
  one = when chosen ticks x.marks then x ∷ [] else []

  next : gone ticks (take (suc p) l) ≡ gone ticks (take p l) ++ one
  next = gone_next (λ y. chosen ticks y.marks) l p x at

  pub count_next : length (gone ticks (take (suc p) l)) ≡ length (gone ticks (take p l)) + bit (chosen ticks x.marks)
  count_next =
      ap length next ∙ length-append (gone ticks (take p l)) one ∙ ap (λ n. length (gone ticks (take p l)) + n) (go (chosen ticks x.marks))
    where
      go : (b : Bool) → length (when b then x ∷ [] else []) ≡ bit b
      go true = refl
      go false = refl

  pub saved_next : (f : ℕ → List ℕ) (B : ℕ) (store : List ℕ)
      → saved_all f B (gone ticks (take (suc p) l)) store
      ≡ saved_all f B (when chosen ticks x.marks then x ∷ [] else []) (saved_all f B (gone ticks (take p l)) store)
  saved_next f B store = ap (λ m. saved_all f B m store) next ∙ saved_append f B (gone ticks (take p l)) one store
