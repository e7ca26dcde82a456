-- Residents written out: their bytes then stand in the store, and the other blocks' stand as they did.
use Rattle.std.specs.Prelude.{ℕ, ◌+◌, ◌*◌, ◌≤◌, ◌≢◌, Bool, not}
use Rattle.std.proofs.Common.{arith, ◌∙◌}
use Rattle.std.proofs.Math.Path.{◌≡◌, refl, sym, subst}
use Rattle.std.proofs.Math.Bool.{true, false}
use mathlib.Core.List.{List, [], ◌∷◌}
use Rattle.std.proofs.Math.Option.{some}
use Rattle.std.proofs.Math.ListN.{length}
use Rattle.std.proofs.Math.Dec.{T}
use Rattle.basics.specs.AllLaws.{all_those}
use Rattle.basics.specs.Basics.{All, when◌then◌else◌, block_at, put_block}
use Rattle.basics.specs.Lists.{those}
use Rattle.basics.specs.TestLaws.{split, same_or_not, if_yes, if_no}
use Rattle.stack.proofs.BufferLaws.{length_put_block, put_same, put_other}
use Rattle.stack.specs.Recency.{Resident, lookup}
use Rattle.stack.specs.Stack.{saved, saved_all}
use Rattle.stack.proofs.BlockLaws.{Absent, Differ}
use Rattle.stack.proofs.LookupLaws.{lookup_first, lookup_past}

module _ {A : Type 0} (bytes_of : A → List ℕ) (B n : ℕ) where
  -- a resident of B bytes whose block is within a store of n bytes
  abbrev pub Sized : Resident A → Type 0
  Sized x = (length (bytes_of x.held) ≡ B) × (x.block * B + B ≤ n)

  -- ---- one

  module _ (x : Resident A) (store : List ℕ) (size : Sized x) (long : length store ≡ n) where
    abbrev saved_where : Bool → List ℕ
    saved_where m = when m then put_block B x.block (bytes_of x.held) store else store

    ends : x.block * B + B ≤ length store
    ends = omega (arith, size.1)

    pub saved_length : length (saved bytes_of B x store) ≡ n
    unfolding saved
    saved_length = go x.marks.modified
      where
        go : (m : Bool) → length (saved_where m) ≡ n
        go true = length_put_block B x.block (bytes_of x.held) store size.0 ends ∙ long
        go false = long

    pub saved_other : (b : ℕ) → x.block ≢ b → block_at B b (saved bytes_of B x store) ≡ block_at B b store
    unfolding saved
    saved_other b ne = go x.marks.modified
      where
        go : (m : Bool) → block_at B b (saved_where m) ≡ block_at B b store
        go true = put_other B x.block b (bytes_of x.held) store size.0 ends ne
        go false = refl

    pub saved_same : (b : ℕ) → x.block ≡ b → T x.marks.modified → block_at B b (saved bytes_of B x store) ≡ bytes_of x.held
    unfolding saved
    saved_same b here = go x.marks.modified
      where
        go : (m : Bool) → T m → block_at B b (saved_where m) ≡ bytes_of x.held
        go true t = subst (λ c. block_at B c (saved_where true) ≡ bytes_of x.held) here (put_same B x.block (bytes_of x.held) store size.0 ends)
        go false t = absurd t

    pub saved_unmodified : T (not x.marks.modified) → saved bytes_of B x store ≡ store
    unfolding saved
    saved_unmodified = if_no x.marks.modified (put_block B x.block (bytes_of x.held) store) store

  -- ---- several

  pub saved_all_length : (l : List (Resident A)) (store : List ℕ) → All Sized l → length store ≡ n → length (saved_all bytes_of B l store) ≡ n
  unfolding saved_all
  saved_all_length [] store sizes long = long
  saved_all_length (x ∷ l) store sizes long = saved_all_length l (saved bytes_of B x store) sizes.1 (saved_length x store sizes.0 long)

  pub saved_all_other : (b : ℕ) (l : List (Resident A)) (store : List ℕ) → All Sized l → length store ≡ n → Absent b l
      → block_at B b (saved_all bytes_of B l store) ≡ block_at B b store
  unfolding saved_all
  saved_all_other b [] store sizes long away = refl
  saved_all_other b (x ∷ l) store sizes long away =
      saved_all_other b l (saved bytes_of B x store) sizes.1 (saved_length x store sizes.0 long) away.1
      ∙ saved_other x store sizes.0 long b away.0

  saved_all_first : (b : ℕ) (x : Resident A) (l : List (Resident A)) (store : List ℕ) → Sized x → All Sized l → length store ≡ n
      → x.block ≡ b → Absent b l → T x.marks.modified → block_at B b (saved_all bytes_of B (x ∷ l) store) ≡ bytes_of x.held
  unfolding saved_all
  saved_all_first b x l store size sizes long here away m =
      saved_all_other b l (saved bytes_of B x store) sizes (saved_length x store size long) away ∙ saved_same x store size long b here m

  -- ---- those that pass a test

  module _ (f : Resident A → Bool) (b : ℕ) where
    -- The resident of a block passes: it is written out, if modified.
    pub those_at : (l : List (Resident A)) (store : List ℕ) (x : Resident A) → All Sized l → length store ≡ n → Differ l
        → lookup b l ≡ some x → T (f x) → T x.marks.modified → block_at B b (saved_all bytes_of B (those f l) store) ≡ bytes_of x.held
    unfolding those saved_all lookup
    those_at [] store x sizes long d here t m = let z : ◌≡◌ {A = ℕ} 0 1 = cc in absurd (omega arith)
    those_at (y ∷ l) store x sizes long d here t m =
        let rest : List (Resident A) = those f l in
        let spared = those_at l store x sizes.1 long d.1 in
        let past = those_at l (saved bytes_of B y store) x sizes.1 (saved_length y store sizes.0 long) d.1 in
        same_or_not y.block b
        (λ h. let same : y ≡ x = (let first = lookup_first b y l h in cc) in
        let none : Absent b rest = all_those (λ z. z.block ≢ b) f l (subst (λ c. Absent c l) h d.0) in
        rw (if_yes (f y) (y ∷ rest) rest (subst (λ z. T (f z)) (sym same) t))
        (subst (λ z. block_at B b (saved_all bytes_of B (y ∷ rest) store) ≡ bytes_of z.held) same
        (saved_all_first b y rest store sizes.0 (all_those Sized f l sizes.1) long h none (subst (λ z. T z.marks.modified) (sym same) m))))
        (λ h. let here' : lookup b l ≡ some x = sym (lookup_past b y l h) ∙ here in
        split (f y)
        (λ u. rw (if_yes (f y) (y ∷ rest) rest u) (past here' t m))
        (λ u. rw (if_no (f y) (y ∷ rest) rest u) (spared here' t m)))

    -- It fails: none that passes has the block.
    pub those_away : (l : List (Resident A)) (x : Resident A) → Differ l → lookup b l ≡ some x → T (not (f x)) → Absent b (those f l)
    unfolding those lookup
    those_away [] x d here t = tt
    those_away (y ∷ l) x d here t =
        let rest : List (Resident A) = those f l in
        let later = those_away l x d.1 in
        same_or_not y.block b
        (λ h. let same : x ≡ y = (let first = lookup_first b y l h in cc) in
        rw (if_no (f y) (y ∷ rest) rest (subst (λ z. T (not (f z))) same t))
        (all_those (λ z. z.block ≢ b) f l (subst (λ c. Absent c l) h d.0)))
        (λ h. let away : Absent b rest = later (sym (lookup_past b y l h) ∙ here) t in
        split (f y) (λ u. rw (if_yes (f y) (y ∷ rest) rest u) (h, away)) (λ u. rw (if_no (f y) (y ∷ rest) rest u) away))
