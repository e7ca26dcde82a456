-- Buckets that hold entries of their own, and a list of residents: each lists exactly its own.
-- Assumes nothing.
use Rattle.std.specs.Prelude.{ℕ, zero, suc, ◌+◌, ◌≤◌, ◌<◌, ◌≡◌, refl, true, List, [], ◌∷◌, ◌++◌, map, length, T, eqb}
use Rattle.std.proofs.Common.{◌∙◌, ap, arith, le_antisymm, eqb→eq, eq-eqb, eqb-true}
use Rattle.std.proofs.Math.Decide.{ℕ_discrete}
use Rattle.std.proofs.Math.Facts.{yes_eqb}
use Rattle.basics.specs.Lists.{all, distinct, same_members}
use Rattle.basics.specs.Basics.{All, member}
use Rattle.basics.specs.ListLaws.{every_yes, yes_every, all_yes, yes_all}
use Rattle.basics.specs.AllLaws.{all_map, all_join}
use Rattle.links.specs.Off.{Off, Distinct, off_join, off_left, off_right}
use Rattle.links.specs.Sift.{sift, distinct_sift}
use Rattle.check_model.specs.Membership.{all_at, fits, in_member, member_in, yes_distinct, distinct_join}
use Rattle.check_model.specs.Members.{In, Inside, inside_of, inside_at, filled, sift_in, in_sift, sifted, one_value, map_distinct}

-- lists of different numbers with the same members
pub same_members_lem : (ys zs : List ℕ) → Distinct ys → Distinct zs → Inside ys zs → Inside zs ys → T (same_members ys zs)
unfolding same_members
same_members_lem ys zs d e h k =
    yes_every (eqb (length ys) (length zs) ∷ distinct ys ∷ all (λ x. member x zs) ys ∷ []) (
      yes_eqb (le_antisymm (fits ys zs d h) (fits zs ys e k)),
      (
        yes_distinct ys d,
        (
          yes_all (λ x. member x zs) ys (all_map (λ x. In x zs) (λ x. T (member x zs)) ys (λ x i. in_member x zs i) h),
          tt,
        ),
      ),
    )

pub members_same : (ys zs : List ℕ) → T (same_members ys zs) → (length ys ≡ length zs) × Inside ys zs
unfolding same_members
members_same ys zs h =
    let p = every_yes (eqb (length ys) (length zs) ∷ distinct ys ∷ all (λ x. member x zs) ys ∷ []) h in (
      eqb→eq (length ys) (length zs) p.0,
      all_map (λ x. T (member x zs)) (λ x. In x zs) ys (λ x t. member_in x zs t) (all_yes (λ x. member x zs) ys p.1.1.0),
    )

-- the place of an entry, below nb
module _ (place : ℕ → ℕ) (nb : ℕ) (below : (x : ℕ) → place x < nb) (lists : ℕ → List ℕ) where
  abbrev pub joins : ℕ → ℕ → List ℕ
  joins zero b = []
  joins (suc k) b = lists b ++ joins k (b + 1)

  abbrev pub own : ℕ → List ℕ → List ℕ
  own b xs = sift (λ x. eqb (place x) b) xs

  module _ (home : (j : ℕ) → j < nb → All (λ x. place x ≡ j) (lists j)) (once : (j : ℕ) → j < nb → Distinct (lists j)) where
    joins_from : (k b : ℕ) → b + k ≤ nb → All (λ x. b ≤ place x) (joins k b)
    joins_from zero b l = tt
    joins_from (suc k) b l =
        all_join (λ x. b ≤ place x) (lists b) (joins k (b + 1))
        (all_map (λ x. place x ≡ b) (λ x. b ≤ place x) (lists b) (λ x e. omega arith) (home b (omega arith)))
        (all_map (λ x. b + 1 ≤ place x) (λ x. b ≤ place x) (joins k (b + 1)) (λ x e. omega arith) (joins_from k (b + 1) (omega arith)))

    pub joins_distinct : (k b : ℕ) → b + k ≤ nb → Distinct (joins k b)
    joins_distinct zero b l = tt
    joins_distinct (suc k) b l =
        distinct_join (lists b) (joins k (b + 1)) (once b (omega arith)) (joins_distinct k (b + 1) (omega arith))
        (all_map (λ x. place x ≡ b) (λ x. Off x (joins k (b + 1))) (lists b) (λ x e. apart x e (joins k (b + 1)) (joins_from k (b + 1) (omega arith)))
        (home b (omega arith)))
      where
        apart : (x : ℕ) → place x ≡ b → (l : List ℕ) → All (λ y. b + 1 ≤ place y) l → Off x l
        apart x e [] h = tt
        apart x e (y ∷ l) h = (λ q. let e' : place y ≡ b = rw q at e in omega (arith, h.0), apart x e l h.1)

    -- an entry on any list is on that of its place
    joins_off : (x : ℕ) → Off x (lists (place x)) → (k b : ℕ) → b + k ≤ nb → Off x (joins k b)
    joins_off x o zero b l = tt
    joins_off x o (suc k) b l = off_join x (lists b) (joins k (b + 1)) (go (ℕ_discrete (place x) b)) (joins_off x o k (b + 1) (omega arith))
      where
        away : (ys : List ℕ) → All (λ y. place y ≡ b) ys → ¬ (place x ≡ b) → Off x ys
        away [] h z = tt
        away (y ∷ ys) h z = (λ q. z (ap place q ∙ h.0), away ys h.1 z)

        go : Dec (place x ≡ b) → Off x (lists b)
        go (yes e) = rw (← e) o
        go (no e) = away (lists b) (home b (omega arith)) e

    off_joins : (x j : ℕ) (k b : ℕ) → b ≤ j → j < b + k → Off x (joins k b) → Off x (lists j)
    off_joins x j zero b l u o = absurd (omega arith)
    off_joins x j (suc k) b l u o = go (ℕ_discrete j b) (off_joins x j k (b + 1))
      where
        go : Dec (j ≡ b) → (b + 1 ≤ j → j < b + 1 + k → Off x (joins k (b + 1)) → Off x (lists j)) → Off x (lists j)
        go (yes e) r = rw e (off_left x (lists b) (joins k (b + 1)) o)
        go (no e) r = r (omega arith) (omega arith) (off_right x (lists b) (joins k (b + 1)) o)

    module _ (xs : List ℕ) (dx : Distinct xs) (within : (j : ℕ) → j < nb → Inside (lists j) xs) where
      joins_inside : (k b : ℕ) → b + k ≤ nb → Inside (joins k b) xs
      joins_inside zero b l = tt
      joins_inside (suc k) b l = all_join (λ y. In y xs) (lists b) (joins k (b + 1)) (within b (omega arith)) (joins_inside k (b + 1) (omega arith))

      -- as many listed as there are residents: each resident is listed at its place
      pub all_listed : length (joins nb 0) ≡ length xs → (x : ℕ) → In x xs → In x (lists (place x))
      all_listed e x i o =
          filled (joins nb 0) xs (joins_distinct nb 0 (omega arith)) (joins_inside nb 0 (omega arith)) (omega arith) x i
          (joins_off x o nb 0 (omega arith))

      pub listed_own : length (joins nb 0) ≡ length xs → (j : ℕ) → j < nb → T (same_members (lists j) (own j xs))
      listed_own e j l =
          same_members_lem (lists j) (own j xs) (once j l) (distinct_sift (λ x. eqb (place x) j) xs dx)
          (inside_of (lists j) (own j xs) (λ y i. sift_in (λ x. eqb (place x) j) xs y
          (eq-eqb (place y) j (all_at (λ x. place x ≡ j) (lists j) y (home j l) i)) (inside_at (lists j) xs (within j l) y i)))
          (inside_of (own j xs) (lists j) (λ y i. back y (eqb-true (place y) j
          (all_at (λ x. eqb (place x) j ≡ true) (own j xs) y (sifted (λ x. eqb (place x) j) xs) i)) (in_sift (λ x. eqb (place x) j) xs y i)))
        where
          back : (y : ℕ) → place y ≡ j → In y xs → In y (lists j)
          back y q i o = all_listed e y i (rw q o)

      -- each bucket lists its own: as many as there are residents
      pub own_many : ((j : ℕ) → j < nb → length (lists j) ≡ length (own j xs)) → length (joins nb 0) ≡ length xs
      own_many h =
          le_antisymm (fits (joins nb 0) xs (joins_distinct nb 0 (omega arith)) (joins_inside nb 0 (omega arith)))
          (fits xs (joins nb 0) dx (inside_of xs (joins nb 0)
          (λ x i o. here x i (off_joins x (place x) nb 0 (omega arith) (omega (arith, below x)) o))))
        where
          here : (x : ℕ) → In x xs → Off x (lists (place x)) → ⊥
          here x i =
              let j : ℕ = place x in
              filled (lists j) (own j xs) (once j (below x))
              (inside_of (lists j) (own j xs) (λ y k. sift_in (λ x. eqb (place x) j) xs y
              (eq-eqb (place y) j (all_at (λ x. place x ≡ j) (lists j) y (home j (below x)) k))
              (inside_at (lists j) xs (within j (below x)) y k)))
              (omega (arith, h j (below x))) x (sift_in (λ x. eqb (place x) j) xs x (eq-eqb (place x) j refl) i)

      -- blocks that differ within each bucket differ in all
      pub blocks_differ : (block : ℕ → ℕ) → ((x y : ℕ) → block x ≡ block y → place x ≡ place y) → ((j : ℕ) → j < nb → Distinct (map block (lists j)))
          → length (joins nb 0) ≡ length xs → Distinct (map block xs)
      blocks_differ block same differ e =
          map_distinct block xs dx
          (λ x y i k q. one_value block (lists (place x)) (differ (place x) (below x)) x y (all_listed e x i)
          (λ o. all_listed e y k (rw (← same x y q) o)) q)
