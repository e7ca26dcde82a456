-- The words of a fresh directory: how many they are, and their kinds.
use Rattle.std.specs.Prelude.{ℕ, zero, suc, ◌+◌, ◌*◌, ◌/◌, ◌^◌, ◌≤◌, ◌<◌, ◌≡◌, refl, Bool, true, false, List, [], ◌∷◌, ◌++◌, map, length, replicate, eqb}
use Rattle.std.proofs.Common.{arith, ap, ap₂, ◌∙◌, length-append}
use Rattle.std.proofs.lemmas.List.{length-replicate}
use Rattle.basics.specs.Basics.{when◌then◌else◌}
use Rattle.words.specs.Words.{number, link}
use Rattle.settings.specs.declared.Settings.{Settings}
use Rattle.settings.specs.NumbersLaws.{LegalSettings}
use Rattle.settings.specs.Buckets.{buckets, directory_length}
use Rattle.layout.specs.Layout.{entry_kinds, header_kinds, kinds, unused_from, fresh_header, fresh_words}
use Rattle.layout.proofs.FreshWordLaws.{next_of, length_unused}

abbrev kinds_of : List ℕ → List ℕ
kinds_of = map (λ w. w / 2 ^ 28)

kind_number : (v : ℕ) → v < 2 ^ 28 → number v / 2 ^ 28 ≡ 1
kind_number v h = omega arith

kind_link : (v : ℕ) → v < 2 ^ 28 → link v / 2 ^ 28 ≡ 2
kind_link v h = omega arith

kinds_append : (xs ys : List ℕ) → kinds_of (xs ++ ys) ≡ kinds_of xs ++ kinds_of ys
kinds_append [] ys = refl
kinds_append (x ∷ xs) ys = ap (λ t. x / 2 ^ 28 ∷ t) (kinds_append xs ys)

kinds_replicate : (n x : ℕ) → kinds_of (replicate n x) ≡ replicate n (x / 2 ^ 28)
kinds_replicate zero x = refl
kinds_replicate (suc n) x = ap (λ t. x / 2 ^ 28 ∷ t) (kinds_replicate n x)

kinds_unused : (e n : ℕ) → e + n ≤ 4097 → kinds_of (unused_from e n) ≡ entry_kinds n
unfolding unused_from entry_kinds
kinds_unused e zero h = refl
kinds_unused e (suc n) h =
    ap₂ (λ k t. 1 ∷ 1 ∷ 1 ∷ 1 ∷ 2 ∷ k ∷ 2 ∷ 2 ∷ 2 ∷ t) (kind_link (next_of e n) (small (eqb n 0))) (kinds_unused (e + 1) n (omega arith))
  where
    small : (b : Bool) → (when b then 0 else e + 1) < 2 ^ 28
    small true = omega arith
    small false = omega arith

pub length_fresh : (s : Settings) → length (fresh_words s) ≡ directory_length s
unfolding fresh_words
length_fresh s =
    let h = length_unused 1 s.n in
    let g = length-replicate (2 * s.cmax + buckets s.n) (link 0) in
    omega (arith, length-append (replicate (2 * s.cmax + buckets s.n) (link 0)) (unused_from 1 s.n))

pub kinds_fresh : (s : Settings) → LegalSettings s → kinds_of (fresh_words s) ≡ kinds s
unfolding fresh_words kinds
kinds_fresh s legal =
    let l = legal in
    kinds_append (fresh_header s) (replicate (2 * s.cmax + buckets s.n) (link 0) ++ unused_from 1 s.n)
    ∙ ap₂ (λ a b. a ++ b) header
    (kinds_append (replicate (2 * s.cmax + buckets s.n) (link 0)) (unused_from 1 s.n)
    ∙ ap₂ (λ a b. a ++ b) (kinds_replicate (2 * s.cmax + buckets s.n) (link 0)) (kinds_unused 1 s.n (omega arith)))
  where
    header : kinds_of (fresh_header s) ≡ header_kinds
    header =
        let l = legal in
        rw (
          kind_number s.n (omega arith),
          kind_number s.nnew (omega arith),
          kind_number s.nold (omega arith),
          kind_number s.cmax (omega arith),
          kind_number s.amax (omega arith),
          kind_number s.b (omega arith),
          kind_number s.m (omega arith),
        )
