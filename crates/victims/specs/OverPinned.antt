-- A walk over the pinned ones of a section, from the last entry of a list by its back links, ends at the last unpinned one that the
-- section reaches, where sections rise along the list. Assumes nothing.
use Prim.Native.Nat.{ℕ, zero, suc, ◌-◌, ◌≤◌}
use Rattle.std.specs.Prelude.{◌≡◌, Bool, not, ◌&&◌, List, [], ◌∷◌, length}
use Rattle.std.proofs.Math.Path.{refl}
use Rattle.std.proofs.Common.{◌∙◌, ap}
use native.Mathlib.Omega.{arith}
use Rattle.basics.specs.Basics.{pick}
use Rattle.links.specs.Run.{Back}
use Rattle.words.specs.Words.{val}
use Rattle.word_ops.specs.Lists.{word_of}
use Rattle.word_ops.specs.Victim.{reaches, is_pinned_entry, over_pinned}
use Rattle.victims.specs.Lasts.{last_on, walked, Rising, walked_last}

module _ (w : List ℕ) (at section k : ℕ) where
  abbrev reached : ℕ → Bool
  reached e = reaches w at section e

  abbrev pinned : ℕ → Bool
  pinned e = is_pinned_entry w at e

  over_none : (links : ℕ) → over_pinned w at section k links 0 ≡ 0
  unfolding over_pinned reaches
  over_none zero = refl
  over_none (suc links) = refl

  over_one : (links e : ℕ) → 1 ≤ links
      → over_pinned w at section k links e ≡ pick (reached e) (pick (pinned e) (over_pinned w at section k (links - 1) (val w (word_of at e k))) e) 0
  unfolding over_pinned
  over_one zero e h = absurd (omega arith)
  over_one (suc links) e h =
      let q : suc links - 1 ≡ links = omega arith in
      rw q

  over_back : (links a : ℕ) (ys : List ℕ) (t : ℕ) → length ys ≤ links → Back (λ e. val w (word_of at e k)) a ys t
      → over_pinned w at section k links t ≡ walked reached pinned ys (over_pinned w at section k (links - length ys) a)
  over_back links a [] t h b = let q : links - 0 ≡ links = omega arith in rw (q, b)
  over_back links a (e ∷ ys) t h b =
      let n : links - length ys - 1 ≡ links - length (e ∷ ys) = omega arith in
      let one = over_one (links - length ys) e (omega arith) in
      over_back links e ys t (omega arith) b.1 ∙ ap (walked reached pinned ys) (rw (n, b.0) at one)

  -- THE WALK
  pub walk_last : (links : ℕ) (ys : List ℕ) (t : ℕ) → length ys ≤ links → Back (λ e. val w (word_of at e k)) 0 ys t
      → Rising (λ e. reaches w at section e) ys
      → over_pinned w at section k links t ≡ last_on (λ e. reaches w at section e && not (is_pinned_entry w at e)) ys 0
  walk_last links ys t h b r =
      over_back links 0 ys t h b
      ∙ ap (walked reached pinned ys) (over_none (links - length ys))
      ∙ walked_last reached pinned ys r
