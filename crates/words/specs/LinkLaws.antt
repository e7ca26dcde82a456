-- Changed link words: one store changes at most one, a number stored over a number none, and what stores change adds up.
use Rattle.std.specs.Prelude.{ℕ, zero, suc, ◌+◌, ◌%◌, ◌^◌, ◌≤◌, ◌≡◌, refl, Bool, true, false, not, ◌&&◌, List, [], ◌∷◌, eqb, length, get_or, set}
use Rattle.std.proofs.Common.{◌∙◌, sym, ap, arith, length-set, eqb-true, eq-eqb}
use Rattle.basics.specs.Basics.{bit, pick}
use Rattle.words.specs.Words.{number, link, set_link, set_number}
use Rattle.words.specs.Links.{is_link, link_differs, links_changed}

-- ---- one word

differs_le : (a b : ℕ) → link_differs a b ≤ 1
differs_le a b = go (is_link a) (eqb a b)
  where
    go : (s t : Bool) → bit (s && not t) ≤ 1
    go true true = omega arith
    go true false = omega arith
    go false true = omega arith
    go false false = omega arith

differs_same : (a : ℕ) → link_differs a a ≡ 0
differs_same a = rw (eq-eqb a a refl) (go (is_link a))
  where
    go : (s : Bool) → bit (s && false) ≡ 0
    go true = refl
    go false = refl

differs_tri : (a b c : ℕ) → link_differs a c ≤ link_differs a b + link_differs b c
differs_tri a b c = go (eqb a b) refl
  where
    go : (t : Bool) → eqb a b ≡ t → link_differs a c ≤ bit (is_link a && not t) + link_differs b c
    go true q = rw (eqb-true a b q) (omega arith)
    go false q = two (is_link a) (eqb a c)
      where
        two : (s t : Bool) → bit (s && not t) ≤ bit (s && true) + link_differs b c
        two true true = omega arith
        two true false = omega arith
        two false true = omega arith
        two false false = omega arith

-- ---- all words

pub changed_same : (u : List ℕ) → links_changed u u ≡ 0
unfolding links_changed
changed_same [] = refl
changed_same (a ∷ u) = rw (differs_same a, changed_same u)

pub changed_set : (u : List ℕ) (i v : ℕ) → links_changed u (set u i v) ≤ 1
unfolding links_changed
changed_set [] i v = omega arith
changed_set (a ∷ u) zero v = omega (arith, changed_same u, differs_le a v)
changed_set (a ∷ u) (suc i) v = omega (arith, changed_set u i v, differs_same a)

-- a store at a word that was no link
pub changed_aside : (u w : List ℕ) (i v : ℕ) → is_link (get_or u i 0) ≡ false → links_changed u (set w i v) ≡ links_changed u w
unfolding links_changed
changed_aside [] w i v h = refl
changed_aside (a ∷ u) [] i v h = refl
changed_aside (a ∷ u) (b ∷ w) zero v h = rw h
changed_aside (a ∷ u) (b ∷ w) (suc i) v h = ap (λ (t : ℕ). link_differs a b + t) (changed_aside u w i v h)

pub changed_tri : (u v w : List ℕ) → length u ≡ length v → links_changed u w ≤ links_changed u v + links_changed v w
unfolding links_changed
changed_tri [] v w h = omega arith
changed_tri (a ∷ u) [] w h = absurd (omega arith)
changed_tri (a ∷ u) (b ∷ v) [] h = omega arith
changed_tri (a ∷ u) (b ∷ v) (c ∷ w) h = omega (arith, differs_tri a b c, changed_tri u v w (omega arith))

-- ---- bounds that add up

-- At most k link words differ, and the length is kept.
pub record Within (k : ℕ) (before after : List ℕ) : Type 0 where
  pub links : links_changed before after ≤ k
  pub long : length before ≡ length after

pub within_none : (u : List ℕ) → Within 0 u u
within_none u = record { links = omega (arith, changed_same u); long = refl }

pub within_then : (j k : ℕ) (u v w : List ℕ) → Within j u v → Within k v w → Within (j + k) u w
within_then j k u v w a b = record { links = omega (arith, changed_tri u v w a.long, a.links, b.links); long = a.long ∙ b.long }

pub within_more : (j k : ℕ) (u w : List ℕ) → j ≤ k → Within j u w → Within k u w
within_more j k u w l h = record { links = omega (arith, h.links); long = h.long }

pub within_if : (k : ℕ) (b : Bool) (u w : List ℕ) → Within k u w → Within k u (pick b w u)
within_if k true u w h = h
within_if k false u w h = record { links = omega (arith, changed_same u); long = refl }

pub within_set : (u : List ℕ) (i v : ℕ) → Within 1 u (set u i v)
within_set u i v = record { links = changed_set u i v; long = sym (length-set u i v) }

-- one store of a link, or of a number
pub one_link : (u : List ℕ) (i v : ℕ) → Within 1 u (set_link u i v)
unfolding set_link
one_link u i v = within_set u i (link (v % 2 ^ 28))

pub one_number : (u : List ℕ) (i v : ℕ) → Within 1 u (set_number u i v)
unfolding set_number
one_number u i v = within_set u i (number (v % 2 ^ 28))

-- one store more

pub and_number : (k : ℕ) (u w : List ℕ) (i v : ℕ) → is_link (get_or u i 0) ≡ false → Within k u w → Within k u (set_number w i v)
unfolding set_number
and_number k u w i v h g =
    record {
      links = omega (arith, changed_aside u w i (number (v % 2 ^ 28)) h, g.links);
      long = g.long ∙ sym (length-set w i (number (v % 2 ^ 28)));
    }
