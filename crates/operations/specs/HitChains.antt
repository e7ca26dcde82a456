-- The count chains after a hit. Assumes nothing.
use Rattle.std.specs.Prelude.{ℕ, ◌≤◌, ◌≡◌, refl, Bool, true, false, List, [], ◌∷◌, ◌++◌, leb}
use Rattle.std.proofs.Common.{arith, leb-true, leb-false}
use Rattle.links.specs.Upd.{upd}
use Rattle.links.specs.Off.{Off}
use Rattle.links.proofs.Chains.{Chains, chains_remove, chains_less, chains_more, chains_aside, chains_push}
use Rattle.layout.specs.Addresses.{CHAIN-TO-HEAD, CHAIN-TO-TAIL}
use Rattle.linkage.specs.Fields.{Shape, Fields, CHAIN-HEADS, CHAIN-TAILS}
use Rattle.linkage.specs.WellLinked.{Has}
use Rattle.operations.specs.FieldOps.{chain_out, chain_in}

-- the chains of the fields, by a key
abbrev pub Chained : Shape → Fields → (ℕ → ℕ) → List ℕ → Type 0
Chained s D key residents = Chains (Has s) (D CHAIN-TO-TAIL) (D CHAIN-TO-HEAD) (D CHAIN-HEADS) (D CHAIN-TAILS) key residents

module _ (s : Shape) (D : Fields) (e : ℕ) where
  pub out_chains : (key : ℕ → ℕ) (above below : List ℕ) → 1 ≤ key e → Chained s D key (above ++ (e ∷ below))
      → Chained s (chain_out (leb (key e) s.cmax) D (key e) e) key (above ++ below)
  out_chains key above below l g = go (leb (key e) s.cmax) refl
    where
      go : (b : Bool) → leb (key e) s.cmax ≡ b → Chained s (chain_out b D (key e) e) key (above ++ below)
      go true q =
          chains_remove (Has s) (D CHAIN-TO-TAIL) (D CHAIN-TO-HEAD) (D CHAIN-HEADS) (D CHAIN-TAILS) key above e below (key e) refl
          (l, leb-true (key e) s.cmax q) g
      go false q =
          chains_less (Has s) (D CHAIN-TO-TAIL) (D CHAIN-TO-HEAD) (D CHAIN-HEADS) (D CHAIN-TAILS) key above e below
          (λ h. omega (arith, leb-false (key e) s.cmax q)) g

  pub in_chains : (key : ℕ → ℕ) (c : ℕ) (residents : List ℕ) → c ≡ key e → 1 ≤ c → Off e (0 ∷ residents) → Chained s D key residents
      → Chained s (chain_in (leb c s.cmax) D c e) key (e ∷ residents)
  in_chains key c residents k l o g = go (leb c s.cmax) refl
    where
      go : (b : Bool) → leb c s.cmax ≡ b → Chained s (chain_in b D c e) key (e ∷ residents)
      go true q =
          chains_push (Has s) (D CHAIN-TO-TAIL) (D CHAIN-TO-HEAD) (D CHAIN-HEADS) (D CHAIN-TAILS) key e residents c k (l, leb-true c s.cmax q) o g
      go false q =
          chains_more (Has s) (upd (D CHAIN-TO-TAIL) e 0) (upd (D CHAIN-TO-HEAD) e 0) (D CHAIN-HEADS) (D CHAIN-TAILS) key [] e residents
          (λ h. omega (arith, leb-false c s.cmax q))
          (chains_aside (Has s) (D CHAIN-TO-TAIL) (D CHAIN-TO-HEAD) (D CHAIN-HEADS) (D CHAIN-TAILS) key e 0 0 residents o.1 g)
