-- The schemes that OPT is compared with (SCOPE, "What the new rule gains"): of N blocks, loading the block at every miss and nothing at
-- other times, replacing one resident only when full. They start empty where residents C are []. Assumes nothing.
use Rattle.std.specs.Prelude.{ℕ, suc, ◌<◌, ◌≡◌, true, false, List, [], ◌∷◌, length, ltb}
use Rattle.basics.specs.Basics.{when◌then◌else◌, member}
use Rattle.opt.specs.Opt.{remove}

-- Who may be resident once a scheme has loaded block b: it and all that were, where there is room; when full, it and all that were but one,
-- whichever.
pub data Loads (N b : ℕ) (C : List ℕ) : List ℕ → Type 0 where
  room : length C < N → Loads N b C (b ∷ C)
  full : (v : ℕ) → length C ≡ N → member v C ≡ true → Loads N b C (b ∷ remove v C)

-- Some scheme goes through this trace from residents C with so many ins. Nothing is asked of whom it replaces each time: it may choose by
-- the reads that were, by those to come, or by chance.
pub data Runs (N : ℕ) : List ℕ → List ℕ → ℕ → Type 0 where
  done : {C : List ℕ} → Runs N [] C 0
  hit : {b : ℕ} {t C : List ℕ} {ins : ℕ} → member b C ≡ true → Runs N t C ins → Runs N (b ∷ t) C ins
  miss : {b : ℕ} {t C D : List ℕ} {ins : ℕ} → member b C ≡ false → Loads N b C D → Runs N t D ins → Runs N (b ∷ t) C (suc ins)

-- ---- a scheme as a rule

-- A rule names the resident to replace, given the reads that were, the latest first, with the one that misses, those to come, and the
-- residents.
abbrev pub Rule : Type 0
Rule = List ℕ → List ℕ → List ℕ → ℕ

-- it names a resident where there is one
abbrev pub Names : Rule → Type 0
Names rule = (past coming C : List ℕ) → 0 < length C → member (rule past coming C) C ≡ true

-- the block ins of the scheme that goes by a rule, from residents C, with the reads that were
unfoldable pub rule_ins : Rule → ℕ → List ℕ → List ℕ → List ℕ → ℕ
unfolding member remove
rule_ins rule N past [] C = 0
rule_ins rule N past (b ∷ t) C =
    let now = b ∷ past in
    let stay = when ltb (length C) N then C else remove (rule now t C) C in
    elim (member b C) [ true ↦ rule_ins rule N now t C | false ↦ suc (rule_ins rule N now t (b ∷ stay)) ]
