-- Named settings as words: what `fbr_named` writes (SCOPE, "The library's own calls"). Assumes nothing.
use Rattle.std.specs.Prelude.{ℕ, Bool, ◌&&◌, List, [], ◌∷◌, length, leb, eqb}
use Rattle.basics.specs.Basics.{when◌then◌else◌, pick}
use Rattle.settings.specs.declared.Settings.{Settings}
use Rattle.settings.specs.Named.{UNIX, C51, CUST11}
use Rattle.promises.specs.Promises.{over}

-- 0 UNIX, 1 C51, 2 CUST11
unfoldable pub settings_named : ℕ → ℕ → ℕ → ℕ → Settings
settings_named which n b m = when eqb which 0 then UNIX n b m else when eqb which 1 then C51 n b m else CUST11 n b m

-- in the order of the directory's header
abbrev pub settings_words : Settings → List ℕ
settings_words s = s.n ∷ s.nnew ∷ s.nold ∷ s.cmax ∷ s.amax ∷ s.b ∷ s.m ∷ []

-- whether there is such a name, and room
abbrev pub name_fits : ℕ → List ℕ → Bool
name_fits which out = leb which 2 && leb 7 (length out)

-- how many words are written, and what stands there then
abbrev pub named_length : ℕ → List ℕ → ℕ
named_length which out = pick (name_fits which out) 7 0

abbrev pub named_words : ℕ → ℕ → ℕ → ℕ → List ℕ → List ℕ
named_words which n b m out = pick (name_fits which out) (over (settings_words (settings_named which n b m)) out) out
