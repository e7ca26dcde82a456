-- The kinds of the directory's words (SCOPE, "The directory"), and the words of a fresh one. Assumes nothing.
use Rattle.std.specs.Prelude.{ℕ, zero, suc, ◌+◌, ◌*◌, List, [], ◌∷◌, ◌++◌, map, replicate, ltb, eqb}
use Rattle.basics.specs.Basics.{when◌then◌else◌}
use Rattle.words.specs.Words.{number, link}
use Rattle.settings.specs.declared.Settings.{Settings}
use Rattle.settings.specs.Buckets.{buckets, directory_length}
use Rattle.settings.specs.Numbers.{settings_number}

-- ---- kinds: 1 a number, 2 a link

unfoldable pub entry_kinds : ℕ → List ℕ
entry_kinds zero = []
entry_kinds (suc n) = (1 ∷ 1 ∷ 1 ∷ 1 ∷ 2 ∷ 2 ∷ 2 ∷ 2 ∷ 2 ∷ []) ++ entry_kinds n

abbrev pub header_kinds : List ℕ
header_kinds = replicate 9 1 ++ (replicate 5 2 ++ replicate 10 1)

unfoldable pub kinds : Settings → List ℕ
unfolding entry_kinds
kinds s = header_kinds ++ (replicate (2 * s.cmax + buckets s.n) 2 ++ entry_kinds s.n)

-- ---- fresh

abbrev pub unused_entry : ℕ → List ℕ
unused_entry next = number 0 ∷ number 0 ∷ number 0 ∷ number 0 ∷ link 0 ∷ link next ∷ link 0 ∷ link 0 ∷ link 0 ∷ []

-- n unused entries from e on, each linked to the next, the last to none
unfoldable pub unused_from : ℕ → ℕ → List ℕ
unused_from e zero = []
unused_from e (suc n) = unused_entry (when eqb n 0 then 0 else e + 1) ++ unused_from (e + 1) n

unfoldable pub fresh_header : Settings → List ℕ
fresh_header s =
    map number (s.n ∷ s.nnew ∷ s.nold ∷ s.cmax ∷ s.amax ∷ s.b ∷ s.m ∷ 0 ∷ 0 ∷ [])
    ++ (map link (0 ∷ 0 ∷ 0 ∷ 0 ∷ 1 ∷ []) ++ replicate 10 (number 0))

unfoldable pub fresh_words : Settings → List ℕ
unfolding fresh_header unused_from
fresh_words s = fresh_header s ++ (replicate (2 * s.cmax + buckets s.n) (link 0) ++ unused_from 1 s.n)

-- 1 to 5, or 0, for a directory of n words
unfoldable pub fresh_number : Settings → ℕ → ℕ
unfolding settings_number buckets
fresh_number s n =
    let refused = settings_number s in
    let short = ltb n (directory_length s) in
    when eqb refused 0 then (when short then 5 else 0) else refused
