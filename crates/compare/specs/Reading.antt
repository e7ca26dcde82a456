-- What a read of a block asks of a directory, and what it leaves: the residents, whatever entry each has, and the totals. Statements only.
use Rattle.std.specs.Prelude.{ℕ, ◌+◌, ◌<◌, ◌≤◌, ◌≡◌, List, [], length, get_or, T}
use Rattle.settings.specs.declared.Settings.{Settings}
use Rattle.stack.specs.Recency.{place}
use Rattle.stack.specs.Stack.{entering}
use Rattle.layout.specs.Sound.{settings_in, totals_in, sound, residents_in}
use Rattle.promises.specs.DirectoryReady.{Countable}
use Rattle.accesses.specs.Done.{Clean}
use Rattle.opt.specs.Ins.{block_of, most_reads}
use Rattle.opt.specs.Bare.{Bare, bare, after_read}

-- the residents of a directory, their entries forgotten
abbrev pub bare_in : List ℕ → List Bare
bare_in words = bare (residents_in words)

-- a sound directory under these settings, none modified, with so many reads and no write counted
pub record Ready (words : List ℕ) (s : Settings) (reads : ℕ) : Type 0 where
  pub is_sound : T (sound words)
  pub settings_are : s ≡ settings_in words
  pub clean : Clean (residents_in words)
  pub reads_are : (totals_in words).reads ≡ reads
  pub writes_are : (totals_in words).writes ≡ 0

-- a block may be read
pub record ReadReady (words : List ℕ) (s : Settings) (block : ℕ) : Type 0 where
  pub is_sound : T (sound words)
  pub settings_are : s ≡ settings_in words
  pub inside : block < s.m
  pub countable : Countable words
  pub clean : Clean (residents_in words)

-- it was read
pub record ReadDone (before : List ℕ) (s : Settings) (block : ℕ) (after : List ℕ) : Type 0 where
  pub sound_after : T (sound after)
  pub settings_kept : s ≡ settings_in after
  pub clean : Clean (residents_in after)
  pub residents : bare_in after ≡ after_read s block (bare_in before)
  pub ins : (totals_in after).ins ≡ (totals_in before).ins + entering (place s block (bare_in before))
  pub reads : (totals_in after).reads ≡ (totals_in before).reads + 1
  pub writes : (totals_in after).writes ≡ (totals_in before).writes

-- a trace has at most 4,096 words, and each names a block below M
pub record Trace (s : Settings) (words : List ℕ) : Type 0 where
  pub few : length words ≤ most_reads
  pub inside : (i : ℕ) → i < length words → block_of (get_or words i 0) < s.m

-- the words of the longest directory
abbrev pub most_words : ℕ
most_words = 41112

-- nothing is resident and nothing counted
pub record FreshIn (words : List ℕ) (s : Settings) : Type 0 where
  pub ready : Ready words s 0
  pub none : residents_in words ≡ []
  pub no_ins : (totals_in words).ins ≡ 0
