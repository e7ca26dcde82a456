-- The numbers of the reasons for which a call declines (SCOPE, "When a call declines"). Assumes nothing.
use Rattle.std.specs.Prelude.{ℕ, Result, Ok, Err}
use Rattle.refusals.specs.declared.Refusal.{Refusal}
use Rattle.refusals.specs.declared.Refusal.TheVariants.{
  BadCacheSize,
  BadSections,
  BadCountLimit,
  BadBlockOrStoreSize,
  ShortDirectory,
  Unsound,
  ShortDataOrStore,
  TooManyWords,
  BadWord,
  ShortBuffer,
  TotalsFull,
  LongStore,
  BadLoad,
  BadTrace,
}

abbrev pub number : Refusal → ℕ
number BadCacheSize = 1
number BadSections = 2
number BadCountLimit = 3
number BadBlockOrStoreSize = 4
number ShortDirectory = 5
number Unsound = 6
number ShortDataOrStore = 7
number TooManyWords = 8
number BadWord = 9
number ShortBuffer = 10
number TotalsFull = 11
number LongStore = 12
number BadLoad = 13
number BadTrace = 14

-- 0 where the call was carried out, else the number of its refusal
abbrev pub outcome : {A : Type 0} → Result A Refusal → ℕ
outcome (Ok _) = 0
outcome (Err why) = number why
