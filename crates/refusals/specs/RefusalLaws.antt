-- What is refused has a number from 1 on.
use Rattle.std.specs.Prelude.{◌≤◌}
use Rattle.std.proofs.Common.{arith}
use Rattle.refusals.specs.declared.Refusal.{Refusal}
use Rattle.refusals.specs.declared.Refusal.TheVariants.{
  BadCacheSize,
  BadSections,
  BadCountLimit,
  BadBlockOrStoreSize,
  ShortDirectory,
  Unsound,
  ShortDataOrStore,
  TooManyWords,
  BadWord,
  ShortBuffer,
  TotalsFull,
  LongStore,
  BadLoad,
  BadTrace,
}
use Rattle.refusals.specs.Refusals.{number}

pub number_some : (why : Refusal) → 1 ≤ number why
number_some BadCacheSize = omega arith
number_some BadSections = omega arith
number_some BadCountLimit = omega arith
number_some BadBlockOrStoreSize = omega arith
number_some ShortDirectory = omega arith
number_some Unsound = omega arith
number_some ShortDataOrStore = omega arith
number_some TooManyWords = omega arith
number_some BadWord = omega arith
number_some ShortBuffer = omega arith
number_some TotalsFull = omega arith
number_some LongStore = omega arith
number_some BadLoad = omega arith
number_some BadTrace = omega arith
