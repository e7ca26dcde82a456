-- No reason has the number of what was carried out.
use Rattle.std.proofs.Common.{◌≡◌, arith}
use Rattle.refusals.specs.Refusals.{number}
use Rattle.refusals.specs.declared.Refusal.{Refusal}
use Rattle.refusals.specs.declared.Refusal.TheVariants.{
  BadCacheSize,
  BadSections,
  BadCountLimit,
  BadBlockOrStoreSize,
  ShortDirectory,
  Unsound,
  ShortDataOrStore,
  TooManyWords,
  BadWord,
  ShortBuffer,
  TotalsFull,
  LongStore,
  BadLoad,
  BadTrace,
}

pub number_some : (why : Refusal) → number why ≡ 0 → ⊥
number_some BadCacheSize e = omega (arith, e)
number_some BadSections e = omega (arith, e)
number_some BadCountLimit e = omega (arith, e)
number_some BadBlockOrStoreSize e = omega (arith, e)
number_some ShortDirectory e = omega (arith, e)
number_some Unsound e = omega (arith, e)
number_some ShortDataOrStore e = omega (arith, e)
number_some TooManyWords e = omega (arith, e)
number_some BadWord e = omega (arith, e)
number_some ShortBuffer e = omega (arith, e)
number_some TotalsFull e = omega (arith, e)
number_some LongStore e = omega (arith, e)
number_some BadLoad e = omega (arith, e)
number_some BadTrace e = omega (arith, e)
