-- A modified word is one whose bits above the lowest are no more than that, with the pinned mark taken out: 0, 1, 3, 4, 5 or 7.
use Prim.Native.Nat.{ℕ, ◌-◌, ◌*◌, ◌/◌, ◌%◌, ◌≤◌, ◌<◌}
use native.Mathlib.Omega.{arith}
use mathlib.Core.Path.{◌≡◌}
use mathlib.Core.Bool.{false}
use mathlib.Core.List.{List}
use lib.ListN.{length}
use lib.Dec.{leb}
use mir.Facts.{leb_yes, yes_leb}
use Rattle.layout.specs.ModifiedWord.{is_modified_word}
use Rattle.layout.proofs.ModifiedWordLaws.{word_bits, bits_word}
use Rattle.basics.specs.TestLaws.{same_truth}
use Rattle.check_model.specs.Tests.{kinds_ok}
use Rattle.check_model.specs.Nines.{kinds_short}

abbrev unpinned : ℕ → ℕ
unpinned w = w - w / 4 % 2 * 4

few_marks : (w : ℕ) → unpinned w / 2 ≤ unpinned w % 2 → w ≤ 7
few_marks w h = omega arith

low_bits : (w : ℕ) → w ≤ 7 → unpinned w ≡ w % 4
low_bits w h = omega arith

pub marks_are : (w : ℕ) → leb (unpinned w / 2) (unpinned w % 2) ≡ is_modified_word w
marks_are w =
    same_truth (leb (unpinned w / 2) (unpinned w % 2)) (is_modified_word w)
    (λ t.
    let h : unpinned w / 2 ≤ unpinned w % 2 = leb_yes t in
    let few : w ≤ 7 = few_marks w h in
    bits_word w few (seen_least w (rw (low_bits w few) at h)))
    (λ t.
    let (few, needs) = word_bits w t in
    yes_leb {a = unpinned w / 2} {b = unpinned w % 2} (rw (low_bits w few) (omega (arith, needs))))
  where
    seen_least : (w : ℕ) → w % 4 / 2 ≤ w % 4 % 2 → w / 2 % 2 ≤ w % 2
    seen_least w h = omega arith

-- words that are not all there have no right kinds
pub kinds_lacking : (w : List ℕ) (base len : ℕ) → length w < len → kinds_ok w base len ≡ false
unfolding kinds_ok
kinds_lacking w base len h = kinds_short w base len 0 (omega arith) (omega arith)
