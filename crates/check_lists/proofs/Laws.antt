-- The bucket of an entry's block, by the mask that the code uses.
use mathlib.Core.Path.{◌≡◌, ap, ◌∙◌}
use mathlib.Core.List.{List}
use Prim.Native.Nat.{ℕ, ◌-◌, ◌%◌}
use lib.Bits.{bit_and}
use Rattle.fnv.specs.Fnv.{fnv}
use Rattle.layout.specs.Addresses.{BLOCK}
use Rattle.check_model.specs.Masks.{Masks}
use Rattle.check_model.specs.Tests.{entry_word}

pub own_is : (x : List ℕ) (nb e block h : ℕ)
    → Masks (nb - 1) nb → block ≡ entry_word x BLOCK e → h ≡ fnv block → bit_and h (nb - 1) ≡ fnv (entry_word x BLOCK e) % nb
own_is x nb e block h m p q = m h ∙ ap (λ h. h % nb) (q ∙ ap fnv p)
