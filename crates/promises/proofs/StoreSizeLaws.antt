-- 12 of a batch and of a look: the table's, behind 6.
use Rattle.std.specs.Prelude.{ℕ, ◌≡◌, refl, Bool, true, false, not, List, [], ◌∷◌, length, T, leb}
use Rattle.std.proofs.Common.{arith}
use Rattle.std.proofs.Math.Path.{subst}
use Rattle.basics.specs.Basics.{when◌then◌else◌}
use Rattle.stack.proofs.BatchLaws.{allowed}
use Rattle.stack.specs.StoreSize.{TwelveWhere}
use Rattle.stack.proofs.StoreSizeLaws.{twelve_where, number_twelve}
use Rattle.layout.specs.Sound.{settings_in, totals_in, sound}
use Rattle.promises.specs.Promises.{call_of, number_of}
use Rattle.promises.specs.Looks.{look_tests, look_number, look_bytes}
use Rattle.promises.proofs.SliceLaws.{number_zero}
use Rattle.promises.proofs.LookLaws.{look_allowed}
use Rattle.promises.specs.StoreSize.{LentLong, BatchTwelve, BatchInsists, LookTwelve, LookInsists}

-- ---- behind the test of number 6

behind_six : (b : Bool) (n : ℕ) {There : Type 0} → TwelveWhere n There → TwelveWhere (when b then n else 6) (T b × There)
behind_six true n w = ((λ t. w.0 t.1), λ e. (tt, w.1 e))
behind_six false n w = ((λ t. absurd t.0), λ e. absurd (omega (arith, e)))

-- the same test, the other way round
other_way : (b : Bool) (n : ℕ) → (when b then n else 6) ≡ (when not b then 6 else n)
other_way true n = refl
other_way false n = refl

-- ---- a batch

pub batch_twelve : BatchTwelve
unfolding number_of
batch_twelve words incoming t =
    behind_six (sound t.directory) _ (number_twelve (settings_in t.directory) (totals_in t.directory) (call_of words incoming t))

pub batch_insists : BatchInsists
batch_insists words incoming t e =
    (allowed (settings_in t.directory) (totals_in t.directory) (call_of words incoming t) (number_zero words incoming t e).1).memory.store_exact

-- ---- a look

module _ (words bytes store : List ℕ) (block : ℕ) where
  look_where : TwelveWhere (look_number words bytes store block) (LentLong words bytes store)
  unfolding look_number look_tests
  look_where =
      subst (λ n. TwelveWhere n (LentLong words bytes store)) (other_way (sound words) _)
      (behind_six (sound words) _
      (twelve_where (settings_in words) (length bytes) (length store) ((leb (settings_in words).m block, 9) ∷ []) ((λ e. omega (arith, e)), tt)))

  no_part : LentLong words bytes store → look_bytes words bytes store block ≡ []
  unfolding look_bytes
  no_part h = rw (look_where.0 h)

pub look_twelve : LookTwelve
look_twelve words bytes store block = (look_where words bytes store block, no_part words bytes store block)

pub look_insists : LookInsists
look_insists words bytes store block e = (look_allowed words bytes store block e).memory.store_exact
