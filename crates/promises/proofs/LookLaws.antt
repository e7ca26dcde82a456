-- A look whose number is 0: the directory is sound, data and store fit it, and the block is one of the store's.
use Rattle.std.specs.Prelude.{ℕ, ◌<◌, ◌≡◌, List, length, T}
use Rattle.std.proofs.Math.Dec.{nleb→lt}
use Rattle.std.proofs.Math.Facts.{T_not-not}
use Rattle.basics.specs.TestLaws.{first_zero}
use Rattle.stack.proofs.FitLaws.{Fits, fits}
use Rattle.layout.specs.Sound.{settings_in, sound}
use Rattle.promises.specs.Looks.{look_tests, look_number}

pub record LookAllowed (words bytes store : List ℕ) (block : ℕ) : Type 0 where
  pub is_sound : T (sound words)
  pub memory : Fits (settings_in words) (length bytes) (length store)
  pub inside : block < (settings_in words).m

-- the tests of its number, failed
pub look_allowed : (words bytes store : List ℕ) (block : ℕ) → look_number words bytes store block ≡ 0 → LookAllowed words bytes store block
unfolding look_number look_tests
look_allowed words bytes store block e =
    let f = first_zero (look_tests words bytes store block) e in
    let (memory, later) = fits (settings_in words) (length bytes) (length store) f.1 in
    record { is_sound = T_not-not (sound words) f.0; memory = memory; inside = nleb→lt _ _ later.0 }
