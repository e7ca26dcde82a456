-- Sound words stand for the stack that is read off them; and words that stand for a stack, its sum within the limit, are sound again,
-- and that stack is read off them. Assumes nothing.
use Rattle.std.specs.Prelude.{ℕ, ◌*◌, ◌≤◌, ◌≡◌, List, T}
use Rattle.std.proofs.Math.Path.{refl, sym}
use Rattle.std.proofs.Common.{◌∙◌, arith}
use Rattle.basics.specs.Basics as basics
use Rattle.stack.specs.Recency.{Resident, counts}
use Rattle.stack.specs.Stack.{Totals}
use Rattle.layout.specs.Sound.{settings_in, totals_in, sound, residents_in}
use Rattle.layout.proofs.SoundLaws.{sound_legal}
use Rattle.promises.specs.DirectoryPromises.{Kept}
use Rattle.linkage.specs.WordFields.{shape, fields}
use Rattle.linkage.specs.Linkage.{Linkage, linkage}
use Rattle.linkage.specs.Return.{Returned, returned}
use Rattle.operations.specs.Residents.{Of}
use Rattle.operations.specs.Stands.{Stands, sum_word, stands_sum}

-- What is read off words: those after an operation.
pub record Read (before after : List ℕ) (residents : List (Resident ℕ)) (totals : Totals) : Type 0 where
  pub kept : Kept before after
  pub residents_are : residents_in after ≡ residents
  pub totals_are : totals_in after ≡ totals

module _ (w : List ℕ) (h : T (sound w)) where
  pub of_sound : Of (settings_in w) (shape w)
  unfolding settings_in
  of_sound = let l = sound_legal w h in record { blocks_is = refl; new_is = refl; old_is = omega arith; cmax_is = refl }

  k : Linkage w
  k = linkage w h

  self : Returned w w (fields w) k.residents k.unused
  self = returned w w h (fields w) k.residents k.unused k.view k.linked refl refl k.limits.few_counted

  pub stands_of_sound : Stands (settings_in w) (shape w) w (residents_in w) (totals_in w)
  unfolding settings_in
  stands_of_sound =
      record {
        fields = fields w;
        order = k.residents;
        unused = k.unused;
        directory = record { view = k.view; linked = k.linked };
        seen = sym self.residents_are;
        counted = sym self.totals_are;
        given = record { average = refl; bytes = refl };
      }

  module _ (u : List ℕ) (l : List (Resident ℕ)) (totals : Totals) (g : Stands (settings_in w) (shape w) u l totals) where
    pub read_off : basics.total (counts l) ≤ (settings_in w).amax * (settings_in w).n → Read w u l totals
    unfolding settings_in
    read_off few =
        let sum = sym (sum_word (shape w) u g.fields g.order g.unused g.directory)
        ∙ stands_sum (settings_in w) (shape w) u l totals of_sound g in
        let r = returned w u h g.fields g.order g.unused g.directory.view g.directory.linked g.given.average g.given.bytes
        (rw sum few) in
        record {
          kept = record { sound_after = r.sound_after; settings_kept = r.settings_kept; past_kept = r.past };
          residents_are = r.residents_are ∙ g.seen;
          totals_are = r.totals_are ∙ g.counted;
        }
