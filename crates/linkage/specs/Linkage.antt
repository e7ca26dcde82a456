-- The words of a sound directory have the working form; the other way is ToSound.
-- Assumes nothing.
use Rattle.std.specs.Prelude.{ℕ, ◌≡◌, List, T, eqb}
use Rattle.std.proofs.Common.{eqb→eq}
use Rattle.settings.specs.Numbers.{settings_number}
use Rattle.settings.specs.NumbersLaws.{LegalSettings, legal_settings}
use Rattle.layout.specs.Sound.{settings_in, order, unused_entries, sound}
use Rattle.check_model.specs.Stack as stack
use Rattle.check_model.specs.Facts.{sound_facts}
use Rattle.linkage.specs.Fields.{View}
use Rattle.linkage.specs.WellLinked.{WellLinked}
use Rattle.linkage.specs.WordFields.{given, shape, fields, view_of}
use Rattle.linkage.specs.FromSound.{well_linked}
use Rattle.linkage.specs.ToSound.{Limits}

-- The lists are those that the definition reads off the links.
pub record Linkage (w : List ℕ) : Type 0 where
  pub residents : List ℕ  -- their entries, most recent first
  pub unused : List ℕ
  pub view : View (shape w) w (fields w)
  pub linked : WellLinked (shape w) (fields w) residents unused
  pub limits : Limits w
  pub order_is : order w ≡ residents
  pub unused_is : unused_entries w ≡ unused

legal_given : (w : List ℕ) → T (eqb (settings_number (settings_in w)) 0) → LegalSettings (given w)
unfolding settings_in
legal_given w h = legal_settings (given w) (eqb→eq (settings_number (given w)) 0 h)

pub linkage : (w : List ℕ) → T (sound w) → Linkage w
linkage w h =
    let p = sound_facts w h in
    let g = p.2 in
    let s = legal_given w p.0 in
    record {
      residents = g.listing.xs;
      unused = g.listing.us;
      view = view_of w s.some_blocks p.1;
      linked = well_linked w s g;
      limits = record {
        some_average = s.some_average;
        few_average = s.few_average;
        some_bytes = s.some_bytes;
        few_bytes = s.few_bytes;
        some_stored = s.some_stored;
        few_counted = rw g.numbers.sum g.numbers.average;
      };
      order_is = stack.order_is w g.listing;
      unused_is = stack.unused_is w g.listing;
    }
