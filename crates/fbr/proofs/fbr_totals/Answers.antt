use mathlib.Core.Path.{◌≡◌, refl, sym, ◌∙◌}
use mathlib.Core.Bool.{true, false}
use borrow.Author.Tests.{le-leb, lt-leb, not-true, not-false}
use Rattle.layout.specs.Sound.{sound}
use mathlib.Core.Bool.{not}
use Rattle.std.proofs.Common.{ap}
use Rattle.fbr.proofs.fbr_totals.Goals as goal

pub returns-then-out-lt-TOTALS_FIGURES : goal.returns-then-out-lt-TOTALS_FIGURES
returns-then-out-lt-TOTALS_FIGURES c = rw (lt-leb 4 _ c.if-out-lt-TOTALS_FIGURES.true) (c.from.ensures, refl)

pub returns-then-not-sound : goal.returns-then-not-sound
returns-then-not-sound c = let unsound : sound c.args.dir.now ≡ false = sym c.sound.ensures ∙ not-true _ (ap not c.if-not-sound.true) in
    rw (le-leb 4 _ c.if-out-lt-TOTALS_FIGURES.false, unsound) (c.from-then-not-sound.ensures, c.put.ensures)

pub returns : goal.returns
returns c = let is-sound : sound c.args.dir.now ≡ true = sym c.sound.ensures ∙ not-false _ (ap not c.if-not-sound.false) in
    let e = c.totals_in-t.ensures in
    rw (le-leb 4 _ c.if-out-lt-TOTALS_FIGURES.false, is-sound, ← e.0, ← e.1, ← e.2, ← e.3) (refl, c.put-2.ensures)
