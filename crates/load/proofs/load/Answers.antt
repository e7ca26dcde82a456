use native.Mathlib.Omega.{arith}
use mathlib.Core.Path.{sym, ◌∙◌}
use lib.Seq.{length-take-le}
use Rattle.load.proofs.LoadLaws.{legal_load}
use Rattle.load.proofs.Laws.{load_declined, load_accepted}
use Rattle.load.proofs.load.Goals as goal

pub returns-then-declines : goal.returns-then-declines
returns-then-declines c = load_declined _ _ _ _ (sym c.declines.ensures ∙ c.if-declines.true)

pub slice_bounds-fill-end : goal.slice_bounds-fill-end
slice_bounds-fill-end c = let l = legal_load _ _ _ _ (sym c.declines.ensures ∙ c.if-declines.false) in
    let f = l.fits in
    omega arith

pub slice_bounds-fill-end-2 : goal.slice_bounds-fill-end-2
slice_bounds-fill-end-2 c = let l = legal_load _ _ _ _ (sym c.declines.ensures ∙ c.if-declines.false) in
    let f = l.fits in
    sym (length-take-le _ _ (omega arith))

pub fill-requires : goal.fill-requires
fill-requires c = let l = legal_load _ _ _ _ (sym c.declines.ensures ∙ c.if-declines.false) in
    l.blocks

pub returns : goal.returns
returns c = load_accepted _ _ _ _ _ (sym c.declines.ensures ∙ c.if-declines.false) c.fill.ensures
