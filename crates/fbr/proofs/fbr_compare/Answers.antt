use mathlib.Core.Path.{◌∙◌}
use Rattle.refusals.specs.Refusals.{number}
use Rattle.compare.specs.Compare.{declined}
use Rattle.fbr.proofs.Laws.{no_room, figures_fit, with_room}
use Rattle.fbr.proofs.fbr_compare.Goals as goal

pub returns-then-out-lt-COMPARED_FIGURES : goal.returns-then-out-lt-COMPARED_FIGURES
returns-then-out-lt-COMPARED_FIGURES c = let none = no_room _ _ _ c.if-out-lt-COMPARED_FIGURES.true in (c.from.ensures ∙ none.0, none.1)

pub put_compared-requires : goal.put_compared-requires
put_compared-requires c = (figures_fit _ _ c.args.out.now _ c.in-Ok.ensures, c.if-out-lt-COMPARED_FIGURES.false)

pub returns-in-Ok : goal.returns-in-Ok
returns-in-Ok c = with_room _ _ c.args.out.now _ c.in-Ok.ensures c.if-out-lt-COMPARED_FIGURES.false _ c.put_compared.ensures

pub returns-in-Err : goal.returns-in-Err
returns-in-Err c =
    let none = with_room _ _ c.args.out.now (declined (number c.in-Err.why)) c.in-Err.ensures c.if-out-lt-COMPARED_FIGURES.false _ c.put.ensures in
    (c.from-in-Err.ensures ∙ none.0, none.1)
