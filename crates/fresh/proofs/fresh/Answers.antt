use Rattle.std.proofs.Common.{◌∙◌, sym, ap}
use Rattle.std.proofs.lemmas.Result.{err_from_is_err_and}
use Rattle.layout.specs.Layout.{fresh_words}
use Rattle.promises.specs.Promises.{over}
use Rattle.refusals.proofs.Laws.{number_some}
use Rattle.fresh.proofs.Laws.{fresh_refused, fresh_short, fresh_done}
use Rattle.fresh.proofs.fresh.Goals as goal

pub returns-in_err-s : goal.returns-in_err-s
returns-in_err-s c = let p = err_from_is_err_and c.from_residual.result c.from_residual.ensures.1 in
    rw (p.1, p.2) (fresh_refused _ _ _ c.in_err-s.ensures.number (number_some _))

pub returns-then-dir-directory_length : goal.returns-then-dir-directory_length
returns-then-dir-directory_length c = let e = c.in_ok-s.ensures in
    fresh_short _ _ (sym e.number) (rw (← e.same, ← c.directory_length.ensures) c.if-dir-directory_length.true)

pub returns : goal.returns
returns c = let e = c.in_ok-s.ensures in
    fresh_done _ _ (sym e.number) _ (rw (← e.same, ← c.directory_length.ensures) c.if-dir-directory_length.false)
    (c.fill.ensures ∙ ap (λ s. over (fresh_words s) c.args.dir.now) e.same)
