use Rattle.std.proofs.Common.{◌∙◌, sym, ap}
use Rattle.stack.specs.declared.Marks.{Marks}
use Rattle.accesses.proofs.Laws.{purge_done, refused_done, absent_done}
use Rattle.accesses.proofs.purge.Goals as goal

pub returns-in_default : goal.returns-in_default
returns-in_default c = absent_done _ _ _ c.in_default.ensures c.word.ensures

pub returns-then-marks_of : goal.returns-then-marks_of
returns-then-marks_of c = refused_done _ _ _ _ c.in-Some.ensures (sym (ap (λ (m : Marks). m.pinned) c.marks_of.ensures) ∙ c.if-marks_of.true)
    c.word-then-marks_of.ensures

pub returns : goal.returns
returns c = purge_done _ _ _ _ c.in-Some.ensures _ _ (sym (ap (λ (m : Marks). m.pinned) c.marks_of.ensures) ∙ c.if-marks_of.false)
    c.purge.ensures c.word-2.ensures
