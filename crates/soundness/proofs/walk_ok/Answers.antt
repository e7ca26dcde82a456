use borrow.Author.Tests.{not-true, not-false}
use mathlib.Core.Path.{refl, sym, ap, ◌∙◌}
use mathlib.Core.Bool.{not}
use native.Mathlib.Nat.{sub-zero}
use native.Mathlib.Omega.{arith}
use Rattle.settings.specs.NumbersLaws.{legal_settings, old_fits}
use Rattle.check_model.specs.Walk.{entry_low, walk_test}
use Rattle.check_model.specs.LoopLaws.{turns_fail, turns_up, turns_end}
use Rattle.soundness.proofs.walk_ok.Goals as goal

pub overflow_sub-mid : goal.overflow_sub-mid
overflow_sub-mid c = old_fits _ (legal_settings _ c.args.legal.legal)

pub loop-p-init : goal.loop-p-init
unfolding walk_test
loop-p-init c = (rw sub-zero, omega arith, omega arith)

pub returns-then-not-entry_ok : goal.returns-then-not-entry_ok
returns-then-not-entry_ok c = let l = c.loop-p in
    sym (turns_fail _ _ _ _ (l.e, l.before, l.p, l.sum, l.marks, l.last, l.young, l.old)
    (omega (arith, c.loop-p-test.true)) (sym c.entry_ok.ensures ∙ not-true _ (ap not c.if-not-entry_ok.true))) ∙ l.invariant.0

pub field-c-requires : goal.field-c-requires
field-c-requires c = let passed = sym c.entry_ok.ensures ∙ not-false _ (ap not c.if-not-entry_ok.false) in
    omega (arith, entry_low _ _ _ _ _ _ _ _ _ _ _ passed)

pub field-w-requires : goal.field-w-requires
field-w-requires c = let passed = sym c.entry_ok.ensures ∙ not-false _ (ap not c.if-not-entry_ok.false) in
    omega (arith, entry_low _ _ _ _ _ _ _ _ _ _ _ passed)

pub field-e-requires : goal.field-e-requires
field-e-requires c = let passed = sym c.entry_ok.ensures ∙ not-false _ (ap not c.if-not-entry_ok.false) in
    omega (arith, entry_low _ _ _ _ _ _ _ _ _ _ _ passed)

pub loop-p-preserved : goal.loop-p-preserved
loop-p-preserved c = let l = c.loop-p in (
  rw (
    c.field-e.ensures,
    c.met_at-old.ensures,
    c.met_at-young.ensures,
    c.note.ensures,
    c.from-sum.ensures,
    c.from-marks.ensures,
    c.field-w.ensures,
    c.field-c.ensures,
  )
      (sym (turns_up _ _ _ _ l.p (l.e, l.before, l.p, l.sum, l.marks, l.last, l.young, l.old)
      c.loop-p-test.true (sym c.entry_ok.ensures ∙ not-false _ (ap not c.if-not-entry_ok.false))) ∙ l.invariant.0),
  omega (arith, l.invariant.1, c.from-sum.ensures, c.field-c),
  omega (arith, l.invariant.2, c.from-marks.ensures, c.field-w),
)

pub returns : goal.returns
returns c = let l = c.loop-p in c.end_ok.ensures
    ∙ sym (turns_end _ _ _ _ (l.e, l.before, l.p, l.sum, l.marks, l.last, l.young, l.old) _ (omega (arith, c.loop-p-test.false))
    refl) ∙ l.invariant.0
