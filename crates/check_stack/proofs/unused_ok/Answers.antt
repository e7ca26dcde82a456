use borrow.Author.Tests.{not-true, not-false}
use native.Mathlib.Nat.{sub-zero}
use native.Mathlib.Omega.{arith}
use mathlib.Core.Path.{refl, sym, ◌∙◌, ap}
use mathlib.Core.Bool.{not}
use Rattle.check_model.specs.Tests.{unused_ok}
use Rattle.check_model.specs.LoopLaws.{turns_fail, turns_up, turns_end, unused_low}
use Rattle.check_stack.proofs.unused_ok.Goals as goal

pub loop-init : goal.loop-init
unfolding unused_ok
loop-init c = rw sub-zero

pub returns-then-not-unused_test : goal.returns-then-not-unused_test
returns-then-not-unused_test c = let l = c.loop in sym (turns_fail _ _ _ _ l.e (omega arith)
    (sym c.unused_test.ensures ∙ not-true _ (ap not c.if-not-unused_test.true))) ∙ l.invariant

pub field-e-requires : goal.field-e-requires
field-e-requires c = let low = unused_low _ _ c.loop.e
    (sym c.unused_test.ensures ∙ not-false _ (ap not c.if-not-unused_test.false)) in omega (arith, low)

pub loop-preserved : goal.loop-preserved
loop-preserved c = let l = c.loop in rw c.field-e.ensures
    (sym (turns_up _ _ _ _ l.counter l.e c.loop-test.true
    (sym c.unused_test.ensures ∙ not-false _ (ap not c.if-not-unused_test.false))) ∙ l.invariant)

pub returns : goal.returns
returns c = let l = c.loop in sym (turns_end _ _ _ _ l.e _ (omega arith) refl) ∙ l.invariant
