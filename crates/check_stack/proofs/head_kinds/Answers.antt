use borrow.Author.Tests.{not-true, not-false}
use mathlib.Core.Path.{refl, sym, ◌∙◌}
use mathlib.Core.Bool.{true}
use native.Mathlib.Omega.{arith}
use Rattle.check_model.specs.Tests.{kinds_ok}
use Rattle.check_model.specs.LoopLaws.{turns_fail, turns_up, turns_end}
use mathlib.Core.Bool.{not}
use Rattle.std.proofs.Common.{ap}
use Rattle.check_stack.proofs.head_kinds.Goals as goal

pub loop-i-init : goal.loop-i-init
unfolding kinds_ok
loop-i-init c = refl

pub returns-then-not-kind_test : goal.returns-then-not-kind_test
returns-then-not-kind_test c = let l = c.loop-i in sym (turns_fail _ _ _ _ l.i (omega arith)
    (sym c.kind_test.ensures ∙ not-true _ (ap not c.if-not-kind_test.true))) ∙ l.invariant

pub loop-i-preserved : goal.loop-i-preserved
loop-i-preserved c = let l = c.loop-i in sym (turns_up _ _ _ _ l.i l.i c.loop-i-test.true
    (sym c.kind_test.ensures ∙ not-false _ (ap not c.if-not-kind_test.false))) ∙ l.invariant

pub returns : goal.returns
returns c = let l = c.loop-i in sym (turns_end _ _ _ _ l.i true (omega arith) refl) ∙ l.invariant
