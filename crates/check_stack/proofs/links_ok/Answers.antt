use borrow.Author.Tests.{not-true, not-false}
use mathlib.Core.Path.{refl, sym, ◌∙◌}
use mathlib.Core.Bool.{true}
use native.Mathlib.Omega.{arith}
use Rattle.check_model.specs.Nines.{links_ok}
use Rattle.check_model.specs.LoopLaws.{turns_fail, turns_up, turns_end}
use mathlib.Core.Bool.{not}
use Rattle.std.proofs.Common.{ap}
use Rattle.check_stack.proofs.links_ok.Goals as goal

pub loop-i-init : goal.loop-i-init
unfolding links_ok
loop-i-init c = refl

pub returns-then-not-has_kind : goal.returns-then-not-has_kind
returns-then-not-has_kind c = let l = c.loop-i in sym (turns_fail _ _ _ _ l.i (omega arith)
    (sym c.has_kind.ensures ∙ not-true _ (ap not c.if-not-has_kind.true))) ∙ l.invariant

pub loop-i-preserved : goal.loop-i-preserved
loop-i-preserved c = let l = c.loop-i in sym (turns_up _ _ _ _ l.i l.i c.loop-i-test.true
    (sym c.has_kind.ensures ∙ not-false _ (ap not c.if-not-has_kind.false))) ∙ l.invariant

pub returns : goal.returns
returns c = let l = c.loop-i in sym (turns_end _ _ _ _ l.i true (omega arith) refl) ∙ l.invariant
