use borrow.Author.Tests.{not-true, not-false}
use mathlib.Core.Path.{refl, sym, ◌∙◌, ap}
use mathlib.Core.Bool.{true, not}
use native.Mathlib.Omega.{arith}
use native.Mathlib.Nat.{sub-zero}
use Rattle.settings.specs.NumbersLaws.{legal_settings}
use Rattle.check_model.specs.Tests.{ends_ok}
use Rattle.check_model.specs.LoopLaws.{turns_fail, turns_up, turns_end}
use Rattle.check_lists.proofs.ends_ok.Goals as goal

pub loop-i-init : goal.loop-i-init
unfolding ends_ok
loop-i-init c = rw sub-zero

pub last_of-requires : goal.last_of-requires
last_of-requires c = let few = (legal_settings _ c.args.legal.legal).few_chains in omega (arith, few, c.loop-i-test.true)

pub returns-then-not-end_test : goal.returns-then-not-end_test
returns-then-not-end_test c = let l = c.loop-i in sym (turns_fail _ _ _ _ l.i (omega arith)
    (rw (← c.last_of.ensures, ← c.end_test.ensures) (not-true _ (ap not c.if-not-end_test.true)))) ∙ l.invariant

pub loop-i-preserved : goal.loop-i-preserved
loop-i-preserved c = let l = c.loop-i in sym (turns_up _ _ _ _ l.i l.i c.loop-i-test.true
    (rw (← c.last_of.ensures, ← c.end_test.ensures) (not-false _ (ap not c.if-not-end_test.false)))) ∙ l.invariant

pub returns : goal.returns
returns c = let l = c.loop-i in sym (turns_end _ _ _ _ l.i true (omega arith) refl) ∙ l.invariant
