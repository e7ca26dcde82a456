use borrow.Author.Tests.{not-true, not-false}
use native.Mathlib.Nat.{sub-zero}
use Rattle.std.proofs.Common.{add-zero}
use native.Mathlib.Omega.{arith}
use Prim.Native.Nat.{◌+◌, ◌*◌}
use mathlib.Core.Path.{◌≡◌, refl, sym, ◌∙◌, ap}
use mathlib.Core.Bool.{true, not}
use Rattle.check_model.specs.Nines.{nines_ok}
use Rattle.check_model.specs.LoopLaws.{turns_fail, turns_up, turns_end}
use Rattle.check_stack.proofs.nines_ok.Goals as goal

pub loop-e-init : goal.loop-e-init
unfolding nines_ok
loop-e-init c = rw (sub-zero, add-zero)

pub returns-then-not-nine_ok : goal.returns-then-not-nine_ok
returns-then-not-nine_ok c = let l = c.loop-e in sym (turns_fail _ _ _ _ _ (omega arith)
    (sym c.nine_ok.ensures ∙ not-true _ (ap not c.if-not-nine_ok.true))) ∙ l.invariant

pub loop-e-preserved : goal.loop-e-preserved
loop-e-preserved c = let l = c.loop-e in
    let at : c.args.base + 9 * (l.e + 1) ≡ c.args.base + 9 * l.e + 9 = omega arith in
    rw at (sym (turns_up _ _ _ c.args.n l.e _ c.loop-e-test.true
    (sym c.nine_ok.ensures ∙ not-false _ (ap not c.if-not-nine_ok.false))) ∙ l.invariant)

pub returns : goal.returns
returns c = let l = c.loop-e in sym (turns_end _ _ _ _ (c.args.base + 9 * l.e) true (omega arith) refl) ∙ l.invariant
