use borrow.Author.Tests.{not-true, not-false}
use mathlib.Core.Path.{◌≡◌, refl, sym, ap, ◌∙◌}
use mathlib.Core.Bool.{true, not}
use Prim.Native.Nat.{suc, ◌-◌, ◌<◌}
use native.Mathlib.Nat.{sub-zero}
use native.Mathlib.Numerals.{add-one}
use native.Mathlib.Omega.{arith}
use Rattle.layout.specs.Addresses.{NEXT-SYNONYM}
use Rattle.check_model.specs.Turns.{moved}
use Rattle.check_model.specs.Tests.{entry_word, first_of, list_test}
use Rattle.check_model.specs.LoopLaws.{moved_last, tested_none, tested_next, list_low, listed_end, listed_over, listed_fail, listed_next}
use Rattle.check_lists.proofs.bucket.Goals as goal

pub loop-ahead-init : goal.loop-ahead-init
unfolding first_of moved
loop-ahead-init c = rw (sub-zero, c.get-e.ensures) (refl, refl, tested_none _ _ _ _ _)

pub returns-then-e-eq0 : goal.returns-then-e-eq0
returns-then-e-eq0 c = let l = c.loop-ahead in sym l.invariant.0 ∙ listed_end _ _ _ _ _ l.ahead _ l.e c.if-e-eq0.true

pub list_test-requires : goal.list_test-requires
list_test-requires c = (c.requires, c.loop-ahead.invariant.2)

pub returns-then-not-list_test : goal.returns-then-not-list_test
returns-then-not-list_test c = let l = c.loop-ahead in
    let some : 0 < c.args.budget - l.ahead = omega (arith, c.loop-ahead-test.true) in
    let wrong = sym c.list_test.ensures ∙ not-true _ (ap not c.if-not-list_test.true) in
    sym l.invariant.0 ∙ listed_fail _ _ _ _ _ l.ahead _ l.e some c.if-e-eq0.false wrong

pub field-e-requires : goal.field-e-requires
field-e-requires c = let l = c.loop-ahead in
    omega (arith, list_low _ _ l.e _ _ _ _ (sym c.list_test.ensures ∙ not-false _ (ap not c.if-not-list_test.false)))

pub loop-ahead-preserved : goal.loop-ahead-preserved
loop-ahead-preserved c = let l = c.loop-ahead in
    let a = c.args in
    let left = a.budget - l.ahead in
    let some : 0 < left = omega (arith, c.loop-ahead-test.true) in
    let there : ¬ (l.e ≡ 0) = c.if-e-eq0.false in
    let passed : list_test (entry_word a.entries.now) (first_of a.d.now a.buckets.start) a.n a.buckets.many a.b l.ahead l.e ≡ true =
    sym c.list_test.ensures ∙ not-false _ (ap not c.if-not-list_test.false) in
    let one : a.budget - suc l.ahead ≡ left - 1 = omega arith in
    rw (add-one l.ahead, one, c.field-e.ensures) (
      sym (listed_next _ _ _ _ _ l.ahead left l.e some there passed) ∙ l.invariant.0,
      ap (entry_word a.entries.now NEXT-SYNONYM) l.invariant.1 ∙ sym (moved_last _ _ _),
      tested_next _ _ _ _ _ _ l.e l.invariant.2 l.invariant.1 there passed,
    )

pub returns-then-e-eq0-2 : goal.returns-then-e-eq0-2
returns-then-e-eq0-2 c = let l = c.loop-ahead in
    let none : c.args.budget - l.ahead ≡ 0 = omega arith in
    rw none at (sym l.invariant.0 ∙ listed_end _ _ _ _ _ l.ahead _ l.e c.if-e-eq0-2.true)

pub returns-else-e-eq0-2 : goal.returns-else-e-eq0-2
returns-else-e-eq0-2 c = let l = c.loop-ahead in sym l.invariant.0 ∙ listed_over _ _ _ _ _ l.ahead _ l.e (omega arith) c.if-e-eq0-2.false
