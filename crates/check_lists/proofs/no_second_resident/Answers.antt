use borrow.Author.Tests.{eq-eqb, ne_eqb}
use mathlib.Core.Path.{◌≡◌, refl, sym, ap, ◌∙◌}
use mathlib.Core.Bool.{false, true, not}
use Prim.Native.Nat.{◌+◌, ◌-◌, ◌<◌}
use native.Mathlib.Nat.{sub-zero}
use native.Mathlib.Omega.{arith}
use lib.Dec.{eqb}
use Rattle.layout.specs.Addresses.{BLOCK}
use Rattle.check_model.specs.Tests.{entry_word, first_of}
use Rattle.check_model.specs.LoopLaws.{turns_fail, turns_go, turns_end, lent_first, lent_rest}
use Rattle.check_lists.proofs.no_second_resident.Goals as goal

pub returns-then-ahead-eq0 : goal.returns-then-ahead-eq0
returns-then-ahead-eq0 c = sym (turns_end _ _ _ c.args.ahead _ true c.if-ahead-eq0.true refl)

pub loop-init : goal.loop-init
unfolding first_of
loop-init c = rw (sub-zero, c.get-e.ensures) (refl, c.requires)

pub field-requires : goal.field-requires
field-requires c = let l = c.loop in
    let some : 0 < c.args.ahead - l.counter = omega (arith, c.loop-test.true) in
    omega (arith, lent_first _ _ l.e some l.invariant.1)

pub returns-then-field-block : goal.returns-then-field-block
returns-then-field-block c = let a = c.args in
    let l = c.loop in
    let same : entry_word a.entries.now BLOCK l.e ≡ a.block = sym c.field.ensures ∙ c.if-field-block.true in
    let some : 0 < a.ahead - l.counter = omega (arith, c.loop-test.true) in
    let found : not (eqb (entry_word a.entries.now BLOCK l.e) a.block) ≡ false = ap not (eq-eqb _ _ same) in
    sym (turns_fail _ _ _ _ l.e some found) ∙ l.invariant.0

pub field-e-requires : goal.field-e-requires
field-e-requires c = let l = c.loop in
    let some : 0 < c.args.ahead - l.counter = omega (arith, c.loop-test.true) in
    omega (arith, lent_first _ _ l.e some l.invariant.1)

pub loop-preserved : goal.loop-preserved
loop-preserved c = let a = c.args in
    let l = c.loop in
    let more = a.ahead - l.counter in
    let some : 0 < more = omega (arith, c.loop-test.true) in
    let other : ¬ (entry_word a.entries.now BLOCK l.e ≡ a.block) = λ q. c.if-field-block.false (c.field.ensures ∙ q) in
    let passed : not (eqb (entry_word a.entries.now BLOCK l.e) a.block) ≡ true = ap not (ne_eqb _ _ other) in
    let one : a.ahead - (l.counter + 1) ≡ more - 1 = omega arith in
    rw (one, c.field-e.ensures) (sym (turns_go _ _ _ more l.e some passed) ∙ l.invariant.0, lent_rest _ more l.e some l.invariant.1)

pub returns : goal.returns
returns c = let l = c.loop in sym (turns_end _ _ _ _ l.e true (omega arith) refl) ∙ l.invariant.0
