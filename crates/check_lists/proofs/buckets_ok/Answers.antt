use mathlib.Core.Path.{◌≡◌, sym, ◌∙◌}
use Prim.Native.Nat.{◌+◌, ◌-◌}
use native.Mathlib.Omega.{arith}
use native.Mathlib.Nat.{sub-zero}
use Rattle.check_model.specs.Tests.{entry_word, first_of, left_after}
use Rattle.check_model.specs.LoopLaws.{buckets_fail, buckets_go, buckets_end}
use Rattle.check_lists.proofs.buckets_ok.Goals as goal

pub loop-b-init : goal.loop-b-init
loop-b-init c = rw sub-zero

pub returns-in_default : goal.returns-in_default
returns-in_default c = let l = c.loop-b in
    sym (buckets_fail _ _ _ _ _ l.b l.left (omega arith) c.in_default.ensures) ∙ l.invariant

pub loop-b-preserved : goal.loop-b-preserved
loop-b-preserved c = let l = c.loop-b in
    let a = c.args in
    let f = entry_word a.entries.now in
    let first = first_of a.d.now a.buckets.start in
    let left = c.in-Some.rest in
    let after : left_after f first a.n a.buckets.many l.b l.left ≡ left + 1 = c.in-Some.ensures in
    let some : ¬ (left_after f first a.n a.buckets.many l.b l.left ≡ 0) = λ q. omega (arith, after, q) in
    let one : left + 1 - 1 ≡ left = omega arith in
    let on = buckets_go f first a.n a.buckets.many a.buckets.many l.b l.left c.loop-b-test.true some in
    sym (rw (after, one) at on) ∙ l.invariant

pub returns : goal.returns
returns c = let l = c.loop-b in sym (buckets_end _ _ _ _ _ l.b l.left (omega arith)) ∙ l.invariant
