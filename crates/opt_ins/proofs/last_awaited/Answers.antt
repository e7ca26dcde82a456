use native.Mathlib.Omega.{arith}
use mathlib.Core.Path.{refl}
use Rattle.opt_ins.proofs.Laws.{last_found, last_next, last_none}
use Rattle.opt_ins.proofs.last_awaited.Goals as goal

pub loop-j-init : goal.loop-j-init
loop-j-init c = (refl, omega arith, c.requires)

pub bounds-awaited-j : goal.bounds-awaited-j
bounds-awaited-j c = let h = c.loop-j-test.true in let v = c.loop-j.invariant in omega (arith, v.1, v.2)

pub returns-then-awaited-j-eq-AWAITED : goal.returns-then-awaited-j-eq-AWAITED
returns-then-awaited-j-eq-AWAITED c = let h = c.loop-j-test.true in last_found _ _ _ _ (omega arith) c.loop-j.invariant.0 c.if-awaited-j-eq-AWAITED.true

pub loop-j-preserved : goal.loop-j-preserved
loop-j-preserved c = let h = c.loop-j-test.true in
    let v = c.loop-j.invariant in
    (last_next _ _ _ _ (omega arith) v.0 c.if-awaited-j-eq-AWAITED.false, omega (arith, v.1), v.2)

pub returns : goal.returns
returns c = last_none _ _ _ c.loop-j-test.false c.loop-j.invariant.0
