use native.Mathlib.Omega.{arith}
use Rattle.opt_ins.proofs.Laws.{going_begins, bit_here, step_ready, going_step, going_ends}
use Rattle.opt_ins.proofs.run.Goals as goal

pub loop-i-init : goal.loop-i-init
loop-i-init c = going_begins _ _ _ c.requires.0 c.requires.1

pub bounds-awaited-i : goal.bounds-awaited-i
bounds-awaited-i c = let g = c.loop-i.invariant in
    let h = c.loop-i-test.true in
    let l = g.long in
    let k = g.ready.short in
    omega arith

pub overflow_sub-ins : goal.overflow_sub-ins
overflow_sub-ins c = bit_here _ _ _ _ _ _ c.loop-i.invariant c.loop-i-test.true

pub overflow_add-ins : goal.overflow_add-ins
overflow_add-ins c = let g = c.loop-i.invariant in let h = c.loop-i-test.true in let f = g.few in let k = g.ready.short in omega arith

pub step-waiting-requires : goal.step-waiting-requires
step-waiting-requires c = step_ready _ _ _ _ _ _ c.loop-i.invariant c.loop-i-test.true

pub loop-i-preserved : goal.loop-i-preserved
loop-i-preserved c = going_step _ _ _ _ _ _ c.loop-i.invariant
    c.loop-i-test.true _ _ c.step-waiting.ensures

pub returns : goal.returns
returns c = going_ends _ _ _ _ _ _ c.loop-i.invariant c.loop-i-test.false
