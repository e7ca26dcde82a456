use native.Mathlib.Omega.{arith}
use mathlib.Core.Path.{◌≡◌, refl, ◌∙◌}
use lib.ListN.{length}
use Rattle.opt_ins.proofs.Laws.{seek_found, seek_next, seek_end}
use Rattle.opt_ins.proofs.next_read.Goals as goal

pub loop-j-init : goal.loop-j-init
loop-j-init c = record { within = c.requires; same_read = refl }

pub bounds-trace-j : goal.bounds-trace-j
bounds-trace-j c = c.loop-j-test.true

pub returns-then-trace-j : goal.returns-then-trace-j
returns-then-trace-j c = seek_found _ _ _ _ c.loop-j.invariant c.loop-j-test.true c.if-trace-j.true

pub loop-j-preserved : goal.loop-j-preserved
loop-j-preserved c = seek_next _ _ _ _ c.loop-j.invariant c.loop-j-test.true c.if-trace-j.false

pub returns : goal.returns
returns c =
    let i = c.loop-j.invariant.within in
    let last : length c.args.trace.now ≡ c.loop-j.j = omega (arith, c.loop-j-test.false) in
    last ∙ seek_end _ _ _ _ c.loop-j.invariant c.loop-j-test.false
