use mathlib.Core.Path.{sym, ◌∙◌}
use native.Mathlib.Omega.{arith}
use Rattle.std.proofs.Common.{◌-◌, ◌+◌}
use Rattle.search.proofs.Laws.{picked_none, picked_here, picked_next, picked_last}
use Rattle.search.proofs.victim.Goals as goal
use Rattle.search.proofs.victim.Goals.{else-loop-chains-test, then-loop-chains-test+in_default+else-chains-cmax}

pub returns-in-Some : goal.returns-in-Some
returns-in-Some c = let l = c.loop-chains in
    sym (picked_here _ _ _ (c.args.cmax + 1 - l.chains) l.chains _ (omega arith) c.in-Some.ensures.1 c.in-Some.ensures.0) ∙ l.invariant.0

pub loop-chains-preserved : goal.loop-chains-preserved
loop-chains-preserved c = let l = c.loop-chains in
    let step = picked_next _ _ _ (c.args.cmax + 1 - l.chains) (c.args.cmax + 1 - (l.chains + 1)) l.chains (omega arith) c.in_default.ensures in
    (sym step ∙ l.invariant.0, omega arith)

pub returns : goal.returns
returns c = let l = c.loop-chains in
    let more = c.args.cmax + 1 - l.chains in
    c.least_recent.ensures ∙ elim c.loop-chains-test.branch [
      | else-loop-chains-test w ↦ sym (picked_none _ _ _ more l.chains _ (omega arith) (omega arith)) ∙ l.invariant.0
      | then-loop-chains-test+in_default+else-chains-cmax w ↦
          sym (picked_last _ _ _ more l.chains _ (omega arith) (omega arith) w.in_default.ensures) ∙ l.invariant.0
    ]
