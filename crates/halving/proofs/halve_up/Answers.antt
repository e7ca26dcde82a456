use mathlib.Core.Path.{sym, ◌∙◌}
use native.Mathlib.Omega.{arith}
use Rattle.std.proofs.Common.{◌-◌, ◌+◌}
use Rattle.halving.proofs.Laws.{up_none, up_next}
use Rattle.halving.proofs.halve_up.Goals as goal

pub loop-preserved : goal.loop-preserved
loop-preserved c = let l = c.loop in
    let step = up_next _ _ _ (c.args.n - l.counter) (c.args.n - (l.counter + 1)) l.e (omega arith) in
    rw (c.halve_entry.ensures, c.get-above.ensures, c.word_of.ensures) (sym step ∙ l.invariant)

pub returns : goal.returns
returns c = let l = c.loop in
    sym (up_none _ _ _ (c.args.n - l.counter) l.e (omega arith)) ∙ l.invariant
