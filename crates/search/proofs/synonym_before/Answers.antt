use mathlib.Core.Path.{sym, ◌∙◌}
use native.Mathlib.Omega.{arith}
use Rattle.std.proofs.Common.{◌-◌, ◌+◌}
use Rattle.search.proofs.Laws.{before_none, before_here, before_next}
use Rattle.search.proofs.synonym_before.Goals as goal

pub returns-then-x-e : goal.returns-then-x-e
returns-then-x-e c = let l = c.loop in
    sym (before_here _ _ _ (c.args.f.links - l.counter) l.x l.q (omega arith) c.if-x-e.true) ∙ l.invariant

pub loop-preserved : goal.loop-preserved
loop-preserved c = let l = c.loop in
    let step = before_next _ _ _ (c.args.f.links - l.counter) (c.args.f.links - (l.counter + 1)) l.x l.q (omega arith) c.if-x-e.false in
    rw (c.get-x.ensures, c.word_of.ensures) (sym step ∙ l.invariant)

pub returns : goal.returns
returns c = let l = c.loop in
    sym (before_none _ _ _ (c.args.f.links - l.counter) l.x l.q (omega arith)) ∙ l.invariant
