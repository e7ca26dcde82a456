use mathlib.Core.Path.{sym, ◌∙◌, ap}
use native.Mathlib.Omega.{arith}
use Rattle.std.proofs.Common.{◌-◌, ◌+◌}
use Rattle.words.specs.Words.{val}
use Rattle.search.proofs.Laws.{found_none, found_end, found_here, found_next}
use Rattle.search.proofs.find_from.Goals as goal

pub returns-then-e-eq0 : goal.returns-then-e-eq0
returns-then-e-eq0 c = sym (found_end _ _ _ (c.args.links - c.loop.counter) c.loop.e (omega arith) c.if-e-eq0.true) ∙ c.loop.invariant

pub returns-then-get-block : goal.returns-then-get-block
returns-then-get-block c =
    let q = sym (ap (val _) c.word_of.ensures) ∙ sym c.get.ensures ∙ c.if-get-block.true in
    sym (found_here _ _ _ (c.args.links - c.loop.counter) c.loop.e (omega arith) c.if-e-eq0.false q) ∙ c.loop.invariant

pub loop-preserved : goal.loop-preserved
loop-preserved c =
    let e = c.get.ensures ∙ ap (val _) c.word_of.ensures in
    let step = found_next _ _ _ (c.args.links - c.loop.counter) (c.args.links - (c.loop.counter + 1)) c.loop.e (omega arith) c.if-e-eq0.false
    (λ q. c.if-get-block.false (e ∙ q)) in
    rw (c.get-e.ensures, c.word_of-in-loop.ensures) (sym step ∙ c.loop.invariant)

pub returns : goal.returns
returns c = sym (found_none _ _ _ (c.args.links - c.loop.counter) c.loop.e (omega arith)) ∙ c.loop.invariant
