use borrow.Author.Tests.{not-true, not-false}
use mathlib.Core.Path.{◌≡◌, sym, ◌∙◌, ap}
use mathlib.Core.Bool.{true, false, not}
use native.Mathlib.Omega.{arith}
use Rattle.std.proofs.Common.{◌-◌, ◌+◌}
use Rattle.word_ops.specs.Victim.{reaches, is_pinned_entry}
use Rattle.search.proofs.Laws.{over_none, over_end, over_here, over_next, reached}
use Rattle.search.proofs.over_pinned.Goals as goal

pub returns-then-not-reaches : goal.returns-then-not-reaches
returns-then-not-reaches c = let l = c.loop in
    let r : reaches _ _ _ l.e ≡ false = sym c.reaches.ensures ∙ not-true _ (ap not c.if-not-reaches.true) in
    sym l.invariant ∙ over_end _ _ _ _ (c.args.f.links - l.counter) l.e (omega arith) r

pub returns-then-not-is_pinned_entry : goal.returns-then-not-is_pinned_entry
returns-then-not-is_pinned_entry c = let l = c.loop in
    let r : reaches _ _ _ l.e ≡ true = sym c.reaches.ensures ∙ not-false _ (ap not c.if-not-reaches.false) in
    let q : is_pinned_entry _ _ l.e ≡ false = sym c.is_pinned_entry.ensures ∙ not-true _ (ap not c.if-not-is_pinned_entry.true) in
    (reached _ _ _ _ r, sym l.invariant ∙ over_here _ _ _ _ (c.args.f.links - l.counter) l.e (omega arith) r q)

pub loop-preserved : goal.loop-preserved
loop-preserved c = let l = c.loop in
    let r : reaches _ _ _ l.e ≡ true = sym c.reaches.ensures ∙ not-false _ (ap not c.if-not-reaches.false) in
    let q : is_pinned_entry _ _ l.e ≡ true = sym c.is_pinned_entry.ensures ∙ not-false _ (ap not c.if-not-is_pinned_entry.false) in
    let step = over_next _ _ _ _ (c.args.f.links - l.counter) (c.args.f.links - (l.counter + 1)) l.e (omega arith) r q in
    rw (c.get-e.ensures, c.word_of.ensures) (sym step ∙ l.invariant)

pub returns : goal.returns
returns c = let l = c.loop in
    sym l.invariant ∙ over_none _ _ _ _ (c.args.f.links - l.counter) l.e (omega arith)
