use mathlib.Core.Path.{sym, ◌∙◌}
use borrow.Author.Tests.{not-true, not-false}
use Rattle.load.proofs.Laws.{by_seed, by_store, by_count, by_room}
use mathlib.Core.Bool.{not}
use Rattle.std.proofs.Common.{ap}
use Rattle.load.proofs.declines.Goals as goal

pub returns-then-seed-eq0 : goal.returns-then-seed-eq0
returns-then-seed-eq0 c = by_seed _ _ _ _ c.if-seed-eq0.true

pub returns-then-not-between : goal.returns-then-not-between
returns-then-not-between c = by_store _ _ _ _ c.if-seed-eq0.false (sym c.between.ensures ∙ not-true _ (ap not c.if-not-between.true))

pub returns-then-count-gt-MOST_WORDS : goal.returns-then-count-gt-MOST_WORDS
returns-then-count-gt-MOST_WORDS c = by_count _ _ _ _ c.if-seed-eq0.false (sym c.between.ensures ∙ not-false _ (ap not c.if-not-between.false)) c.if-count-gt-MOST_WORDS.true

pub returns : goal.returns
returns c = by_room _ _ _ _ c.if-seed-eq0.false (sym c.between.ensures ∙ not-false _ (ap not c.if-not-between.false)) c.if-count-gt-MOST_WORDS.false
