use mathlib.Core.Path.{◌∙◌}
use borrow.Author.Tests.{lt-ltb}
use Rattle.compare.proofs.NumberLaws.{too_long, by_words}
use Rattle.compare.proofs.is_no_trace.Goals as goal

pub returns-then-trace-gt-MOST_READS : goal.returns-then-trace-gt-MOST_READS
returns-then-trace-gt-MOST_READS c = lt-ltb _ _ c.if-trace-gt-MOST_READS.true ∙ too_long _ _ c.if-trace-gt-MOST_READS.true

pub returns-else-trace-gt-MOST_READS : goal.returns-else-trace-gt-MOST_READS
returns-else-trace-gt-MOST_READS c = by_words _ _ c.if-trace-gt-MOST_READS.false _ c.all_reads.ensures
