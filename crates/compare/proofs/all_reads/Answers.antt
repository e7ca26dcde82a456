use native.Mathlib.Omega.{arith}
use mathlib.Core.Path.{refl, sym, ◌∙◌}
use borrow.Author.Tests.{not-true, not-false}
use mathlib.Core.Bool.{not}
use Rattle.std.proofs.Common.{ap}
use Rattle.compare.proofs.NumberLaws.{passing_stops, passing_next, passing_ends}
use Rattle.compare.proofs.all_reads.Goals as goal

pub loop-word-init : goal.loop-word-init
loop-word-init c = record { within = omega arith; all_left = refl }

pub returns-then-not-is_trace_read : goal.returns-then-not-is_trace_read
returns-then-not-is_trace_read c = passing_stops _ _ _ c.loop-word.invariant (omega arith)
    (sym (not-true _ (ap not c.if-not-is_trace_read.true)) ∙ c.is_trace_read.ensures)

pub loop-word-preserved : goal.loop-word-preserved
loop-word-preserved c = passing_next _ _ _ c.loop-word.invariant (omega arith)
    (sym (not-false _ (ap not c.if-not-is_trace_read.false)) ∙ c.is_trace_read.ensures)

pub returns : goal.returns
returns c = passing_ends _ _ _ c.loop-word.invariant (omega arith)
