use mathlib.Core.Path.{sym, ◌∙◌}
use Rattle.std.proofs.Common.{arith}
use Rattle.std.proofs.lemmas.Grind.{common_steps}
use Rattle.compare.proofs.NumberLaws.{check_refused, check_trace}
use Rattle.compare.proofs.check.Goals as goal

pub returns-in_err-legal-clause-number : goal.returns-in_err-legal-clause-number
returns-in_err-legal-clause-number c = grind (arith, common_steps, check_refused)

pub returns-then-is_no_trace-clause-number : goal.returns-then-is_no_trace-clause-number
returns-then-is_no_trace-clause-number c = check_trace _ _ c.in_ok-legal.ensures.number _ (sym c.if-is_no_trace.true ∙ c.is_no_trace.ensures)

pub returns-clause-number : goal.returns-clause-number
returns-clause-number c = check_trace _ _ c.in_ok-legal.ensures.number _ (sym c.if-is_no_trace.false ∙ c.is_no_trace.ensures)
