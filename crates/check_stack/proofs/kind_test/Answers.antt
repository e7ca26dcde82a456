use Rattle.std.proofs.Common.{sym, le-ltb}
use Rattle.check_model.specs.Tests.{kind_test}
use Rattle.check_model.specs.LoopLaws.{kind_out}
use Rattle.check_stack.proofs.kind_test.Goals as goal

pub returns-then-i-d : goal.returns-then-i-d
unfolding kind_test
returns-then-i-d c = rw (← c.kind_at.ensures)

pub returns-else-i-d : goal.returns-else-i-d
returns-else-i-d c = rw (le-ltb _ _ c.if-i-d.false) (sym (kind_out _ c.args.base _ c.if-i-d.false))
