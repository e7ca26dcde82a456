use native.Mathlib.Omega.{arith}
use Rattle.load.proofs.LoadLaws.{few_stored, block_below}
use Rattle.load.proofs.Laws.{write_word, read_word}
use Rattle.load.proofs.load_word.Goals as goal

pub overflow_add-result : goal.overflow_add-result
overflow_add-result c = let l = few_stored c.args.m c.requires in
    omega (arith, block_below c.args.m c.args.x l.0, l.1)

pub returns-then-x-eq0 : goal.returns-then-x-eq0
returns-then-x-eq0 c = write_word _ _ c.if-x-eq0.true

pub overflow_add-result-else-x-eq0 : goal.overflow_add-result-else-x-eq0
overflow_add-result-else-x-eq0 c = let l = few_stored c.args.m c.requires in
    omega (arith, block_below c.args.m c.args.x l.0, l.1)

pub returns-else-x-eq0 : goal.returns-else-x-eq0
returns-else-x-eq0 c = read_word _ _ c.if-x-eq0.false
