use native.Mathlib.Omega.{arith}
use Rattle.compare.proofs.Laws.{run_start, read_ready, run_next, run_end}
use Rattle.compare.proofs.run.Goals as goal

pub loop-word-init : goal.loop-word-init
loop-word-init c = run_start _ _ _ c.requires.0 c.requires.1

pub read-requires : goal.read-requires
read-requires c = read_ready _ _ _ _ _ c.loop-word.invariant (omega arith)

pub loop-word-preserved : goal.loop-word-preserved
loop-word-preserved c = run_next _ _ _ _ _ c.loop-word.invariant (omega arith) c.read.ensures c.read.auto.dir

pub returns : goal.returns
returns c = run_end _ _ _ _ _ c.loop-word.invariant (omega arith)
