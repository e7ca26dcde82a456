use lib.ListN.{replicate}
use native.Mathlib.Omega.{arith}
use Rattle.belt.specs.Belt.{input_words}
use Rattle.belt.specs.BeltLaws.{short_input}
use Rattle.belt.proofs.Laws.{front_long, cycled_front}
use Rattle.belt.proofs.cycle.Goals as goal

pub slice_bounds-work-end : goal.slice_bounds-work-end
slice_bounds-work-end c = omega (arith, short_input c.args.input.now, c.decode-n.ensures.1)

pub slice_bounds-run-end : goal.slice_bounds-run-end
slice_bounds-run-end c = front_long (input_words c.args.input.now) (replicate 1025 0) _ _
    c.decode-n.ensures.0 c.decode-n.ensures.1

pub returns : goal.returns
returns c = let input = c.args.input.now in
    cycled_front (input_words input) (replicate 1025 0) _ _ _ _ _ _ c.decode-n.ensures.0 c.decode-n.ensures.1 c.run.ensures
