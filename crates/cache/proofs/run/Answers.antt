use Rattle.cache.proofs.Laws.{run_start, word_meant, passed_few, word_ready, answer_place, run_next}
use Rattle.cache.proofs.run.Goals as goal

pub loop-i-init : goal.loop-i-init
loop-i-init c = run_start _ _ _ _ c.requires

pub unreachable-requires : goal.unreachable-requires
unreachable-requires c = word_meant _ _ _ _ _ _ _ c.loop-i.invariant c.loop-i-test.true c.in_default.ensures

pub carry_out-requires : goal.carry_out-requires
carry_out-requires c = word_ready _ _ _ _ _ _ _ c.loop-i.invariant c.loop-i-test.true _ c.in-Some.ensures

pub bounds-answers-i : goal.bounds-answers-i
bounds-answers-i c = answer_place _ _ _ _ _ _ _ c.loop-i.invariant c.loop-i-test.true

pub and_word-passed-requires : goal.and_word-passed-requires
and_word-passed-requires c = passed_few _ _ _ _ _ _ _ c.loop-i.invariant c.loop-i-test.true

pub loop-i-preserved : goal.loop-i-preserved
loop-i-preserved c = run_next _ _ _ _ _ _ _ c.loop-i.invariant c.loop-i-test.true _ c.in-Some.ensures _ _ _ _ _ _
    c.carry_out.ensures c.and_word-passed.ensures c.carry_out.auto.outgoing
