use Rattle.std.proofs.Common.{◌<◌, length, take, refl, arith, length-take, add-one}
use Rattle.basics.specs.Basics.{total}
use Rattle.batch_number.specs.Tallies.{tally}
use Rattle.batch_number.specs.TallyLaws.{tally_more, tally_few}
use Rattle.batch_number.proofs.count.Goals as goal

pub loop-word-init : goal.loop-word-init
unfolding tally total
loop-word-init c = refl

pub and_word-t-requires : goal.and_word-t-requires
and_word-t-requires c = let a = c.args in
    let words = take c.loop-word.word-index a.work.now in
    let few = tally_few a.s words in
    let short : length words < 4294967295 = simp length-take (omega (arith, c.requires, c.loop-word-test.true)) in
    rw c.loop-word.invariant (
      omega (arith, few.few_reads, short),
      omega (arith, few.few_writes, short),
      omega (arith, few.few_invalid, short),
    )

pub loop-word-preserved : goal.loop-word-preserved
loop-word-preserved c = let a = c.args in let i = c.loop-word.word-index in
    rw (add-one i, ← tally_more a.s a.work.now i c.loop-word-test.true, ← c.loop-word.invariant) c.and_word-t.ensures
