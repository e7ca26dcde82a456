use native.Mathlib.Omega.{arith}
use Rattle.belt.proofs.Laws.{decoding_begins, decoding_length, decoding_step, decoding_end}
use Rattle.belt.proofs.decode.Goals as goal

pub loop-i-init : goal.loop-i-init
loop-i-init c = decoding_begins _ _ _ c.word_count-n.ensures c.requires

pub word_at-requires : goal.word_at-requires
word_at-requires c = let e = c.loop-i.invariant.enough in let h = c.loop-i-test.true in omega arith

pub bounds-work-i : goal.bounds-work-i
bounds-work-i c = let d = c.loop-i.invariant in let a = decoding_length _ _ _ _ _ d in let b = d.short in let l = d.long in let h =
    c.loop-i-test.true in omega arith

pub loop-i-preserved : goal.loop-i-preserved
loop-i-preserved c = decoding_step _ _ _ _ _ c.loop-i.invariant _ c.loop-i-test.true c.word_at.ensures

pub returns : goal.returns
returns c = (decoding_end _ _ _ _ _ c.loop-i.invariant c.loop-i-test.false, c.loop-i.invariant.count)
