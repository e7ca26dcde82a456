use Rattle.std.proofs.Common.{◌≡◌, take}
use Rattle.batch_number.specs.Tallies.{tally}
use Rattle.batch_number.proofs.count.Given as goal

abbrev pub invariant-loop-word : goal.invariant-loop-word
invariant-loop-word l = l.t ≡ tally l.s (take l.word-index l.work)
