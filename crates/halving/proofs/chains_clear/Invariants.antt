use Rattle.std.proofs.Common.{◌≡◌, ◌-◌, ◌+◌, ◌≤◌}
use Rattle.word_ops.specs.Halve.{chains_cleared}
use Rattle.halving.proofs.chains_clear.Given as goal

abbrev pub invariant-loop-i : goal.invariant-loop-i
invariant-loop-i l = (l.dir ≡ chains_cleared l.initial.dir (l.i - 1)) × (l.i ≤ l.i-end + 1)
