use Rattle.std.proofs.Common.{◌≡◌, ◌*◌, ◌++◌, take, drop}
use Rattle.layout.specs.Layout.{unused_from}
use Rattle.fresh.proofs.fill_entries.Given as goal

abbrev pub invariant-loop-e : goal.invariant-loop-e
invariant-loop-e l = l.entries ≡ take (9 * l.e) (unused_from 1 l.n) ++ drop (9 * l.e) l.initial.entries
