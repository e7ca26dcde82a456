use mathlib.Core.Path.{◌≡◌}
use Prim.Native.Nat.{◌≤◌}
use lib.ListN.{length}
use Rattle.opt_ins.specs.Awaited.{last_awaited}
use Rattle.opt_ins.proofs.last_awaited.Given as goal

abbrev pub invariant-loop-j : goal.invariant-loop-j
invariant-loop-j l = (last_awaited l.awaited l.j ≡ last_awaited l.awaited l.len) × (l.j ≤ l.len) × (l.len ≤ length l.awaited)
