use mathlib.Core.Path.{◌≡◌}
use Prim.Native.Nat.{◌-◌}
use Rattle.load.specs.Load.{state_after}
use Rattle.load.proofs.load_state.Given as goal

abbrev pub invariant-loop : goal.invariant-loop
invariant-loop l = state_after l.seed l.count ≡ state_after l.state (l.count - l.counter)
