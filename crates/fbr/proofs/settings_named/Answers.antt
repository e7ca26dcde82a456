use native.Mathlib.Omega.{arith}
use Rattle.fbr.specs.Named.{settings_named}
use Rattle.fbr.proofs.settings_named.Goals as goal

pub returns-in-0 : goal.returns-in-0
unfolding settings_named
returns-in-0 c = (omega arith, rw c.in-0.is c.unix.ensures)

pub returns-in-1 : goal.returns-in-1
unfolding settings_named
returns-in-1 c = (omega arith, rw c.in-1.is c.c51.ensures)

pub returns-in-2 : goal.returns-in-2
unfolding settings_named
returns-in-2 c = (omega arith, rw c.in-2.is c.cust11.ensures)
