use native.Mathlib.Omega.{arith}
use mathlib.Core.Path.{refl, sym}
use mathlib.Core.Logic.{inl, inr}
use Rattle.stack.proofs.OccupancyLaws.{no_class, class_at}
use Rattle.occupancy.proofs.class_of.Goals as goal

pub returns-in-1 : goal.returns-in-1
returns-in-1 c = sym (class_at _ 0 1 1 refl (omega (arith, c.in-1.is)) (omega (arith, c.in-1.is)) (omega arith) (omega arith))

pub returns-in-2 : goal.returns-in-2
returns-in-2 c = sym (class_at _ 1 2 2 refl (omega (arith, c.in-2.is)) (omega (arith, c.in-2.is)) (omega arith) (omega arith))

pub returns-in-3-to-4 : goal.returns-in-3-to-4
returns-in-3-to-4 c = sym (class_at _ 2 3 4 refl (omega arith) (omega arith) (omega arith) (omega arith))

pub returns-in-5-to-8 : goal.returns-in-5-to-8
returns-in-5-to-8 c = sym (class_at _ 3 5 8 refl (omega arith) (omega arith) (omega arith) (omega arith))

pub returns-in-9-to-16 : goal.returns-in-9-to-16
returns-in-9-to-16 c = sym (class_at _ 4 9 16 refl (omega arith) (omega arith) (omega arith) (omega arith))

pub returns-in-17-to-64 : goal.returns-in-17-to-64
returns-in-17-to-64 c = sym (class_at _ 5 17 64 refl (omega arith) (omega arith) (omega arith) (omega arith))

pub returns-in-65-to-1000 : goal.returns-in-65-to-1000
returns-in-65-to-1000 c = sym (class_at _ 6 65 1000 refl (omega arith) (omega arith) (omega arith) (omega arith))

pub returns-in-1001-to-65535 : goal.returns-in-1001-to-65535
returns-in-1001-to-65535 c = sym (class_at _ 7 1001 65535 refl (omega arith) (omega arith) (omega arith) (omega arith))

pub returns-in_default : goal.returns-in_default
returns-in_default c = sym (no_class _ (inl (omega arith)))

pub returns-in_default-2 : goal.returns-in_default-2
returns-in_default-2 c = sym (no_class _ (inr (omega arith)))
