use mathlib.Core.Path.{◌≡◌}
use Prim.Native.Nat.{◌-◌, ◌*◌, ◌≤◌}
use Rattle.check_model.specs.Tests.{entry_word}
use Rattle.check_model.specs.Walk.{walk_from, walk_test}
use Rattle.soundness.proofs.walk_ok.Given as goal

abbrev pub invariant-loop-p : goal.invariant-loop-p
invariant-loop-p l = let s = l.fn.legal.of in let f = entry_word l.entries in
    (walk_from l.d f s.n s.m s.nnew (s.n - s.nold) s.cmax s.amax (l.count - l.p) (l.e, l.before, l.p, l.sum, l.marks, l.last, l.young, l.old)
    ≡ walk_test l.d f s.n s.m s.nnew (s.n - s.nold) s.cmax s.amax l.count l.head)
    × (l.sum ≤ 4294967296 * l.p) × (l.marks ≤ 4294967296 * l.p)
