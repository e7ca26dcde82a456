use mathlib.Core.Path.{◌≡◌}
use Prim.Native.Nat.{◌-◌}
use Rattle.check_model.specs.Tests.{entry_word, head_of, tail_of, ends_ok, ends_from}
use Rattle.check_lists.proofs.ends_ok.Given as goal

abbrev pub invariant-loop-i : goal.invariant-loop-i
invariant-loop-i l = let cmax = l.fn.legal.of.cmax in let f = entry_word l.entries in
    ends_from f (head_of l.d) (tail_of l.d) l.last (cmax - l.i) l.i ≡ ends_ok f (head_of l.d) (tail_of l.d) cmax l.last
