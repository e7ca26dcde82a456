use Prim.Native.Nat.{ℕ}
use mathlib.Core.Path.{◌∙◌}
use lib.ListN.{length-replicate}
use Rattle.compare.specs.Reading.{most_words}
use Rattle.compare.proofs.Laws.{fresh_in, ins_fit}
use Rattle.compare.proofs.ins.Goals as goal

pub run-requires : goal.run-requires
run-requires c = (fresh_in _ c.args.legal.legal _ _ _ (length-replicate {A = ℕ} most_words 0) c.fresh.ensures, c.requires)

pub overflow_cast-result : goal.overflow_cast-result
overflow_cast-result c = let counted = c.totals_in.ensures.2 ∙ c.run.ensures in
    record { fits = ins_fit c.args.legal.of c.args.trace.now _ counted c.requires }

pub returns : goal.returns
returns c = c.totals_in.ensures.2 ∙ c.run.ensures
