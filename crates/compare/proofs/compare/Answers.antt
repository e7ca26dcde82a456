use mathlib.Core.Path.{ap, ◌∙◌}
use Rattle.opt.specs.Ins.{lru}
use Rattle.std.proofs.Common.{arith}
use Rattle.std.proofs.lemmas.Grind.{common_steps}
use Rattle.compare.proofs.NumberLaws.{by_same, declined_is, lru_ready, chosen_ready, opt_ready, figures_ready, figures_are}
use Rattle.compare.proofs.compare.Goals as goal

pub returns-in_err-legal : goal.returns-in_err-legal
returns-in_err-legal c = grind (arith, common_steps, declined_is)

pub ins-by_lru-requires : goal.ins-by_lru-requires
ins-by_lru-requires c = rw (c.lru_of.ensures, c.in_ok-legal.ensures.same) (lru_ready _ _ c.in_ok-legal.ensures.number)

pub ins-by_chosen-requires : goal.ins-by_chosen-requires
ins-by_chosen-requires c = rw c.in_ok-legal.ensures.same (chosen_ready _ _ c.in_ok-legal.ensures.number)

pub ins-requires : goal.ins-requires
ins-requires c = opt_ready _ _ c.in_ok-legal.ensures.number

pub figures_of-requires : goal.figures_of-requires
figures_of-requires c =
    let same = c.in_ok-legal.ensures.same in
    figures_ready _ _ c.in_ok-legal.ensures.number _ _ _ (by_same _ _ _ _ c.ins-by_lru.ensures (c.lru_of.ensures ∙ ap lru same))
    (by_same _ _ _ _ c.ins-by_chosen.ensures same) c.ins.ensures

pub returns : goal.returns
returns c =
    let same = c.in_ok-legal.ensures.same in
    figures_are _ _ c.in_ok-legal.ensures.number _ _ _ (by_same _ _ _ _ c.ins-by_lru.ensures (c.lru_of.ensures ∙ ap lru same))
    (by_same _ _ _ _ c.ins-by_chosen.ensures same) c.ins.ensures _ c.figures_of.ensures
