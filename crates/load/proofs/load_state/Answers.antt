use Prim.Native.Nat.{◌+◌, ◌-◌}
use native.Mathlib.Nat.{sub-zero}
use native.Mathlib.Omega.{arith}
use mathlib.Core.Path.{◌≡◌, sym, ap, ◌∙◌}
use Rattle.load.specs.Load.{state_after}
use Rattle.load.proofs.LoadLaws.{state_declined, state_given}
use Rattle.load.proofs.Laws.{one_less, none_left}
use Rattle.load.proofs.load_state.Goals as goal

pub returns-then-count-gt-MOST_WORDS-clause-state : goal.returns-then-count-gt-MOST_WORDS-clause-state
returns-then-count-gt-MOST_WORDS-clause-state c = sym (state_declined _ _ c.if-count-gt-MOST_WORDS.true)

pub loop-init : goal.loop-init
loop-init c = ap (state_after c.args.seed) (sym (sub-zero c.args.count))

pub loop-preserved : goal.loop-preserved
loop-preserved c =
    let next = one_less c.loop.state (c.args.count - c.loop.counter) _ (omega arith) c.step-state.ensures in
    let less : c.args.count - c.loop.counter - 1 ≡ c.args.count - (c.loop.counter + 1) = omega arith in
    c.loop.invariant ∙ next ∙ ap (state_after c.step-state.result) less

pub returns-clause-state : goal.returns-clause-state
returns-clause-state c = sym (state_given _ _ c.if-count-gt-MOST_WORDS.false ∙ c.loop.invariant ∙ none_left _ _ (omega arith))
