use Rattle.std.proofs.Common.{arith, ◌≡◌, ◌+◌, ◌-◌, ◌∙◌}
use Rattle.fresh.proofs.Laws.{entry_more, entries_end, next_is}
use Rattle.layout.proofs.FreshWordLaws.{next_of}
use Rattle.fresh.proofs.fill_entries.Goals as goal
use Rattle.fresh.proofs.fill_entries.Goals.{then-e-n, else-e-n}

pub loop-e-preserved : goal.loop-e-preserved
loop-e-preserved c =
    let next : c.if-e-n.next ≡ next_of (c.loop-e.e + 1) (c.args.n - (c.loop-e.e + 1)) = elim c.if-e-n.branch [
      | then-e-n w ↦ next_is c.args.n c.loop-e.e c.if-e-n.next (λ h. w.next-is) (λ h. omega (arith, w.if-e-n.true))
      | else-e-n w ↦ next_is c.args.n c.loop-e.e c.if-e-n.next (λ h. omega (arith, w.if-e-n.false)) (λ h. w.next-is)
    ] in
    entry_more _ _ _ _ c.requires.1 c.loop-e.invariant _ _ c.loop-e-test.true (c.copy_from_slice.ensures.after ∙ c.unused.ensures) next

pub returns : goal.returns
returns c = entries_end _ _ _ _ c.requires.1 c.loop-e.invariant c.loop-e-test.false (c.loop-e.auto.e-end)
