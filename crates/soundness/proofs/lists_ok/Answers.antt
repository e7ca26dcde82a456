use native.Mathlib.Omega.{arith}
use mathlib.Core.Path.{sym, ◌∙◌}
use Prim.Native.Nat.{◌≤◌}
use Rattle.std.proofs.lemmas.Bool.{true≢false}
use borrow.Author.Tests.{lt-ltb}
use Rattle.std.proofs.Common.{length-take, length-drop}
use Rattle.words.specs.Words.{val}
use Rattle.settings.specs.NumbersLaws.{legal_settings}
use Rattle.layout.specs.Addresses.{RESIDENTS}
use Rattle.check_model.specs.Walk.{lists_walk}
use Rattle.soundness.proofs.Laws.{lists_are}
use Rattle.soundness.proofs.lists_ok.Goals as goal
use Rattle.soundness.proofs.lists_ok.Goals.{then-walk_ok, else-walk_ok}

pub returns-then-count-n : goal.returns-then-count-n
unfolding lists_walk
returns-then-count-n c = rw (← c.get-count.ensures, lt-ltb _ _ c.if-count-n.true)

pub walk_ok-requires : goal.walk_ok-requires
walk_ok-requires c = let few = (legal_settings _ c.args.legal.legal).few_blocks in
    (omega (arith, few, c.if-count-n.false), simp (length-take, length-drop) (omega (arith, c.requires.0, c.requires.2)))

pub returns-then-unused_ok : goal.returns-then-unused_ok
returns-then-unused_ok c = let a = c.args in
    let few : val a.d.now RESIDENTS ≤ a.legal.of.n = omega (arith, c.get-count.ensures, c.if-count-n.false) in
    let is = lists_are a.d.now a.legal.of a.at.start a.at.many c.requires.0 few in
    elim c.if-walk_ok.branch [
      | then-walk_ok w ↦ rw (
        is,
        ← c.get-count.ensures,
        ← c.get.ensures,
        ← w.get-then-walk_ok.ensures,
        ← c.walk_ok.ensures,
        ← w.unused_ok.ensures,
        w.if-walk_ok.true,
        sym w.value-is ∙ c.if-unused_ok.true,
      ) c.buckets_ok.ensures
      | else-walk_ok w ↦ absurd (true≢false (sym c.if-unused_ok.true ∙ w.value-is ∙ w.if-walk_ok.false))
    ]

pub returns-else-unused_ok : goal.returns-else-unused_ok
returns-else-unused_ok c = let a = c.args in
    let few : val a.d.now RESIDENTS ≤ a.legal.of.n = omega (arith, c.get-count.ensures, c.if-count-n.false) in
    let is = lists_are a.d.now a.legal.of a.at.start a.at.many c.requires.0 few in
    elim c.if-walk_ok.branch [
      | then-walk_ok w ↦ rw (
        is,
        ← c.get-count.ensures,
        ← c.get.ensures,
        ← w.get-then-walk_ok.ensures,
        ← c.walk_ok.ensures,
        ← w.unused_ok.ensures,
        w.if-walk_ok.true,
        sym w.value-is ∙ c.if-unused_ok.false,
      ) c.if-unused_ok.false
      | else-walk_ok w ↦ rw (
        is,
        ← c.get-count.ensures,
        ← c.get.ensures,
        ← c.walk_ok.ensures,
        w.if-walk_ok.false,
      ) c.if-unused_ok.false
    ]
