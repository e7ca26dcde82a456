use mathlib.Core.Path.{◌≡◌, sym, ◌∙◌}
use mathlib.Core.Bool.{true, false}
use borrow.Author.Tests.{not-true, not-false}
use Rattle.basics.specs.Basics.{within}
use Rattle.basics.specs.TestLaws.{within_yes}
use mathlib.Core.Bool.{not}
use Rattle.std.proofs.Common.{ap}
use Rattle.fbr.proofs.fbr_buckets.Goals as goal

pub returns-then-not-between : goal.returns-then-not-between
returns-then-not-between c = let n = c.args.n in
    let outside : within 1 4096 n ≡ false = sym c.between.ensures ∙ not-true _ (ap not c.if-not-between.true) in
    rw outside

pub buckets-requires : goal.buckets-requires
buckets-requires c = within_yes 1 4096 _ (sym c.between.ensures ∙ not-false _ (ap not c.if-not-between.false))

pub returns : goal.returns
returns c = let n = c.args.n in
    let inside : within 1 4096 n ≡ true = sym c.between.ensures ∙ not-false _ (ap not c.if-not-between.false) in
    rw inside c.buckets.ensures
