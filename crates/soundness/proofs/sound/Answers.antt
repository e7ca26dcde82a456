use native.Mathlib.Omega.{arith}
use mathlib.Core.Path.{sym, ◌∙◌}
use Rattle.settings.specs.NumbersLaws.{legal_settings}
use Rattle.settings.specs.BucketLaws.{buckets_few}
use Rattle.check_model.specs.Nines.{kinds_long}
use Rattle.soundness.proofs.Laws.{sound_is, refused}
use Rattle.soundness.proofs.sound.Goals as goal

pub returns-in_default : goal.returns-in_default
returns-in_default c = let why = c.in_default.ensures.number in
    sym (refused c.args.dir.now c.in_default.field-0 (rw (← c.settings_in.ensures) why))

pub kinds_ok-requires : goal.kinds_ok-requires
kinds_ok-requires c = let legal = legal_settings _ c.in-Ok.legal.legal in
    let few = buckets_few c.in-Ok.legal.of.n legal.few_blocks in
    let at = c.buckets_of-at.ensures in
    (omega (arith, at.0), omega (arith, at.0, at.1, few, legal.few_chains), legal.few_blocks)

pub lists_ok-requires : goal.lists_ok-requires
lists_ok-requires c = let legal = legal_settings _ c.in-Ok.legal.legal in
    let few = buckets_few c.in-Ok.legal.of.n legal.few_blocks in
    let at = c.buckets_of-at.ensures in
    (at.0, omega (arith, at.1, few), kinds_long _ _ _ (sym c.kinds_ok.ensures ∙ c.if-kinds_ok.true))

pub returns-then-kinds_ok : goal.returns-then-kinds_ok
returns-then-kinds_ok c = let at = c.buckets_of-at.ensures in
    let s = c.in-Ok.ensures.same ∙ c.settings_in.ensures in
    rw (sound_is c.args.dir.now _ _ c.in-Ok.legal.of s c.in-Ok.legal.legal at.0 at.1, ← c.kinds_ok.ensures, c.if-kinds_ok.true) c.lists_ok.ensures

pub returns-else-kinds_ok : goal.returns-else-kinds_ok
returns-else-kinds_ok c = let at = c.buckets_of-at.ensures in
    let s = c.in-Ok.ensures.same ∙ c.settings_in.ensures in
    rw (sound_is c.args.dir.now _ _ c.in-Ok.legal.of s c.in-Ok.legal.legal at.0 at.1, ← c.kinds_ok.ensures, c.if-kinds_ok.false)
