use mathlib.Core.Path.{◌≡◌}
use Rattle.promises.specs.Looks.{look_bytes}
use Rattle.fbr.proofs.fbr_look_into.Goals as goal

pub returns : goal.returns
returns c = let part-is : _ ≡ look_bytes c.args.dir.now c.args.bytes.now c.args.store.now c.args.block = c.look.ensures.0 in
    rw (← part-is) c.copy_into.ensures
