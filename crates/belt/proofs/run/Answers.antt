use mathlib.Core.Path.{refl}
use Rattle.belt.specs.CycleLaws.{belt_cycled}
use borrow.Author.Rules.{rules}
use Rattle.belt.proofs.run.Goals as goal

pub returns : goal.returns
returns c = belt_cycled _ _ _ _ _ _ _ _ _ _ _ _ c.fresh.ensures c.batch-batch.ensures c.read_off.ensures
    (record {
      directory_long = refl;
      incoming_is = c.fill_incoming.ensures;
      bytes_long = refl;
      store_zero = refl;
      outgoing_long = search rules;
    })
