use Rattle.settings.specs.NumbersLaws.{legal_settings}
use Rattle.settings.proofs.directory_length.Goals as goal

pub length_of-requires : goal.length_of-requires
length_of-requires c = let l = legal_settings c.args.s.of c.args.s.legal in (l.some_blocks, l.few_blocks, l.few_chains)
