use Rattle.settings.specs.NumbersLaws.{legal_settings, number_zero}
use Rattle.opt.specs.Ins.{lru}
use Rattle.opt.proofs.LruLaws.{lru_legal}
use Rattle.compare.proofs.lru_of.Goals as goal

pub invariant_of-result : goal.invariant_of-result
invariant_of-result c = let l = c.args.legal in record { legal = number_zero (lru l.of) (lru_legal l.of (legal_settings l.of l.legal)) }
