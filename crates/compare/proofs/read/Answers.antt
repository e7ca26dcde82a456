use Rattle.compare.proofs.Laws.{read_asks, read_done}
use Rattle.compare.proofs.read.Goals as goal

pub access-requires : goal.access-requires
access-requires c = read_asks _ _ _ c.requires _ _

pub returns : goal.returns
returns c = read_done _ _ _ c.requires _ _ _ _
    c.access.result c.access.ensures
