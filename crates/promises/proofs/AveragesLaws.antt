-- The average over residents, over a batch.
use Rattle.stack.specs.Averages.{Averages}
use Rattle.stack.proofs.AverageLaws.{step_averages}
use Rattle.promises.proofs.EachWordLaws.{each_word}
use Rattle.promises.specs.Averages.{BatchAverages}

pub batch_averages : BatchAverages
batch_averages = each_word Averages step_averages
