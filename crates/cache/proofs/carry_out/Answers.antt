use Rattle.cache.proofs.Laws.{at_work, work_at, read_word, still_word, flush_word}
use Rattle.cache.proofs.carry_out.Goals as goal

pub returns-in-Read : goal.returns-in-Read
returns-in-Read c = work_at _ _ _ _ _ c.in-Read.is (read_word _ _ _ _ _ _ (at_work _ _ _ _ _ c.in-Read.is c.requires) _ _ _ c.read.ensures)

pub returns-in-Purge : goal.returns-in-Purge
returns-in-Purge c = work_at _ _ _ _ _ c.in-Purge.is (still_word _ _ _ _ _ _ c.requires.ready _ _ c.purge.ensures)

pub returns-in-Flush : goal.returns-in-Flush
returns-in-Flush c = work_at _ _ _ _ _ c.in-Flush.is (flush_word _ _ _ _ _ _ _ _ c.flush.ensures.0 _ c.word.ensures)

pub returns-in-Tick : goal.returns-in-Tick
returns-in-Tick c = work_at _ _ _ _ _ c.in-Tick.is (flush_word _ _ _ _ _ _ _ _ c.flush-in-Tick.ensures.0 _ c.word-in-Tick.ensures)

pub returns-in-Pin : goal.returns-in-Pin
returns-in-Pin c = work_at _ _ _ _ _ c.in-Pin.is (still_word _ _ _ _ _ _ c.requires.ready _ _ c.pin.ensures)

pub returns-in-Unpin : goal.returns-in-Unpin
returns-in-Unpin c = work_at _ _ _ _ _ c.in-Unpin.is (still_word _ _ _ _ _ _ c.requires.ready _ _ c.pin-in-Unpin.ensures)
