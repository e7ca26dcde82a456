-- The average over residents, of a batch of the code from every sound directory (SCOPE, "The plain stack"). Statement only.
use Rattle.stack.specs.Averages.{Averages}
use Rattle.promises.specs.EachWord.{EachWord}

-- Each word halves the counts, once, exactly if their sum exceeds Amax × r after it; a replacement never does, nor a refused miss; and the
-- sum stays at most Amax × N.
abbrev pub BatchAverages : Type 0
BatchAverages = EachWord Averages
