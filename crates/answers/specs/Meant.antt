-- Which answer of the stack the code's answer is, and when its numbers fit its word. Statements only.
use Rattle.std.specs.Prelude.{◌^◌, ◌≤◌, ◌<◌}
use Rattle.stack.specs.Stack as stack
use Rattle.answers.specs.declared.Answer.{Answer}
use Rattle.answers.specs.declared.Answer.TheVariants.{Hit, Entered, Replaced, Purged, Absent, Flushed, AllPinned, Pinned, PurgeRefused}

abbrev pub meant : Answer → stack.Answer
meant (Hit count halved) = stack.hit count halved
meant (Entered halved) = stack.entered halved
meant (Replaced victim chains out) = stack.replaced victim chains out
meant (Purged discarded) = stack.purged discarded
meant Absent = stack.absent
meant (Flushed n) = stack.flushed n
meant AllPinned = stack.miss_refused
meant (Pinned on) = stack.pinned on
meant PurgeRefused = stack.purge_refused

abbrev pub Fits : Answer → Type 0
Fits (Hit count halved) = count ≤ 65535
Fits (Entered halved) = Unit {0}
Fits (Replaced victim chains out) = (victim < 2 ^ 18) × (chains ≤ 64)
Fits (Purged discarded) = Unit {0}
Fits Absent = Unit {0}
Fits (Flushed n) = n ≤ 4096
Fits AllPinned = Unit {0}
Fits (Pinned on) = Unit {0}
Fits PurgeRefused = Unit {0}
