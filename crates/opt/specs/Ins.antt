-- Block ins of the plain stack on a trace of reads (SCOPE, "What the new rule gains"), from an empty cache. Reads pin nothing. Assumes nothing.
use Rattle.std.specs.Prelude.{ℕ, ◌%◌, ◌^◌, List, [], map}
use Rattle.settings.specs.declared.Settings.{Settings}
use Rattle.stack.specs.Stack.{read, empty}
use Rattle.stack.specs.Batch.{plain_run}

-- the block that a read word names, its low 28 bits; and the blocks of read words
abbrev pub block_of : ℕ → ℕ
block_of w = w % 2 ^ 28

abbrev pub trace_of : List ℕ → List ℕ
trace_of = map block_of

-- the most words of a trace
abbrev pub most_reads : ℕ
most_reads = 4096

-- LRU: Nnew 0, Nold 1
abbrev pub lru : Settings → Settings
lru s = record { n = s.n; nnew = 0; nold = 1; cmax = s.cmax; amax = s.amax; b = s.b; m = s.m }

-- The total of block ins once the trace was read. The store's bytes do not matter (Optimal.AnyStore): it is empty here.
unfoldable pub ins_of : Settings → List ℕ → ℕ
unfolding plain_run
ins_of s t = (plain_run (empty s []) (map read t) []).after.totals.ins
