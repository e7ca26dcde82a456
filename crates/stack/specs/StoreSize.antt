-- A store of the wrong size (SCOPE, "When a call declines"): when the plain stack gives 12, and what it accepts. Statements only.
use Rattle.std.specs.Prelude.{ℕ, ◌*◌, ◌≤◌, ◌<◌, ◌≡◌}
use Rattle.settings.specs.declared.Settings.{Settings}
use Rattle.stack.specs.Stack.{Plain}
use Rattle.stack.specs.Batch.{Call, batch}

-- the store is longer than M × B, and data is not short
abbrev pub LongStore : Settings → ℕ → ℕ → Type 0
LongStore s bytes store = (s.n * s.b ≤ bytes) × (s.m * s.b < store)

-- a number is 12 exactly there
abbrev pub TwelveWhere : ℕ → Type 0 → Type 0
TwelveWhere n There = (There → n ≡ 12) × (n ≡ 12 → There)

-- right after 7: whatever the words, the other lengths and the totals
abbrev pub PlainTwelve : Type 0
PlainTwelve = (k : Plain) (c : Call) → TwelveWhere (batch k c).number (LongStore k.settings c.data_length c.store_length)

-- an accepted batch is lent exactly M × B bytes of store
abbrev pub PlainInsists : Type 0
PlainInsists = (k : Plain) (c : Call) → (batch k c).number ≡ 0 → c.store_length ≡ k.settings.m * k.settings.b
