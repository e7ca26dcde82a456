-- Bytes moved between data and store: of a data buffer that is longer than N blocks only the front matters, and what follows stays.
use Rattle.std.specs.Prelude.{ℕ, ◌+◌, ◌-◌, ◌*◌, ◌≤◌, ◌<◌, ◌≡◌, length, take, drop}
use Rattle.std.proofs.Common.{arith, ◌∙◌}
use Rattle.std.proofs.Math.Path.{refl, ap}
use mathlib.Core.List.{List, [], ◌∷◌}
use Rattle.std.proofs.Math.ListN.{length-replicate}
use Rattle.basics.specs.Basics.{All, when◌then◌else◌, put_block}
use Rattle.settings.specs.declared.Settings.{Settings}
use Rattle.stack.proofs.BufferLaws.{block_ends, block_front, length_block_at, length_put_block}
use Rattle.stack.specs.Recency.{Resident, Place, found, unused, replacing, all_pinned}
use Rattle.stack.specs.Stack.{leaving, saved, saved_all, present}
use Rattle.stack.specs.Entries.{entry_bytes, filled_at, PickAt}
use Rattle.stack.proofs.EntriesLaws.{Fit}
use Rattle.cache_steps.specs.FrontLaws.{block_room, put_front, put_past}

-- the resident that a place names, if it names one, has an entry within 1 to N and a block below M
abbrev pub Stands : Settings → Place ℕ → Type 0
Stands s (found x l) = Fit s x
Stands s (unused l) = Unit {0}
Stands s (replacing v l) = Fit s v
Stands s (all_pinned l) = Unit {0}

pub leaving_fit : (s : Settings) (q : Place ℕ) → Stands s q → All (Fit s) (leaving q)
unfolding leaving
leaving_fit s (found x l) t = tt
leaving_fit s (unused l) t = tt
leaving_fit s (replacing v l) t = (t, tt)
leaving_fit s (all_pinned l) t = tt

-- A buffer that came of another: its front of that size, what follows it, and its length.
pub record Moved (size : ℕ) (front before after : List ℕ) : Type 0 where
  pub first : take size after ≡ front
  pub past : drop size after ≡ drop size before
  pub same : length after ≡ length before

pub unmoved : (size : ℕ) (buffer : List ℕ) → Moved size (take size buffer) buffer buffer
unmoved size buffer = record { first = refl; past = refl; same = refl }

-- a block put within the first n
pub put_moved : (B i n : ℕ) (buffer : List ℕ) → i < n → n * B ≤ length buffer → (bytes : List ℕ) → length bytes ≡ B
    → Moved (n * B) (put_block B i bytes (take (n * B) buffer)) buffer (put_block B i bytes buffer)
put_moved B i n buffer h long bytes sized =
    record {
      first = put_front B i n buffer h long bytes sized;
      past = put_past B i n buffer h long bytes sized;
      same = length_put_block B i bytes buffer sized (block_room B i n buffer h long);
    }

module _ (s : Settings) (bytes : List ℕ) (long : s.n * s.b ≤ length bytes) where
  abbrev B : ℕ
  B = s.b

  -- an entry's bytes, whole data buffer or its front
  abbrev whole : ℕ → List ℕ
  whole = entry_bytes B bytes

  abbrev front : ℕ → List ℕ
  front = entry_bytes B (take (s.n * s.b) bytes)

  pub entry_room : (e : ℕ) → 1 ≤ e → e ≤ s.n → (e - 1) * s.b + s.b ≤ length bytes
  entry_room e h g = block_room B (e - 1) s.n bytes (omega arith) long

  entry_length : (e : ℕ) → 1 ≤ e → e ≤ s.n → length (whole e) ≡ B
  entry_length e h g = length_block_at B (e - 1) bytes (entry_room e h g)

  entry_front : (e : ℕ) → 1 ≤ e → e ≤ s.n → front e ≡ whole e
  entry_front e h g = block_front B (e - 1) (s.n * B) bytes (block_ends B (e - 1) s.n (omega arith))

  -- ---- residents written out

  pub saved_front : (l : List (Resident ℕ)) → All (Fit s) l → (store : List ℕ)
      → saved_all (entry_bytes s.b (take (s.n * s.b) bytes)) s.b l store ≡ saved_all (entry_bytes s.b bytes) s.b l store
  unfolding saved_all saved
  saved_front [] a store = refl
  saved_front (x ∷ l) a store =
      let same = entry_front x.held a.0.least a.0.most in
      saved_front l a.1 _ ∙ ap (λ by. saved_all whole B l (when x.marks.modified then put_block B x.block by store else store)) same

  -- ---- the bytes of a block: its resident's, or the store's

  pub present_front : (b : ℕ) (store : List ℕ) (q : Place ℕ) → Stands s q
      → present (entry_bytes s.b (take (s.n * s.b) bytes)) s.b b store q ≡ present (entry_bytes s.b bytes) s.b b store q
  unfolding present
  present_front b store (found x l) t = entry_front x.held t.least t.most
  present_front b store (unused l) t = refl
  present_front b store (replacing v l) t = refl
  present_front b store (all_pinned l) t = refl

  module _ (b : ℕ) (inside : b < s.m) (store : List ℕ) (room : s.m * s.b ≤ length store) where
    pub present_length : (q : Place ℕ) → Stands s q → length (present (entry_bytes s.b bytes) s.b b store q) ≡ s.b
    unfolding present
    present_length (found x l) t = entry_length x.held t.least t.most
    present_length (unused l) t = length_block_at B b store (block_room B b s.m store inside room)
    present_length (replacing v l) t = length_block_at B b store (block_room B b s.m store inside room)
    present_length (all_pinned l) t = length-replicate s.b 0

  -- ---- the bytes put where the block then stands; none where it is refused

  pub filled_moved : (e : ℕ) (q : Place ℕ) → Stands s q → PickAt s.n e q → (put : List ℕ) → length put ≡ s.b
      → Moved (s.n * s.b) (filled_at s.b e q put (take (s.n * s.b) bytes)) bytes (filled_at s.b e q put bytes)
  unfolding filled_at
  filled_moved e (found x l) t free put sized =
      let h = t.least in let g = t.most in put_moved B (x.held - 1) s.n bytes (omega arith) long put sized
  filled_moved e (unused l) t free put sized =
      let h = free.least in let g = free.most in put_moved B (e - 1) s.n bytes (omega arith) long put sized
  filled_moved e (replacing v l) t free put sized =
      let h = t.least in let g = t.most in put_moved B (v.held - 1) s.n bytes (omega arith) long put sized
  filled_moved e (all_pinned l) t free put sized = unmoved (s.n * s.b) bytes
