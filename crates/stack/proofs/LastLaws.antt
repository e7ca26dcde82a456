-- Last bytes over the plain stack: words without purges and without an answer 7 give them, and after a flush the store has them.
use Prim.Native.Nat.{ℕ, ◌+◌, ◌*◌, ◌≤◌, ◌<◌}
use Rattle.std.proofs.Common.{arith, ◌∙◌, inl, inr}
use Rattle.std.specs.Prelude.{◌≡◌, Bool, not, drop, T}
use Rattle.std.proofs.Math.Path.{refl, sym, ap, ap₂, subst}
use Rattle.std.proofs.Math.Bool.{true, false}
use mathlib.Core.List.{List, [], ◌∷◌, ◌++◌, map, flatten}
use Rattle.std.proofs.Math.Option
use Rattle.std.proofs.Math.Option.{Option, none, some}
use Rattle.std.proofs.Math.ListN.{length, take, length-append}
use Rattle.std.proofs.Math.Facts.{eqb_yes}
use Rattle.basics.specs.AllLaws.{all_join}
use Rattle.basics.specs.Basics.{All, total, block_at}
use Rattle.basics.specs.TestLaws.{split, if_yes, if_no, if_either}
use Rattle.settings.specs.declared.Settings.{Settings}
use Rattle.stack.proofs.BufferLaws.{block_ends, length_block_at}
use Rattle.stack.specs.Recency.{cleared, Place, found, unused, replacing, all_pinned, position, halve, remarked, refuses, place, asked, halves, settled, lookup}
use Rattle.stack.specs.Stack.{Plain, Work, read, write, purge, flush, tick, pin, unpin, invalid, answer_word, answering}
use Rattle.stack.specs.Stack.{access, purging, pinning, flushing, step, plain_step}
use Rattle.stack.proofs.StackLaws.{bytes_for, purging_either}
use Rattle.stack.specs.Batch.{is_read, is_write, how_many, run}
use Rattle.stack.specs.LastBytes.{gives_up, sevens, is_flush, writes_to, Last, last_after, last_given, last_then, last_reads, ends_in_flush}
use Rattle.stack.proofs.PlaceLaws.{all_found}
use Rattle.stack.proofs.BlockLaws.{AtPlace, place_blocks}
use Rattle.stack.proofs.LookupLaws.{lookup_first, lookup_same}
use Rattle.stack.proofs.SavedLaws.{Sized}
use Rattle.stack.proofs.KeepLaws.{Kept}
use Rattle.stack.proofs.ForgetLaws.{InStore}
use Rattle.stack.proofs.RunLaws.{Brings, rest_room, brings_first}
use Rattle.stack.specs.Ticks.{bytes_if, present_in}
use Rattle.stack.proofs.FateLaws.{Holder, itself, Fate, away, entered, left, stayed, out}
use Rattle.stack.proofs.SureLaws.{Faithful, Sure, Stepped, stepped}

-- ---- one block

-- A word that is no purge leaves the bytes of a block that it doesn't write.
fate_bytes : {b : ℕ} {w : Work} {before after : List ℕ} {o o' : Option Holder} → Fate b w before after o o' → Faithful before o
    → gives_up w ≡ 0 → T (not (writes_to b w)) → bytes_if after o' ≡ bytes_if before o
unfolding bytes_if
fate_bytes (away e) clean stays quiet = e
fate_bytes (entered y e z filled) clean stays quiet = filled.same quiet ∙ e
fate_bytes (left x (inl (e, lost))) clean stays quiet =
    split x.marks.modified (λ t. absurd (omega (arith, lost t, stays))) (λ t. e ∙ sym (clean t))
fate_bytes (left x (inr e)) clean stays quiet = e
fate_bytes (stayed x y e same filled rises) clean stays quiet = filled.same quiet
fate_bytes (out x swept m e) clean stays quiet = refl

-- The block of a read or a write that isn't refused has the bytes read or written, whatever is stored of it.
module _ (k : Plain) (kept : Kept k) (c : ℕ) (written : Bool) (incoming stored : List ℕ) where
  asked_bytes : (bytes : List ℕ) (q : Place (List ℕ)) → AtPlace c q → T (not (refuses q))
      → bytes_if stored (lookup c (asked c written bytes q)) ≡ bytes
  unfolding asked refuses bytes_if
  asked_bytes bytes (found x l) at free = ap (bytes_if stored) (lookup_first c _ l at.0)
  asked_bytes bytes (unused l) at free = ap (bytes_if stored) (lookup_first c _ l refl)
  asked_bytes bytes (replacing v l) at free = ap (bytes_if stored) (lookup_first c _ l refl)
  asked_bytes bytes (all_pinned l) at free = absurd free

  halved_bytes : (o : Option Holder) → bytes_if stored (Option.map halve o) ≡ bytes_if stored o
  unfolding bytes_if halve
  halved_bytes none = refl
  halved_bytes (some x) = refl

  access_bytes : T (not (refuses (place k.settings c k.residents)))
      → bytes_if stored (lookup c (access itself (λ q bytes. bytes) k c written incoming).after.residents) ≡ bytes_for itself k c written incoming
  unfolding access settled halve
  access_bytes free =
      let s = k.settings in
      let q = place s c k.residents in
      let bytes : List ℕ = bytes_for itself k c written incoming in
      let next : List Holder = asked c written bytes q in
      let one = asked_bytes bytes q (place_blocks s c k.residents kept.differ) free in
      if_either (λ l. bytes_if stored (lookup c l) ≡ bytes) (halves s q next) (map halve next) next
      (λ t. ap (bytes_if stored) (lookup_same c halve (λ x. refl) next) ∙ halved_bytes (lookup c next) ∙ one)
      (λ t. one)

-- ---- one word

abbrev seven_of : Plain → Work → List ℕ → ℕ
seven_of k w incoming = sevens (answer_word (plain_step k w incoming).answer ∷ [])

not_refused : (looked : ℕ) (halved : Bool) (q : Place (List ℕ)) → sevens (answer_word (answering looked halved q) ∷ []) ≡ 0 → T (not (refuses q))
unfolding answering answer_word refuses sevens total
not_refused looked halved (found x l) e = tt
not_refused looked halved (unused l) e = tt
not_refused looked halved (replacing v l) e = tt
not_refused looked halved (all_pinned l) e = absurd (omega (arith, e))

module _ (k : Plain) (kept : Kept k) (incoming stored : List ℕ) where
  -- the block written
  written_bytes : (w : Work) → seven_of k w incoming ≡ 0 → (b : ℕ) → T (writes_to b w)
      → bytes_if stored (lookup b (plain_step k w incoming).after.residents) ≡ incoming
  unfolding plain_step step access
  written_bytes (read c) free b t = absurd t
  written_bytes (write c) free b t =
      subst (λ n. bytes_if stored (lookup n (plain_step k (write c) incoming).after.residents) ≡ incoming) (eqb_yes t)
      (access_bytes k kept c true incoming stored (not_refused _ _ (place k.settings c k.residents) free))
  written_bytes (purge c) free b t = absurd t
  written_bytes flush free b t = absurd t
  written_bytes tick free b t = absurd t
  written_bytes (pin c) free b t = absurd t
  written_bytes (unpin c) free b t = absurd t
  written_bytes invalid free b t = absurd t

  -- the block read
  read_bytes : (c : ℕ) → seven_of k (read c) incoming ≡ 0
      → bytes_if stored (lookup c (plain_step k (read c) incoming).after.residents) ≡ (plain_step k (read c) incoming).given
  unfolding plain_step step access
  read_bytes c free = access_bytes k kept c false incoming stored (not_refused _ _ (place k.settings c k.residents) free)

-- after a flush the store has the bytes of every block
flushed_bytes : (k : Plain) (w : Work) (incoming stored : List ℕ) (b : ℕ) → T (is_flush w) → let l = (plain_step k w incoming).after.residents in
    Faithful stored (lookup b l) → stored ≡ bytes_if stored (lookup b l)
unfolding plain_step step flushing bytes_if
flushed_bytes k (read c) incoming stored b t = absurd t
flushed_bytes k (write c) incoming stored b t = absurd t
flushed_bytes k (purge c) incoming stored b t = absurd t
flushed_bytes k flush incoming stored b t = rw (lookup_same b (remarked cleared) (λ x. refl) k.residents) (go (lookup b k.residents))
  where
    go : (o : Option Holder) → Faithful stored (Option.map (remarked cleared) o) → stored ≡ bytes_if stored (Option.map (remarked cleared) o)
    go none clean = refl
    go (some x) clean = sym (clean tt)
flushed_bytes k tick incoming stored b t = absurd t
flushed_bytes k (pin c) incoming stored b t = absurd t
flushed_bytes k (unpin c) incoming stored b t = absurd t
flushed_bytes k invalid incoming stored b t = absurd t

-- ---- what is known of a plain stack's bytes

-- Every block has its last bytes, and after a flush they are the store's.
pub record Knows (s : Settings) (last : Last) (flushed : Bool) (k : Plain) : Type 0 where
  pub sure : Sure s k
  pub has : (b : ℕ) → b < s.m → present_in b k ≡ last b
  pub stored : T flushed → (b : ℕ) → b < s.m → block_at s.b b k.store ≡ last b

-- What a word gives: B bytes, the last of its block, if it is a read, and else nothing.
record Gives (B : ℕ) (last : Last) (w : Work) (given : List ℕ) : Type 0 where
  first : (later : List (List ℕ)) → given ++ flatten later ≡ flatten (last_given last w ++ later)
  sizes : All (λ x. length x ≡ B) (last_given last w)
  many : length (last_given last w) ≡ is_read w

gives_nothing : (B : ℕ) (last : Last) (w : Work) {given : List ℕ} → last_given last w ≡ [] → is_read w ≡ 0 → given ≡ [] → Gives B last w given
unfolding flatten
gives_nothing B last w e z g = record { first = λ later. rw (e, g); sizes = rw e tt; many = rw (e, z) }

module _ (s : Settings) where
  -- the bytes that a block has, by the settings known
  present_as : {k : Plain} → Sure s k → (b : ℕ) → bytes_if (block_at s.b b k.store) (lookup b k.residents) ≡ present_in b k
  present_as {k} sure b = ap (λ (t : Settings). bytes_if (block_at t.b b k.store) (lookup b k.residents)) (sym sure.settings)

  record Carried (last : Last) (w : Work) (k : Plain) (incoming : List ℕ) : Type 0 where
    knows : Knows s (last_after last w incoming) (is_flush w) (plain_step k w incoming).after
    gives : Gives s.b last w (plain_step k w incoming).given
    long : length (plain_step k w incoming).after.store ≡ length k.store

  module _ (last : Last) (flushed : Bool) (k : Plain) (knows : Knows s last flushed k) (room : s.m * s.b ≤ length k.store)
      (incoming : List ℕ) where
    present_sized : (c : ℕ) → c < s.m → length (present_in c k) ≡ s.b
    unfolding lookup bytes_if
    present_sized c h = ap length (sym (present_as knows.sure c)) ∙ go (lookup c k.residents) refl
      where
        go : (o : Option Holder) → lookup c k.residents ≡ o → length (bytes_if (block_at s.b c k.store) o) ≡ s.b
        go none e = length_block_at s.b c k.store (omega (arith, block_ends s.b c s.m h))
        go (some x) e =
            (all_found (Sized itself s.b (length k.store)) k.residents (position c k.residents) x knows.sure.sizes e).0

    purging_gives : (c : ℕ) (o : Option Holder) → (purging itself (λ q bytes. bytes) k c o).given ≡ []
    unfolding purging
    purging_gives c none = refl
    purging_gives c (some x) = purging_either itself (λ q bytes. bytes) (λ t. t.given ≡ []) k c x (λ t. refl) (λ t. refl)

    pinning_gives : (c : ℕ) (on : Bool) (o : Option Holder) → (pinning itself (λ q bytes. bytes) k c on o).given ≡ []
    unfolding pinning
    pinning_gives c on none = refl
    pinning_gives c on (some x) = refl

    word_gives : (w : Work) → InStore s.m w → seven_of k w incoming ≡ 0
        → ((b : ℕ) → b < s.m → present_in b (plain_step k w incoming).after ≡ last_after last w incoming b)
        → Gives s.b last w (plain_step k w incoming).given
    unfolding plain_step step access flushing flatten
    word_gives (read c) inside free has =
        let same = sym (read_bytes k knows.sure.kept incoming _ c free) ∙ has c inside in
        record {
          first = λ later. ap (λ x. x ++ flatten later) same;
          sizes = (ap length (sym (knows.has c inside)) ∙ present_sized c inside, tt);
          many = refl;
        }
    word_gives (write c) inside free has = gives_nothing s.b last (write c) refl refl refl
    word_gives (purge c) inside free has = gives_nothing s.b last (purge c) refl refl (purging_gives c (lookup c k.residents))
    word_gives flush inside free has = gives_nothing s.b last flush refl refl refl
    word_gives tick inside free has = gives_nothing s.b last tick refl refl refl
    word_gives (pin c) inside free has = gives_nothing s.b last (pin c) refl refl (pinning_gives c true (lookup c k.residents))
    word_gives (unpin c) inside free has = gives_nothing s.b last (unpin c) refl refl (pinning_gives c false (lookup c k.residents))
    word_gives invalid inside free has = gives_nothing s.b last invalid refl refl refl

    carried : (w : Work) → InStore s.m w → Brings s.b w incoming → gives_up w ≡ 0 → seven_of k w incoming ≡ 0 → Carried last w k incoming
    carried w inside brought stays free =
        record {
          knows = record {
            sure = one.sure;
            has = has;
            stored = λ t b h. flushed_bytes k w incoming (block_at s.b b now.store) b t (one.sure.clean b)
                ∙ present_as one.sure b
                ∙ has b h;
          };
          gives = word_gives w inside free has;
          long = one.long;
        }
      where
        now : Plain
        now = (plain_step k w incoming).after

        one : Stepped s k w now
        one = stepped s k knows.sure room w incoming inside brought

        has : (b : ℕ) → b < s.m → present_in b now ≡ last_after last w incoming b
        has b h = split (writes_to b w)
            (λ t. written_bytes k knows.sure.kept incoming _ w free b t ∙ sym (if_yes (writes_to b w) incoming (last b) t))
            (λ t. sym (present_as one.sure b)
            ∙ fate_bytes (one.fate b) (knows.sure.clean b) stays t
            ∙ present_as knows.sure b
            ∙ knows.has b h
            ∙ sym (if_no (writes_to b w) incoming (last b) t))

  -- ---- words in order

  -- what a run gives and leaves
  pub record Runs (last : Last) (flushed : Bool) (k : Plain) (ws : List Work) (incoming : List ℕ) : Type 0 where
    pub outgoing : (run plain_step (λ w. w) s.b k ws incoming).outgoing ≡ flatten (last_reads s.b last ws incoming)
    pub sizes : All (λ x. length x ≡ s.b) (last_reads s.b last ws incoming)
    pub many : length (last_reads s.b last ws incoming) ≡ how_many is_read ws
    pub knows : Knows s (last_then s.b last ws incoming) (ends_in_flush flushed ws) (run plain_step (λ w. w) s.b k ws incoming).after

  pub runs : (last : Last) (flushed : Bool) (k : Plain) (ws : List Work) (incoming : List ℕ) → Knows s last flushed k
      → s.m * s.b ≤ length k.store → All (InStore s.m) ws → how_many is_write ws * s.b ≤ length incoming → how_many gives_up ws ≡ 0
      → sevens (map answer_word (run plain_step (λ w. w) s.b k ws incoming).answers) ≡ 0 → Runs last flushed k ws incoming
  unfolding run last_reads last_then ends_in_flush total sevens flatten
  runs last flushed k [] incoming knows room inside fits stays free = record { outgoing = refl; sizes = tt; many = refl; knows = knows }
  runs last flushed k (w ∷ ws) incoming knows room inside fits stays free =
      let n : ℕ = how_many is_write ws in
      let bytes : List ℕ = take s.b incoming in
      let now = carried last flushed k knows room bytes w inside.0 (brings_first s.b w n incoming fits) (omega arith) (omega arith) in
      let gives = now.gives in
      let later = runs (last_after last w bytes) (is_flush w) (plain_step k w bytes).after ws (drop (is_write w * s.b) incoming) now.knows
      (rw now.long room) inside.1 (rest_room s.b (is_write w) n incoming fits) (omega arith) (omega arith) in
      record {
        outgoing = ap (λ l. (plain_step k w bytes).given ++ l) later.outgoing ∙ gives.first _;
        sizes = all_join (λ x. length x ≡ s.b) (last_given last w) _ gives.sizes later.sizes;
        many = length-append (last_given last w) _ ∙ ap₂ (λ a b. a + b) gives.many later.many;
        knows = later.knows;
      }
