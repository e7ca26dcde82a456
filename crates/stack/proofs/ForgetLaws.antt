-- Forgetting entries: a work word of the cache, its residents' bytes read from their entries, is the plain stack's, whatever
-- valid entry was picked; and it keeps the cache proper.
use Rattle.std.specs.Prelude.{ℕ, ◌+◌, ◌-◌, ◌*◌, ◌≤◌, ◌<◌, ◌≡◌, refl, ◌≢◌, Bool, true, false, not, List, [], ◌∷◌, map, length, T}
use Rattle.std.proofs.Common.{arith, sym, ap₂}
use Rattle.std.proofs.Math.ListN.{length-replicate}
use Rattle.basics.specs.AllLaws.{all_map}
use Rattle.basics.specs.Basics.{All, when◌then◌else◌, put_block}
use Rattle.basics.specs.TestLaws.{split}
use Rattle.settings.specs.declared.Settings.{Settings}
use Rattle.settings.specs.NumbersLaws.{old_fits}
use Rattle.stack.proofs.BufferLaws.{block_ends, length_block_at, length_put_block, put_same, put_other}
use Rattle.stack.specs.Recency.{Resident, hold, Place, place, asked, found, unused, replacing, all_pinned, refuses, halves}
use Rattle.stack.proofs.RecencyLaws.{below}
use Rattle.stack.specs.Stack.{Plain, Step, Work, read, write, purge, flush, tick, invalid, leaving, saved_all, present, access, pin, unpin}
use Rattle.stack.proofs.StackLaws.{hold_step, store_of, bytes_for, access_hold}
use Rattle.stack.proofs.SavedLaws.{saved_all_length}
use Rattle.stack.specs.Entries.{Cache, entry_bytes, plain, entry_for, PickAt, filled_at}
use Rattle.stack.proofs.PlaceLaws.{Placed, hits, enters, replaces, placed, all_found, refusing}
use Rattle.stack.proofs.EntriesLaws.{Fit, Residents, Proper, Entry, entry_placed, asked_placed, settled_residents, Residents_without}

-- the step as the plain stack sees it
abbrev pub plain_of : Step Cache → Step Plain
plain_of t = record { after = plain t.after; answer = t.answer; given = t.given }

-- A work word's block is below M.
abbrev pub InStore : ℕ → Work → Type 0
InStore M (read b) = b < M
InStore M (write b) = b < M
InStore M (purge b) = b < M
InStore M flush = Unit {0}
InStore M tick = Unit {0}
InStore M (pin b) = b < M
InStore M (unpin b) = b < M
InStore M invalid = Unit {0}

module _ (s : Settings) (bytes : List ℕ) (long : s.n * s.b ≤ length bytes) where
  entry_room : (e : ℕ) → 1 ≤ e → e ≤ s.n → (e - 1) * s.b + s.b ≤ length bytes
  entry_room e h g = omega (arith, block_ends s.b (e - 1) s.n (omega arith))

  entry_length : (e : ℕ) → 1 ≤ e → e ≤ s.n → length (entry_bytes s.b bytes e) ≡ s.b
  entry_length e h g = length_block_at s.b (e - 1) bytes (entry_room e h g)

  -- writing residents out keeps the store's length
  pub length_saved_all : (l : List (Resident ℕ)) → All (Fit s) l → (store : List ℕ) → s.m * s.b ≤ length store
      → length (saved_all (entry_bytes s.b bytes) s.b l store) ≡ length store
  length_saved_all l a store h =
      saved_all_length (entry_bytes s.b bytes) s.b (length store) l store
      (all_map (Fit s) _ l
      (λ x f. (entry_length x.held f.least f.most, omega (arith, block_ends s.b x.block s.m f.stored))) a) refl

  leaving_fit : (l : List (Resident ℕ)) → All (Fit s) l → (q : Place ℕ) → Placed s l q → All (Fit s) (leaving q)
  unfolding leaving
  leaving_fit l a q (hits p x n e ok up) = tt
  leaving_fit l a q (enters h) = tt
  leaving_fit l a q (refusing full all) = tt
  leaving_fit l a q (replaces v x e full u c) = (all_found (Fit s) l v x a e, tt)

  length_present : (l : List (Resident ℕ)) → All (Fit s) l → (b : ℕ) → b < s.m → (store : List ℕ) → s.m * s.b ≤ length store
      → (q : Place ℕ) → Placed s l q → length (present (entry_bytes s.b bytes) s.b b store q) ≡ s.b
  unfolding present
  length_present l a b h store g q (hits p x n e ok up) = let f = all_found (Fit s) l p x a e in entry_length x.held f.least f.most
  length_present l a b h store g q (enters t) = length_block_at s.b b store (omega (arith, block_ends s.b b s.m h))
  length_present l a b h store g q (refusing full all) = length-replicate s.b 0
  length_present l a b h store g q (replaces v x e full u c) = length_block_at s.b b store (omega (arith, block_ends s.b b s.m h))

  -- other entries' bytes stay
  others_stay : (e : ℕ) → 1 ≤ e → e ≤ s.n → (put : List ℕ) → length put ≡ s.b → (l : List (Resident ℕ)) → All (λ y. y.held ≢ e) l → All (Fit s) l
      → map (hold (entry_bytes s.b bytes)) l ≡ map (hold (entry_bytes s.b (put_block s.b (e - 1) put bytes))) l
  others_stay e h g put n [] a b = refl
  others_stay e h g put n (x ∷ l) a b =
      let ne : e - 1 ≢ x.held - 1 = λ t. a.0 (omega (arith, b.0.least)) in
      ap₂ (λ y t. hold (λ (z : ℕ). y) x ∷ t)
      (sym (put_other s.b (e - 1) (x.held - 1) put bytes n (entry_room e h g) ne))
      (others_stay e h g put n l a.1 b.1)

below_fit : (s : Settings) (l : List (Resident ℕ)) → Residents s l → (q : Place ℕ) → Placed s l q → All (Fit s) (below q)
unfolding below
below_fit s l r q (hits p x n e ok up) = (Residents_without s p l r).fit
below_fit s l r q (enters h) = r.fit
below_fit s l r q (refusing full all) = r.fit
below_fit s l r q (replaces v x e full u c) = (Residents_without s v l r).fit

-- ---- a read or a write

filled_put : (B pick : ℕ) (put bytes : List ℕ) (q : Place ℕ) → T (not (refuses q))
    → filled_at B pick q put bytes ≡ put_block B (entry_for pick q - 1) put bytes
unfolding filled_at entry_for refuses
filled_put B pick put bytes (found x l) t = refl
filled_put B pick put bytes (unused l) t = refl
filled_put B pick put bytes (replacing v l) t = refl
filled_put B pick put bytes (all_pinned l) t = absurd t

filled_none : (B pick : ℕ) (put bytes : List ℕ) (q : Place ℕ) → T (refuses q) → filled_at B pick q put bytes ≡ bytes
unfolding filled_at refuses
filled_none B pick put bytes (found x l) t = absurd t
filled_none B pick put bytes (unused l) t = absurd t
filled_none B pick put bytes (replacing v l) t = absurd t
filled_none B pick put bytes (all_pinned l) t = refl

module _ (c : Cache) (proper : Proper c) (b : ℕ) (inside : b < c.stack.settings.m) (written : Bool) (incoming : List ℕ) (pick : ℕ)
    (brings : T written → length incoming ≡ c.stack.settings.b) where
  abbrev s : Settings
  s = c.stack.settings

  abbrev l : List (Resident ℕ)
  l = c.stack.residents

  abbrev f : ℕ → List ℕ
  f = entry_bytes s.b c.bytes

  abbrev q : Place ℕ
  q = place s b l

  abbrev put : List ℕ
  put = bytes_for f c.stack b written incoming

  abbrev kept : List ℕ
  kept = filled_at s.b pick q put c.bytes

  at_place : Placed s l q
  at_place =
      placed s l proper.legal.some_old (old_fits c.stack.settings proper.legal) proper.legal.few_chains proper.residents.few
      (all_map (Fit s) _ l (λ x t. t.legal) proper.residents.fit) b

  store_length_lem : length (store_of f c.stack b written incoming) ≡ length c.stack.store
  store_length_lem =
      let fit = leaving_fit s c.bytes proper.bytes l proper.residents.fit q at_place in
      length_saved_all s c.bytes proper.bytes (leaving q) fit c.stack.store (let h = proper.store in omega arith)

  put_length : length put ≡ s.b
  put_length = go written brings
    where
      go : (w : Bool) → (T w → length incoming ≡ s.b) → length
          (when w then incoming else present f s.b b (store_of f c.stack b written incoming) q) ≡ s.b
      go true h = h tt
      go false h =
          length_present s c.bytes proper.bytes l proper.residents.fit b inside (store_of f c.stack b written incoming)
          (let h = proper.store in omega (arith, store_length_lem)) q at_place

  module _ (valid : PickAt s.n pick q) where
    -- the block at its entry, unless it is refused
    module _ (here : T (not (refuses q))) where
      abbrev entry : Entry s (entry_for pick q) q
      entry = entry_placed s l proper.residents pick q at_place valid here

      room : (entry_for pick q - 1) * s.b + s.b ≤ length c.bytes
      room = entry_room s c.bytes proper.bytes (entry_for pick q) entry.least entry.most

      others_put : map (hold f) (below q) ≡ map (hold (entry_bytes s.b kept)) (below q)
      others_put =
          rw (filled_put s.b pick put c.bytes q here)
          (others_stay s c.bytes proper.bytes (entry_for pick q) entry.least entry.most put put_length (below q) entry.free
          (below_fit s l proper.residents q at_place))

      there : put ≡ entry_bytes s.b kept (entry_for pick q)
      there = rw (filled_put s.b pick put c.bytes q here) (sym (put_same s.b (entry_for pick q - 1) put c.bytes put_length room))

      length_put : length kept ≡ length c.bytes
      length_put = rw (filled_put s.b pick put c.bytes q here) (length_put_block s.b (entry_for pick q - 1) put c.bytes put_length room)

    others : map (hold f) (below q) ≡ map (hold (entry_bytes s.b kept)) (below q)
    others = split (refuses q) (λ t. rw (filled_none s.b pick put c.bytes q t)) others_put

    length_kept : length kept ≡ length c.bytes
    length_kept = split (refuses q) (λ t. rw (filled_none s.b pick put c.bytes q t)) length_put

    pub access_forget : access (λ bytes. bytes) (λ q bytes. bytes) (plain c) b written incoming
        ≡ hold_step (entry_bytes s.b kept) (access f (λ q bytes. entry_for pick q) c.stack b written incoming)
    access_forget =
        access_hold f (λ bytes. bytes) (λ q bytes. entry_for pick q) (λ q bytes. bytes) f (λ e. refl) (entry_bytes s.b kept) c.stack b written
        incoming others there

    pub access_proper : Proper (record { stack = (access f (λ q bytes. entry_for pick q) c.stack b written incoming).after; bytes = kept })
    unfolding access
    access_proper =
        record {
          legal = proper.legal;
          residents =
              let next = asked b written (entry_for pick q) q in
              settled_residents s (halves s q next) next (asked_placed s l proper.residents pick b written inside q at_place valid);
          bytes = rw length_kept proper.bytes;
          store = rw store_length_lem proper.store;
        }
