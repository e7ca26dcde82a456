-- Naturality of a work word's step: what residents hold may be replaced by what it stands for.
use Rattle.std.specs.Prelude.{ℕ, ◌+◌, ◌≡◌, Bool, not, T}
use Rattle.std.proofs.Math.Path.{refl, ap}
use Rattle.std.proofs.Common.{◌∙◌}
use Rattle.std.proofs.Math.Bool.{true, false}
use mathlib.Core.List.{List, [], ◌∷◌, map}
use Rattle.std.proofs.Math.Option
use Rattle.std.proofs.Math.Option.{Option, none, some}
use Rattle.std.proofs.Math.ListN.{length-map}
use Rattle.basics.specs.Basics.{when◌then◌else◌, total, bit}
use Rattle.basics.specs.Lists.{those}
use Rattle.stack.specs.declared.Marks.{Marks}
use Rattle.stack.specs.Recency.{Resident, hold, Place, found, unused, replacing, place, lookup, all_pinned, removed, refuses}
use Rattle.stack.proofs.RecencyLaws.{hold_place, place_hold, settled_hold, remarked_hold, those_hold, lookup_hold, removed_hold, below, asked_hold, halves_hold, counts_pins_hold, pin_at_hold}
use Rattle.stack.specs.Stack.{Stack, Step, purge, saved, saved_all, leaving, present, entering, modified_count, answering, access, purging, flushing, step, purge_refused, purged, rearranged, idle, pinning, Work, pin, unpin, Answer}
use Rattle.basics.specs.TestLaws.{if_either}

module _ {A B : Type 0} (f : A → B) where
  abbrev pub hold_stack : Stack A → Stack B
  hold_stack k = record { settings = k.settings; residents = map (hold f) k.residents; store = k.store; totals = k.totals }

  abbrev pub hold_step : Step (Stack A) → Step (Stack B)
  hold_step t = record { after = hold_stack t.after; answer = t.answer; given = t.given }

  leaving_hold : (q : Place A) → leaving (hold_place f q) ≡ map (hold f) (leaving q)
  unfolding leaving hold_place
  leaving_hold (found x l) = refl
  leaving_hold (unused l) = refl
  leaving_hold (replacing v l) = refl
  leaving_hold (all_pinned l) = refl

  entering_hold : (q : Place A) → entering (hold_place f q) ≡ entering q
  unfolding entering hold_place
  entering_hold (found x l) = refl
  entering_hold (unused l) = refl
  entering_hold (replacing v l) = refl
  entering_hold (all_pinned l) = refl

  pub marks_hold : (l : List (Resident A)) → modified_count (map (hold f) l) ≡ modified_count l
  unfolding modified_count total
  marks_hold [] = refl
  marks_hold (x ∷ l) = ap (λ n. bit x.marks.modified + n) (marks_hold l)

  answering_hold : (n : ℕ) (h : Bool) (q : Place A) → answering n h (hold_place f q) ≡ answering n h q
  unfolding answering hold_place
  answering_hold n h (found x l) = refl
  answering_hold n h (unused l) = refl
  answering_hold n h (replacing v l) = refl
  answering_hold n h (all_pinned l) = refl

module _ {A B : Type 0} (bytes_of : A → List ℕ) (bytesOf' : B → List ℕ) (f : A → B) (same : (a : A) → bytesOf' (f a) ≡ bytes_of a) where
  saved_hold : (size : ℕ) (x : Resident A) (store : List ℕ) → saved bytesOf' size (hold f x) store ≡ saved bytes_of size x store
  unfolding saved
  saved_hold size x store = rw (same x.held)

  saved_all_hold : (size : ℕ) (l : List (Resident A)) (store : List ℕ) → saved_all bytesOf' size (map (hold f) l) store ≡ saved_all bytes_of size l store
  unfolding saved_all
  saved_all_hold size [] store = refl
  saved_all_hold size (x ∷ l) store =
      ap (saved_all bytesOf' size (map (hold f) l)) (saved_hold size x store) ∙ saved_all_hold size l (saved bytes_of size x store)

  present_hold : (size b : ℕ) (store : List ℕ) (q : Place A) → present bytesOf' size b store (hold_place f q) ≡ present bytes_of size b store q
  unfolding present hold_place
  present_hold size b store (found x l) = same x.held
  present_hold size b store (unused l) = refl
  present_hold size b store (replacing v l) = refl
  present_hold size b store (all_pinned l) = refl

-- what a read or a write finds or brings
module _ {A : Type 0} (bytes_of : A → List ℕ) (k : Stack A) (b : ℕ) (written : Bool) (incoming : List ℕ) where
  abbrev pub place_of : Place A
  place_of = place k.settings b k.residents

  abbrev pub store_of : List ℕ
  store_of = saved_all bytes_of k.settings.b (leaving place_of) k.store

  abbrev pub bytes_for : List ℕ
  bytes_for = when written then incoming else present bytes_of k.settings.b b store_of place_of

-- what holds of a purge that is refused and of one that isn't holds of a purge
pub purging_either : {A : Type 0} (bytes_of : A → List ℕ) (keep : Place A → List ℕ → A) (P : Step (Stack A) → Type 0) (k : Stack A) (b : ℕ)
    (x : Resident A) → (T x.marks.pinned → P (idle k purge_refused))
    → (T (not x.marks.pinned) → P (rearranged k (removed b k.residents) (purged x.marks.modified)))
    → P (purging bytes_of keep k b (some x))
unfolding purging
purging_either bytes_of keep P k b x = if_either P x.marks.pinned _ _

module _ {A B : Type 0} (bytes_of : A → List ℕ) (bytesOf' : B → List ℕ) (keep : Place A → List ℕ → A) (keep' : Place B → List ℕ → B)
    (f : A → B) (same : (a : A) → bytesOf' (f a) ≡ bytes_of a) where
  -- A read or a write, after which things may stand for other bytes (g), though not those that the residents below hold.
  module _ (g : A → B) (k : Stack A) (b : ℕ) (written : Bool) (incoming : List ℕ) where
    abbrev q : Place A
    q = place k.settings b k.residents

    abbrev bytes : List ℕ
    bytes = bytes_for bytes_of k b written incoming

    pub access_hold : map (hold f) (below q) ≡ map (hold g) (below q) → (T (not (refuses q)) → keep' (hold_place f q) bytes ≡ g (keep q bytes))
        → access bytesOf' keep' (hold_stack f k) b written incoming ≡ hold_step g (access bytes_of keep k b written incoming)
    unfolding access
    access_hold others kept =
        rw (
          place_hold f k.settings b k.residents,
          leaving_hold f q,
          saved_all_hold bytes_of bytesOf' f same k.settings.b (leaving q) k.store,
          present_hold bytes_of bytesOf' f same k.settings.b b (store_of bytes_of k b written incoming) q,
          asked_hold f g b written (keep q bytes) (keep' (hold_place f q) bytes) q others kept,
          halves_hold f g,
          settled_hold g,
          entering_hold f q,
          marks_hold f (leaving q),
          counts_pins_hold,
          answering_hold f,
        )

  purging_hold : (k : Stack A) (b : ℕ) (o : Option (Resident A))
      → purging bytesOf' keep' (hold_stack f k) b (Option.map (hold f) o) ≡ hold_step f (purging bytes_of keep k b o)
  unfolding purging
  purging_hold k b none = refl
  purging_hold k b (some x) = go x.marks.pinned
    where
      gone : Answer
      gone = purged x.marks.modified

      go : (p : Bool) → (when p then idle (hold_stack f k) purge_refused else rearranged (hold_stack f k) (removed b (map (hold f) k.residents)) gone)
          ≡ hold_step f (when p then idle k purge_refused else rearranged k (removed b k.residents) gone)
      go true = refl
      go false = rw (removed_hold f b k.residents)

  pinning_hold : (k : Stack A) (b : ℕ) (on : Bool) (o : Option (Resident A))
      → pinning bytesOf' keep' (hold_stack f k) b on (Option.map (hold f) o) ≡ hold_step f (pinning bytes_of keep k b on o)
  unfolding pinning
  pinning_hold k b on none = refl
  pinning_hold k b on (some x) = rw (pin_at_hold f on b k.residents)

  -- the other words leave all bytes where they are
  module _ (k : Stack A) (b : ℕ) (incoming : List ℕ) where
    abbrev Holds : Work → Type 0
    Holds w = step bytesOf' keep' (hold_stack f k) w incoming ≡ hold_step f (step bytes_of keep k w incoming)

    pub purge_hold : Holds (purge b)
    unfolding step
    purge_hold = rw (lookup_hold f b k.residents) (purging_hold k b (lookup b k.residents))

    pub pin_hold : Holds (pin b)
    unfolding step
    pin_hold = rw (lookup_hold f b k.residents) (pinning_hold k b true (lookup b k.residents))

    pub unpin_hold : Holds (unpin b)
    unfolding step
    unpin_hold = rw (lookup_hold f b k.residents) (pinning_hold k b false (lookup b k.residents))

  pub flushing_hold : (k : Stack A) (chosen : Marks → Bool) (change : Marks → Marks)
      → flushing bytesOf' keep' (hold_stack f k) chosen change ≡ hold_step f (flushing bytes_of keep k chosen change)
  unfolding flushing
  flushing_hold k chosen change =
      let out = those (λ x. chosen x.marks) k.residents in
      rw (
        those_hold f chosen k.residents,
        remarked_hold f change k.residents,
        length-map out (hold f),
        saved_all_hold bytes_of bytesOf' f same k.settings.b out k.store,
      )
