-- When a word halves the counts, and what every count is then: the statements of `Averages`, from every stack that is kept.
use Prim.Native.Nat.{ℕ, zero, suc, ◌+◌, ◌*◌, ◌≤◌}
use Rattle.std.proofs.Common.{arith, subst, ◌∙◌, lt-ltb, le-ltb}
use Rattle.std.proofs.Math.Decide.{dec_le}
use Rattle.std.specs.Prelude.{◌≡◌, ◌≢◌, Bool, List, [], ◌∷◌, map, T}
use Rattle.std.proofs.Math.Path.{refl, sym, ap, ap₂}
use Rattle.std.proofs.Math.Bool.{true, false}
use Rattle.std.proofs.Math.Option
use Rattle.std.proofs.Math.Option.{Option, none, some}
use Rattle.std.proofs.Math.ListN.{length, drop, get_elem?, length-map}
use Rattle.std.proofs.Math.Dec.{eqb, ltb}
use Rattle.std.proofs.Math.Facts.{yes_eqb, no_eqb}
use Rattle.basics.specs.Basics.{when◌then◌else◌, total, without, index_of}
use Rattle.basics.specs.TestLaws.{same_or_not, if_yes, if_no}
use Rattle.settings.specs.declared.Settings.{Settings}
use Rattle.settings.specs.NumbersLaws.{legal_settings}
use Rattle.stack.specs.declared.Marks.{Marks}
use Rattle.stack.specs.Counts.{exceeds}
use Rattle.stack.specs.Recency.{asked_marks, cleared, ticked, Resident, Place, found, unused, counted, counts, position, halve, place, asked, refuses, halves, settled, lookup, removed, pinned_as, marked}
use Rattle.stack.specs.Stack.{Plain, empty, Work, read, write, purge, flush, tick, pin, unpin, invalid, Answer, hit, entered, replaced, purged, absent, flushed, miss_refused, pinned, purge_refused, halved}
use Rattle.stack.specs.Stack.{answering, access, purging, pinning, flushing, step, plain_step}
use Rattle.stack.proofs.StackLaws.{purging_either}
use Rattle.stack.specs.Batch.{work}
use Rattle.stack.proofs.PlaceLaws.{Placed, hits, enters, replaces, refusing, length_without, all_found}
use Rattle.stack.proofs.BlockLaws.{Differ, Absent, AtPlace, place_blocks, Differ_at}
use Rattle.stack.proofs.LookupLaws.{lookup_first, lookup_past, lookup_absent, lookup_without, lookup_same, lookup_at}
use Rattle.stack.proofs.SumLaws.{sum_without, full_calm, settled_sum}
use Rattle.stack.proofs.KeepLaws.{Kept, kept_placed, asked_few, fewer, sum_marked}
use Rattle.stack.proofs.StepLaws.{each_step}
use Rattle.stack.proofs.SureLaws.{empty_sure}
use Rattle.stack.specs.Averages.{Asks, count_then, Averaging, Averages, PlainAverages}

abbrev Holder : Type 0
Holder = Resident (List ℕ)

never : {X : Type 0} → ◌≡◌ {A = ℕ} 0 1 → X
never e = absurd (omega arith)

-- the same comparison, both sides raised alike
shifted : (a b c d : ℕ) → c + b ≡ a + d → ltb a b ≡ ltb c d
shifted a b c d e = go (dec_le (suc a) b)
  where
    go : Dec (suc a ≤ b) → ltb a b ≡ ltb c d
    go (yes h) = lt-ltb a b h ∙ sym (lt-ltb c d (omega arith))
    go (no h) = le-ltb a b (omega arith) ∙ sym (le-ltb c d (omega arith))

-- where a resident stands
position_at : (l : List Holder) (p : ℕ) (x : Holder) → Differ l → get_elem? l p ≡ some x → position x.block l ≡ p
unfolding index_of
position_at [] p x d e = never cc
position_at (y ∷ l) zero x d e =
    let same : y ≡ x = cc in
    if_yes (eqb y.block x.block) 0 (suc (position x.block l)) (yes_eqb (ap (λ z. z.block) same))
position_at (y ∷ l) (suc p) x d e =
    let other = all_found (λ z. z.block ≢ y.block) l p x d.0 e in
    if_no (eqb y.block x.block) 0 (suc (position x.block l)) (no_eqb (λ h. other (sym h))) ∙ ap suc (position_at l p x d.1 e)

-- whose a count was before the counts were looked at
settled_count : (t : Bool) (m : List Holder) (b : ℕ) (y : Holder) → lookup b (settled t m) ≡ some y
    → (z : Holder) × (lookup b m ≡ some z) × (y.count ≡ count_then t z.count)
unfolding settled halve
settled_count true m b y e = go (lookup b m) (sym (lookup_same b halve (λ x. refl) m) ∙ e)
  where
    go : (o : Option Holder) → Option.map halve o ≡ some y → (z : Holder) × (o ≡ some z) × (y.count ≡ count_then true z.count)
    go none g = never cc
    go (some z) g = let same : halve z ≡ y = cc in (z, refl, ap (λ x. x.count) (sym same))
settled_count false m b y e = (y, e, refl)

-- an answer other than 1, 2 and 3
abbrev is_quiet : Answer → Bool
is_quiet (hit n h) = false
is_quiet (entered h) = false
is_quiet (replaced b n o) = false
is_quiet (purged d) = true
is_quiet absent = true
is_quiet (flushed n) = true
is_quiet miss_refused = true
is_quiet (pinned on) = true
is_quiet purge_refused = true

quiet_count : (answer : Answer) → T (is_quiet answer) → (c : ℕ) → count_then (halved answer) c ≡ c
quiet_count (hit n h) t c = absurd t
quiet_count (entered h) t c = absurd t
quiet_count (replaced b n o) t c = absurd t
quiet_count (purged d) t c = refl
quiet_count absent t c = refl
quiet_count (flushed n) t c = refl
quiet_count miss_refused t c = refl
quiet_count (pinned on) t c = refl
quiet_count purge_refused t c = refl

module _ (k : Plain) (kept : Kept k) where
  abbrev s : Settings
  s = k.settings

  abbrev l : List Holder
  l = k.residents

  -- every resident of both lists has its count, but for the block asked for
  abbrev Stay : Work → List Holder → Type 0
  Stay w m = (b : ℕ) (x z : Holder) → ¬ Asks b w → lookup b l ≡ some x → lookup b m ≡ some z → z.count ≡ x.count

  others : (w : Work) (m : List Holder) (answer : Answer) (t : Bool) → halved answer ≡ t → Stay w m
      → (b : ℕ) (x y : Holder) → ¬ Asks b w → lookup b l ≡ some x → lookup b (settled t m) ≡ some y → y.count ≡ count_then (halved answer) x.count
  others w m answer t e stay b x y other here there =
      let (z, found-z, count) = settled_count t m b y there in
      rw (e, ← stay b x z other here found-z) count

  -- a word whose answer tells of no hit and no block that enters, and that leaves every count
  quiet : (w : Work) (answer : Answer) (m : List Holder) → T (is_quiet answer) → Stay w m → total (counts m) ≤ s.amax * s.n
      → Averaging k w answer m
  quiet w answer m still stay few =
      record {
        entering = λ h e. absurd (subst (λ a. T (is_quiet a)) e still);
        hitting = λ b n h x a here e. absurd (subst (λ a. T (is_quiet a)) e still);
        hit_once = λ b n h y a e there. absurd (subst (λ a. T (is_quiet a)) e still);
        others_once = λ b x y other here there. stay b x y other here there ∙ sym (quiet_count answer still x.count);
        replacing_calm = λ v n out e. absurd (subst (λ a. T (is_quiet a)) e still);
        bounded = few;
      }

  -- the residents as they were
  idle_averaging : (w : Work) (answer : Answer) → T (is_quiet answer) → Averaging k w answer l
  idle_averaging w answer still =
      quiet w answer l still (λ b x z other here there. let one : z ≡ x = cc in ap (λ y. y.count) one) kept.sums

  -- those that are left where one leaves were there
  left_there : (v : ℕ) (x : Holder) → get_elem? l v ≡ some x → (b : ℕ) (z : Holder) → lookup b (without v l) ≡ some z → lookup b l ≡ some z
  left_there v x e b z there =
      same_or_not x.block b
      (λ h. let none_left = lookup_absent b (without v l) (subst (λ i. Absent i (without v l)) h (Differ_at l v x kept.differ e)) in
      never cc)
      (λ h. sym (lookup_without b l v x e h) ∙ there)

  -- ---- a read or a write of block c

  module _ (c : ℕ) (written : Bool) (held : List ℕ) (chains : ℕ) (w : Work) (asks : Asks c w) (alone : (b : ℕ) → Asks b w → c ≡ b) where
    abbrev next : Place (List ℕ) → List Holder
    next q = asked c written held q

    abbrev halving : Place (List ℕ) → Bool
    halving q = halves s q (next q)

    after_sum : (q : Place (List ℕ)) → Placed s l q → total (counts (settled (halving q) (next q))) ≤ s.amax * s.n
    after_sum q at =
        settled_sum s l kept.sums c written held kept.legal kept.some_average q at
        (asked_few s l kept.few kept.legal c written held q at)

    -- ---- a hit

    module _ (p n : ℕ) (x : Holder) (e : get_elem? l p ≡ some x) (same : x.block ≡ c) where
      abbrev hit_at : Place (List ℕ)
      hit_at = found (counted n x) (without p l)

      hit_stays : Stay w (next hit_at)
      unfolding asked
      hit_stays b y z other here there =
          let ne : x.block ≢ b = λ h. other (subst (λ i. Asks i w) (sym same ∙ h) asks) in
          let found-z : lookup b l ≡ some z = sym (lookup_past b _ (without p l) ne ∙ lookup_without b l p x e ne) ∙ there in
          let one : z ≡ y = cc in
          ap (λ v. v.count) one

      hit_limit : halving hit_at ≡ ltb (s.amax * length l + x.count) (total (counts l) + n)
      unfolding halves refuses exceeds asked total
      hit_limit =
          let many : suc (length (counts (without p l))) ≡ length l = ap suc (length-map (without p l) (λ y. y.count)) ∙ length_without l p e in
          let h = sum_without l p x e in
          let m = ap (λ r. s.amax * r) many in
          shifted (s.amax * suc (length (counts (without p l)))) (n + total (counts (without p l)))
          (s.amax * length l + x.count) (total (counts l) + n) (omega arith)

      hit_count : (b : ℕ) (y : Holder) → Asks b w → lookup b (settled (halving hit_at) (next hit_at)) ≡ some y
          → y.count ≡ count_then (halving hit_at) n
      unfolding asked
      hit_count b y a there =
          let (z, found-z, count) = settled_count (halving hit_at) (next hit_at) b y there in
          let first = lookup_first b (record { block = x.block; count = n; marks = asked_marks written x.marks; held = held }) (without p l)
          (same ∙ alone b a) in
          let one : z ≡ record { block = x.block; count = n; marks = asked_marks written x.marks; held = held } = cc in
          count ∙ ap (λ v. count_then (halving hit_at) v.count) one

    -- ---- a block that enters, in front of the residents that stay

    entering_stays : (m : List Holder) → ((b : ℕ) (z : Holder) → lookup b m ≡ some z → lookup b l ≡ some z)
        → (new : Holder) → new.block ≡ c → Stay w (new ∷ m)
    entering_stays m stays new is b x z other here there =
        let ne : c ≢ b = λ h. other (subst (λ i. Asks i w) h asks) in
        let found-z : lookup b l ≡ some z = stays b z (sym (lookup_past b new m (λ h. ne (sym is ∙ h))) ∙ there) in
        let one : z ≡ x = cc in
        ap (λ v. v.count) one

    enter_limit : halving (unused l) ≡ ltb (s.amax * (length l + 1)) (total (counts l) + 1)
    unfolding halves refuses exceeds asked total
    enter_limit =
        let many : suc (length (counts l)) ≡ length l + 1 = omega (arith, length-map l (λ y. y.count)) in
        let m = ap (λ r. s.amax * r) many in
        shifted (s.amax * suc (length (counts l))) (1 + total (counts l)) (s.amax * (length l + 1)) (total (counts l) + 1) (omega arith)

    access_averaging : (q : Place (List ℕ)) → Placed s l q → AtPlace c q
        → Averaging k w (answering chains (halving q) q) (settled (halving q) (next q))
    unfolding answering asked halves refuses settled removed
    access_averaging q (hits p x n e ok up) at =
        record {
          entering = λ h g. never cc;
          hitting = λ b m h y a here g.
              let there : lookup b l ≡ some x = lookup_at b l p x kept.differ e (at.0 ∙ alone b a) in
              let one : x ≡ y = cc in
              let told : halving q ≡ h = cc in
              let count : n ≡ m = cc in
              sym told ∙ hit_limit p n x e at.0 ∙ ap₂ (λ (y : Holder) (m : ℕ). ltb (s.amax * length l + y.count) (total (counts l) + m)) one
              count;
          hit_once = λ b m h y a g there.
              let count : n ≡ m = cc in
              hit_count p n x e at.0 b y a there ∙ ap (count_then (halving q)) count;
          others_once = others w (next q) (hit n (halving q)) (halving q) refl (hit_stays p n x e at.0);
          replacing_calm = λ v m out g. never cc;
          bounded = after_sum q (hits p x n e ok up);
        }
    access_averaging q (enters g) at =
        record {
          entering = λ h f. let told : halving q ≡ h = cc in sym told ∙ enter_limit;
          hitting = λ b m h y a here f. never cc;
          hit_once = λ b m h y a f there. never cc;
          others_once = others w (next q) (entered (halving q)) (halving q) refl (entering_stays l (λ b z h. h) _ refl);
          replacing_calm = λ v m out f. never cc;
          bounded = after_sum q (enters g);
        }
    access_averaging q (replaces v x e full u d) at =
        let at_place : Placed s l q = replaces v x e full u d in
        let calm : halving q ≡ false = full_calm s l kept.legal kept.sums c written held q at_place tt in
        record {
          entering = λ h f. never cc;
          hitting = λ b m h y a here f. never cc;
          hit_once = λ b m h y a f there. never cc;
          others_once = others w (next q) (replaced x.block chains x.marks.modified) (halving q) (sym calm)
              (entering_stays (without v l) (left_there v x e) _ refl);
          replacing_calm = λ b m out f.
              let block : x.block ≡ b = cc in
              ap (λ t. drop 1 (settled t (next q))) calm ∙ ap (λ i. without i l) (sym (position_at l v x kept.differ e))
              ∙ ap (λ i. removed i l) block;
          bounded = after_sum q at_place;
        }
    access_averaging q (refusing full all) at = idle_averaging w miss_refused tt

  -- ---- the other words

  -- marks change
  marked_averaging : (w : Work) (answer : Answer) → T (is_quiet answer) → (change : Holder → Marks)
      → Averaging k w answer (map (λ x. marked (change x) x) l)
  marked_averaging w answer still change =
      quiet w answer (map (λ x. marked (change x) x) l) still stay (rw (sum_marked change l) kept.sums)
    where
      stay : Stay w (map (λ x. marked (change x) x) l)
      stay b x z other here there =
          let first = lookup_same b (λ y. marked (change y) y) (λ y. refl) l ∙ ap (Option.map (λ (y : Holder). marked (change y) y)) here in
          let one : marked (change x) x ≡ z = cc in
          ap (λ y. y.count) (sym one)

  -- a resident leaves
  removed_averaging : (w : Work) (answer : Answer) → T (is_quiet answer) → (c : ℕ) (y : Holder) → lookup c l ≡ some y
      → Averaging k w answer (removed c l)
  unfolding removed lookup
  removed_averaging w answer still c y e =
      quiet w answer (removed c l) still stay (let a = fewer l (position c l) in let b = kept.sums in omega arith)
    where
      stay : Stay w (without (position c l) l)
      stay b x z other here there =
          let found-z : lookup b l ≡ some z = left_there (position c l) y e b z there in
          let one : z ≡ x = cc in
          ap (λ v. v.count) one

  purging_averages : (c : ℕ) (o : Option Holder) → lookup c l ≡ o → Averages k (purge c) (purging (λ bytes. bytes) (λ q bytes. bytes) k c o)
  unfolding purging
  purging_averages c none e = idle_averaging (purge c) absent tt
  purging_averages c (some x) e =
      purging_either (λ bytes. bytes) (λ q bytes. bytes) (Averages k (purge c)) k c x
      (λ t. idle_averaging (purge c) purge_refused tt)
      (λ t. removed_averaging (purge c) (purged x.marks.modified) tt c x e)

  pinning_averages : (w : Work) (c : ℕ) (on : Bool) (o : Option Holder) → Averages k w (pinning (λ bytes. bytes) (λ q bytes. bytes) k c on o)
  unfolding pinning
  pinning_averages w c on none = idle_averaging w absent tt
  pinning_averages w c on (some x) = marked_averaging w (pinned on) tt (λ y. when eqb y.block c then pinned_as on y.marks else y.marks)

  pub step_averages : (w : Work) (incoming : List ℕ) → Averages k w (plain_step k w incoming)
  unfolding plain_step step access flushing
  step_averages (read b) incoming =
      access_averaging b false _ _ (read b) refl (λ c e. e) (place s b l) (kept_placed k kept b) (place_blocks s b l kept.differ)
  step_averages (write b) incoming =
      access_averaging b true _ _ (write b) refl (λ c e. e) (place s b l) (kept_placed k kept b) (place_blocks s b l kept.differ)
  step_averages (purge b) incoming = purging_averages b (lookup b l) refl
  step_averages flush incoming = marked_averaging flush (flushed _) tt (λ x. cleared x.marks)
  step_averages tick incoming = marked_averaging tick (flushed _) tt (λ x. ticked x.marks)
  step_averages (pin b) incoming = pinning_averages (pin b) b true (lookup b l)
  step_averages (unpin b) incoming = pinning_averages (unpin b) b false (lookup b l)
  step_averages invalid incoming = idle_averaging invalid absent tt

pub plain_averages : PlainAverages
plain_averages s store words incoming legal =
    each_step Averages step_averages s.b (empty s store) (empty_sure s store (legal_settings s legal)).kept (map (work s) words) incoming
