-- Words that stand for a recency stack and totals, and the look at the counts that ends a read or a write. Assumes nothing.
use Rattle.std.specs.Prelude.{ℕ, ◌+◌, ◌*◌, ◌≡◌, refl, Bool, true, false, List, map, length}
use Rattle.std.proofs.Common.{◌∙◌, sym, ap, ap₂, arith}
use Rattle.std.proofs.lemmas.List.{length-map}
use Rattle.basics.specs.Basics.{pick}
use Rattle.basics.specs.Basics as basics
use Rattle.words.specs.Words.{val}
use Rattle.settings.specs.declared.Settings.{Settings}
use Rattle.stack.specs.Recency.{Resident, counts, halve, settled}
use Rattle.stack.specs.Stack.{Totals}
use Rattle.layout.specs.Addresses.{TO-HEAD, AVERAGE-LIMIT, BLOCK-SIZE, RESIDENTS, SUM, READS, WRITES, INS, OUTS}
use Rattle.linkage.specs.Fields.{Shape, Fields, base, header, in_header, view_get}
use Rattle.linkage.specs.WellLinked.{total}
use Rattle.word_ops.specs.Halve.{halved}
use Rattle.operations.specs.Directory.{Directory}
use Rattle.operations.specs.FieldOps.{clear, halve_one}
use Rattle.operations.specs.HalveSound.{halveD, halve_sound}
use Rattle.operations.specs.HalveKeeps.{halve_keeps}
use Rattle.operations.specs.Residents.{Of, resident, residents_of}
use Rattle.operations.specs.After.{halve_residents}
use Rattle.operations.specs.Average.{sum_is}
use Rattle.operations.specs.Counted.{totals_of, same_totals}

-- The two settings that the working form leaves out.
pub record Given (t : Settings) (D : Fields) : Type 0 where
  pub average : D (in_header AVERAGE-LIMIT) 0 ≡ t.amax
  pub bytes : D (in_header BLOCK-SIZE) 0 ≡ t.b

-- The words are a sound directory of these settings, but that the sum may be past its limit; its residents, most recent first, and
-- its totals are these. A resident holds its entry.
pub record Stands (t : Settings) (s : Shape) (w : List ℕ) (l : List (Resident ℕ)) (totals : Totals) : Type 0 where
  pub fields : Fields
  pub order : List ℕ
  pub unused : List ℕ
  pub directory : Directory s w fields order unused
  pub seen : residents_of fields order ≡ l
  pub counted : totals_of fields ≡ totals
  pub given : Given t fields

pub sum_word : (s : Shape) (w : List ℕ) (D : Fields) (residents unused : List ℕ) → Directory s w D residents unused → val w SUM ≡ D (in_header SUM) 0
sum_word s w D residents unused g = view_get s w D g.view (in_header SUM) 0 SUM (header refl refl (omega arith) (omega arith) (omega arith))

-- the sum that the words keep is that of the counts
pub stands_sum : (t : Settings) (s : Shape) (w : List ℕ) (l : List (Resident ℕ)) (totals : Totals) → Of t s → Stands t s w l totals
    → val w SUM ≡ basics.total (counts l)
stands_sum t s w l totals of g =
    sum_word s w g.fields g.order g.unused g.directory
    ∙ sym (sum_is t s g.fields g.order g.unused of g.directory.linked)
    ∙ ap (λ (m : List (Resident ℕ)). basics.total (counts m)) g.seen

-- and they keep r
pub stands_many : (t : Settings) (s : Shape) (w : List ℕ) (l : List (Resident ℕ)) (totals : Totals) → Stands t s w l totals
    → val w RESIDENTS ≡ length l
stands_many t s w l totals g =
    view_get s w g.fields g.directory.view (in_header RESIDENTS) 0 RESIDENTS (header refl refl (omega arith) (omega arith) (omega arith))
    ∙ sym g.directory.linked.stack.full ∙ sym (length-map g.order (resident g.fields)) ∙ ap length g.seen

-- ---- the counts are looked at

halve_totals : (s : Shape) (n : ℕ) (D : Fields) → totals_of (halveD s n D) ≡ totals_of D
halve_totals s n D =
    same_totals _ _ _ _ _ _ _ _ (both (in_header READS) (λ E x. refl) (λ E x. refl)) (both (in_header WRITES) (λ E x. refl) (λ E x. refl))
    (both (in_header INS) (λ E x. refl) (λ E x. refl)) (both (in_header OUTS) (λ E x. refl) (λ E x. refl))
  where
    keeps : (k : ℕ) → ((E : Fields) (x : ℕ) → halve_one s E x k ≡ E k) → halveD s n D k ≡ clear s.cmax D k
    keeps k h = halve_keeps s k h n (D TO-HEAD 0) (clear s.cmax D)

    both : (k : ℕ) → ((E : Fields) (x : ℕ) → halve_one s E x k ≡ E k) → ((E : Fields) (x : ℕ) → halve_one s E x (k + 1) ≡ E (k + 1))
        → total (halveD s n D) k ≡ total (clear s.cmax D) k
    both k p q = ap₂ (λ (f g : ℕ → ℕ). f 0 + 268435456 * g 0) (keeps k p) (keeps (k + 1) q)

halve_given : (t : Settings) (s : Shape) (n : ℕ) (D : Fields) → Given t D → Given t (halveD s n D)
halve_given t s n D g =
    record {
      average = at (in_header AVERAGE-LIMIT) (λ E x. refl) 0 ∙ g.average;
      bytes = at (in_header BLOCK-SIZE) (λ E x. refl) 0 ∙ g.bytes;
    }
  where
    at : (k : ℕ) → ((E : Fields) (x : ℕ) → halve_one s E x k ≡ E k) → (i : ℕ) → halveD s n D k i ≡ clear s.cmax D k i
    at k h i = ap (λ (f : ℕ → ℕ). f i) (halve_keeps s k h n (D TO-HEAD 0) (clear s.cmax D))

-- whether or not they are halved
pub settle_step : (t : Settings) (s : Shape) (w : List ℕ) (l : List (Resident ℕ)) (totals : Totals) (b : Bool) → Stands t s w l totals
    → Stands t s (pick b (halved w (base s) s.cmax) w) (settled b l) totals
unfolding settled
settle_step t s w l totals true g =
    record {
      fields = halveD s (length g.order) g.fields;
      order = g.order;
      unused = g.unused;
      directory = (halve_sound s w g.fields g.order g.unused g.directory).sound;
      seen = halve_residents s w g.fields g.order g.unused g.directory ∙ ap (map halve) g.seen;
      counted = halve_totals s (length g.order) g.fields ∙ g.counted;
      given = halve_given t s (length g.order) g.fields g.given;
    }
settle_step t s w l totals false g = g
