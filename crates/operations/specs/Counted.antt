-- The totals that the fields hold, once a read or a write was counted, are those of the stack. Assumes nothing.
use Rattle.std.specs.Prelude.{ℕ, ◌+◌, ◌≡◌, refl, Bool, true, false, not, List}
use Rattle.std.proofs.Common.{arith}
use Rattle.basics.specs.Basics.{bit}
use Rattle.basics.specs.Basics as basics
use Rattle.stack.specs.Recency.{Resident, Place, found, unused, replacing, all_pinned}
use Rattle.stack.specs.Stack.{Totals, access_totals, entering, leaving, modified_count}
use Rattle.layout.specs.Addresses.{READS}
pub use Rattle.linkage.specs.Return.{totals_of}
use Rattle.linkage.specs.Fields.{Fields}
use Rattle.operations.specs.Totals.{read_total, write_total, in_total, out_total, raise_total}
use Rattle.operations.specs.Miss.{accessD, missD, out_if}

-- each total raised
abbrev pub raised_by : Totals → ℕ → ℕ → ℕ → ℕ → Totals
raised_by t reads writes ins outs = record { reads = t.reads + reads; writes = t.writes + writes; ins = t.ins + ins; outs = t.outs + outs }

-- those of the stack once a block was asked for, whose place is this
abbrev pub totals_after : Bool → Place ℕ → Totals → Totals
totals_after written q t = access_totals t written q

pub same_totals : (a b c d a' b' c' d' : ℕ) → a ≡ a' → b ≡ b' → c ≡ c' → d ≡ d'
    → ◌≡◌ {A = Totals} (record { reads = a; writes = b; ins = c; outs = d }) (record { reads = a'; writes = b'; ins = c'; outs = d' })
same_totals a b c d a' b' c' d' p q r o = λ i. record { reads = p i; writes = q i; ins = r i; outs = o i }

-- ---- by the place

pub after_found : (written : Bool) (x : Resident ℕ) (l : List (Resident ℕ)) (t : Totals)
    → raised_by t (bit (not written)) (bit written) 0 0 ≡ totals_after written (found x l) t
unfolding entering leaving modified_count basics.total
after_found true x l t = refl
after_found false x l t = refl

pub after_unused : (written : Bool) (l : List (Resident ℕ)) (t : Totals)
    → raised_by t (bit (not written)) (bit written) (bit (not written)) 0 ≡ totals_after written (unused l) t
unfolding entering leaving modified_count basics.total
after_unused true l t = refl
after_unused false l t = refl

pub after_replacing : (written : Bool) (v : Resident ℕ) (l : List (Resident ℕ)) (t : Totals)
    → raised_by t (bit (not written)) (bit written) (bit (not written)) (bit v.marks.modified) ≡ totals_after written (replacing v l) t
unfolding entering leaving modified_count basics.total
after_replacing true v l t = same_totals _ _ _ _ _ _ _ _ refl refl refl (omega arith)
after_replacing false v l t = same_totals _ _ _ _ _ _ _ _ refl refl refl (omega arith)

pub after_refused : (written : Bool) (l : List (Resident ℕ)) (t : Totals)
    → raised_by t (bit (not written)) (bit written) 0 0 ≡ totals_after written (all_pinned l) t
unfolding entering leaving modified_count basics.total
after_refused true l t = refl
after_refused false l t = refl

-- ---- in the fields

pub access_totals_lem : (D : Fields) (written : Bool) → totals_of (accessD written D) ≡ raised_by (totals_of D) (bit (not written)) (bit written) 0 0
access_totals_lem D true = same_totals _ _ _ _ _ _ _ _ (omega arith) (write_total D) (omega arith) (omega arith)
access_totals_lem D false = same_totals _ _ _ _ _ _ _ _ (read_total D) (omega arith) (omega arith) (omega arith)

pub miss_totals : (D : Fields) (written : Bool) → totals_of (missD written D) ≡ raised_by (totals_of D) (bit (not written)) (bit written)
    (bit (not written)) 0
miss_totals D true = same_totals _ _ _ _ _ _ _ _ (omega arith) (write_total D) (omega arith) (omega arith)
miss_totals D false = same_totals _ _ _ _ _ _ _ _ (read_total D) (omega arith) (in_total (raise_total D READS)) (omega arith)

pub out_totals : (D : Fields) (out : Bool) → totals_of (out_if out D) ≡ raised_by (totals_of D) 0 0 0 (bit out)
out_totals D true = same_totals _ _ _ _ _ _ _ _ (omega arith) (omega arith) (omega arith) (out_total D)
out_totals D false = same_totals _ _ _ _ _ _ _ _ (omega arith) (omega arith) (omega arith) (omega arith)
