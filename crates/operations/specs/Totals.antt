-- A total goes up by one, and the directory stays sound. Assumes nothing.
use Rattle.std.specs.Prelude.{ℕ, ◌+◌, ◌*◌, ◌≤◌, ◌<◌, ◌-◌, ◌%◌, ◌^◌, ◌≡◌, refl, Bool, true, false, List, eqb}
use Rattle.std.proofs.Common.{arith, eqb-true}
use Rattle.std.proofs.lemmas.Bool.{eqb-false}
use Rattle.basics.specs.Basics.{pick}
use Rattle.words.specs.Words.{set_number}
use Rattle.layout.specs.Addresses.{READS, WRITES, INS, OUTS, MODIFIED}
use Rattle.linkage.specs.Fields.{Shape, Fields, setF, put1, kind, Address, header, in_header, View, view_get}
use Rattle.linkage.specs.WellLinked.{Sum, total}
use Rattle.word_ops.specs.Totals.{total_raised}
use Rattle.operations.specs.Directory.{Directory}
use Rattle.operations.specs.Stores.{view_id, view_number1}

-- the total in the header's word `low` and the next
abbrev pub raise_total : Fields → ℕ → Fields
raise_total D low =
    let k = in_header low in
    let l = in_header (low + 1) in
    let b = eqb (D k 0) 268435455 in
    setF (setF D k (pick b (λ _. 0) (λ _. D k 0 + 1))) l (pick b (λ _. D l 0 + 1) (D l))

view_raised : (s : Shape) (w : List ℕ) (D : Fields) (i : ℕ) → View s w D → i + 1 < 24 → 15 < i → kind (in_header i) ≡ 1 → kind (in_header (i + 1)) ≡ 1
    → ((f : ℕ → ℕ) → setF D (in_header i) f (in_header (i + 1)) ≡ D (in_header (i + 1)))
    → D (in_header i) 0 + 268435456 * D (in_header (i + 1)) 0 < 2 ^ 56 - 1 → View s (total_raised w i (i + 1)) (raise_total D i)
unfolding total_raised
view_raised s w D i g h1 h2 k1 k2 q m =
    rw (view_get s w D g k 0 i si, view_get s w D g l 0 j sj) (go (eqb (D k 0) 268435455) refl)
  where
    j : ℕ
    j = i + 1

    k : ℕ
    k = in_header i

    l : ℕ
    l = in_header (i + 1)

    si : Address s k 0 i
    si = header refl refl (omega arith) (omega arith) (omega arith)

    sj : Address s l 0 j
    sj = header refl refl h1 (omega arith) (omega arith)

    go : (b : Bool) → eqb (D k 0) 268435455 ≡ b → View s (pick b (set_number (set_number w i 0) j (D l 0 + 1)) (set_number w i (D k 0 + 1)))
        (setF (setF D k (pick b (λ _. 0) (λ _. D k 0 + 1))) l (pick b (λ _. D l 0 + 1) (D l)))
    go true c =
        view_number1 s (set_number w i 0) (put1 D k 0) (view_number1 s w D g i 0 (omega arith) (omega arith) (omega arith) k1 (omega arith)) j
        (D l 0 + 1) h1 (omega arith) (omega arith) k2 (omega (arith, m, eqb-true (D k 0) 268435455 c))
    go false c =
        let f : D k 0 < 268435456 = g.small k 0 i si in
        let n : ¬ (D k 0 ≡ 268435455) = eqb-false (D k 0) 268435455 c in
        view_id s (set_number w i (D k 0 + 1)) (put1 D k (D k 0 + 1)) l (D l) (q (λ _. D k 0 + 1))
        (view_number1 s w D g i (D k 0 + 1) (omega arith) (omega arith) (omega arith) k1 (omega arith))

-- ---- the total is one more

raised_by_lem : (b : Bool) (lo hi : ℕ) → eqb lo 268435455 ≡ b → pick b 0 (lo + 1) + 268435456 * pick b (hi + 1) hi ≡ lo + 268435456 * hi + 1
raised_by_lem true lo hi q = omega (arith, eqb-true lo 268435455 q)
raised_by_lem false lo hi q = omega arith

at_0 : (b : Bool) (f g : ℕ → ℕ) → pick {A = ℕ → ℕ} b f g 0 ≡ pick b (f 0) (g 0)
at_0 true f g = refl
at_0 false f g = refl

up : (lo hi : ℕ → ℕ) → pick {A = ℕ → ℕ} (eqb (lo 0) 268435455) (λ _. 0) (λ _. lo 0 + 1) 0 + 268435456 * pick {A = ℕ → ℕ} (eqb (lo 0) 268435455)
    (λ _. hi 0 + 1) hi 0 ≡ lo 0 + 268435456 * hi 0 + 1
up lo hi =
    omega (
      arith,
      at_0 (eqb (lo 0) 268435455) (λ _. 0) (λ _. lo 0 + 1),
      at_0 (eqb (lo 0) 268435455) (λ _. hi 0 + 1) hi,
      raised_by_lem
          (eqb (lo 0) 268435455) (lo 0) (hi 0) refl,
    )

pub read_total : (D : Fields) → total (raise_total D READS) (in_header READS) ≡ total D (in_header READS) + 1
read_total D = up (D (in_header READS)) (D (in_header (READS + 1)))

pub write_total : (D : Fields) → total (raise_total D WRITES) (in_header WRITES) ≡ total D (in_header WRITES) + 1
write_total D = up (D (in_header WRITES)) (D (in_header (WRITES + 1)))

pub in_total : (D : Fields) → total (raise_total D INS) (in_header INS) ≡ total D (in_header INS) + 1
in_total D = up (D (in_header INS)) (D (in_header (INS + 1)))

pub out_total : (D : Fields) → total (raise_total D OUTS) (in_header OUTS) ≡ total D (in_header OUTS) + 1
out_total D = up (D (in_header OUTS)) (D (in_header (OUTS + 1)))

-- ---- each total

module _ (s : Shape) (w : List ℕ) (D : Fields) (residents unused : List ℕ) (g : Directory s w D residents unused) where
  -- a read is counted
  pub read_sound : total D (in_header READS) < 2 ^ 56 - 1 → Directory s (total_raised w READS (READS + 1)) (raise_total D READS) residents unused
  read_sound m =
      let h = g.linked in
      record {
        view = view_raised s w D READS g.view (omega arith) (omega arith) refl refl (λ f. refl) m;
        linked = record {
          legal = h.legal;
          settled = h.settled;
          stack = h.stack;
          count = h.count;
          chain = h.chain;
          hash = h.hash;
          flags =
              record {
                bits = h.flags.bits;
                idle = h.flags.idle;
                in_read = omega (arith, read_total D, h.flags.in_read);
                out_written =
                    h.flags.out_written;
              };
        };
      }

  -- a write is counted
  pub write_sound : total D (in_header WRITES) < 2 ^ 56 - 1 → Directory s (total_raised w WRITES (WRITES + 1)) (raise_total D WRITES) residents unused
  write_sound m =
      let h = g.linked in
      record {
        view = view_raised s w D WRITES g.view (omega arith) (omega arith) refl refl (λ f. refl) m;
        linked = record {
          legal = h.legal;
          settled = h.settled;
          stack = h.stack;
          count = h.count;
          chain = h.chain;
          hash = h.hash;
          flags =
              record {
                bits = h.flags.bits;
                idle = h.flags.idle;
                in_read = h.flags.in_read;
                out_written =
                    omega (arith, write_total D, h.flags.out_written);
              };
        };
      }

  -- a block in is counted, after its read
  pub in_sound : total D (in_header INS) < 2 ^ 56 - 1 → total D (in_header INS) + 1 ≤ total D (in_header READS)
      → Directory s (total_raised w INS (INS + 1)) (raise_total D INS) residents unused
  in_sound m l =
      let h = g.linked in
      record {
        view = view_raised s w D INS g.view (omega arith) (omega arith) refl refl (λ f. refl) m;
        linked = record {
          legal = h.legal;
          settled = h.settled;
          stack = h.stack;
          count = h.count;
          chain = h.chain;
          hash = h.hash;
          flags =
              record { bits = h.flags.bits; idle = h.flags.idle; in_read = omega (arith, in_total D, l); out_written = h.flags.out_written };
        };
      }

  -- a block out is counted, after the mark was cleared
  pub out_sound : total D (in_header OUTS) < 2 ^ 56 - 1 → total D (in_header OUTS) + 1 + Sum s.N (λ x. D MODIFIED x % 2) ≤ total D (in_header WRITES)
      → Directory s (total_raised w OUTS (OUTS + 1)) (raise_total D OUTS) residents unused
  out_sound m l =
      let h = g.linked in
      record {
        view = view_raised s w D OUTS g.view (omega arith) (omega arith) refl refl (λ f. refl) m;
        linked = record {
          legal = h.legal;
          settled = h.settled;
          stack = h.stack;
          count = h.count;
          chain = h.chain;
          hash = h.hash;
          flags = record { bits = h.flags.bits; idle = h.flags.idle; in_read = h.flags.in_read; out_written = omega (arith, out_total D, l) };
        };
      }
