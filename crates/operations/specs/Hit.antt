-- A hit keeps a directory sound. Assumes nothing.
use Rattle.std.specs.Prelude.{ℕ, zero, suc, ◌+◌, ◌-◌, ◌≤◌, ◌<◌, ◌≡◌, refl, Bool, true, false, not, List, [], ◌∷◌, ◌++◌, eqb, leb, ltb, length, get_or}
use Rattle.std.proofs.Common.{ap, arith, ltb-true, eq-eqb, ne_eqb, le-leb}
use Rattle.std.proofs.Math.Decide.{ℕ_discrete, dec_le}
use Rattle.basics.specs.Basics.{pick, All}
use Rattle.links.specs.Upd.{upd, upd_other}
use Rattle.links.specs.Off.{Off, off_less}
use Rattle.links.specs.All.{all_here, all_less, all_at}
use Rattle.layout.specs.Addresses.{SUM, NEW-BOUNDARY, OLD-BOUNDARY, BLOCK, COUNT, SECTION, MODIFIED, TO-HEAD, NEXT-SYNONYM}
use Rattle.linkage.specs.Fields.{Shape, base, Fields, BUCKET-HEADS, in_header}
use Rattle.linkage.specs.Positions.{mark, mark_in, mark_out, Sec, upd_at}
use Rattle.linkage.specs.WellLinked.{WellLinked, Entry}
use Rattle.linkage.specs.WellLinkedLaws.{alive_upd, hash_alive, flags_alive}
use Rattle.word_ops.specs.Hit.{raised_count, hit}
use Rattle.operations.specs.FieldOps.{cross, lower, shift, front, chain_out, hitD}
use Rattle.operations.specs.Positions.{rot, length_us, length_front}
use Rattle.operations.specs.HitPlaces.{crossed, first_shift}
use Rattle.operations.specs.HitChains.{out_chains}
use Rattle.operations.specs.Front.{entries, entry_e, off_e, once, safe, safe_e, safe_up, safe_down, safe_head, at_old, at_new, front_stack}
use Rattle.operations.specs.Recount.{count_set_lem, recount_chain, tied_links, tied_head}
use Rattle.operations.specs.Seen.{Ready, view_hit}
use Rattle.operations.specs.Directory.{Directory}

pub record Raised (c c' : ℕ) : Type 0 where
  pub least : 1 ≤ c'
  pub most : c' ≤ 65535
  pub one : c' ≤ c + 1

pub raised_is : (t c : ℕ) → 1 ≤ c → c ≤ 65535 → Raised c (raised_count t c)
raised_is t c l m = go (eqb t 0) (ltb c 65535) refl
  where
    go : (b d : Bool) → ltb c 65535 ≡ d → Raised c (pick b c (pick d (c + 1) c))
    go true d q = record { least = l; most = m; one = omega arith }
    go false true q = record { least = omega arith; most = omega (arith, ltb-true c 65535 q); one = omega arith }
    go false false q = record { least = l; most = m; one = omega arith }

pub mark_le : (k i : ℕ) → mark k i ≤ 1
mark_le k i = go (dec_le k i)
  where
    go : Dec (k ≤ i) → mark k i ≤ 1
    go (yes c) = omega (arith, mark_in k i c)
    go (no c) = omega (arith, mark_out k i (omega arith))

pub rot_le : (k p i : ℕ) → rot (mark k) p i ≤ 1
rot_le k p zero = mark_le k p
rot_le k p (suc i) = go (ltb i p)
  where
    go : (b : Bool) → pick b (mark k i) (mark k (suc i)) ≤ 1
    go true = mark_le k i
    go false = mark_le k (suc i)

pub sec_all : (m : ℕ) (f g : ℕ → ℕ) (xs : List ℕ) → ((i : ℕ) → g i ≤ m) → Sec f g xs → All (λ x. f x ≤ m) xs
sec_all m f g [] h a = tt
sec_all m f g (x ∷ xs) h a =
    (omega (arith, a 0 (omega arith), h 0), sec_all m f (λ i. g (suc i)) xs (λ i. h (suc i)) (λ i l. a (suc i) (omega arith)))

lower_le : (f : ℕ → ℕ) (e x : ℕ) → lower f e x ≤ f x
lower_le f e x = go (ℕ_discrete x e)
  where
    go : Dec (x ≡ e) → lower f e x ≤ f x
    go (yes q) = omega (arith, upd_at f e (f e - 1) x q, ap f q)
    go (no q) = omega (arith, upd_other f e (f e - 1) x q)

module _ (s : Shape) (D : Fields) (above : List ℕ) (e : ℕ) (below unused : List ℕ) (g : WellLinked s D (above ++ (e ∷ below)) unused) where
  count_e : (1 ≤ D COUNT e) × (D COUNT e ≤ 65535)
  count_e = all_here (λ x. (1 ≤ D COUNT x) × (D COUNT x ≤ 65535)) above e below g.count.used

  raise : Raised (D COUNT e) (raised_count (D SECTION e) (D COUNT e))
  raise = raised_is (D SECTION e) (D COUNT e) count_e.0 count_e.1

  pub hit_linked : WellLinked s (hitD s D e) (e ∷ (above ++ below)) unused
  hit_linked =
      let c' : ℕ = raised_count (D SECTION e) (D COUNT e) in
      let o : Off e (0 ∷ (above ++ below)) = off_e s D above e below unused g.legal.order g.stack in
      let oy : Off e unused = (safe_e s D above e below unused g.legal.order g.stack).1 in
      record {
        legal = g.legal;
        settled = g.settled;
        stack = front_stack s D above e below unused g.legal.order g.stack;
        count =
            count_set_lem s (D COUNT) (D (in_header SUM) 0) above e below unused c' (entry_e s D above e below unused g.legal.order g.stack) o.1
            oy raise.least raise.most g.count;
        chain =
            recount_chain s (front D e (D SECTION e)) above e below unused c' count_e.0 raise.least o
            (off_less 0 above e below g.stack.ring.some) g.stack.free.some oy (safe s D above e below unused g.legal.order g.stack)
            g.chain;
        hash =
            hash_alive s (D COUNT) (upd (D COUNT) e c') (D BLOCK) (D NEXT-SYNONYM) (D BUCKET-HEADS)
            (alive_upd (D COUNT) e c' count_e.0 raise.least) g.hash;
        flags = flags_alive s (D COUNT) (upd (D COUNT) e c') (D MODIFIED) _ _ _ _ (alive_upd (D COUNT) e c' count_e.0 raise.least) g.flags;
      }

  -- ---- what the stores ask

  -- for a boundary k not behind e
  ready_cross : (i k : ℕ) (f : ℕ → ℕ) → D i 0 ≡ get_or (above ++ (e ∷ below)) k 0 → k ≤ length above → All (λ x. f x ≤ 2) (e ∷ (above ++ below))
      → Entry s (D i 0) × Entry s (cross D e i) × (lower f e (cross D e i) < 268435455)
  ready_cross i k f q l a =
      let t = g.stack in
      let es : All (Entry s) (above ++ (e ∷ below)) = entries s D above e below unused g.legal.order t in
      let n : cross D e i ≡ get_or (e ∷ (above ++ below)) k 0 =
      crossed s D above e below (D TO-HEAD 0) g.legal.order (once s D above e below unused g.legal.order t) t.ring.bwd t.ring.some
      t.sections t.young t.elder i k q l in
      let j : k < length (e ∷ (above ++ below)) = omega (arith, length_us above e below, length_front above e below) in
      let m : f (cross D e i) ≤ 2 = rw n (all_at (λ x. f x ≤ 2) (e ∷ (above ++ below)) k a j) in (
        rw q (all_at (Entry s) (above ++ (e ∷ below)) k es (omega (arith, length_us above e below))),
        rw n (all_at (Entry s) (e ∷ (above ++ below)) k (all_here (Entry s) above e below es, all_less (Entry s) above e below es) j),
        omega (arith, lower_le f e (cross D e i)),
      )

  sections_2 : All (λ x. D SECTION x ≤ 2) (above ++ (e ∷ below))
  sections_2 =
      sec_all 2 (D SECTION) (λ i. mark s.new i + mark s.old i) (above ++ (e ∷ below))
      (λ i. omega (arith, mark_le s.new i, mark_le s.old i)) g.stack.sections

  shifted_2 : All (λ x. shift (eqb (D SECTION e) 2) D e (in_header OLD-BOUNDARY) SECTION x ≤ 2) (e ∷ (above ++ below))
  shifted_2 =
      let t = g.stack in
      sec_all 2 (shift (eqb (D SECTION e) 2) D e (in_header OLD-BOUNDARY) SECTION) (λ i. rot (mark s.new) (length above) i + mark s.old i)
      (e ∷ (above ++ below)) (λ i. omega (arith, rot_le s.new (length above) i, mark_le s.old i))
      (first_shift s D above e below (D TO-HEAD 0) g.legal.order (once s D above e below unused g.legal.order t) t.ring.bwd
      t.ring.some t.sections t.young t.elder)

  pub ready_for : (c' : ℕ) → Raised (D COUNT e) c' → D (in_header SUM) 0 < 268435455 → Ready s D e c'
  ready_for c' k h =
      let t = g.stack in
      let a = safe s D above e below unused g.legal.order t in
      let D1 : Fields = chain_out (leb (D COUNT e) s.cmax) D (D COUNT e) e in
      record {
        here = entry_e s D above e below unused g.legal.order t;
        elder =
            λ q. ready_cross (in_header OLD-BOUNDARY) s.old (D SECTION) t.elder
            (at_old s D above e below unused g.legal.order t (eq-eqb (D SECTION e) 2 q))
            (all_here (λ x. D SECTION x ≤ 2) above e below sections_2, all_less (λ x. D SECTION x ≤ 2) above e below sections_2);
        young =
            λ q. ready_cross (in_header NEW-BOUNDARY) s.new (shift (eqb (D SECTION e) 2) D e (in_header OLD-BOUNDARY) SECTION) t.young
            (at_new s D above e below unused g.legal.order t (ap not (ne_eqb (D SECTION e) 0 q))) shifted_2;
        up = (safe_up s D above e below unused g.legal.order t).0;
        down = (safe_down s D above e below unused g.legal.order t).0;
        head = (safe_head s D above e below unused g.legal.order t).0;
        tied =
            λ q. let l = tied_links s D unused t.free.some above e below count_e.0 a g.chain.chains
            (le-leb (D COUNT e) s.cmax q) in (l.0.0, l.1.0);
        first =
            λ q. (tied_head s D1 unused t.free.some (above ++ below) c' k.least (all_less (λ x. (x ≤ s.N) × Off x unused) above e below a)
            (out_chains s D e (D COUNT) above below count_e.0 g.chain.chains) (le-leb c' s.cmax q)).0;
        counted = count_e.0;
        counts = k.least;
        count_fits = omega (arith, k.most);
        sum_fits = omega (arith, k.one);
      }

  pub hit_ready : D (in_header SUM) 0 < 268435455 → Ready s D e (raised_count (D SECTION e) (D COUNT e))
  hit_ready h = ready_for (raised_count (D SECTION e) (D COUNT e)) raise h

-- THE HIT: e, anywhere in the stack, goes to the front; its count is raised as defined, and nothing else changes.
pub hit_sound : (s : Shape) (w : List ℕ) (D : Fields) (above : List ℕ) (e : ℕ) (below unused : List ℕ) → D (in_header SUM) 0 < 268435455
    → Directory s w D (above ++ (e ∷ below)) unused → Directory s (hit w (base s) s.cmax e) (hitD s D e) (e ∷ (above ++ below)) unused
hit_sound s w D above e below unused h g =
    record {
      view = view_hit s w D e (omega (arith, g.linked.legal.few)) g.view (hit_ready s D above e below unused g.linked h);
      linked = hit_linked s D above e below unused g.linked;
    }
