-- A block enters an unused entry, or that of a victim, over the fields. Assumes nothing.
use Rattle.std.specs.Prelude.{ℕ, ◌+◌, ◌-◌, ◌%◌, ◌≤◌, ◌<◌, ◌≡◌, List, ◌∷◌, ◌++◌, T}
use Rattle.std.proofs.Common.{◌∙◌, sym, ap, arith}
use Rattle.std.proofs.Math.Path.{fun_ext}
use Rattle.std.proofs.Math.Decide.{ℕ_discrete}
use Rattle.links.specs.Upd.{upd, upd_same, upd_other}
use Rattle.links.specs.Off.{off_less}
use Rattle.links.specs.Run.{same_upd}
use Rattle.links.specs.All.{all_map_off}
use Rattle.layout.specs.Addresses.{SUM, READS, WRITES, INS, OUTS, BLOCK, COUNT, SECTION, MODIFIED, CHAIN-TO-HEAD, CHAIN-TO-TAIL, NEXT-SYNONYM}
use Rattle.layout.specs.ModifiedWord.{is_modified_word}
use Rattle.linkage.specs.Fields.{Shape, Fields, CHAIN-HEADS, CHAIN-TAILS, BUCKET-HEADS, in_header}
use Rattle.linkage.specs.WellLinked.{WellLinked, StackOf, Count, Chain, ChainOf, Hash, Flags, Entry, Sum, total}
use Rattle.linkage.specs.WellLinkedLaws.{sum_upd, sum_bits, alive_upd, flags_alive}
use Rattle.operations.specs.FieldOps.{front, count, unhash, stack_on, enterD, replaceD}
use Rattle.operations.specs.Agree.{all_same}
use Rattle.operations.specs.Front.{off_e, safe, safe_e, front_stack}
use Rattle.operations.specs.Recount.{count_set_lem, chain_count, enter_chain, recount_chain}
use Rattle.operations.specs.EnterStack.{off_xs, off_ys, off_0, unused_e, safe_xs, stack_on_lem}
use Rattle.operations.specs.Unhash.{prev, unhash_hash}
use Rattle.operations.specs.Purge.{live_e, here_e, prev_e, prev_e_is}
use Rattle.operations.specs.Rehash.{hash_enter}

-- no resident has the block
abbrev pub NoneHas : Shape → Fields → ℕ → Type 0
NoneHas s D block = (x : ℕ) → Entry s x → 1 ≤ D COUNT x → ¬ (D BLOCK x ≡ block)

-- the modified word set to mark
pub flags_mark : (s : Shape) (cnt dirty : ℕ → ℕ) (r w i o e mark : ℕ) → Entry s e → 1 ≤ cnt e → T (is_modified_word mark)
    → o + Sum s.N (λ x. dirty x % 2) + mark % 2 ≤ w + dirty e % 2 → Flags s cnt dirty r w i o → Flags s cnt (upd dirty e mark) r w i o
flags_mark s cnt dirty r w i o e mark he l b h g =
    record {
      bits = λ x hx. one x hx (ℕ_discrete x e);
      idle = λ x hx q. two x hx q (ℕ_discrete x e);
      in_read = g.in_read;
      out_written = omega (arith, sum_bits s.N dirty e mark he.0 he.1, h);
    }
  where
    one : (x : ℕ) → Entry s x → Dec (x ≡ e) → T (is_modified_word (upd dirty e mark x))
    one x h (yes q) = rw (q, upd_same dirty e mark) b
    one x h (no q) = rw (upd_other dirty e mark x q) (g.bits x h)

    two : (x : ℕ) → Entry s x → cnt x ≡ 0 → Dec (x ≡ e) → upd dirty e mark x ≡ 0
    two x h k (yes q) = absurd (omega (arith, ap cnt q))
    two x h k (no q) = upd_other dirty e mark x q ∙ g.idle x h k

-- the marks there may be, with one of mark more
abbrev pub Marks : Shape → Fields → ℕ → Type 0
Marks s D mark = T (is_modified_word mark) × (total D (in_header OUTS) + Sum s.N (λ x. D MODIFIED x % 2) + mark % 2 ≤ total D (in_header WRITES))

module _ (s : Shape) (D : Fields) (residents : List ℕ) (e : ℕ) (unused : List ℕ) (block mark : ℕ) (room : block < s.M) (absent : NoneHas s D block)
    (marks : Marks s D mark) (g : WellLinked s D residents (e ∷ unused)) where
  he : Entry s e
  he = unused_e s D residents e unused g.stack

  out : D COUNT e ≡ 0
  out = g.count.idle.0

  count' : Count s (upd (D COUNT) e 1) (D (in_header SUM) 0 + 1 - 0) (e ∷ residents) unused
  count' =
      record {
        used = (
          rw (upd_same (D COUNT) e 1) (omega arith, omega arith),
          all_map_off (λ x. (1 ≤ D COUNT x) × (D COUNT x ≤ 65535))
              (λ x. (1 ≤ upd (D COUNT) e 1 x) × (upd (D COUNT) e 1 x ≤ 65535)) e residents (λ x h a. rw (upd_other (D COUNT) e 1 x h) a)
              (off_xs s D residents e unused g.stack) g.count.used,
        );
        idle =
            all_same (λ y v. v ≡ 0) (D COUNT) (upd (D COUNT) e 1) unused (same_upd (D COUNT) e 1 unused (off_ys s D residents e unused g.stack))
            g.count.idle.1;
        sum = omega (arith, sum_upd s.N (D COUNT) e 1 he.0 he.1, g.count.sum, out);
      }

  chain' : ChainOf s (enterD s D e block mark) (e ∷ residents) unused
  chain' =
      let D2 : Fields = count (stack_on s D e) e 0 1 in
      let h : Chain s (D COUNT) (D CHAIN-TO-HEAD) (D CHAIN-TO-TAIL) (D CHAIN-HEADS) (D CHAIN-TAILS) residents unused =
      record { chains = g.chain.chains; loose = g.chain.loose; idle = g.chain.idle.1 } in
      enter_chain s D2 unused g.stack.free.some.1 e 1 residents (sym (upd_same (D COUNT) e 1)) (omega arith)
      (off_0 s D residents e unused g.stack) g.stack.ring.some (off_ys s D residents e unused g.stack)
      (safe_xs s D residents e unused g.stack)
      (chain_count s (D COUNT) (D CHAIN-TO-HEAD) (D CHAIN-TO-TAIL) (D CHAIN-HEADS) (D CHAIN-TAILS) e 1 residents unused
      (off_xs s D residents e unused g.stack) h)

  flags' : Flags s (upd (D COUNT) e 1) (D MODIFIED) (total D (in_header READS)) (total D (in_header WRITES)) (total D (in_header INS))
      (total D (in_header OUTS))
  flags' =
      record {
        bits = g.flags.bits;
        idle = λ x h q. go x h q (ℕ_discrete x e);
        in_read = g.flags.in_read;
        out_written = g.flags.out_written;
      }
    where
      go : (x : ℕ) → Entry s x → upd (D COUNT) e 1 x ≡ 0 → Dec (x ≡ e) → D MODIFIED x ≡ 0
      go x h q (yes r) = absurd (omega (arith, rw (r, upd_same (D COUNT) e 1) at q))
      go x h q (no r) = g.flags.idle x h (sym (upd_other (D COUNT) e 1 x r) ∙ q)

  pub enter_linked : WellLinked s (enterD s D e block mark) (e ∷ residents) unused
  enter_linked =
      record {
        legal = g.legal;
        settled = g.settled;
        stack = stack_on_lem s D residents e unused g.stack;
        count = count';
        chain = chain';
        hash =
            hash_enter s (D COUNT) (D BLOCK) (D NEXT-SYNONYM) (D BUCKET-HEADS) e block 1 he out (omega arith) room (g.legal.hashed block) absent
            g.hash;
        flags =
            flags_mark s (upd (D COUNT) e 1) (D MODIFIED) _ _ _ _ e mark he (rw (upd_same (D COUNT) e 1) (omega arith)) marks.0
            (omega (arith, marks.1)) flags';
      }

-- ---- replacing

twice : (f : ℕ → ℕ) (e a c : ℕ) → upd (upd f e a) e c ≡ upd f e c
twice f e a c = fun_ext (λ x. go x (ℕ_discrete x e))
  where
    go : (x : ℕ) → Dec (x ≡ e) → upd (upd f e a) e c x ≡ upd f e c x
    go x (yes q) = rw (q, upd_same (upd f e a) e c, upd_same f e c)
    go x (no q) = upd_other (upd f e a) e c x q ∙ upd_other f e a x q ∙ sym (upd_other f e c x q)

module _ (s : Shape) (D : Fields) (above : List ℕ) (e : ℕ) (below unused : List ℕ) (block mark : ℕ) (room : block < s.M) (absent : NoneHas s D block)
    (marks : Marks s D mark) (g : WellLinked s D (above ++ (e ∷ below)) unused) where
  abbrev live : 1 ≤ D COUNT e
  live = live_e s D above e below unused g

  abbrev hv : Entry s e
  hv = here_e s D above e below unused g

  -- the synonym before the victim
  abbrev q : ℕ
  q = prev s (D COUNT) (D BLOCK) (D NEXT-SYNONYM) (D BUCKET-HEADS) e hv live g.hash (g.legal.hashed (D BLOCK e))

  -- the victim out of its bucket, as if it were no resident, and into the other
  hash' : Hash s (upd (D COUNT) e 1) (replaceD s D e q block mark BLOCK) (replaceD s D e q block mark NEXT-SYNONYM)
      (replaceD s D e q block mark BUCKET-HEADS)
  hash' =
      let u : Fields = unhash D (s.hash (D BLOCK e)) q e in
      let h = unhash_hash s (D COUNT) (D BLOCK) (D NEXT-SYNONYM) (D BUCKET-HEADS) e hv live g.hash (g.legal.hashed (D BLOCK e)) in
      let k : Hash s (upd (upd (D COUNT) e 0) e 1) (upd (upd (D BLOCK) e 0) e block) (upd (u NEXT-SYNONYM) e (u BUCKET-HEADS (s.hash block)))
      (upd (u BUCKET-HEADS) (s.hash block) e) =
      hash_enter s (upd (D COUNT) e 0) (upd (D BLOCK) e 0) (u NEXT-SYNONYM) (u BUCKET-HEADS) e block 1 hv (upd_same (D COUNT) e 0) (omega arith) room
      (g.legal.hashed block) (λ x hx l. away x hx l (ℕ_discrete x e)) h in
      rw (twice (D COUNT) e 0 1, twice (D BLOCK) e 0 block) at k
    where
      away : (x : ℕ) → Entry s x → 1 ≤ upd (D COUNT) e 0 x → Dec (x ≡ e) → ¬ (upd (D BLOCK) e 0 x ≡ block)
      away x hx l (yes q) = absurd (omega (arith, rw (q, upd_same (D COUNT) e 0) at l))
      away x hx l (no q) = rw (upd_other (D BLOCK) e 0 x q) (absent x hx (rw (upd_other (D COUNT) e 0 x q) at l))

  pub replace_stack : StackOf s (replaceD s D e (prev_e s D above e below unused g) block mark) (e ∷ (above ++ below)) unused
  replace_stack = front_stack s D above e below unused g.legal.order g.stack

  pub replace_flags : Flags s (upd (D COUNT) e 1) (upd (D MODIFIED) e mark) (total D (in_header READS)) (total D (in_header WRITES))
      (total D (in_header INS)) (total D (in_header OUTS))
  replace_flags =
      flags_mark s (upd (D COUNT) e 1) (D MODIFIED) _ _ _ _ e mark hv (rw (upd_same (D COUNT) e 1) (omega arith)) marks.0 (omega (arith, marks.1))
      (flags_alive s (D COUNT) (upd (D COUNT) e 1) (D MODIFIED) _ _ _ _ (alive_upd (D COUNT) e 1 live (omega arith)) g.flags)

  -- a block out for the victim's mark has room
  pub replace_outs : total D (in_header OUTS) + D MODIFIED e % 2 + Sum s.N
      (λ x. replaceD s D e (prev_e s D above e below unused g) block mark MODIFIED x % 2) ≤ total D (in_header WRITES)
  replace_outs = omega (arith, sum_bits s.N (D MODIFIED) e mark hv.0 hv.1, marks.1)

  pub replace_linked : WellLinked s (replaceD s D e (prev_e s D above e below unused g) block mark) (e ∷ (above ++ below)) unused
  replace_linked =
      let o = off_e s D above e below unused g.legal.order g.stack in
      let oy = (safe_e s D above e below unused g.legal.order g.stack).1 in
      record {
        legal = g.legal;
        settled = g.settled;
        stack = replace_stack;
        count = count_set_lem s (D COUNT) (D (in_header SUM) 0) above e below unused 1 hv o.1 oy (omega arith) (omega arith) g.count;
        chain =
            recount_chain s (front D e (D SECTION e)) above e below unused 1 live (omega arith) o (off_less 0 above e below g.stack.ring.some)
            g.stack.free.some oy (safe s D above e below unused g.legal.order g.stack) g.chain;
        hash = rw (prev_e_is s D above e below unused g) hash';
        flags = replace_flags;
      }
