-- The search for a victim over the words of a directory: the theory of `victims` at linkage's facts. Assumes nothing.
use Rattle.word_ops.specs.declared.Picked.{Picked}
use Rattle.std.specs.Prelude.{Option}
use Rattle.std.specs.Prelude.{ℕ, ◌+◌, ◌-◌, ◌*◌, ◌≤◌, ◌≡◌, refl, List, length}
use Rattle.std.proofs.Common.{◌∙◌, sym, arith}
use Rattle.basics.specs.Lists.{those}
use Rattle.settings.specs.declared.Settings.{Settings}
use Rattle.stack.specs.Recency.{counts_pins}
use Rattle.layout.specs.Addresses.{TAIL, TO-HEAD, chain_tail}
use Rattle.linkage.specs.Fields.{Shape, Fields, base, entry, ends, chain as chained, CHAIN-TAILS, view_get}
use Rattle.linkage.specs.Positions.{mark}
use Rattle.word_ops.specs.Lists.{word_of}
use Rattle.word_ops.specs.Victim.{victim_from}
use Rattle.victims.specs.Linked.{Linked, Worded}
use Rattle.victims.specs.Chosen.{Answers, Chosen as ChosenBy, Refused as RefusedBy, victim_is}
use Rattle.victims.specs.Placed.{counts_pins_lem}
use Rattle.victims.proofs.Short.{looked_from, search_short}
use Rattle.operations.specs.Directory.{Directory}
use Rattle.operations.specs.Residents.{Of, resident, residents_of}

-- the entry e is the victim, after a look at n chains; all are pinned; what the search finds in a full stack
abbrev pub Chosen : Settings → Fields → List ℕ → ℕ → ℕ → Type 0
Chosen t D residents n e = ChosenBy t (counts_pins (residents_of D residents)) D residents n e

abbrev pub Refused : Settings → Fields → List ℕ → Type 0
Refused t D residents = RefusedBy t (counts_pins (residents_of D residents)) D residents

abbrev pub Searched : Settings → Fields → List ℕ → Option Picked → Type 0
Searched t D residents v = Answers t (counts_pins (residents_of D residents)) D residents v

module _ (s : Shape) (w : List ℕ) (D : Fields) (residents unused : List ℕ) (g : Directory s w D residents unused) (t : Settings) (of : Of t s) where
  linked_here : Linked s.N s.new s.old s.cmax D (D TO-HEAD 0) (D CHAIN-TAILS) residents
  unfolding mark
  linked_here =
      record {
        order = g.linked.legal.order;
        stack = g.linked.stack.ring.bwd;
        some = g.linked.stack.ring.some;
        bound = g.linked.stack.bound;
        few = omega (arith, g.linked.stack.whole);
        sections = g.linked.stack.sections;
        chains = λ i h. (g.linked.chain.chains i h).bwd;
        counts = g.linked.count.used;
      }

  old_is : t.n - t.nold ≡ s.old
  old_is = omega (arith, of.old_is)

  linked : Linked s.N t.nnew (t.n - t.nold) s.cmax D (D TO-HEAD 0) (D CHAIN-TAILS) residents
  linked = rw (of.new_is, old_is) linked_here

  worded : Worded s.N s.cmax D (D TO-HEAD 0) (D CHAIN-TAILS) w (base s)
  worded =
      record {
        entries = λ k e h a b. view_get s w D g.view k e (word_of (base s) e k) (entry h a b refl);
        stack_end = view_get s w D g.view TO-HEAD 0 TAIL (ends refl refl (omega arith) (omega arith));
        chain_end = λ i h. view_get s w D g.view CHAIN-TAILS i (chain_tail i) (chained (omega arith) (omega arith) h.0 h.1 (omega arith));
      }

  -- THE VICTIM: in a full stack, the entry found is the victim, and the chains looked at are those defined; or all are pinned.
  pub found_victim : (links : ℕ) → s.N ≤ links → length residents ≡ s.N → Searched t D residents (victim_from w (base s) links s.cmax 1)
  found_victim links enough full =
      victim_is t w (base s) links s.N s.cmax D (D TO-HEAD 0) (D CHAIN-TAILS) residents linked worded enough
      (full ∙ sym of.blocks_is) (omega (arith, of.old_is, of.blocks_is, g.linked.legal.old_some)) (omega (arith, of.old_is))
      (omega (arith, of.cmax_is, g.linked.legal.short)) (sym of.cmax_is)
      (counts_pins (residents_of D residents)) (counts_pins_lem D (resident D) residents (λ e. (refl, refl)))

  -- THE SEARCH IS SHORT, of any stack: the ends of the chains and of the stack, and two entries more for each pinned resident at most.
  pub search_few : (links : ℕ) → s.N ≤ links
      → looked_from w (base s) links s.cmax 1 ≤ s.cmax + 1 + 2 * length (those (λ x. x.marks.pinned) (residents_of D residents))
  search_few links enough =
      search_short t w (base s) links s.N s.cmax D (D TO-HEAD 0) (D CHAIN-TAILS) residents linked worded enough (resident D) (λ e. refl)
