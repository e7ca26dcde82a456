-- The search for a victim (source document 000, section 2.4, with pins): each chain from its tail towards the head past pinned
-- residents up to the first that isn't old, then the stack so, whatever the section. Assumes nothing.
use Rattle.word_ops.specs.declared.Picked.{Picked}
use Rattle.std.specs.Prelude.{Option, Some, None}
use Rattle.std.specs.Prelude.{ℕ, zero, suc, ◌+◌, ◌-◌, Bool, not, ◌&&◌, List, eqb, leb}
use Rattle.basics.specs.Basics.{pick}
use Rattle.words.specs.Words.{val}
use Rattle.layout.specs.Addresses.{TAIL, SECTION, MODIFIED, TO-HEAD, CHAIN-TO-HEAD, chain_tail}
use Rattle.word_ops.specs.Lists.{word_of}
use Rattle.word_ops.specs.Mark.{is_pinned}

-- whether e is a resident of that section or of a less recent one
unfoldable pub reaches : List ℕ → ℕ → ℕ → ℕ → Bool
reaches w at section e = not (eqb e 0) && leb section (val w (word_of at e SECTION))

-- whether the resident e is pinned
unfoldable pub is_pinned_entry : List ℕ → ℕ → ℕ → Bool
is_pinned_entry w at e = is_pinned (val w (word_of at e MODIFIED))

-- From entry e on along link word k towards the head, past pinned residents, within so many links: the first unpinned one; 0 where the
-- list or the section ends before.
unfoldable pub over_pinned : List ℕ → ℕ → ℕ → ℕ → ℕ → ℕ → ℕ
over_pinned w at section k zero e = 0
over_pinned w at section k (suc links) e =
    let further = over_pinned w at section k links (val w (word_of at e k)) in
    pick (reaches w at section e) (pick (is_pinned_entry w at e) further e) 0

-- the last unpinned old one (section 2) of the chain of count i, and the last unpinned one of the stack (from section 0 on); 0 where there
-- is none
unfoldable pub chain_last : List ℕ → ℕ → ℕ → ℕ → ℕ
unfolding over_pinned
chain_last w at links i = over_pinned w at 2 CHAIN-TO-HEAD links (val w (chain_tail i))

unfoldable pub stack_last : List ℕ → ℕ → ℕ → ℕ
unfolding over_pinned
stack_last w at links = over_pinned w at 0 TO-HEAD links (val w TAIL)

-- e after a look at so many chains, or no victim where e is none
unfoldable pub or_all_pinned : ℕ → ℕ → Option Picked
or_all_pinned chains e = pick (eqb e 0) None (Some (record { chains = chains; entry = e }))

-- over `more` chains from that of count i on, else in the stack
unfoldable pub victim_from : List ℕ → ℕ → ℕ → ℕ → ℕ → Option Picked
victim_from w at links zero i = or_all_pinned (i - 1) (stack_last w at links)
victim_from w at links (suc more) i =
    let e = chain_last w at links i in
    let further = victim_from w at links more (i + 1) in
    pick (eqb e 0) further (Some (record { chains = i; entry = e }))
