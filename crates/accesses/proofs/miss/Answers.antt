use Rattle.std.proofs.Common.{◌≡◌, ◌-◌, ◌∙◌, arith}
use Rattle.basics.specs.Basics.{pick, block_at, put_block}
use Rattle.accesses.proofs.Laws.{entered_done, replace_ready, write_out_room, replaced_small, replaced_done}
use Rattle.accesses.proofs.miss.Goals as goal
use Rattle.accesses.proofs.miss.Goals.{then-r, else-r}

pub returns-then-residents-s : goal.returns-then-residents-s
returns-then-residents-s c = entered_done _ _ _ c.enter-r.ensures _ c.word.ensures

pub replace-requires : goal.replace-requires
replace-requires c = replace_ready _ _ _ c.requires.0 c.requires.1 _ c.residents.ensures c.if-residents-s.false

pub overflow_sub-r : goal.overflow_sub-r
overflow_sub-r c = (write_out_room _ _ _ c.requires.0 _ c.in-Some.ensures c.if-r.true).0

pub move_block-requires : goal.move_block-requires
move_block-requires c = let (least, from, into) = write_out_room _ _ _ c.requires.0 _ c.in-Some.ensures c.if-r.true in (omega arith, omega arith)

pub word-requires-2 : goal.word-requires-2
word-requires-2 c = let (below, few) = replaced_small _ _ _ c.requires.0 _ c.in-Some.ensures in (omega arith, omega arith)

pub returns : goal.returns
returns c = let r = c.in-Some.r in let s = c.args.s in let bytes = c.args.bytes.now in let store = c.args.store.now in
    let is : c.if-r.store ≡ pick r.out (put_block s.b r.victim (block_at s.b (r.entry - 1) bytes) store) store = elim c.if-r.branch [
      | then-r w ↦ rw w.if-r.true (w.store-is ∙ w.move_block.ensures)
      | else-r w ↦ rw w.if-r.false w.store-is
    ] in
    replaced_done _ _ _ c.requires.0 _ c.in-Some.ensures (omega arith) _ is _ c.word-2.ensures
