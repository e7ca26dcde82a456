use Rattle.std.proofs.Common.{ℕ, List, ◌≡◌, ◌-◌, ◌∙◌}
use Rattle.basics.specs.Basics.{pick, block_at, put_block}
use Rattle.accesses.proofs.Laws.{entry_least, entry_room, block_room, brought_room, where_in, where_there, read_done, read_refused}
use Rattle.accesses.proofs.read.Goals as goal
use Rattle.accesses.proofs.read.Goals.{then-not-a, else-not-a}

pub returns-in_default : goal.returns-in_default
returns-in_default c = read_refused _ _ _ c.requires.0 _ _ c.in_default.ensures _ _ _ c.clear_block.ensures _ c.word.ensures

pub overflow_sub-a : goal.overflow_sub-a
overflow_sub-a c = entry_least _ _ _ c.requires.0 _ _ _ _ c.in-Some.ensures

pub move_block-requires : goal.move_block-requires
move_block-requires c = let done = c.in-Some.ensures in
    (block_room _ _ _ c.requires.0 _ _ _ _ done, entry_room _ _ _ c.requires.0 _ _ _ _ done)

pub overflow_sub-a-2 : goal.overflow_sub-a-2
overflow_sub-a-2 c = entry_least _ _ _ c.requires.0 _ _ _ _ c.in-Some.ensures

pub move_block-requires-2 : goal.move_block-requires-2
move_block-requires-2 c = let a = c.in-Some.a in let s = c.args.s in
    let new : List ℕ = put_block s.b (a.entry - 1) (block_at s.b c.args.block c.access.new.store) c.args.bytes.now in
    let is : c.if-not-a.bytes ≡ pick a.resident c.args.bytes.now new = elim c.if-not-a.branch [
      | then-not-a w ↦ where_in _ _ w.if-not-a.true (w.bytes-is ∙ w.move_block.ensures)
      | else-not-a w ↦ where_there _ _ w.if-not-a.false w.bytes-is
    ] in
    (brought_room _ _ _ c.requires.0 _ _ _ _ c.in-Some.ensures _ is, c.requires.1)

pub returns : goal.returns
returns c = let a = c.in-Some.a in let s = c.args.s in
    let new : List ℕ = put_block s.b (a.entry - 1) (block_at s.b c.args.block c.access.new.store) c.args.bytes.now in
    let is : c.if-not-a.bytes ≡ pick a.resident c.args.bytes.now new = elim c.if-not-a.branch [
      | then-not-a w ↦ where_in _ _ w.if-not-a.true (w.bytes-is ∙ w.move_block.ensures)
      | else-not-a w ↦ where_there _ _ w.if-not-a.false w.bytes-is
    ] in
    read_done _ _ _ c.requires.0 _ _ _ _ c.in-Some.ensures is _ _ _ c.move_block-2.ensures
