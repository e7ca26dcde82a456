use native.Mathlib.Omega.{arith}
use Rattle.opt_ins.proofs.Laws.{room_hit, room_free, room_full, last_inside}
use borrow.Author.Rules.{rules}
use Rattle.opt_ins.proofs.make_room.Goals as goal

pub overflow_sub-result : goal.overflow_sub-result
overflow_sub-result c = c.requires.one_waiting c.if-awaited-i-ne-NOT_AWAITED.true

pub returns-then-awaited-i-ne-NOT_AWAITED : goal.returns-then-awaited-i-ne-NOT_AWAITED
returns-then-awaited-i-ne-NOT_AWAITED c = room_hit _ _ _ _ _ c.if-awaited-i-ne-NOT_AWAITED.true

pub returns-then-waiting-n : goal.returns-then-waiting-n
returns-then-waiting-n c = room_free _ _ _ _ _ c.if-awaited-i-ne-NOT_AWAITED.false c.if-waiting-n.true

pub bounds-awaited-last : goal.bounds-awaited-last
bounds-awaited-last c = let i = c.requires.inside in
    let e = c.requires.enough in
    let t = c.last_awaited-last.ensures in
    let l = last_inside c.args.awaited.now c.args.len (omega arith) in
    omega arith

pub offset_bounds-awaited-last : goal.offset_bounds-awaited-last
offset_bounds-awaited-last c = let l = bounds-awaited-last c in search rules

pub returns : goal.returns
returns c = room_full _ _ _ _ _ c.if-awaited-i-ne-NOT_AWAITED.false c.if-waiting-n.false _ c.last_awaited-last.ensures
