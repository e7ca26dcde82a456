use mathlib.Core.Path.{◌∙◌, sym}
use Rattle.flushing.proofs.Laws.{entry_some, entry_room, block_room, clean_ready, out_ready, stays, sees, writes}
use Rattle.flushing.proofs.flush_entry.Goals as goal

pub overflow_sub-e : goal.overflow_sub-e
overflow_sub-e c = entry_some _ _ _ c.requires

pub move_block-requires : goal.move_block-requires
move_block-requires c = (entry_room _ _ _ c.requires, block_room _ _ _ c.requires _ c.block_of-block.ensures)

pub clean-requires : goal.clean-requires
clean-requires c = out_ready _ _ _ c.requires c.args.tick _ c.marks_of-marks.ensures (sym c.goes_out.ensures ∙ c.if-goes_out.true)

pub returns-then-goes_out : goal.returns-then-goes_out
returns-then-goes_out c = λ start p n ready so_far standing.
    writes c.args.tick _ _ start p n ready so_far standing _ c.marks_of-marks.ensures _ _ _ _ c.requires.size_is
    (sym c.goes_out.ensures ∙ c.if-goes_out.true) c.block_of-block.ensures c.move_block.ensures c.clean.ensures

pub see_tick-requires : goal.see_tick-requires
see_tick-requires c = clean_ready _ _ _ c.requires _ c.marks_of-marks.ensures c.if-marks.true

pub returns-then-marks : goal.returns-then-marks
returns-then-marks c = λ start p n ready so_far standing.
    sees c.args.tick _ _ start p n ready so_far standing _ c.marks_of-marks.ensures c.if-marks.true
    (sym c.goes_out.ensures ∙ c.if-goes_out.false) _ c.see_tick.ensures

pub returns-else-marks : goal.returns-else-marks
returns-else-marks c = λ start p n ready so_far standing.
    stays c.args.tick _ _ start p n ready so_far standing _ c.marks_of-marks.ensures c.if-marks.false
