use Rattle.std.proofs.Common.{◌∙◌}
use Rattle.fresh.proofs.Laws.{settings_few, entries_fit, filled}
use Rattle.fresh.proofs.fill.Goals as goal

pub fill_entries-requires : goal.fill_entries-requires
fill_entries-requires c = let s = c.args.s in (
  (settings_few s.of s.legal).0,
  entries_fit s.of s.legal _ _ _ _ c.directory_length-len.ensures c.requires (c.copy_from_slice.ensures.after ∙ c.header.ensures)
      (c.fill.ensures.after (λ y e. e)),
)

pub returns : goal.returns
returns c = let s = c.args.s in
    filled s.of s.legal _ _ _ _ c.directory_length-len.ensures c.requires (c.copy_from_slice.ensures.after ∙ c.header.ensures)
    (c.fill.ensures.after (λ y e. e)) _ c.fill_entries.ensures
