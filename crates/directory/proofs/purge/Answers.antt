use mathlib.Core.Path.{◌∙◌, ap}
use Rattle.words.specs.Words.{val}
use Rattle.directory.proofs.Laws.{within_limits, framed, purge_returns}
use Rattle.directory.proofs.purge.Goals as goal

pub frame-f-requires : goal.frame-f-requires
frame-f-requires c = within_limits _ _ c.requires.0.is_sound c.requires.1

pub returns : goal.returns
returns c = let fr = framed _ _ _ c.requires.1 c.frame-f.ensures in
    purge_returns _ _ _ _ _ _ _ _ c.requires.0 fr (c.get-block.ensures ∙ ap (val _) c.word_of.ensures)
    (c.get.ensures ∙ ap (val _) c.word_of-2.ensures) c.bucket_among-from.ensures c.purge.ensures c.is_marked-modified.ensures
