use mathlib.Core.Path.{◌∙◌, ap}
use Rattle.words.specs.Words.{val}
use Rattle.directory.proofs.Laws.{read_field}
use Rattle.directory.proofs.field.Goals as goal

pub returns : goal.returns
returns c = read_field _ _ _ _ _ c.frame_in.ensures (c.get.ensures ∙ ap (val _) c.word_of.ensures)
