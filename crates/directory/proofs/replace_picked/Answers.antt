use mathlib.Core.Path.{◌∙◌, ap}
use Rattle.words.specs.Words.{val}
use Rattle.directory.proofs.Laws.{replace_returns}
use Rattle.directory.proofs.replace_picked.Goals as goal

pub returns : goal.returns
returns c =
    let stored = rw (c.replace.ensures, c.miss_count.ensures) at c.out_count.ensures in
    replace_returns _ _ _ c.args.picked _ _ _ _ _ _ _ c.requires (c.get-victim.ensures ∙ ap (val _) c.word_of.ensures)
    (c.get-marked.ensures ∙ ap (val _) c.word_of-2.ensures) c.bucket_among-from.ensures c.incoming.ensures stored c.is_marked.ensures
