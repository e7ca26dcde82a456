use borrow.Author.Rules.{rules}
use mathlib.Core.Path.{sym}
use Rattle.words.specs.Words.{val}
use Rattle.words.specs.WordLaws.{val_out}
use Rattle.words.proofs.get.Goals as goal

pub returns-in-Some : goal.returns-in-Some
unfolding val
returns-in-Some c = search rules

pub returns-in-None : goal.returns-in-None
returns-in-None c = sym (val_out _ _ (search rules))
