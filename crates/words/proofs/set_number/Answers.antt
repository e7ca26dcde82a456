use borrow.Author.Rules.{rules}
use mathlib.Core.Path.{sym}
use Rattle.words.specs.Words.{set_number}
use Rattle.words.specs.WordLaws.{number_out}
use Rattle.words.proofs.set_number.Goals as goal

pub returns-then-i-d : goal.returns-then-i-d
unfolding set_number
returns-then-i-d c = search rules

pub returns-else-i-d : goal.returns-else-i-d
returns-else-i-d c = sym (number_out _ _ _ c.if-i-d.false)
