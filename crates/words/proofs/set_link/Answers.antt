use borrow.Author.Rules.{rules}
use mathlib.Core.Path.{sym}
use Rattle.words.specs.Words.{set_link}
use Rattle.words.specs.WordLaws.{link_out}
use Rattle.words.proofs.set_link.Goals as goal

pub returns-then-i-d : goal.returns-then-i-d
unfolding set_link
returns-then-i-d c = search rules

pub returns-else-i-d : goal.returns-else-i-d
returns-else-i-d c = sym (link_out _ _ _ c.if-i-d.false)
