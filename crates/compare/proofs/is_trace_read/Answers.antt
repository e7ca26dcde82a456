use Rattle.std.proofs.Common.{sym, ap, ◌∙◌, Some}
use Rattle.batch_number.specs.Tallies.{meant}
use Rattle.compare.proofs.NumberLaws.{is_read_word, no_work, other_work}
use Rattle.compare.proofs.is_trace_read.Goals as goal

pub returns-in_default : goal.returns-in_default
returns-in_default c = no_work _ _ (ap meant (sym c.in_default.is) ∙ c.decode.ensures)

pub returns-in-Read : goal.returns-in-Read
returns-in-Read c = is_read_word _ _ c.in-Read.field-0
    (ap (λ x. meant (Some x)) (sym c.in-Read.is) ∙ ap meant (sym c.in-Some.is) ∙ c.decode.ensures)

pub returns-in_default-matches : goal.returns-in_default-matches
returns-in_default-matches c = other_work _ _ c.in-Some.work (ap meant (sym c.in-Some.is) ∙ c.decode.ensures) c.in_default-matches.not-Read
