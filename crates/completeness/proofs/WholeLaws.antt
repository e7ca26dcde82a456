-- The promises leave out nothing: what they fix beside a sound directory, and a sound directory fixed by the rest.
use Rattle.std.specs.Prelude.{ℕ, ◌≡◌, ◌≢◌, List}
use Rattle.std.proofs.Common.{sym, subst, ◌∙◌}
use Rattle.stack.specs.Stack.{Work}
use Rattle.promises.specs.Promises.{Fresh, Slices, number_of, Accepted}
use Rattle.promises.proofs.OutcomeLaws.{fresh_same, settings_same, totals_same, residents_same, past_same}
use Rattle.promises.proofs.OutcomeLaws.{bytes_same, store_same, answers_same, outgoing_same}
use Rattle.completeness.specs.Complete.{SameOrders, WholeFresh, WholeBatch}
use Rattle.completeness.proofs.CompleteLaws.{complete}

pub whole_fresh : WholeFresh
whole_fresh s before m n a b p q =
    let e : n ≡ m = q.returned ∙ sym p.returned in
    (sym e, fresh_same s before m a b p (subst (λ k. Fresh s before k b) e q))

module _ (words incoming : List ℕ) (before a b : Slices) (picked : List (Work × ℕ)) (number : number_of words incoming before ≡ 0)
    (p : Accepted words incoming before a picked) (q : Accepted words incoming before b picked)
    (orders : SameOrders a.directory b.directory) where
  directories : a.directory ≡ b.directory
  directories =
      complete a.directory b.directory p.sound_after q.sound_after
      (record {
        settings = settings_same words incoming before a b picked number p q;
        totals = totals_same words incoming before a b picked number p q;
        residents = residents_same words incoming before a b picked number p q;
        past = past_same words incoming before a b picked number p q;
        orders = orders;
      })

  accepted_same : a ≡ b
  accepted_same =
      λ i. record {
        directory = directories i;
        bytes = bytes_same words incoming before a b picked number p q i;
        store = store_same words incoming before a b picked number p q i;
        answers = answers_same words incoming before a b picked number p q i;
        outgoing = outgoing_same words incoming before a b picked number p q i;
      }

pub whole_batch : WholeBatch
whole_batch words incoming before m n a b p q =
    record {
      number = p.returned ∙ sym q.returned;
      declined = λ refused. p.declined refused ∙ sym (q.declined (subst (λ k. k ≢ 0) (p.returned ∙ sym q.returned) refused));
      accepted = λ zero picked x y orders. accepted_same words incoming before a b picked (sym p.returned ∙ zero) x y orders;
    }
