-- Each way of both.
use Rattle.sct_reconcile.proofs.ListLemmas.{is_list, list_is, is_refused, refused_is}
use Rattle.sct_reconcile.proofs.laws.lists_are_exact.Goals as goal

pub returns : goal.returns
returns c = record {
  read = λ records rows. (is_list records rows, list_is records rows);
  refused = λ records number. (is_refused records number, refused_is records number);
}
