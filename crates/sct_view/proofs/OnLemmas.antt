-- The messages on a transfer, as a set of their own. Proof plumbing.
use Rattle.std.specs.FinSet as set
use Rattle.std.specs.FinSet.{contains-from_list, members}
use Rattle.std.proofs.Common.{◌≡◌, not, [], ◌++◌, filter, arith}
use Rattle.std.proofs.lemmas.List.Folds.{list_any-append}
use Rattle.sct_message.specs.Order.{same_message}
use Rattle.sct_message.specs.OrderLaws.{message_total}
use Rattle.sct_message.specs.Sets.{MessageSet, clean_messages, contradicted_messages, in_order, is_contradicted}
use Rattle.sct_message.specs.Transfers.{is_on, messages_on}
use Rattle.sct_message.specs.declared.keys.TransferKey.{TransferKey}
use Rattle.sct_set.specs.Contents.{contents_of}
use Rattle.sct_set.proofs.ContentsLemmas.{same_contents}
use Rattle.sct_view.specs.Answers.{those_on}
use Rattle.sct_view.specs.Kept.{case_of, contradicted_on}
use Rattle.sct_view.proofs.EvaluationLemmas.{among_picked}

-- the clean and the contradicted messages on a transfer are those of the set that are on it
pub gathered_on : (held : MessageSet) (t : TransferKey)
    → set.union set.empty (contents_of ((case_of held t).clean ++ (case_of held t).contradicted ++ [])) ≡ those_on held t
unfolding case_of
gathered_on held t =
    same_contents _ _ (λ q.
    grind (
      arith,
      members,
      message_total,
      contains-from_list message_total (messages_on held t ++ contradicted_on held t ++ []) q,
      contains-from_list message_total (filter (is_on t) (in_order held)) q,
      list_any-append (same_message q) (messages_on held t ++ contradicted_on held t) [],
      list_any-append (same_message q) (messages_on held t) (contradicted_on held t),
      among_picked (is_on t) q (clean_messages held),
      among_picked (is_on t) q (contradicted_messages held),
      among_picked (is_on t) q (in_order held),
      among_picked (λ m. not (is_contradicted held m)) q (in_order held),
      among_picked (λ m. is_contradicted held m) q (in_order held),
    ))
