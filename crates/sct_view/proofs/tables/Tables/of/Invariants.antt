-- What is left to be put into the tables.
use Rattle.std.proofs.Common.{◌≡◌, map}
use Rattle.sct_message.specs.declared.keys.TransferKey.{TransferKey}
use Rattle.sct_view.specs.Changes.{case_after, change_in}
use Rattle.sct_view.specs.Kept.{case_at, no_messages}
use Rattle.sct_view.proofs.tables.Tables.of.Given as goal

abbrev pub invariant-loop-one : goal.invariant-loop-one
invariant-loop-one l =
    (goal.iterator-loop-one).can_next l.one-iterator ×
    (goal.iterator-loop-one).is_finite l.one-iterator ×
    ((t : TransferKey) → case_after (map change_in l.one-iterator.rest.items) (case_at l.tables.cases) t
    ≡ case_after (map change_in l.initial.one-iterator.rest.items) (λ t. no_messages) t)
