-- What is left to be put into the tables, which have places for it.
use Rattle.std.proofs.Common.{◌≡◌, map, true}
use Rattle.sct_message.specs.declared.keys.TransferKey.{TransferKey}
use Rattle.sct_view.specs.Changes.{are_ready, case_after, change_in}
use Rattle.sct_view.specs.Kept.{case_at}
use Rattle.sct_view.proofs.tables.Tables.commit_all.Given as goal

abbrev pub invariant-loop-one : goal.invariant-loop-one
invariant-loop-one l =
    (goal.iterator-loop-one).can_next l.one-iterator ×
    (goal.iterator-loop-one).is_finite l.one-iterator ×
    ((t : TransferKey) → case_after (map change_in l.one-iterator.rest.items) (case_at l.self.cases) t
    ≡ case_after (map change_in l.initial.one-iterator.rest.items) (case_at l.initial.self.cases) t) ×
    (are_ready l.self.cases l.self.totals l.one-iterator.rest.items ≡ true)
