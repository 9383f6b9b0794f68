-- The transfers of the bank so far.
use Rattle.std.proofs.Common.{◌≡◌, ◌++◌, ◌||◌, filter}
use Rattle.sct_message.specs.Transfers.{instruction_of}
use Rattle.sct_view.specs.Answers.{is_originator, is_beneficiary}
use Rattle.sct_view.proofs.view.View.those_of.Given as goal

abbrev pub invariant-loop-transfer : goal.invariant-loop-transfer
invariant-loop-transfer l =
    l.found.items
    ++ filter (λ t. is_originator l.bank t || is_beneficiary l.bank (instruction_of l.self t)) l.transfer-iterator.rest.items
    ≡ filter (λ t. is_originator l.bank t || is_beneficiary l.bank (instruction_of l.self t)) l.initial.transfer-iterator.rest.items
