-- Keys are ordered by their parts, and kinds by their text.
use Rattle.sct_message.specs.OrderLaws.{identity_total, transfer_total, recall_total, identities_same, transfers_same, recalls_same, identity_ties, transfer_ties}
use Rattle.sct_message.proofs.KindTable.{declared_by_text, equal_by_text}
use Rattle.sct_message.proofs.order.keys_are_ordered.Goals as goal

pub returns-clause-kinds : goal.returns-clause-kinds
returns-clause-kinds c = declared_by_text

pub returns-clause-kinds_equal : goal.returns-clause-kinds_equal
returns-clause-kinds_equal c = equal_by_text

pub returns-clause-identities_equal : goal.returns-clause-identities_equal
returns-clause-identities_equal c = λ i j. identity_ties _ i j (equal_by_text i.kind j.kind)

pub returns-clause-transfers_equal : goal.returns-clause-transfers_equal
returns-clause-transfers_equal c = transfer_ties

pub returns-clause-identities_total : goal.returns-clause-identities_total
returns-clause-identities_total c = identity_total

pub returns-clause-transfers_total : goal.returns-clause-transfers_total
returns-clause-transfers_total c = transfer_total

pub returns-clause-recalls_total : goal.returns-clause-recalls_total
returns-clause-recalls_total c = recall_total

pub returns-clause-identities_same : goal.returns-clause-identities_same
returns-clause-identities_same c = identities_same

pub returns-clause-transfers_same : goal.returns-clause-transfers_same
returns-clause-transfers_same c = transfers_same

pub returns-clause-recalls_same : goal.returns-clause-recalls_same
returns-clause-recalls_same c = recalls_same
