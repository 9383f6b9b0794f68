-- The fields of a record in their order are the elements in the order of the key table.
use Rattle.sct_message.specs.OrderLaws.{then_assoc, then_equal, reasons_by_code}
use Rattle.sct_message.proofs.order.elements_order.Goals as goal

pub returns-in-CreditTransfer-CreditTransfer : goal.returns-in-CreditTransfer-CreditTransfer
returns-in-CreditTransfer-CreditTransfer c = rw (c.in-CreditTransfer-CreditTransfer.is-0, c.in-CreditTransfer-CreditTransfer.is-1, ← c.deref.ensures, ← c.deref-in-CreditTransfer-CreditTransfer.ensures) (simp then_equal (simp then_assoc at c.cmp.ensures))

pub returns-in-StatusReport-StatusReport : goal.returns-in-StatusReport-StatusReport
returns-in-StatusReport-StatusReport c = rw (c.in-StatusReport-StatusReport.is-0, c.in-StatusReport-StatusReport.is-1, ← c.deref-in-StatusReport-StatusReport.ensures, ← c.deref-in-StatusReport-StatusReport-2.ensures) (simp then_equal (simp (then_assoc, reasons_by_code) at c.cmp-in-StatusReport-StatusReport.ensures))

pub returns-in-StatusRequest-StatusRequest : goal.returns-in-StatusRequest-StatusRequest
returns-in-StatusRequest-StatusRequest c = rw (c.in-StatusRequest-StatusRequest.is-0, c.in-StatusRequest-StatusRequest.is-1, ← c.deref-in-StatusRequest-StatusRequest.ensures, ← c.deref-in-StatusRequest-StatusRequest-2.ensures) (simp then_equal (simp then_assoc at c.cmp-in-StatusRequest-StatusRequest.ensures))

pub returns-in-PaymentReturn-PaymentReturn : goal.returns-in-PaymentReturn-PaymentReturn
returns-in-PaymentReturn-PaymentReturn c = rw (c.in-PaymentReturn-PaymentReturn.is-0, c.in-PaymentReturn-PaymentReturn.is-1, ← c.deref-in-PaymentReturn-PaymentReturn.ensures, ← c.deref-in-PaymentReturn-PaymentReturn-2.ensures) (simp then_equal (simp then_assoc at c.cmp-in-PaymentReturn-PaymentReturn.ensures))

pub returns-in-Resolution-Resolution : goal.returns-in-Resolution-Resolution
returns-in-Resolution-Resolution c = rw (c.in-Resolution-Resolution.is-0, c.in-Resolution-Resolution.is-1, ← c.deref-in-Resolution-Resolution.ensures, ← c.deref-in-Resolution-Resolution-2.ensures) (simp then_equal (simp then_assoc at c.cmp-in-Resolution-Resolution.ensures))
