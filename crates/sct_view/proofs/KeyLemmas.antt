-- Transfers that a table counts as the same are the same. Proof plumbing.
use Rattle.std.proofs.Common.{◌≡◌, ◌∙◌, sym, true}
use Rattle.std.specs.Cmp.{eq_by_cmp_equiv}
use Rattle.sct_message.specs.Order.{same_transfer}
use Rattle.sct_message.specs.OrderLaws.{transfer_total, transfer_ties}
use Rattle.sct_message.specs.declared.keys.TransferKey.{TransferKey}
use Rattle.sct_view.specs.Kept.{same_key}
use Rattle.sct_message.proofs.SameValues.{transfer_is, transfer_itself}

-- the test of a table is the test of the order
pub same_key_is : same_key ≡ same_transfer
same_key_is = λ n s t. transfer_ties s t n

pub keys_apart : (s t : TransferKey) → same_key s t ≡ true → s ≡ t
keys_apart s t same = transfer_is s t (sym (transfer_ties s t) ∙ same)

pub key_itself : (t : TransferKey) → same_key t t ≡ true
key_itself t = transfer_ties t t ∙ transfer_itself t

pub key_swap : (s t : TransferKey) → same_key s t ≡ same_key t s
key_swap s t = transfer_ties s t ∙ (eq_by_cmp_equiv transfer_total).symm s t ∙ sym (transfer_ties t s)
