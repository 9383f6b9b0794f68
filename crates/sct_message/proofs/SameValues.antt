-- Texts, keys and messages that their test finds the same are equal. The crates above cite these lemmas too.
use Rattle.std.proofs.Common.{◌≡◌, refl, ℕ, true, List}
use Rattle.std.specs.Cmp.Lexicographic.{bytes_decides}
use Rattle.sct_element.specs.Text.{is_text}
use Rattle.sct_message.specs.declared.draft.Draft.{Draft}
use Rattle.sct_message.specs.declared.keys.Identity.{Identity}
use Rattle.sct_message.specs.declared.keys.TransferKey.{TransferKey}
use Rattle.sct_message.specs.Order.{same_identity, same_transfer, same_message}
use Rattle.sct_message.specs.OrderLaws.{identity_total, identities_same, transfer_total, transfers_same, message_total, message_same}
use Rattle.sct_message.proofs.Members.{tie_is, ties_itself}

pub text_is : (s t : List ℕ) → is_text s t ≡ true → s ≡ t
text_is s t e = (bytes_decides s t).0 e

pub is_text-from : (s t : List ℕ) → s ≡ t → is_text s t ≡ true
is_text-from s t e = (bytes_decides s t).1 e

pub text_itself : (s : List ℕ) → is_text s s ≡ true
text_itself s = is_text-from s s refl

pub identity_is : (i j : Identity) → same_identity i j ≡ true → i ≡ j
identity_is = tie_is identity_total identities_same

pub identity_itself : (i : Identity) → same_identity i i ≡ true
identity_itself = ties_itself identity_total identities_same

pub transfer_is : (s t : TransferKey) → same_transfer s t ≡ true → s ≡ t
transfer_is = tie_is transfer_total transfers_same

pub transfer_itself : (t : TransferKey) → same_transfer t t ≡ true
transfer_itself = ties_itself transfer_total transfers_same

pub message_is : (a b : Draft) → same_message a b ≡ true → a ≡ b
message_is = tie_is message_total message_same

pub message_itself : (a : Draft) → same_message a a ≡ true
message_itself = ties_itself message_total message_same
