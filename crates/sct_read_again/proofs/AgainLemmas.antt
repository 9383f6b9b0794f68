-- A message that was read is read again. Proof plumbing.
use Rattle.std.proofs.Common.{◌≡◌, ℕ, List}
use Rattle.std.specs.Prelude.{◌↔◌, Some}
use Rattle.sct_element.specs.Money.{IsAmountText, amount_text, cents_of}
use Rattle.sct_reason.specs.Codes.{reason_text}
use Rattle.sct_reason.specs.Reasons.{reason_of}
use Rattle.sct_reason.specs.declared.reasons.Reason.{Reason}
use Rattle.sct_json.proofs.Bytes.{bytes_read}
use Rattle.sct_json.proofs.Forms.{RulesAreKnown}
use Rattle.sct_read_again.specs.ReadAgain.{MessagesAreReadAgain}
use Rattle.sct_read_again.proofs.AmountLemmas.{amount_written}
use Rattle.sct_read_again.proofs.ReadAgainLemmas.{AmountsSettle, again_if_text}
use Rattle.sct_read_again.proofs.Utf8Lemmas.{written_utf8}
use Rattle.sct_read_again.proofs.ValueLemmas.{values_are_texts}

pub messages_again : RulesAreKnown → ((s : List ℕ) (n : ℕ) → (cents_of s ≡ Some n) ↔ IsAmountText s n) → ((s : List ℕ) (r : Reason) → reason_of s ≡ Some r → reason_text r ≡ s)
    → MessagesAreReadAgain
messages_again rules amounts reasons bytes m is =
    let form = (bytes_read rules bytes m).0 is in
    again_if_text rules cents_back bytes m is
    (written_utf8 (λ s n e. ((amounts s n).0 e).1) reasons form.0 (values_are_texts bytes form.0 form.1.text form.1.value) m form.2.elements)
  where
    cents_back : AmountsSettle
    cents_back s n e =
        let written : IsAmountText s n = (amounts s n).0 e in
        (amounts (amount_text n) n).1 (amount_written n written.0 written.1)
