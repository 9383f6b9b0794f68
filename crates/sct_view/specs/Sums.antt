-- The shares of transfers, summed part by part, for those who prove it.
use Rattle.std.specs.Prelude.{◌≡◌, ◌*◌, ℕ, List, length}
use Rattle.sct_message.specs.Sets.{MessageSet}
use Rattle.sct_message.specs.declared.keys.TransferKey.{TransferKey}
use Rattle.sct_view.specs.Kept.{case_of, share_in, IsUpTo}
use Rattle.sct_view.specs.Totals.{totals_over}
use Rattle.sct_view.specs.declared.totals.Totals.{Totals}

-- the most that the shares of so many transfers add up to: each counts once, and its amounts are numbers of 64 bits
abbrev pub most_of : ℕ → Totals
most_of n = record {
  sent = n;
  sent_cents = n * 18446744073709551615;
  returned_in = n * 18446744073709551615;
  rejected = n;
  waiting = n;
  missing = n;
  contradicted = n;
  received = n;
  received_cents = n * 18446744073709551615;
  returned_out = n * 18446744073709551615;
}

-- The totals of each bank are its shares of the transfers of the list, each as often as it is in the list. They are no more than so many shares add up to.
pub record AreSharesOf (held : MessageSet) (transfers : List TransferKey) (totals : List ℕ → Totals) : Type 0 where
  pub summed : (bank : List ℕ) → totals bank ≡ totals_over (λ t. share_in bank t (case_of held t)) transfers
  pub small : (bank : List ℕ) → IsUpTo (totals bank) (most_of (length transfers))
