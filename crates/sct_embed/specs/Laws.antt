-- The law of what changed. Read by an auditor. It is the contract of a function.
use Rattle.std.specs.Prelude.{◌≡◌, ◌≤◌, ℕ, List, length, take, Contains}
use Rattle.sct_message.specs.declared.keys.TransferKey.{TransferKey}
use Rattle.sct_delta.specs.Entries.{Placed, messages_of}
use Rattle.sct_view.specs.StatusText.{lines_on}
use Rattle.sct_view.specs.Touched.{touched_in}

-- Every transfer that the answer about changes does not name has the lines that it had when changes were asked for before.
abbrev pub OtherTransfersKeepTheirLines : Type 0
OtherTransfersKeepTheirLines =
    (arrivals : List Placed) (asked : ℕ) (transfer : TransferKey) → asked ≤ length arrivals
    → (Contains (touched_in (messages_of (take asked arrivals)) (messages_of arrivals)) transfer → ⊥)
    → lines_on (messages_of arrivals) transfer ≡ lines_on (messages_of (take asked arrivals)) transfer
