-- The message is filed by its first transfers.
use Rattle.std.proofs.Common.{List}
use Rattle.sct_message.specs.declared.draft.Draft.{Draft}
use Rattle.sct_rights.specs.ByBanks.{IsFiledByBanks}
use Rattle.sct_rights.proofs.BankLemmas.{IsFiledUpTo}
use Rattle.sct_rights.proofs.by_bank.file_transfers.Given as goal

abbrev pub invariant-loop-i : goal.invariant-loop-i
invariant-loop-i l = (ms : List Draft) → IsFiledByBanks l.initial.index ms → IsFiledUpTo l.message l.i l.index ms
