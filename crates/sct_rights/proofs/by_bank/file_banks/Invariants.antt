-- The messages so far are filed after those that were.
use Rattle.std.proofs.Common.{List, ◌++◌, take}
use Rattle.sct_message.specs.Sets.{messages_in}
use Rattle.sct_message.specs.declared.draft.Draft.{Draft}
use Rattle.sct_rights.specs.ByBanks.{IsFiledByBanks}
use Rattle.sct_rights.proofs.by_bank.file_banks.Given as goal

abbrev pub invariant-loop-message : goal.invariant-loop-message
invariant-loop-message l = (ms : List Draft) → IsFiledByBanks l.initial.index ms → IsFiledByBanks l.index (ms ++ messages_in (take l.message-index l.messages))
