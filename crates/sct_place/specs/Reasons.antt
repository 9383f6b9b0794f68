-- Why a call is refused, as the program prints it. Read by an auditor.
use Rattle.std.specs.Prelude.{ℕ, List, [], ◌++◌, Option, Some, None, codes}
use Rattle.std.specs.Fmt.{decimal}
use Rattle.sct_lines.specs.Lines.{json_fault_text}
use Rattle.sct_exchange.specs.RefusedFiles.{refusal_text}
use Rattle.sct_embed.specs.declared.faults.EmbedFault.{EmbedFault}
use Rattle.sct_message.specs.declared.keys.TransferKey.{TransferKey}
use Rattle.sct_rights.specs.declared.permission.Permission.{Permission}
use Rattle.sct_rights.specs.declared.permission.Permission.TheVariants as permission
use Rattle.sct_embed.specs.declared.faults.EmbedFault.TheVariants.{Message, Delta, BadList, Memory, Empty, Full, BadVector, BadArgument, NotYours, Withheld, Snapshot}

-- a transfer in a reason: its bank and its identification, separated by a space
abbrev pub transfer_words : TransferKey → List ℕ
transfer_words transfer = transfer.debtor_agent ++ codes " " ++ transfer.tx

-- why a message may not be sent: the number, and the transaction or the transfer that it is about
unfoldable pub withheld_text : Permission → List ℕ
withheld_text permission.Allowed = []
withheld_text permission.NotSender = codes "81"
withheld_text (permission.NotOriginator place) = codes "82 " ++ decimal place
withheld_text permission.NotBeneficiary = codes "83"
withheld_text (permission.Waits transfer) = codes "84 " ++ transfer_words transfer

-- the number of a fault and its fields, with a space between each two
unfoldable pub fault_text : EmbedFault → List ℕ
fault_text (Message reason) = json_fault_text reason
fault_text (Delta reason) = refusal_text reason
fault_text (BadList row) = codes "48 " ++ decimal row
fault_text Memory = codes "65"
fault_text Empty = codes "70"
fault_text Full = codes "71"
fault_text BadVector = codes "72"
fault_text (BadArgument place) = codes "73 " ++ decimal place
fault_text NotYours = codes "79"
fault_text (Withheld reason) = withheld_text reason
fault_text Snapshot = codes "85"

-- the text of the reason, if there is one
unfoldable pub why_text : Option EmbedFault → List ℕ
why_text (Some reason) = fault_text reason
why_text None = []
