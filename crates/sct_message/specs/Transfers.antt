-- The messages on one transfer, for auditors: what a set of messages holds of each transfer.
use Rattle.std.specs.FinSet as set
use Rattle.std.specs.Prelude.{Bool, true, false, List, [], ◌∷◌, map, filter, Option, None, Some}
use Rattle.std.specs.List.{list_any, flat_map}
use Rattle.sct_message.specs.Ascending.{ascending}
use Rattle.sct_message.specs.Keys.{identity_of, transfers_of}
use Rattle.sct_message.specs.Order.{identity_order, transfer_order, same_transfer}
use Rattle.sct_message.specs.Sets.{MessageSet, clean_messages, contradicted_messages}
use Rattle.sct_message.specs.declared.draft.Draft.{Draft}
use Rattle.sct_message.specs.declared.draft.Draft.TheVariants.{CreditTransfer}
use Rattle.sct_message.specs.declared.keys.Identity.{Identity}
use Rattle.sct_message.specs.declared.keys.TransferKey.{TransferKey}

-- the message is on the transfer: the transfer is one of its keys
abbrev pub is_on : TransferKey → Draft → Bool
is_on transfer m = list_any (λ key. same_transfer key transfer) (transfers_of m)

-- the clean messages on a transfer, in the order of messages
abbrev pub messages_on : MessageSet → TransferKey → List Draft
messages_on held transfer = filter (is_on transfer) (clean_messages held)

-- the asides of a transfer: the contradicted identities that a message on it has, ascending
abbrev pub asides_of : MessageSet → TransferKey → List Identity
asides_of held transfer =
    ascending identity_order (map identity_of (filter (is_on transfer) (contradicted_messages held)))

-- the keys of the set: the transfers that its messages are on, ascending
abbrev pub keys_of : MessageSet → List TransferKey
keys_of held = ascending transfer_order (flat_map transfers_of (set.items held))

abbrev pub is_instruction : Draft → Bool
is_instruction (CreditTransfer d) = true
is_instruction other = false

-- the one item of a list, if the list has exactly one
abbrev pub sole : {X : Type 0} → List X → Option X
sole [] = None
sole (x ∷ []) = Some x
sole (x ∷ (y ∷ ys)) = None

-- the instruction of a transfer, if exactly one clean message instructs it
abbrev pub instruction_of : MessageSet → TransferKey → Option Draft
instruction_of held transfer = sole (filter is_instruction (messages_on held transfer))
