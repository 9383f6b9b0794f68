-- Cited by proofs and by contracts of inner functions: the steps in which a message's rules are checked.
use Rattle.std.specs.Prelude.{length, not, nat_le, Bool, false, Option, Some, None, if◌then◌else◌}
use Rattle.sct_message.specs.declared.draft.Draft.{Draft}
use Rattle.sct_message.specs.declared.draft.Draft.TheVariants as draft
use Rattle.sct_message.specs.declared.rules.RuleFault.{RuleFault}
use Rattle.sct_message.specs.declared.rules.RuleFault.TheVariants.{WrongName, WrongOriginalName}
use Rattle.sct_message.specs.Kinds.{is_name_of}
use Rattle.sct_message.specs.Drafts.{kind_of, head_of}
use Rattle.sct_message.specs.Rules.{broken_first, broken_in_kind, names_its_original}

-- the first broken rule, except the rules on the list of a recall message
unfoldable pub broken_before_list : Draft → Option RuleFault
broken_before_list d = if not (is_name_of (kind_of d) (head_of d).message_name) then Some WrongName
    else broken_first (broken_in_kind d) (if not (names_its_original d) then Some WrongOriginalName else None)

-- a recall message with more transactions than are allowed
abbrev pub is_long : Draft → Bool
is_long (draft.CancellationRequest d) = not (nat_le (length d.txs) 100)
is_long other = false
