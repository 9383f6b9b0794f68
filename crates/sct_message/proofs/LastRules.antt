-- The rules on the list of a recall message come after all others, and those on one transaction ask it of each.
use Rattle.std.proofs.Common.{◌≡◌, refl, Bool, true, false, cond, Option, Some, None}
use Rattle.std.specs.Prelude.{not}
use Rattle.sct_message.specs.declared.draft.Draft.{Draft}
use Rattle.sct_message.specs.declared.rules.RuleFault.{RuleFault}
use Rattle.sct_message.specs.declared.rules.RuleFault.TheVariants.{WrongName, WrongOriginalName}
use Rattle.sct_message.specs.Drafts.{kind_of, head_of}
use Rattle.sct_message.specs.Kinds.{is_name_of}
use Rattle.sct_message.specs.Inside.{broken_before_list}
use Rattle.sct_message.specs.Rules.{broken_first, broken_in_kind, broken_in_list, first_broken_rule, names_its_original}

last_by : (unnamed astray : Bool) (in_kind in_list : Option RuleFault)
    → cond unnamed (Some WrongName) (broken_first in_kind (cond astray (Some WrongOriginalName) in_list))
    ≡ broken_first (cond unnamed (Some WrongName) (broken_first in_kind (cond astray (Some WrongOriginalName) None))) in_list
last_by true astray in_kind in_list = refl
last_by false true None in_list = refl
last_by false false None in_list = refl
last_by false astray (Some broken) in_list = refl

pub list_last : (d : Draft) → first_broken_rule d ≡ broken_first (broken_before_list d) (broken_in_list d)
unfolding first_broken_rule broken_before_list
list_last d =
    last_by (not (is_name_of (kind_of d) (head_of d).message_name)) (not (names_its_original d)) (broken_in_kind d) (broken_in_list d)
