-- Read by an auditor: the reasons that are usual in each use, by this project's choice, and who asks
-- for a recall (by the rulebook, EPC004-16).
use Rattle.std.specs.Prelude.{ℕ, List, [], ◌∷◌, Bool, if◌then◌else◌, codes}
use Rattle.std.specs.List.{list_any}
use Rattle.sct_reason.specs.declared.reasons.Reason.{Reason}
use Rattle.sct_reason.specs.declared.uses.Use.{Use}
use Rattle.sct_reason.specs.declared.uses.Use.TheVariants.{Reject, Recall, Refusal, Return}
use Rattle.sct_reason.specs.declared.uses.RecallClass.{RecallClass}
use Rattle.sct_reason.specs.declared.uses.RecallClass.TheVariants.{Bank, Originator, Unlisted}
use Rattle.sct_element.specs.Text.{is_text}
use Rattle.sct_reason.specs.Codes.{reason_text}

-- the rows of the reason table
abbrev pub usual_codes : Use → List (List ℕ)
usual_codes Reject =
    codes "AB05" ∷ codes "AB06" ∷ codes "AB07" ∷ codes "AB08" ∷ codes "AB09" ∷ codes "AB10"
    ∷ codes "AC01" ∷ codes "AC04" ∷ codes "AC06" ∷ codes "AG01" ∷ codes "AG02" ∷ codes "AG09"
    ∷ codes "AG10" ∷ codes "AG11" ∷ codes "AM02" ∷ codes "AM04" ∷ codes "AM05" ∷ codes "AM09"
    ∷ codes "AM23" ∷ codes "BE04" ∷ codes "FF01" ∷ codes "MD07" ∷ codes "MS02" ∷ codes "MS03"
    ∷ codes "RC01" ∷ codes "RR01" ∷ codes "RR02" ∷ codes "RR03" ∷ codes "RR04" ∷ codes "TM01" ∷ []
usual_codes Recall =
    codes "DUPL" ∷ codes "TECH" ∷ codes "FRAD" ∷ codes "CUST" ∷ codes "AC03" ∷ codes "AM09" ∷ []
usual_codes Refusal =
    codes "AC04" ∷ codes "AM04" ∷ codes "ARDT" ∷ codes "CUST" ∷ codes "LEGL" ∷ codes "NOAS"
    ∷ codes "NOOR" ∷ []
usual_codes Return = codes "FOCR" ∷ []

-- the reason's text is one of these codes
unfoldable pub is_among : List (List ℕ) → Reason → Bool
is_among row r = list_any (is_text (reason_text r)) row

-- the reason's text is in the row of that use
unfoldable pub is_usual : Reason → Use → Bool
is_usual r purpose = is_among (usual_codes purpose) r

-- recalls that the originator bank asks for
abbrev pub bank_codes : List (List ℕ)
bank_codes = codes "DUPL" ∷ codes "TECH" ∷ codes "FRAD" ∷ []

-- recalls that the originator asks for
abbrev pub originator_codes : List (List ℕ)
originator_codes = codes "CUST" ∷ codes "AC03" ∷ codes "AM09" ∷ []

unfoldable pub class_of : Reason → RecallClass
class_of r =
    if is_among bank_codes r then Bank
    else if is_among originator_codes r then Originator
    else Unlisted
