-- Read by an auditor: the text of each reason.
use Rattle.std.specs.Prelude.{ℕ, List, [], ◌∷◌, codes}
use Rattle.sct_reason.specs.declared.reasons.Reason.{Reason}
use Rattle.sct_reason.specs.declared.reasons.Reason.TheVariants.{AB05, AB06, AB07, AB08, AB09, AB10, AC01, AC03, AC04, AC06, AG01, AG02, AG09, AG10, AG11, AM02, AM04, AM05, AM09, AM23, ARDT, BE04, CUST, DUPL, FF01, FOCR, FRAD, LEGL, MD07, MS02, MS03, NOAS, NOOR, RC01, RR01, RR02, RR03, RR04, TECH, TM01, Unlisted}
pub use Rattle.sct_reason.specs.Listed.{is_listed, is_other_code}

abbrev pub reason_text : Reason → List ℕ
reason_text AB05 = codes "AB05"
reason_text AB06 = codes "AB06"
reason_text AB07 = codes "AB07"
reason_text AB08 = codes "AB08"
reason_text AB09 = codes "AB09"
reason_text AB10 = codes "AB10"
reason_text AC01 = codes "AC01"
reason_text AC03 = codes "AC03"
reason_text AC04 = codes "AC04"
reason_text AC06 = codes "AC06"
reason_text AG01 = codes "AG01"
reason_text AG02 = codes "AG02"
reason_text AG09 = codes "AG09"
reason_text AG10 = codes "AG10"
reason_text AG11 = codes "AG11"
reason_text AM02 = codes "AM02"
reason_text AM04 = codes "AM04"
reason_text AM05 = codes "AM05"
reason_text AM09 = codes "AM09"
reason_text AM23 = codes "AM23"
reason_text ARDT = codes "ARDT"
reason_text BE04 = codes "BE04"
reason_text CUST = codes "CUST"
reason_text DUPL = codes "DUPL"
reason_text FF01 = codes "FF01"
reason_text FOCR = codes "FOCR"
reason_text FRAD = codes "FRAD"
reason_text LEGL = codes "LEGL"
reason_text MD07 = codes "MD07"
reason_text MS02 = codes "MS02"
reason_text MS03 = codes "MS03"
reason_text NOAS = codes "NOAS"
reason_text NOOR = codes "NOOR"
reason_text RC01 = codes "RC01"
reason_text RR01 = codes "RR01"
reason_text RR02 = codes "RR02"
reason_text RR03 = codes "RR03"
reason_text RR04 = codes "RR04"
reason_text TECH = codes "TECH"
reason_text TM01 = codes "TM01"
reason_text (Unlisted other) = other.code

-- the listed reasons, in the order of their texts
abbrev pub listed : List Reason
listed =
    AB05 ∷ AB06 ∷ AB07 ∷ AB08 ∷ AB09 ∷ AB10 ∷ AC01 ∷ AC03 ∷ AC04 ∷ AC06
    ∷ AG01 ∷ AG02 ∷ AG09 ∷ AG10 ∷ AG11 ∷ AM02 ∷ AM04 ∷ AM05 ∷ AM09 ∷ AM23
    ∷ ARDT ∷ BE04 ∷ CUST ∷ DUPL ∷ FF01 ∷ FOCR ∷ FRAD ∷ LEGL ∷ MD07 ∷ MS02
    ∷ MS03 ∷ NOAS ∷ NOOR ∷ RC01 ∷ RR01 ∷ RR02 ∷ RR03 ∷ RR04 ∷ TECH ∷ TM01 ∷ []
