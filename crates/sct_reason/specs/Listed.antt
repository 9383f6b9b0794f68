-- Read by an auditor: the codes that the reason table lists (external reason codes of ISO 20022), and the other codes.
use Rattle.std.specs.Prelude.{ℕ, ◌&&◌, List, [], ◌∷◌, Bool, not, codes}
use Rattle.std.specs.List.{list_any}
use Rattle.std.specs.Option.{is_some}
use Rattle.sct_element.specs.Identification.{written_code}
use Rattle.sct_element.specs.Text.{is_text}

-- the listed codes, in the order of their texts
abbrev pub listed_codes : List (List ℕ)
listed_codes =
    codes "AB05" ∷ codes "AB06" ∷ codes "AB07" ∷ codes "AB08" ∷ codes "AB09" ∷ codes "AB10"
    ∷ codes "AC01" ∷ codes "AC03" ∷ codes "AC04" ∷ codes "AC06" ∷ codes "AG01" ∷ codes "AG02"
    ∷ codes "AG09" ∷ codes "AG10" ∷ codes "AG11" ∷ codes "AM02" ∷ codes "AM04" ∷ codes "AM05"
    ∷ codes "AM09" ∷ codes "AM23" ∷ codes "ARDT" ∷ codes "BE04" ∷ codes "CUST" ∷ codes "DUPL"
    ∷ codes "FF01" ∷ codes "FOCR" ∷ codes "FRAD" ∷ codes "LEGL" ∷ codes "MD07" ∷ codes "MS02"
    ∷ codes "MS03" ∷ codes "NOAS" ∷ codes "NOOR" ∷ codes "RC01" ∷ codes "RR01" ∷ codes "RR02"
    ∷ codes "RR03" ∷ codes "RR04" ∷ codes "TECH" ∷ codes "TM01" ∷ []

-- the text is one of the listed codes
unfoldable pub is_listed : List ℕ → Bool
is_listed s = list_any (is_text s) listed_codes

-- the text is a code, but not a listed one
unfoldable pub is_other_code : List ℕ → Bool
is_other_code s = is_some (written_code s) && not (is_listed s)
