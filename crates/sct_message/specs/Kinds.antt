-- Read by an auditor: the kinds of interbank messages (ISO 20022), their texts and their names.
use Rattle.std.specs.Prelude.{ℕ, ◌&&◌, ◌||◌, ◌==◌, List, [], ◌∷◌, length, take, drop, slice_index, Bool, Option, find, codes}
use Rattle.std.specs.Char.{is_ascii_digit}
use Rattle.std.specs.List.{list_all}
use Rattle.sct_element.specs.Text.{is_text}
use Rattle.sct_message.specs.declared.kinds.Kind.{Kind}
use Rattle.sct_message.specs.declared.kinds.Kind.TheVariants.{Camt029, Camt056, Pacs002, Pacs004, Pacs008, Pacs028}

-- a kind's text
abbrev pub kind_text : Kind → List ℕ
kind_text Camt029 = codes "camt.029"
kind_text Camt056 = codes "camt.056"
kind_text Pacs002 = codes "pacs.002"
kind_text Pacs004 = codes "pacs.004"
kind_text Pacs008 = codes "pacs.008"
kind_text Pacs028 = codes "pacs.028"

-- a point, three digits, a point and two digits
abbrev pub is_version : List ℕ → Bool
is_version s =
    (length s == 7)
    && (slice_index s 0 == 46)
    && list_all is_ascii_digit (take 3 (drop 1 s))
    && (slice_index s 4 == 46)
    && list_all is_ascii_digit (drop 5 s)

-- the kind alone, or the kind followed by a version
abbrev pub is_name_of : Kind → List ℕ → Bool
is_name_of kind s =
    is_text (take 8 s) (kind_text kind) && (length (drop 8 s) == 0 || is_version (drop 8 s))

-- every kind, in the order of the kinds' texts
abbrev pub kinds : List Kind
kinds =
    Camt029
    ∷ Camt056
    ∷ Pacs002
    ∷ Pacs004
    ∷ Pacs008
    ∷ Pacs028
    ∷ []

-- the kind that a text is a name of
abbrev pub kind_named : List ℕ → Option Kind
kind_named s = find (λ kind. is_name_of kind s) kinds
