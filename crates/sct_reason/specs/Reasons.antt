-- Read by an auditor: the reason that a code is, and the order of reasons.
use Rattle.std.specs.Prelude.{◌≡◌, ℕ, List, Bool, true, false, Option, Some, None, find, refl}
use Rattle.std.specs.Ordering.{nat_cmp}
use Rattle.std.specs.declared.cmp.Ordering.{Ordering}
use Rattle.std.specs.Cmp.Lexicographic.{slice_cmp}
use Rattle.sct_reason.specs.declared.other.OtherCode.{OtherCode}
use Rattle.sct_reason.specs.declared.reasons.Reason.{Reason}
use Rattle.sct_reason.specs.declared.reasons.Reason.TheVariants.{Unlisted}
use Rattle.sct_element.specs.Text.{is_text}
use Rattle.sct_reason.specs.Listed.{is_other_code}
use Rattle.sct_reason.specs.Codes.{reason_text, listed}

-- the listed reason of that text
unfoldable pub listed_reason : List ℕ → Option Reason
listed_reason s = find (λ r. is_text s (reason_text r)) listed

-- the other code of that text
abbrev pub other_where : (s : List ℕ) (other : Bool) → is_other_code s ≡ other → Option OtherCode
other_where s true e = Some (record { code = s; other = e })
other_where s false e = None

unfoldable pub other_of : List ℕ → Option OtherCode
other_of s = other_where s (is_other_code s) refl

abbrev pub unlisted : Option OtherCode → Option Reason
unlisted None = None
unlisted (Some other) = Some (Unlisted other)

-- the first of two reasons that is not none
abbrev pub or_else : Option Reason → Option Reason → Option Reason
or_else None s = s
or_else (Some r) s = Some r

-- the listed reason of that text, else the other code, else none
unfoldable pub reason_of : List ℕ → Option Reason
reason_of s = or_else (listed_reason s) (unlisted (other_of s))

-- reasons are ordered by the bytes of their texts
abbrev pub reason_order : Reason → Reason → Ordering
reason_order a b = slice_cmp nat_cmp (reason_text a) (reason_text b)
