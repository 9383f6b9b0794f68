-- The number of a version text. Read by an auditor.
use Rattle.std.specs.Prelude.{ℕ, List, [], ◌∷◌, ◌+◌, ◌*◌, ◌-◌, ◌==◌, if◌then◌else◌}

-- the number that the parts before come to, the digits of the part so far, and the bytes that follow: a dot (46) ends a part
abbrev pub number_from : ℕ → ℕ → List ℕ → ℕ
number_from parts digits [] = parts + digits
number_from parts digits (byte ∷ bytes) =
    if byte == 46 then number_from (1000 * (parts + digits)) 0 bytes else number_from parts (10 * digits + (byte - 48)) bytes

-- 1000000 for each major version, 1000 for each minor one, and 1 for each patch: 1002003 for 1.2.3
abbrev pub version_number : List ℕ → ℕ
version_number text = number_from 0 0 text
