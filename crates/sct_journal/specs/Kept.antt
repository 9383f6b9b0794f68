-- Which lines a journal's file stands for. Read by an auditor.
--
-- Each line stands behind a gate, a byte of its own. The lines up to the first gate that is not open are kept; what comes
-- after them is nothing, whatever it is. So the bytes behind a shut gate may be torn.
use Rattle.std.specs.Prelude.{◌≡◌, ◌≢◌, ◌⊎◌, ℕ, ◌==◌, Bool, true, List, [], ◌∷◌, ◌++◌, drop, if◌then◌else◌}

-- a space: the line behind it is kept
abbrev pub open_gate : ℕ
open_gate = 32

-- a tab; every byte that is no space shuts too
abbrev pub shut_gate : ℕ
shut_gate = 9

-- the lines where a byte that is no line feed stands before them: it belongs to the first, if a line feed ends that
abbrev pub ended_lines_from_byte : ℕ → List (List ℕ) → List (List ℕ)
ended_lines_from_byte byte [] = []
ended_lines_from_byte byte (line ∷ lines) = (byte ∷ line) ∷ lines

-- the lines that a line feed (10) ends, without it
abbrev pub ended_lines : List ℕ → List (List ℕ)
ended_lines [] = []
ended_lines (byte ∷ bytes) = if byte == 10 then [] ∷ ended_lines bytes else ended_lines_from_byte byte (ended_lines bytes)

-- the lines up to the first that does not begin with an open gate, each without its gate
abbrev pub behind_gates : List (List ℕ) → List (List ℕ)
behind_gates [] = []
behind_gates ([] ∷ lines) = []
behind_gates ((gate ∷ line) ∷ lines) = if gate == open_gate then line ∷ behind_gates lines else []

-- the lines that the bytes of a file stand for, whatever a crash made of them
unfoldable pub kept : List ℕ → List (List ℕ)
kept file = behind_gates (ended_lines file)

-- the lines that a journal records: those kept behind its first line, which names the site
abbrev pub recorded : List ℕ → List (List ℕ)
recorded file = drop 1 (kept file)

-- the bytes begin with an open gate, or there are none
abbrev pub is_ajar : List ℕ → Bool
is_ajar [] = true
is_ajar (gate ∷ bytes) = gate == open_gate

-- ---- the file of a journal that is at rest

-- no line feed is in the line
abbrev pub IsLine : List ℕ → Type 0
IsLine [] = Unit {0}
IsLine (byte ∷ bytes) = (byte ≢ 10) × IsLine bytes

abbrev pub AreLines : List (List ℕ) → Type 0
AreLines [] = Unit {0}
AreLines (line ∷ lines) = IsLine line × AreLines lines

-- a line behind an open gate
abbrev pub gated_line : List ℕ → List ℕ
gated_line line = open_gate ∷ line ++ 10 ∷ []

abbrev pub gated : List (List ℕ) → List ℕ
gated [] = []
gated (line ∷ lines) = gated_line line ++ gated lines

-- lines behind open gates, and then a shut gate: what a file is that no crash has left
abbrev pub at_rest : List (List ℕ) → List ℕ
at_rest lines = gated lines ++ shut_gate ∷ []

-- a file stands for these lines, or for them and all of a batch: never for a part of it
abbrev pub IsBeforeOrAfter : List (List ℕ) → List (List ℕ) → List ℕ → Type 0
IsBeforeOrAfter lines batch file = (kept file ≡ lines) ⊎ (kept file ≡ lines ++ batch)
