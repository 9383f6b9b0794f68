-- Scripts: the number of sites, the events line by line, and the refused lines. Read by an auditor.
use Rattle.std.specs.Prelude.{ℕ, ◌++◌, List, [], ◌∷◌, drop, codes, decimal, Option, Some, None, option_map, option_and_then, if◌then◌else◌}
use Rattle.std.specs.List.{filter_map, flat_map}
use Rattle.std.specs.Result.{result_ok, result_err}
use Rattle.sct_lines.specs.Lines.{lines_of, numbered_from, json_fault_text}
use Rattle.sct_delta.specs.TextLines.{after_prefix, number_in}
use Rattle.sct_world.specs.Happenings.{Happening}
use Rattle.sct_world.specs.States.{is_size}
use Rattle.sct_script.specs.Events.{happening_in}
use Rattle.sct_script.specs.declared.fault.LineFault.{LineFault}
use Rattle.sct_script.specs.declared.fault.LineFault.TheVariants as fault

-- a line with its number
abbrev pub NumberedLine : Type 0
NumberedLine = ℕ × List ℕ

-- the lines of an input that are not skipped; lines count from 1
abbrev pub script_lines : List ℕ → List NumberedLine
script_lines input = numbered_from 1 (lines_of input)

-- ---- the first line

abbrev pub size_named : ℕ → Option ℕ
size_named number = if is_size number then Some number else None

-- the number of sites in a first line
unfoldable pub size_in : List ℕ → Option ℕ
size_in line = option_and_then size_named (option_and_then number_in (after_prefix (codes "sites ") line))

abbrev pub size_among : List NumberedLine → Option ℕ
size_among [] = None
size_among (first ∷ others) = size_in first.1

-- the number of sites of a script; none if the input is not a script
unfoldable pub sites_told : List ℕ → Option ℕ
sites_told input = size_among (script_lines input)

-- ---- the lines after the first one

abbrev pub event_lines : List ℕ → List NumberedLine
event_lines input = drop 1 (script_lines input)

-- the events of these lines, in their order
unfoldable pub happenings_among : List NumberedLine → List Happening
happenings_among lines = filter_map (λ line. result_ok (happening_in line.1)) lines

-- the refused lines among these, each with the reason
unfoldable pub event_refusals_among : List NumberedLine → List (ℕ × LineFault)
event_refusals_among lines = filter_map (λ line. option_map (λ fault. (line.0, fault)) (result_err (happening_in line.1))) lines

abbrev pub happenings_told : List ℕ → List Happening
happenings_told input = happenings_among (event_lines input)

abbrev pub event_refusals_told : List ℕ → List (ℕ × LineFault)
event_refusals_told input = event_refusals_among (event_lines input)

-- ---- the text of refused lines

-- 64 if the line is not an event, else the refusal of the message
unfoldable pub line_fault_text : LineFault → List ℕ
line_fault_text fault.NoEvent = codes "64"
line_fault_text (fault.Message refusal) = json_fault_text refusal

-- the line that reports a refusal, with its line feed
unfoldable pub event_refusal_line : ℕ × LineFault → List ℕ
event_refusal_line refusal = codes "line " ++ decimal refusal.0 ++ codes ": " ++ line_fault_text refusal.1 ++ 10 ∷ []

unfoldable pub event_refusals_text : List (ℕ × LineFault) → List ℕ
event_refusals_text refusals = flat_map event_refusal_line refusals
