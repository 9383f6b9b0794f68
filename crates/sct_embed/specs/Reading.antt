-- What a site reads in a text of messages, without taking them. Read by an auditor.
use Rattle.std.specs.Prelude.{ℕ, List, flat_map, Result, Ok, Err}
use Rattle.sct_message.specs.declared.draft.Draft.{Draft}
use Rattle.sct_json.specs.Reading.{message_in}
use Rattle.sct_json.specs.declared.faults.JsonFault.{JsonFault}
use Rattle.sct_lines.specs.Lines.{lines_of, numbered_from, refusal_line}
use Rattle.sct_set.specs.Archive.{line_of}

-- a message is read: its line, as the archive text has it. Or it is refused: the line that reports that
abbrev pub read_as : ℕ → Result Draft JsonFault → List ℕ
read_as number (Ok message) = line_of message
read_as number (Err fault) = refusal_line (number, fault)

-- what a line is read as, with its number
abbrev pub reading_of : ℕ × List ℕ → List ℕ
reading_of line = read_as line.0 (message_in line.1)

abbrev pub readings_of : List (ℕ × List ℕ) → List ℕ
readings_of lines = flat_map reading_of lines

-- what each line of a text is read as that is not blank; lines count from 1
abbrev pub reading_text_of : List ℕ → List ℕ
reading_text_of text = readings_of (numbered_from 1 (lines_of text))
