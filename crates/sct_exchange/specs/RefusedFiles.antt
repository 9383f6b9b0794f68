-- How the refused files are reported. Read by an auditor.
use Rattle.std.specs.Prelude.{ℕ, List, ◌++◌, codes, flat_map}
use Rattle.std.specs.Fmt.{decimal}
use Rattle.sct_delta.specs.Faults.{fields_of_fault}
use Rattle.sct_delta.specs.declared.fault.DeltaFault.{DeltaFault}
use Rattle.sct_exchange.specs.declared.refused.RefusedFile.{RefusedFile}

-- the number of a refusal and its fields, with a space between each two
unfoldable pub refusal_text : DeltaFault → List ℕ
refusal_text refusal = fields_of_fault (codes " ") refusal

-- the line that reports a refused file, with its line feed
unfoldable pub refused_line : RefusedFile → List ℕ
refused_line file = codes "file " ++ decimal file.number ++ codes ": " ++ refusal_text file.fault ++ codes "\n"

-- the lines that report refused files
unfoldable pub refused_text : List RefusedFile → List ℕ
refused_text files = flat_map refused_line files
