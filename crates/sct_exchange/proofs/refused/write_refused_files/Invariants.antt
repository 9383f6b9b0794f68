-- The lines of the files so far are written.
use Rattle.std.proofs.Common.{◌≡◌, string_bytes, take}
use Rattle.std.specs.Prelude.{flat_map}
use Rattle.sct_exchange.specs.RefusedFiles.{refused_line}
use Rattle.sct_exchange.proofs.refused.write_refused_files.Given as goal

abbrev pub invariant-loop-file : goal.invariant-loop-file
invariant-loop-file l = string_bytes l.text ≡ flat_map refused_line (take l.file-index l.files)
