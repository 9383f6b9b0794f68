-- The lines of the findings so far.
use Rattle.std.proofs.Common.{◌≡◌, ◌++◌, take}
use Rattle.std.specs.Prelude.{string_bytes, flat_map}
use Rattle.sct_view.specs.StatusText.{finding_line}
use Rattle.sct_view.proofs.status_text.push_findings.Given as goal

abbrev pub invariant-loop-finding : goal.invariant-loop-finding
invariant-loop-finding l = string_bytes l.text ≡ string_bytes l.initial.text ++ flat_map (finding_line l.transfer) (take l.finding-index l.found)
