-- The copies so far are the findings that were looked at.
use Rattle.std.proofs.Common.{◌≡◌, take}
use Rattle.sct_case.proofs.finding.copy_findings.Given as goal

abbrev pub invariant-loop-finding : goal.invariant-loop-finding
invariant-loop-finding l = l.copies.items ≡ take l.finding-index l.findings
