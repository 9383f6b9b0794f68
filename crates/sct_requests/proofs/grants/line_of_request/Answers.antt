-- What comes after the banks of a line is a line.
use Rattle.std.proofs.Common.{subst, sym}
use Rattle.sct_journal.specs.Kept.{IsLine}
use Rattle.sct_requests.proofs.GrantLemmas.{sent_is_line}
use Rattle.sct_requests.proofs.grants.line_of_request.Goals as goal

pub returns-clause-line : goal.returns-clause-line
returns-clause-line c = subst IsLine (sym c.as_parts.ensures.line) (sent_is_line c.args.request.now c.requires)
