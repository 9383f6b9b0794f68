-- What was done so far, and what is left.
use Rattle.std.proofs.Common.{◌≡◌, ◌++◌, length}
use Rattle.sct_journal.specs.Kept.{ended_lines}
use Rattle.sct_requests.specs.Grants.{answers_to_requests, brought_by, core_after_requests}
use Rattle.sct_requests.proofs.steps.give_all.Given as goal

abbrev pub invariant-loop-request : goal.invariant-loop-request
invariant-loop-request l = record {
  core : core_after_requests l.site.core (ended_lines l.rest) ≡ core_after_requests l.fn.site.core (ended_lines l.text);
  told : l.answers.items ++ answers_to_requests l.site.core (ended_lines l.rest) ≡ answers_to_requests l.fn.site.core (ended_lines l.text);
  kept : l.brought ++ brought_by l.site.core (ended_lines l.rest) ≡ brought_by l.fn.site.core (ended_lines l.text);
  watched : l.site.watched ≡ l.fn.site.watched;
}

abbrev pub decreases-loop-request : goal.decreases-loop-request
decreases-loop-request l = length l.rest
