-- What was read of the lines so far, followed by what the others are, is what all of them are.
use Rattle.std.proofs.Common.{◌≡◌, ◌+◌, ◌≤◌, ◌++◌, length}
use Rattle.sct_world.specs.Happenings.{happenings_of}
use Rattle.sct_script.specs.Scripts.{event_refusals_among, event_refusals_text, happenings_among}
use Rattle.sct_lines.proofs.LineLemmas.{lines_left}
use Rattle.sct_script.proofs.script.read_lines.Given as goal

abbrev pub invariant-loop-line : goal.invariant-loop-line
invariant-loop-line l = record {
  counted : l.number + length l.rest ≤ l.before + length l.text;
  sites : l.script.sites ≡ l.sites;
  events : happenings_of l.script.events.items ++ happenings_among (lines_left (l.number + 1) l.rest) ≡ happenings_among (lines_left (l.before + 1) l.text);
  told : l.script.refusals.text ++ event_refusals_text (event_refusals_among (lines_left (l.number + 1) l.rest)) ≡ event_refusals_text (event_refusals_among (lines_left (l.before + 1) l.text));
  refused : l.script.refusals.count + length (event_refusals_among (lines_left (l.number + 1) l.rest)) ≡ length (event_refusals_among (lines_left (l.before + 1) l.text));
}

abbrev pub decreases-loop-line : goal.decreases-loop-line
decreases-loop-line l = length l.rest
