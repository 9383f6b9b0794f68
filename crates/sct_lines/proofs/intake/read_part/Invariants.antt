-- What was read of the lines so far, followed by what the others are, is what the part is.
use Rattle.std.proofs.Common.{◌≡◌, ◌+◌, ◌≤◌, ◌++◌, length}
use Rattle.sct_message.specs.Sets.{messages_in}
use Rattle.sct_lines.specs.Lines.{lines_of, told_after}
use Rattle.sct_lines.specs.Parts.{messages_after, refusals_after}
use Rattle.sct_lines.proofs.intake.read_part.Given as goal

abbrev pub invariant-loop-line : goal.invariant-loop-line
invariant-loop-line l = record {
  before : l.before ≡ l.initial.before;
  counted : l.lines + length l.rest ≤ length l.part;
  lines : l.lines + length (lines_of l.rest) ≡ length (lines_of l.part);
  messages : messages_in l.intake.messages.items ++ messages_after (l.initial.before + l.lines) l.rest ≡ messages_after l.initial.before l.part;
  told : l.intake.refusals.text ++ told_after l.front (refusals_after (l.initial.before + l.lines) l.rest) ≡ told_after l.front (refusals_after l.initial.before l.part);
  refused : l.intake.refusals.count + length (refusals_after (l.initial.before + l.lines) l.rest) ≡ length (refusals_after l.initial.before l.part);
}

abbrev pub decreases-loop-line : goal.decreases-loop-line
decreases-loop-line l = length l.rest
