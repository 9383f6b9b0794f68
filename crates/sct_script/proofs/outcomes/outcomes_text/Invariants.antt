-- The lines so far, and those of what is left.
use Rattle.std.proofs.Common.{◌≡◌, ◌+◌, ◌++◌, string_bytes}
use Rattle.std.specs.List.{flat_map, enumerate_from}
use Rattle.sct_script.specs.Replays.{outcome_line}
use Rattle.sct_script.proofs.ReplayLemmas.{pieces_left}
use Rattle.sct_script.proofs.outcomes.outcomes_text.Given as goal

abbrev pub invariant-loop-outcome : goal.invariant-loop-outcome
invariant-loop-outcome l = record {
  count : l.number ≡ l.outcome-index;
  left : string_bytes l.text ++ pieces_left outcome_line l.outcomes l.outcome-index (l.outcome-index + 1) ≡ flat_map outcome_line (enumerate_from 1 l.outcomes);
}
