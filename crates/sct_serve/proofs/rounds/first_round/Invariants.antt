-- The lines so far are no questions.
use Rattle.std.proofs.Common.{◌≤◌, length}
use Rattle.sct_serve.proofs.PieceLemmas.{InFront}
use Rattle.sct_serve.proofs.rounds.first_round.Given as goal

abbrev pub invariant-loop-line : goal.invariant-loop-line
invariant-loop-line l = record {
  front : InFront l.text l.rest;
  shorter : length l.rest ≤ length l.text;
}

abbrev pub decreases-loop-line : goal.decreases-loop-line
decreases-loop-line l = length l.rest
