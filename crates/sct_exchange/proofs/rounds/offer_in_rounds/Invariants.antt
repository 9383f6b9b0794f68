-- Rounds over what is left come to the same as from the start. A round that leaves all files accepted none.
use Rattle.std.proofs.Common.{◌≡◌, ◌≤◌, length, false}
use Rattle.sct_exchange.specs.Rounds.{accepts_some, numbered_files}
use Rattle.sct_exchange.proofs.RoundLemmas.{ComesToTheSame}
use Rattle.sct_exchange.proofs.rounds.offer_in_rounds.Given as goal

abbrev pub invariant-rounds : goal.invariant-rounds
invariant-rounds l = record {
  comes : ComesToTheSame (length l.fn.files.items) (record { core = l.fn.core; left = numbered_files l.fn.files.items })
      (record { core = l.core; left = l.left.items });
  most : length l.left.items ≤ l.before;
  none : length l.left.items ≡ l.before → accepts_some (record { core = l.core; left = l.left.items }) ≡ false;
}

abbrev pub decreases-rounds : goal.decreases-rounds
decreases-rounds l = l.before
