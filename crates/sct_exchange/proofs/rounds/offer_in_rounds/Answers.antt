-- Each round leaves at most as many files, and the last one leaves as many.
use Rattle.std.proofs.Common.{◌≡◌, ap, arith, length, sym, subst, false, ℕ}
use Rattle.sct_exchange.specs.Rounds.{Offers, accepts_some, exchanged, numbered_files, round}
use Rattle.sct_exchange.proofs.RoundLemmas.{ComesToTheSame, after_any_round, all_left, at_end, at_start, round_at_most}
use Rattle.sct_exchange.proofs.rounds.offer_in_rounds.Goals as goal

pub rounds-init : goal.rounds-init
rounds-init c = record {
  comes = at_start c.args.core.now c.args.files.items c.in_ok-left.left.items c.in_ok-left.ensures.numbered;
  most = omega (arith, c.len-before.ensures, c.in_ok-left.left.ok);
  none = λ same. absurd (omega (arith, c.len-before.ensures, c.in_ok-left.left.ok, same));
}

-- what a round comes to
after : (c : goal.In_ok-left-2) → round c.rounds.core c.rounds.left.items ≡ record { core = c.round.new.core; left = c.in_ok-left-2.left.items }
after c = λ i. record { core = sym c.in_ok-left-2.ensures.core i; left = sym c.in_ok-left-2.ensures.left i }

pub rounds-preserved : goal.rounds-preserved
rounds-preserved c =
    let most : ℕ = length c.args.files.items in
    let start : Offers = record { core = c.args.core.now; left = numbered_files c.args.files.items } in
    let now : Offers = record { core = c.rounds.core; left = c.rounds.left.items } in
    record {
      comes = subst (λ (offers : Offers). ComesToTheSame most start offers) (after c) (after_any_round most start now c.rounds.invariant.comes);
      most = omega (arith, ap length c.in_ok-left-2.ensures.left, round_at_most c.rounds.core c.rounds.left.items, c.len-before-in-rounds.ensures, c.rounds.left.ok);
      none = λ same. subst (λ (offers : Offers). accepts_some offers ≡ false) (after c)
          (all_left now (omega (arith, ap length c.in_ok-left-2.ensures.left, c.len-before-in-rounds.ensures, c.rounds.left.ok, same)));
    }

-- what is left after the last round is what the rounds come to
ended : (c : goal.After-rounds) → record { core = c.rounds.core; left = c.rounds.left.items } ≡ exchanged c.args.core.now c.args.files.items
ended c =
    at_end c.args.core.now c.args.files.items (record { core = c.rounds.core; left = c.rounds.left.items }) c.rounds.invariant.comes
    (c.rounds.invariant.none (omega (arith, c.rounds-test.false, c.len.ensures, c.rounds.left.ok, c.rounds.invariant.most)))

pub returns-clause-core : goal.returns-clause-core
returns-clause-core c = ap (λ (offers : Offers). offers.core) (ended c)

pub returns-clause-left : goal.returns-clause-left
returns-clause-left c = ap (λ (offers : Offers). offers.left) (ended c)
