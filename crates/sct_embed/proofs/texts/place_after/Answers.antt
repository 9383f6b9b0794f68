-- The last own entry that is not above the count is right before the place.
use Rattle.std.proofs.Common.{◌≡◌, ◌∙◌, ap, sym, subst, ℕ, ◌+◌, ◌-◌, ◌≤◌, take, arith}
use Rattle.sct_delta.specs.Entries.{Placed}
use Rattle.sct_embed.specs.Asking.{own_above}
use Rattle.sct_embed.proofs.EntryLemmas.{none_up_to}
use Rattle.sct_embed.proofs.texts.place_after.Goals as goal

pub returns-then-entry-above-clause-none : goal.returns-then-entry-above-clause-none
returns-then-entry-above-clause-none c =
    let place : c.loop-at.at ≡ c.loop-at.at - 1 + 1 = omega arith in
    ap (λ (at : ℕ). own_above c.args.number c.args.above (take at c.args.arrivals.now)) place
    ∙ none_up_to c.args.number c.args.above (c.loop-at.at - 1) c.args.arrivals.now c.index-arrivals-at.result c.requires (omega arith) c.index-arrivals-at.is
    (ap (λ (x : Placed). x.origin) (sym c.entry.view_is) ∙ c.if-entry-number.true)
    (subst (λ (x : Placed). x.n ≤ c.args.above) c.entry.view_is c.if-entry-above.true)
