-- Where no position is untold, the receipts tile the arrivals.
use Rattle.std.proofs.Common.{◌≡◌, ◌∙◌, inl, inr, ℕ, refl, ap, sym, subst, length, arith}
use mathlib.Core.List.{IsPrefix}
use Rattle.sct_desk.specs.declared.shown.Shown.{Shown}
use Rattle.sct_desk.specs.Locked.{IsShown, Locked}
use Rattle.sct_desk.specs.Tilings.{IsPendingFrom, OneShowsMore, Tiles}
use Rattle.sct_site.proofs.Prefixes.{prefix_length, prefix_self, prefix_whole}
use Rattle.sct_desk.proofs.Arrived.{held_more}
use Rattle.sct_desk.proofs.Tellings.{pending_is, tiles_are}
use Rattle.sct_desk.proofs.held.HeldArrivals.untold.Goals as goal
use Rattle.sct_desk.proofs.held.HeldArrivals.untold.Goals.{then-len-via-then-len, then-len-via-else-len+then-not-all_begin}

pub invariant_of-self : goal.invariant_of-self
invariant_of-self g c =
    held_more _ _ _ _ _ _ _ _ _ c.self.invariant c.self.inside.core _ refl refl (prefix_self c.self.inside.core.arrivals)
    (omega (arith, c.self.invariant.marked, c.first_untold_of.ensures.len))

pub returns-in_default-clause-tiles : goal.returns-in_default-clause-tiles
returns-in_default-clause-tiles g c =
    let number : c.number-number.result ≡ g.J.Site.number = c.number-number.ensures ∙ c.self.invariant.number_is in
    let shown : c.published.result.now ≡ c.self.inside.writer.desk.shown.value = c.published.ensures in
    subst (λ (l : Locked). Tiles g.J.Site.number l.core.arrivals c.args.receipts.now) c.self.view_is (
    subst (λ (n : ℕ). Tiles n c.self.inside.core.arrivals c.args.receipts.now) number (
    tiles_are c.number-number.result c.self.inside.core.arrivals c.published.result.now.track.log c.args.receipts.now (length c.arrivals-len.result.now)
    (subst (λ (s : Shown). IsPrefix s.track.log c.self.inside.core.arrivals) (sym shown) c.self.invariant.published)
    (omega (arith, c.len.ensures.length, c.if-len.false, ap length c.arrivals-len.ensures.arrivals))
    (omega (arith, ap length c.arrivals-len.ensures.arrivals)) c.if-not-all_begin.ensures c.in_default.ensures.first
    )
    )

pub returns-then-len-clause-pending : goal.returns-then-len-clause-pending
returns-then-len-clause-pending g c from is =
    let number : c.number-number.result ≡ g.J.Site.number = c.number-number.ensures ∙ c.self.invariant.number_is in
    let published = c.self.inside.writer.desk.shown.value.track.log in
    let arrivals = c.self.inside.core.arrivals in
    subst (λ (l : Locked). IsPendingFrom g.J.Site.number l c.args.receipts.now from) c.self.view_is (
    pending_is g.J.Site.number (record { core = c.self.inside.core; published = published }) c.args.receipts.now c.len-then-len.result from
    (c.len-then-len.ensures.length ∙ ap (λ (s : Shown). length s.track.log) c.published.ensures) is
    (elim c.then-len.branch [
      | then-len-via-then-len w ↦
          inl (omega (arith, prefix_length published arrivals c.self.invariant.published, w.if-len.true, c.len.ensures.length, ap (λ (s : Shown). length s.track.log) c.published.ensures, ap length c.arrivals-len.ensures.arrivals))
      | then-len-via-else-len+then-not-all_begin w ↦
          inr (subst (λ (n : ℕ). OneShowsMore n published c.args.receipts.now) number
          (subst (λ (s : Shown). OneShowsMore c.number-number.result s.track.log c.args.receipts.now) c.published.ensures w.if-not-all_begin.ensures))
    ])
    )

pub first_untold_of-requires-clause-room : goal.first_untold_of-requires-clause-room
first_untold_of-requires-clause-room g c = λ k d inside site.
    omega (arith, prefix_length _ _ (c.if-not-all_begin.ensures k d inside site), c.len.ensures.length, c.if-len.false)

-- nothing is pending, as the published arrivals are as many as all
pub returns-in_default-clause-order : goal.returns-in_default-clause-order
returns-in_default-clause-order g c =
    subst (λ (l : Locked). IsShown l) c.self.view_is (
    prefix_whole c.self.inside.writer.desk.shown.value.track.log c.self.inside.core.arrivals c.self.invariant.published
    (omega (arith, c.len.ensures.length, c.if-len.false, ap length c.arrivals-len.ensures.arrivals, ap (λ (s : Shown). length s.track.log) c.published.ensures))
    )

pub returns-clause-order : goal.returns-clause-order
returns-clause-order g c =
    subst (λ (l : Locked). IsShown l) c.self.view_is (
    prefix_whole c.self.inside.writer.desk.shown.value.track.log c.self.inside.core.arrivals c.self.invariant.published
    (omega (arith, c.len.ensures.length, c.if-len.false, ap length c.arrivals-len.ensures.arrivals, ap (λ (s : Shown). length s.track.log) c.published.ensures))
    )
