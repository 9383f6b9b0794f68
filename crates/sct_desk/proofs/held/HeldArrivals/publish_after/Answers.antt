-- What is handed over is the view of all arrivals, and what is published goes on to it.
use Rattle.std.proofs.Common.{◌≡◌, ◌∙◌, ℕ, ap, arith, sym, subst, drop, length}
use Rattle.logbook.specs.Pages.{Book}
use Rattle.sct_desk.specs.declared.shown.Shown.{Shown}
use Rattle.sct_desk.specs.Locked.{Locked}
use Rattle.sct_desk.specs.Passes.{IsReceipt}
use Rattle.sct_desk.specs.Rules.{GoesOn, handed_over, view_of}
use Rattle.sct_desk.proofs.Updates.{given_now, goes_on, held_given, held_shown}
use Rattle.sct_desk.proofs.held.HeldArrivals.publish_after.Goals as goal

pub show-requires : goal.show-requires
show-requires g c =
    let x = c.self.inside.writer.desk.shown.value in
    let es = c.self.inside.core.arrivals in
    let bs = drop c.hand_over.new.writer.behind c.hand_over.new.writer.log.items in
    let same : c.hand_over.new.writer.desk.shown.value ≡ x = ap (λ d. d.shown.value) c.hand_over.ensures.desk in
    let log : c.follow.new.track.log ≡ es = c.if-not-follow.ensures.all ∙ c.arrivals.ensures.arrivals in
    let all : handed_over x bs ≡ view_of g.J.Site.book es =
    given_now x bs (drop c.self.inside.writer.behind c.self.inside.writer.log.items) g.J.Site.book es c.arrivals-2.result.now c.self.inside.handed c.follow.new.track c.self.invariant.given
    c.arrivals-2.ensures.arrivals (c.follow.ensures.book ∙ c.self.invariant.book_is) log c.in-Ok.ensures.ok in
    subst (λ (s : Shown). GoesOn s (handed_over s bs)) (sym same) (goes_on x (handed_over x bs) g.J.Site.book es c.self.invariant.viewed c.self.invariant.published all)

pub invariant_of-self-in_default-show : goal.invariant_of-self-in_default-show
invariant_of-self-in_default-show g c =
    let x = c.self.inside.writer.desk.shown.value in
    let es = c.self.inside.core.arrivals in
    let bs = drop c.hand_over.new.writer.behind c.hand_over.new.writer.log.items in
    let same : c.hand_over.new.writer.desk.shown.value ≡ x = ap (λ d. d.shown.value) c.hand_over.ensures.desk in
    let log : c.follow.new.track.log ≡ es = c.if-not-follow.ensures.all ∙ c.arrivals.ensures.arrivals in
    let all : handed_over x bs ≡ view_of g.J.Site.book es =
    given_now x bs (drop c.self.inside.writer.behind c.self.inside.writer.log.items) g.J.Site.book es c.arrivals-2.result.now c.self.inside.handed c.follow.new.track c.self.invariant.given
    c.arrivals-2.ensures.arrivals (c.follow.ensures.book ∙ c.self.invariant.book_is) log c.in-Ok.ensures.ok in
    held_given _ _ _ _ c.self.inside.track x _ c.self.inside.handed _ c.self.invariant c.follow.new.track _ _ _
    (c.follow.ensures.book ∙ c.self.invariant.book_is) log (c.in_default-show.ensures.err ∙ same)
    (ap (handed_over x) c.in_default-show.ensures.same ∙ all) (ap length c.arrivals-3.ensures.arrivals)

pub invariant_of-self-2 : goal.invariant_of-self-2
invariant_of-self-2 g c =
    let x = c.self.inside.writer.desk.shown.value in
    let es = c.self.inside.core.arrivals in
    let bs = drop c.hand_over.new.writer.behind c.hand_over.new.writer.log.items in
    let same : c.hand_over.new.writer.desk.shown.value ≡ x = ap (λ d. d.shown.value) c.hand_over.ensures.desk in
    let log : c.follow.new.track.log ≡ es = c.if-not-follow.ensures.all ∙ c.arrivals.ensures.arrivals in
    let all : handed_over x bs ≡ view_of g.J.Site.book es =
    given_now x bs (drop c.self.inside.writer.behind c.self.inside.writer.log.items) g.J.Site.book es c.arrivals-2.result.now c.self.inside.handed c.follow.new.track c.self.invariant.given
    c.arrivals-2.ensures.arrivals (c.follow.ensures.book ∙ c.self.invariant.book_is) log c.in-Ok.ensures.ok in
    held_shown _ _ _ _ c.self.inside.track x _ c.self.inside.handed _ c.self.invariant c.follow.new.track _ _ _
    (c.follow.ensures.book ∙ c.self.invariant.book_is) log
    (c.in-Ok-show.ensures.ok ∙ (ap (λ (s : Shown). handed_over s bs) same ∙ all)) c.in-Ok-show.ensures.none (ap length c.arrivals-3.ensures.arrivals)

pub returns-clause-published : goal.returns-clause-published
returns-clause-published g c =
    let x = c.self.inside.writer.desk.shown.value in
    let es = c.self.inside.core.arrivals in
    let bs = drop c.hand_over.new.writer.behind c.hand_over.new.writer.log.items in
    let same : c.hand_over.new.writer.desk.shown.value ≡ x = ap (λ d. d.shown.value) c.hand_over.ensures.desk in
    let log : c.follow.new.track.log ≡ es = c.if-not-follow.ensures.all ∙ c.arrivals.ensures.arrivals in
    let all : handed_over x bs ≡ view_of g.J.Site.book es =
    given_now x bs (drop c.self.inside.writer.behind c.self.inside.writer.log.items) g.J.Site.book es c.arrivals-2.result.now c.self.inside.handed c.follow.new.track c.self.invariant.given
    c.arrivals-2.ensures.arrivals (c.follow.ensures.book ∙ c.self.invariant.book_is) log c.in-Ok.ensures.ok in
    let now : c.show.new.writer.desk.shown.value ≡ view_of g.J.Site.book es =
    c.in-Ok-show.ensures.ok ∙ (ap (λ (s : Shown). handed_over s bs) same ∙ all) in
    record {
      receipt_is =
          subst (λ (b : Book). IsReceipt b g.J.Site.number c.args.news c.receipt_of.result) (c.follow.ensures.book ∙ c.self.invariant.book_is)
          (subst (λ (n : ℕ). IsReceipt c.follow.new.track.book n c.args.news c.receipt_of.result) (c.number.ensures ∙ c.self.invariant.number_is) c.receipt_of.ensures.receipt);
      from =
          omega (
            arith,
            c.receipt_of.ensures.from,
            c.len-published.ensures.length,
            ap (λ (s : Shown). length s.track.log) c.published.ensures,
            ap (λ (l : Locked). length l.published) c.self.view_is,
          );
      arrivals = c.receipt_of.ensures.shown ∙ log;
      shown = ap (λ (s : Shown). s.track.log) now;
    }
