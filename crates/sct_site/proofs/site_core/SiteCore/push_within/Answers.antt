-- The entries of the range are read one after another.
use Rattle.std.proofs.Common.{◌≡◌, ◌∙◌, ap, sym, ◌+◌, ℕ, List, Some, None}
use Rattle.std.specs.Arc.{arc_value}
use Rattle.sct_message.specs.declared.draft.Draft.{Draft}
use Rattle.sct_delta.specs.Entries.{log_of}
use Rattle.sct_delta.specs.Logs.{log_in}
use Rattle.sct_delta.specs.Refusals.{message_at}
use Rattle.sct_site.specs.Cores.{Core}
use Rattle.sct_site.proofs.RangeLemmas.{range_done, range_ends, read_further, read_to_end}
use Rattle.sct_site.proofs.site_core.SiteCore.push_within.Goals as goal

pub returns-in-None : goal.returns-in-None
returns-in-None c =
    let o : ℕ = c.args.range.now.origin in
    let log : List Draft = log_of o c.args.self.now.arrivals in
    let same : log_in c.self.inside.logs o ≡ log = c.self.invariant.by_origin o ∙ ap (λ (core : Core). log_of o core.arrivals) c.self.view_is in
    let none : message_at log (c.loop-n.n + 1) ≡ None = ap (λ (l : List Draft). message_at l (c.loop-n.n + 1)) (sym same) ∙ sym c.in-None.ensures in
    read_to_end c.loop-n.out.items c.args.out.now.items o c.loop-n.n c.max-n.result c.args.range.now.above c.args.have c.args.range.now.upto log c.max-n.ensures
    (range_ends o c.loop-n.n c.args.range.now.upto log none) c.loop-n.invariant

pub loop-n-preserved : goal.loop-n-preserved
loop-n-preserved c =
    let o : ℕ = c.args.range.now.origin in
    let log : List Draft = log_of o c.args.self.now.arrivals in
    let message : Draft = arc_value c.in_ok-clone.field-0 in
    let same : log_in c.self.inside.logs o ≡ log = c.self.invariant.by_origin o ∙ ap (λ (core : Core). log_of o core.arrivals) c.self.view_is in
    let some : message_at log (c.loop-n.n + 1) ≡ Some message =
    ap (λ (l : List Draft). message_at l (c.loop-n.n + 1)) (sym same) ∙ sym c.in-Some.ensures ∙ ap (λ (m : Draft). Some m) (sym c.in_ok-clone.ensures.cases) in
    read_further c.loop-n.out.items c.push.new.self.items c.args.out.now.items o c.loop-n.n c.max-n.result c.args.range.now.upto log message c.loop-n-test.true some
    c.in_ok-push.ensures.items c.loop-n.invariant

pub returns : goal.returns
returns c =
    let o : ℕ = c.args.range.now.origin in
    let log : List Draft = log_of o c.args.self.now.arrivals in
    read_to_end c.loop-n.out.items c.args.out.now.items o c.loop-n.n c.max-n.result c.args.range.now.above c.args.have c.args.range.now.upto log c.max-n.ensures
    (range_done o c.loop-n.n c.args.range.now.upto log c.loop-n-test.false) c.loop-n.invariant
