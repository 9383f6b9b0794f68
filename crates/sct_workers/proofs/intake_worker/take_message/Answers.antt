-- A receipt of the k-th of the messages.
use Rattle.std.proofs.Common.{◌≡◌, ◌-◌, ◌<◌, ◌∙◌, ap, arith, length, rules, subst, sym, true}
use Rattle.std.specs.Arc.{arc_value}
use Rattle.std.specs.FinSet as set
use Rattle.std.specs.List.{slice_get}
use Rattle.std.specs.Prelude.{Some, IfSome}
use Rattle.sct_workers.specs.Kept.{is_shown}
use Rattle.std.proofs.lemmas.Option.{slice_get-get_or}
use Rattle.sct_workers.proofs.MoreKept.{among, keeps_among, shown_last}
use Rattle.sct_workers.proofs.intake_worker.take_message.Goals as goal

pub push-requires : goal.push-requires
push-requires g c =
    let low : c.args.k - 1 < length c.args.messages.now = omega (arith, c.requires.place.0, c.requires.place.1) in
    let there : slice_get c.args.messages.now (c.args.k - 1) ≡ Some c.index-messages-k.result =
    slice_get-get_or c.args.messages.now (c.args.k - 1) c.index-messages-k.result low ∙ ap Some (sym c.index-messages-k.is) in
    let taken : set.contains g.J.Takes.messages (arc_value c.index-messages-k.result) ≡ true =
    among g.J.Takes.messages c.args.messages.now (c.args.k - 1) c.index-messages-k.result c.requires.messages there in
    keeps_among g.J.Site.book g.J.Site.number g.J.Site.group g.J.Takes.messages (arc_value c.in_ok-message.message) c.in_ok-took.receipt
    (search rules) c.in_ok-took.ensures.keeps

pub returns-clause-shown : goal.returns-clause-shown
returns-clause-shown g c =
    let low : c.args.k - 1 < length c.args.messages.now = omega (arith, c.requires.place.0, c.requires.place.1) in
    let there : slice_get c.args.messages.now (c.args.k - 1) ≡ Some c.index-messages-k.result =
    slice_get-get_or c.args.messages.now (c.args.k - 1) c.index-messages-k.result low ∙ ap Some (sym c.index-messages-k.is) in
    let shown : is_shown c.push.new.self.receipts.items (arc_value c.index-messages-k.result) ≡ true = search (rules, shown_last) in
    subst (λ found. IfSome found (λ message. is_shown c.push.new.self.receipts.items (arc_value message) ≡ true)) (sym there) shown
