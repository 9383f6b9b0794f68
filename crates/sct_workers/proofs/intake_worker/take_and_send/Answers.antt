-- The k-th of the messages is one of the site's.
use Rattle.std.proofs.Common.{◌≡◌, ◌-◌, ◌<◌, ◌∙◌, ap, arith, length, sym}
use Rattle.std.specs.FinSet as set
use Rattle.std.specs.List.{slice_get}
use Rattle.std.specs.Prelude.{Some}
use Rattle.std.proofs.lemmas.Option.{slice_get-get_or}
use Rattle.sct_workers.proofs.MoreKept.{among}
use Rattle.sct_workers.proofs.intake_worker.take_and_send.Goals as goal

pub publish_message-requires : goal.publish_message-requires
publish_message-requires g c =
    let low : c.args.k - 1 < length c.args.messages.now = omega (arith, c.requires.place.0, c.requires.place.1) in
    let there : slice_get c.args.messages.now (c.args.k - 1) ≡ Some c.index-messages-k.result =
    slice_get-get_or c.args.messages.now (c.args.k - 1) c.index-messages-k.result low ∙ ap Some (sym c.index-messages-k.is) in
    ap (λ message. set.contains g.J.Takes.messages message) c.deref.ensures
    ∙ among g.J.Takes.messages c.args.messages.now (c.args.k - 1) c.index-messages-k.result c.requires.messages there
