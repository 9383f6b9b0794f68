-- The findings decide; if there is none, whether there is a message.
use Rattle.std.proofs.Common.{◌∙◌, sym, ap, not}
use Rattle.std.specs.Prelude.{◌==◌}
use Rattle.std.specs.Arc.{arc_value}
use Rattle.sct_message.specs.Sets.{messages_in}
use Rattle.sct_case.proofs.Judged.{contradicted, none_held, not_contradicted, some_held, unknown}
use Rattle.sct_case.proofs.SaidOf.{found_of, standing_said_of}
use Rattle.sct_case.proofs.cases.transfer_status.Goals as goal

pub returns-then-not-is_empty : goal.returns-then-not-is_empty
returns-then-not-is_empty c =
    let t = c.args.transfer.now in
    let ms = messages_in c.args.clean.now in
    contradicted t ms c.args.asides.now c.in_ok-found.found.items
    (c.in_ok-found.ensures ∙ found_of t ms c.in_ok-said.said c.in_ok-said.ensures c.args.asides.now)
    (ap (λ n. not (n == 0)) (sym c.in_ok-found.found.ok.0) ∙ ap not (sym c.is_empty.ensures ∙ c.if-not-is_empty.true))

pub returns-then-is_empty : goal.returns-then-is_empty
returns-then-is_empty c =
    let t = c.args.transfer.now in
    let ms = messages_in c.args.clean.now in
    unknown t ms c.args.asides.now c.in_ok-found.found.items
    (c.in_ok-found.ensures ∙ found_of t ms c.in_ok-said.said c.in_ok-said.ensures c.args.asides.now)
    (ap (λ n. not (n == 0)) (sym c.in_ok-found.found.ok.0) ∙ ap not (sym c.is_empty.ensures ∙ c.if-not-is_empty.false))
    (none_held arc_value c.args.clean.now (sym c.is_empty-2.ensures ∙ c.if-is_empty.true))

pub returns : goal.returns
returns c =
    let t = c.args.transfer.now in
    let ms = messages_in c.args.clean.now in
    c.standing-standing.ensures
    ∙ standing_said_of t ms c.in_ok-said.said c.in_ok-said.ensures
    ∙ not_contradicted t ms c.args.asides.now c.in_ok-found.found.items
    (c.in_ok-found.ensures ∙ found_of t ms c.in_ok-said.said c.in_ok-said.ensures c.args.asides.now)
    (ap (λ n. not (n == 0)) (sym c.in_ok-found.found.ok.0) ∙ ap not (sym c.is_empty.ensures ∙ c.if-not-is_empty.false))
    (some_held arc_value c.args.clean.now (sym c.is_empty-2.ensures ∙ c.if-is_empty.false))
