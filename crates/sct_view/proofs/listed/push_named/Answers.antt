-- One recall more, and in the end all that the message names.
use Rattle.std.proofs.Common.{◌∙◌, ◌≤◌, ◌++◌, length, sym, ap, arith}
use Rattle.std.specs.List.{flat_map}
use Rattle.std.proofs.lemmas.List.{take_all}
use Rattle.sct_message.specs.Keys.{recalls_of, transfers_of}
use Rattle.sct_view.specs.Listed.{cxls_in}
use Rattle.sct_view.proofs.NamedLemmas.{few_recalls, named_one_by_one}
use Rattle.sct_view.proofs.SlotLemmas.{all_read, one_given}
use Rattle.sct_view.proofs.listed.push_named.Goals as goal

pub loop-i-preserved : goal.loop-i-preserved
loop-i-preserved c =
    c.in_ok-push_where_of.ensures
    ∙ one_given (cxls_in c.args.transfer.now) (recalls_of c.args.message.now) c.loop-i.i c.args.found.now.items c.loop-i.found.items c.in-Some.recall c.loop-i.invariant (sym c.in-Some.ensures)

pub returns-in_default : goal.returns-in_default
returns-in_default c =
    c.loop-i.invariant
    ∙ ap (λ rs. c.args.found.now.items ++ flat_map (cxls_in c.args.transfer.now) rs) (all_read (recalls_of c.args.message.now) c.loop-i.i (sym c.recall.ensures ∙ c.in_default.is))
    ∙ ap (λ cxls. c.args.found.now.items ++ cxls) (sym (named_one_by_one c.args.transfer.now c.args.message.now))

pub returns : goal.returns
returns c =
    let few : length (recalls_of c.args.message.now) ≤ length (transfers_of c.args.message.now) = few_recalls c.args.message.now in
    c.loop-i.invariant
    ∙ ap (λ rs. c.args.found.now.items ++ flat_map (cxls_in c.args.transfer.now) rs) (take_all c.loop-i.i (recalls_of c.args.message.now) (omega arith))
    ∙ ap (λ cxls. c.args.found.now.items ++ cxls) (sym (named_one_by_one c.args.transfer.now c.args.message.now))
