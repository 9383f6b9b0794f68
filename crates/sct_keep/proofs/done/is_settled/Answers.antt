-- The status is final, and each recall was answered.
use Rattle.std.proofs.Common.{◌≡◌, ◌∙◌, ap, rules, sym, true}
use Rattle.std.specs.List.{list_all}
use Rattle.sct_keep.specs.Done.{is_answered, is_final}
use Rattle.sct_keep.proofs.DoneLemmas.{all_settled}
use Rattle.sct_keep.proofs.done.is_settled.Goals as goal

pub returns : goal.returns
returns c =
    let final : c.is_final.result ≡ true = search rules in
    c.are_answered.ensures
    ∙ ap (list_all (λ recall. is_answered recall.1)) c.deref.ensures.value
    ∙ all_settled c.args.view.now c.args.transfer.now c.in_ok-recalls.recalls.items
    (sym (ap is_final c.status.ensures) ∙ sym c.is_final.ensures ∙ final) c.in_ok-recalls.ensures
