-- The texts of two messages, by their elements.
use Rattle.std.proofs.Common.{◌∙◌, ap, sym}
use Rattle.sct_json.specs.Writing.{written_text}
use Rattle.sct_json.proofs.Texts.{same_message}
use Rattle.sct_json.proofs.laws.a_text_is_written_for_one_message.Goals as goal

pub returns : goal.returns
returns c =
    let left = c.draft-left_elements in
    let right = c.draft-right_elements in
    λ same. sym left.ensures.elements
    ∙ same_message left.result.now right.result.now c.elements_read_back.ensures c.elements_read_back-2.ensures left.ensures.rules right.ensures.rules
    (ap written_text left.ensures.elements ∙ same ∙ sym (ap written_text right.ensures.elements))
    ∙ right.ensures.elements
