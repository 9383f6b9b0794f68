-- Few bytes are few characters.
use Rattle.std.proofs.Common.{◌∙◌, sym}
use Rattle.sct_element.proofs.Shortcuts.{bytes_suffice}
use Rattle.sct_element.proofs.party.has_characters.Goals as goal

pub returns-then-is_within : goal.returns-then-is_within
returns-then-is_within c =
    c.if-is_within.true ∙ sym (bytes_suffice c.args.most c.args.text.now c.utf8.text (sym c.is_within.ensures ∙ c.if-is_within.true))
