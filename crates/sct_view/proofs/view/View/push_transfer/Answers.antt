-- The lines of a transfer by its case. A transfer without a case has one line, which says that it is unknown.
use Rattle.std.proofs.Common.{◌≡◌, ◌++◌, subst}
use Rattle.std.specs.Prelude.{string_bytes}
use Rattle.sct_view.proofs.ToldLemmas.{nothing_told}
use Rattle.sct_view.proofs.view.View.push_transfer.Goals as goal

pub returns-in_default : goal.returns-in_default
returns-in_default c =
    subst (λ lines. string_bytes c.push_status_line.new.text ≡ string_bytes c.args.text.now ++ lines)
    (nothing_told c.args.self.now c.args.transfer.now c.in_default.ensures)
    c.in_ok-push_status_line.ensures
