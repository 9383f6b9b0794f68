-- Equal keys are one transfer.
use Rattle.std.proofs.Common.{◌≢◌, ◌<◌, ◌∙◌, ap, sym, arith, ℕ, Some}
use Rattle.std.proofs.lemmas.Bool.Decides.{nat_tests}
use Rattle.sct_message.proofs.SameValues.{transfer_is}
use Rattle.sct_view.proofs.SetKeys.{same_key-same}
use Rattle.sct_rights.proofs.filed.is_as_before.Goals as goal

above : (n : ℕ) → n ≢ 0 → 0 < n
above n other = grind (arith, nat_tests)

pub returns-in-Some : goal.returns-in-Some
returns-in-Some c = λ yes. (
  above c.args.i c.if-i-eq0.false,
  sym c.in-Some.ensures
      ∙ ap Some (transfer_is c.in-Some.before c.args.transfer.now (sym (same_key-same c.in-Some.before c.args.transfer.now) ∙ sym c.eq.ensures ∙ yes)),
)
