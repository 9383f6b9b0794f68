-- The seven fields are those of the row.
use Rattle.std.proofs.Common.{◌≡◌, ◌∷◌, [], List, ℕ, refl, subst}
use Rattle.std.specs.Result.{OnOk}
use Rattle.sct_reconcile.specs.Reports.{fields_of_row}
use Rattle.sct_reconcile.specs.Writers.{AppendsRecord}
use Rattle.sct_reconcile.proofs.writing.write_row.Goals as goal

pub returns : goal.returns
returns c =
    let same : (c.as_bytes.result.now ∷ c.as_bytes-2.result.now ∷ c.as_bytes-3.result.now ∷ c.as_bytes-4.result.now ∷ c.as_bytes-5.result.now ∷ c.as_bytes-6.result.now ∷ c.as_bytes-7.result.now ∷ []) ≡ fields_of_row c.args.row.now =
    rw (c.as_bytes.ensures.value, c.as_bytes-2.ensures.value, c.as_bytes-3.ensures.value, c.as_bytes-4.ensures.value, c.as_bytes-5.ensures.value, c.as_bytes-6.ensures.value, c.as_bytes-7.ensures.value, c.text.ensures.text, c.text-2.ensures.text, c.text-3.ensures, c.text-4.ensures, c.as_str.ensures.value, c.as_str-2.ensures.value, c.listed_amount_field-listed_amount.ensures, c.listed_status_field.ensures, c.amount_field-amount.ensures) refl in
    subst (λ (fields : List (List ℕ)). OnOk c.write_seven.result (AppendsRecord c.args.writer.now c.write_seven.new.writer fields))
    same c.write_seven.ensures
