-- A record of four fields is a row of what they say, and no other is a row.
use Rattle.std.proofs.Common.{◌∙◌, sym, eq-eqb, refl}
use Rattle.std.proofs.lemmas.Bool.{ne_eqb}
use Rattle.csv.specs.Records.{fields_of}
use Rattle.sct_reconcile.proofs.RowLemmas.{row_of_four, row_of_other}
use Rattle.sct_reconcile.proofs.lists.read_row.Goals as goal

pub returns-then-len-ne4 : goal.returns-then-len-ne4
returns-then-len-ne4 c =
    sym (row_of_other (fields_of c.args.row.now) (ne_eqb _ 4 (λ four. c.if-len-ne4.true (c.len.ensures ∙ four))))

pub returns : goal.returns
returns c =
    c.read_fields.ensures
    ∙ rw (c.field.ensures, c.field-2.ensures, c.field-3.ensures, c.field-4.ensures) refl
    ∙ sym (row_of_four (fields_of c.args.row.now) (eq-eqb _ 4 (sym c.len.ensures ∙ c.if-len-ne4.false)))
