-- A record of four fields is the header where they are its names, and no other is.
use Rattle.std.proofs.Common.{◌∙◌, sym, eq-eqb, refl}
use Rattle.std.proofs.lemmas.Bool.{ne_eqb}
use Rattle.csv.specs.Records.{fields_of}
use Rattle.sct_reconcile.proofs.RowLemmas.{header_four, header_other}
use Rattle.sct_reconcile.proofs.lists.is_header.Goals as goal

pub returns-then-len-ne4 : goal.returns-then-len-ne4
returns-then-len-ne4 c =
    sym (header_other (fields_of c.args.row.now) (ne_eqb _ 4 (λ four. c.if-len-ne4.true (c.len.ensures ∙ four))))

pub returns : goal.returns
returns c =
    c.are_names.ensures
    ∙ rw (c.field.ensures, c.field-2.ensures, c.field-3.ensures, c.field-4.ensures) refl
    ∙ sym (header_four (fields_of c.args.row.now) (eq-eqb _ 4 (sym c.len.ensures ∙ c.if-len-ne4.false)))
