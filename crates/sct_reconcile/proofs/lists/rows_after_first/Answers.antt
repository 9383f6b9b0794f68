-- Each record more is a row more, or the first that is none.
use Rattle.std.proofs.Common.{◌≡◌, ◌∙◌, sym, ap, subst, ◌+◌, Ok, Err, map, drop, rules, true}
use Rattle.std.specs.Result.{is_ok}
use Rattle.csv.specs.Records.{fields_of}
use Rattle.sct_reconcile.specs.Lists.{row_before, rows_below}
use Rattle.sct_reconcile.specs.Turns.{GivesRows, onto}
use Rattle.sct_reconcile.proofs.RowLemmas.{rows_step, rows_end, onto_more, from_nothing}
use Rattle.std.proofs.lemmas.List.{append-nil}
use Rattle.sct_reconcile.proofs.lists.rows_after_first.Goals as goal

pub loop-at-init : goal.loop-at-init
loop-at-init c = from_nothing _ _ c.new-rows.ensures.items

pub returns-in_default : goal.returns-in_default
returns-in_default c =
    subst (λ fault. GivesRows (Err fault) (rows_below 2 (drop 1 (map fields_of c.args.records.now)))) (sym c.bad_record.ensures)
    (c.loop-at.invariant
    ∙ ap (onto c.loop-at.rows.items) (rows_step fields_of c.args.records.now c.loop-at.at c.index-records-at.result c.loop-at-test.true c.index-records-at.is
    ∙ ap (λ o. row_before o (c.loop-at.at + 1) (rows_below (c.loop-at.at + 1 + 1) (drop (c.loop-at.at + 1) (map fields_of c.args.records.now)))) (sym c.read_row.ensures ∙ c.in_default.is)))

pub loop-at-preserved : goal.loop-at-preserved
loop-at-preserved c =
    let pushed : is_ok c.push.result ≡ true = search rules in
    c.loop-at.invariant
    ∙ ap (onto c.loop-at.rows.items) (rows_step fields_of c.args.records.now c.loop-at.at c.index-records-at.result c.loop-at-test.true c.index-records-at.is
    ∙ ap (λ o. row_before o (c.loop-at.at + 1) (rows_below (c.loop-at.at + 1 + 1) (drop (c.loop-at.at + 1) (map fields_of c.args.records.now)))) (sym c.read_row.ensures ∙ c.in-Some.is))
    ∙ onto_more c.loop-at.rows.items c.in-Some.row _ (c.loop-at.at + 1)
    ∙ ap (λ rows. onto rows (rows_below (c.loop-at.at + 1 + 1) (drop (c.loop-at.at + 1) (map fields_of c.args.records.now)))) (sym (rw pushed at c.push.ensures.items))

pub returns : goal.returns
returns c =
    c.loop-at.invariant
    ∙ ap (onto c.loop-at.rows.items) (rows_end fields_of c.args.records.now c.loop-at.at (c.loop-at.at + 1) c.loop-at-test.false)
    ∙ ap Ok (append-nil c.loop-at.rows.items)
