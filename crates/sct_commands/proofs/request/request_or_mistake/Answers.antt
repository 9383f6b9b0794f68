-- An order is the request, and a fault is a mistake if there is no order.
use Rattle.clap.specs.Words.{found_of, rows_of}
use Rattle.sct_commands.specs.Mistakes.{wrong_word}
use Rattle.sct_commands.specs.Request.{order_named}
use Rattle.sct_commands.proofs.CommandLineLemmas.{ordered_err, ordered_ok}
use Rattle.sct_commands.proofs.request.request_or_mistake.Goals as goal

pub returns-in-Ok : goal.returns-in-Ok
returns-in-Ok c =
    let rows = rows_of (found_of c.args.given.now) in
    ordered_ok (order_named c.args.name.now rows) (wrong_word rows) c.in-Ok.request c.in-Ok.ensures

pub returns-in-Err : goal.returns-in-Err
returns-in-Err c =
    let rows = rows_of (found_of c.args.given.now) in
    ordered_err (order_named c.args.name.now rows) (wrong_word rows) c.in-Err.reason c.request_of_fault.result c.in-Err.ensures
    c.request_of_fault.ensures.usage c.request_of_fault.ensures.other
