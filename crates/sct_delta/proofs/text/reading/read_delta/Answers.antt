-- The head line, and what is read behind it.
use Rattle.std.proofs.Common.{sym, ◌∙◌, ◌≡◌, ap, List, Ok, Err}
use Rattle.sct_delta.specs.Entries.{Placed}
use Rattle.sct_delta.specs.TextLines.{lines_by_end}
use Rattle.sct_delta.specs.DeltaText.{Reads, delta_in, entries_behind}
use Rattle.sct_delta.proofs.ReadingLemmas.{head_missing, behind_head}
use Rattle.sct_delta.proofs.DeltaLemmas.{form_from_read, read_refused, refused_at, shape_from_read}
use Rattle.sct_delta.proofs.text.reading.read_delta.Goals as goal

pub returns-in_default-clause-read : goal.returns-in_default-clause-read
returns-in_default-clause-read c = head_missing c.args.bytes.now c.in_default.ensures.lines

pub returns-in_default-clause-refused : goal.returns-in_default-clause-refused
returns-in_default-clause-refused c = λ other. refused_at c.args.bytes.now 1 (head_missing c.args.bytes.now c.in_default.ensures.lines)

pub of_shape-requires : goal.of_shape-requires
of_shape-requires c = shape_from_read c.in-Some.line.now (lines_by_end c.in-Some.rest.now) c.in-Ok.entries.items c.in-Ok.ensures.read

right : (c : goal.After-of_shape) → delta_in c.args.bytes.now ≡ Ok c.of_shape.result
right c =
    behind_head c.args.bytes.now c.in-Some.line.now c.in-Some.rest.now c.in-Some.ensures.lines
    ∙ c.in-Ok.ensures.read
    ∙ ap (λ (entries : List Placed). Ok entries) (sym c.of_shape.ensures)

pub returns-in-Ok-clause-read : goal.returns-in-Ok-clause-read
returns-in-Ok-clause-read c = right c

pub returns-in-Ok-clause-form : goal.returns-in-Ok-clause-form
returns-in-Ok-clause-form c = form_from_read c.args.bytes.now _ (right c)

wrong : (c : goal.In-Err) → Reads (Err c.in-Err.refusal) (delta_in c.args.bytes.now)
wrong c =
    let behind : delta_in c.args.bytes.now ≡ entries_behind c.in-Some.line.now (lines_by_end c.in-Some.rest.now) =
    behind_head c.args.bytes.now c.in-Some.line.now c.in-Some.rest.now c.in-Some.ensures.lines in
    rw behind c.in-Err.ensures.wrong

pub returns-in-Err-clause-read : goal.returns-in-Err-clause-read
returns-in-Err-clause-read c = wrong c

pub returns-in-Err-clause-refused : goal.returns-in-Err-clause-refused
returns-in-Err-clause-refused c = read_refused c.args.bytes.now c.in-Err.refusal (wrong c)
