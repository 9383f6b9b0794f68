-- The laws, clause by clause.
use Rattle.sct_reason.specs.ReasonLaws.{text_is_read, read_is_text, no_code_no_reason, same_text, reason_total, reasons_same}
use Rattle.sct_reason.proofs.order.reasons_are_exact.Goals as goal

pub returns : goal.returns
returns c = record { read_again = text_is_read; read_from_its_text = read_is_text; none_where_no_code = no_code_no_reason; one_of_a_text = same_text; total = reason_total; same = reasons_same }
