-- A list with a wrong count is refused, and else each element is read.
use Rattle.std.proofs.Common.{sym, subst}
use Rattle.sct_json.specs.Reading.{GivesItems}
use Rattle.sct_json.proofs.PlainLists.{list_refused, list_read}
use Rattle.sct_json.proofs.recall_list.read_plain_list.Goals as goal

pub returns-then-not-is_right_count : goal.returns-then-not-is_right_count
returns-then-not-is_right_count c = list_refused c.args.list.now (sym c.if-not-is_right_count.ensures)

pub returns : goal.returns
returns c = subst (GivesItems c.read_elements.result) (sym (list_read c.args.list.now (sym c.if-not-is_right_count.ensures))) c.read_elements.ensures
