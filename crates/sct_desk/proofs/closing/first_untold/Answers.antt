-- The first place that is not marked once is the first position that is not told once.
use Rattle.std.proofs.Common.{◌∙◌, sym, length}
use Rattle.sct_desk.proofs.Tellings.{untold_is}
use Rattle.sct_desk.proofs.closing.first_untold.Goals as goal

pub returns-clause-first : goal.returns-clause-first
returns-clause-first c =
    untold_is c.args.number c.args.receipts.now c.mark_all.new.marks (length c.args.marks.now) c.first_unmarked.result
    (sym (c.mark_all.ensures.len ∙ c.clear.ensures.len)) c.mark_all.ensures.marks c.first_unmarked.ensures
