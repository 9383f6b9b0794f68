-- What the logs give above a vector is a delta, and what the vector lacks.
use Rattle.std.proofs.Common.{ap, sym, ◌∙◌, ◌+◌, drop, List}
use Rattle.sct_message.specs.declared.draft.Draft.{Draft}
use Rattle.sct_delta.specs.Entries.{entries_from, numbered}
use Rattle.sct_delta.specs.Logs.{HeldLogs, log_in}
use Rattle.sct_delta.specs.Vectors.{count_in}
use Rattle.sct_delta.proofs.CutLemmas.{above_is_delta, above_is_cut}
use Rattle.sct_delta.proofs.LogsLemmas.{log_is}
use Rattle.sct_delta.proofs.logs.Logs.cut.Goals as goal

pub of_shape-requires : goal.of_shape-requires
of_shape-requires c = rw c.in_ok-entries.ensures.ok (above_is_delta (count_in c.args.vector.now) c.self.inside.shelf c.self.inside.group c.in_ok-entries.ensures.ascend c.self.invariant.small c.self.invariant.inside)

pub returns-clause-cut : goal.returns-clause-cut
returns-clause-cut c = λ o.
    ap (entries_from o) (c.of_shape.ensures ∙ c.in_ok-entries.ensures.ok)
    ∙ above_is_cut (count_in c.args.vector.now) c.self.inside.shelf c.in_ok-entries.ensures.ascend o
    ∙ ap (λ (log : List Draft). numbered o (count_in c.args.vector.now o + 1) (drop (count_in c.args.vector.now o) log))
    (sym (log_is c.self.inside.group c.self.inside.shelf c.self.inside.vector o) ∙ ap (λ (held : HeldLogs). log_in held o) c.self.view_is)
