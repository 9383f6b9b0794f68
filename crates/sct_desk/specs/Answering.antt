-- How a query answers from the published view. Read by an auditor.
use Rattle.std.specs.Prelude.{◌≡◌, length, Result, IfOk}
use mathlib.Core.List.{IsPrefix}
use Rattle.sct_delta.specs.Entries.{IsArrivals}
use Rattle.sct_desk.specs.Passes.{Asked}
use Rattle.sct_desk.specs.declared.fault.DeskFault.{DeskFault}
use Rattle.sct_desk.specs.declared.query.Answer.{Answer}

-- A query was asked. It is still of its site, and what it has seen are arrivals in order, which begin with all that it had
-- seen before. An answer is based on all of them, and has their number.
pub record AnswersFromView {T : Type 0} (old new : Asked) (result : Result (Answer T) DeskFault) : Type 0 where
  pub same : (new.site ≡ old.site) × (new.book ≡ old.book)
  pub later : IsPrefix old.seen new.seen
  pub order : IsArrivals new.seen
  pub front : IfOk result (λ answer. answer.front ≡ length new.seen)
