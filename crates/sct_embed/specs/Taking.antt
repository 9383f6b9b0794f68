-- A site takes the messages of a text of many lines. Read by an auditor.
use Rattle.std.specs.Prelude.{◌≡◌, ◌+◌, ℕ, List, length, take}
use Rattle.sct_message.specs.declared.draft.Draft.{Draft}
use Rattle.sct_lines.specs.Lines.{messages_read, refusals_told}
use Rattle.sct_site.specs.Cores.{Core}
use Rattle.sct_exchange.specs.Journals.{core_taking}
use Rattle.sct_embed.specs.declared.taking.TakenLines.{TakenLines}

-- The site took the message of each line that is a form of one. Each is fresh or a repeat.
pub record AreTaken (before : Core) (text : List ℕ) (taken : TakenLines) (after : Core) : Type 0 where
  pub left : after ≡ core_taking before (messages_read text)
  pub fresh : length after.arrivals ≡ length before.arrivals + taken.fresh
  pub repeats : taken.fresh + taken.repeats ≡ length (messages_read text)
  pub refused : taken.refused ≡ length (refusals_told text)

-- The site took only some of the messages, from the first one on.
pub record ArePartlyTaken (before : Core) (messages : List Draft) (after : Core) : Type 0 where
  pub count : ℕ
  pub left : after ≡ core_taking before (take count messages)
