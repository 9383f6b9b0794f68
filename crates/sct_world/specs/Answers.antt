-- The answers of a site: three texts, each a function of the set of messages that it holds. Read by an auditor.
use Rattle.std.specs.Prelude.{ℕ, List}
use Rattle.sct_message.specs.Sets.{MessageSet}
use Rattle.sct_set.specs.Archive.{archive_text_of}
use Rattle.sct_view.specs.StatusText.{status_text_of}
use Rattle.sct_view.specs.TotalsText.{totals_text_of}

-- the bytes of the three texts
pub record Texts : Type 0 where
  pub archive : List ℕ
  pub statuses : List ℕ
  pub totals : List ℕ

-- the texts of a set: its messages, the status of each transfer, and the totals of each bank
abbrev pub texts_of : MessageSet → Texts
texts_of held =
    record { archive = archive_text_of held; statuses = status_text_of held; totals = totals_text_of held }
