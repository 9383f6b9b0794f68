-- The archive text as an input. Read by an auditor.
use Rattle.std.specs.Prelude.{ℕ, ◌≡◌, List, []}
use Rattle.sct_set.specs.Archive.{archive_text_of, AreReadAgain}
use Rattle.sct_set.specs.Contents.{Contents}
use Rattle.sct_lines.specs.Lines.{refusals_told, set_read}

-- no line of the text is refused, and the messages read from it are the set
pub record GivesBack (contents : Contents) (text : List ℕ) : Type 0 where
  pub taken : refusals_told text ≡ []
  pub same : set_read text ≡ contents

-- The archive text of a set of messages is an input that gives the set back. The premise, that the written text of each
-- message is read as that message, is a clause of the call that writes the text.
abbrev pub ArchiveGivesBack : Type 0
ArchiveGivesBack = (contents : Contents) → AreReadAgain contents → GivesBack contents (archive_text_of contents)
