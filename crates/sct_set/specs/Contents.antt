-- Finite sets of messages. Read by an auditor. Cases, the archive and the view are defined on these sets.
use Rattle.std.specs.FinSet as set
use Rattle.std.specs.Prelude.{◌≡◌, List, length}
use Rattle.sct_message.specs.declared.draft.Draft.{Draft}
use Rattle.sct_message.specs.Sets.{MessageSet}

-- the contents of an archive: a finite set of messages
abbrev pub Contents : Type 0
Contents = MessageSet

-- the set of the messages of a list
abbrev pub contents_of : List Draft → Contents
contents_of drafts = set.from_list drafts

-- no message is in a list twice: the list is as long as its set is large
abbrev pub HasNoRepeat : List Draft → Type 0
HasNoRepeat drafts = set.len (contents_of drafts) ≡ length drafts

-- the same messages are held
abbrev pub HaveSameMessages : Contents → Contents → Type 0
HaveSameMessages a b = (draft : Draft) → set.contains a draft ≡ set.contains b draft
