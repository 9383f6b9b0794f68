-- A site's journal: the log that it makes, and the site that took its messages. Read by an auditor.
use Rattle.std.specs.Prelude.{◌≡◌, ◌++◌, ◌∷◌, ℕ, List, [], if◌then◌else◌}
use Rattle.std.specs.List.{fold, list_any}
use Rattle.sct_message.specs.declared.draft.Draft.{Draft}
use Rattle.sct_message.specs.Order.{same_message}
use Rattle.sct_lines.specs.Lines.{messages_read}
use Rattle.sct_site.specs.Cores.{Core, core_taken}

-- a log and one more message, unless the log has the message
abbrev pub with_message : List Draft → Draft → List Draft
with_message log message = if list_any (λ held. same_message held message) log then log else log ++ message ∷ []

-- messages, each once, in the order in which they first come
abbrev pub each_once : List Draft → List Draft
each_once messages = fold with_message [] messages

-- the own log of a site: the messages of its journal, each once, in the order in which they first come
unfoldable pub own_log : List ℕ → List Draft
own_log journal = each_once (messages_read journal)

-- The whole list begins with the first one.
pub record Begins {X : Type 0} (first whole : List X) : Type 0 where
  pub rest : List X
  pub is : whole ≡ first ++ rest

-- ---- the site that took the messages

-- a site of a group, without entries
abbrev pub opened : ℕ → ℕ → Core
opened number group = record { number = number; group = group; arrivals = [] }

-- a site after it took messages, one after another
abbrev pub core_taking : Core → List Draft → Core
core_taking core messages = fold core_taken core messages

-- a site after it took the messages of its journal
abbrev pub core_of_journal : ℕ → ℕ → List ℕ → Core
core_of_journal number group journal = core_taking (opened number group) (messages_read journal)
