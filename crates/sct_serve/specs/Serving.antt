-- What a site reads, writes and leaves while it is served. Read by an auditor.
use Rattle.std.specs.Prelude.{◌≡◌, ◌⊎◌, ℕ, ◌<◌, ◌≤◌, ◌++◌, List, [], ◌∷◌, Option, Some, None, Bool, true, false, length, nat_le, ⊤}
use Rattle.std.specs.List.{list_all}
use Rattle.sct_streams.specs.Stream.{AppendsIfTold, HasReadIfTold}
use Rattle.sct_journal.specs.Kept.{ended_lines, recorded}
use Rattle.sct_keeper.specs.Keepers.{EndsOpening, EndsRound, IsForeign, IsRecordedBeforeOrAfter}
use Rattle.sct_requests.specs.WatchedSites.{WatchedSite}
use Rattle.sct_requests.specs.Grants.{brought_by}
use Rattle.sct_requests.specs.Steps.{is_question_line}
use Rattle.sct_serve.specs.Replies.{replies_to, watched_site_after}
use Rattle.sct_serve.specs.declared.fault.ServeFault.{ServeFault}
use Rattle.sct_serve.specs.declared.fault.ServeFault.TheVariants as fault

-- ---- bytes and lines

abbrev pub IsFrontOf : List ℕ → List ℕ → Type 0
IsFrontOf front text = (rest : List ℕ) × (text ≡ front ++ rest)

-- what is behind the last line feed of a text: more text after it makes no other lines of the text
pub record IsBehind (text rest : List ℕ) : Type 0 where
  pub parts : (more : List ℕ) → ended_lines (text ++ more) ≡ ended_lines text ++ ended_lines (rest ++ more)
  pub none : ended_lines rest ≡ []

-- the most bytes of a request: 64 MiB
abbrev pub most_request : ℕ
most_request = 67108864

-- no line of the text has more
abbrev pub are_within : List ℕ → Bool
are_within text = list_all (λ line. nat_le (length line) most_request) (ended_lines text)

-- no request among these bytes has more: no line of them, and not what is behind their last line feed
pub record AreShort (text : List ℕ) : Type 0 where
  pub within : are_within text ≡ true
  pub rest : List ℕ
  pub behind : IsBehind text rest
  pub short : length rest ≤ most_request

-- Some bytes were read. Until the last read, which gave at most so many, no request had too many.
pub record HasReadShort (most : ℕ) (unread unread_now : Option (List ℕ)) : Type 0 where
  pub front : List ℕ
  pub last : List ℕ
  pub taken : HasReadIfTold unread unread_now (front ++ last)
  pub short : AreShort front
  pub most_last : length last ≤ most

-- none of the lines is a question
abbrev pub HasNoQuestion : List (List ℕ) → Type 0
HasNoQuestion [] = Unit {0}
HasNoQuestion (line ∷ lines) = (is_question_line line ≡ false) × HasNoQuestion lines

-- a question, or nothing, as lines
abbrev pub asked : Option (List ℕ) → List (List ℕ)
asked None = []
asked (Some line) = line ∷ []

-- ---- requests and replies

-- Each of the lines has its reply, the site is the one after them, and the journal records all that they brought.
pub record Replied (site now : WatchedSite) (sound : Type 0) (before after : List (List ℕ)) (held held_now : Option (List ℕ)) (lines : List (List ℕ)) : Type 0 where
  pub ends : now ≡ watched_site_after site lines
  pub replied : AppendsIfTold held held_now (replies_to site lines)
  pub keeps : sound → after ≡ before ++ brought_by site.core lines

-- Of the lines that were requested, a front lasts: all that it brought is recorded, and no more. All replies that were
-- written are replies to it.
pub record Leaves (site : WatchedSite) (before : List (List ℕ)) (held held_now : Option (List ℕ)) (lines : List (List ℕ)) (file : List ℕ) : Type 0 where
  pub lasting : List (List ℕ)
  pub others : List (List ℕ)
  pub parts : lines ≡ lasting ++ others
  pub written : List ℕ
  pub appended : AppendsIfTold held held_now written
  pub replied : IsFrontOf written (replies_to site lasting)
  pub keeps : recorded file ≡ before ++ brought_by site.core lasting

-- the same of the lines of what was read
pub record LeavesOf (site : WatchedSite) (before : List (List ℕ)) (unread unread_now held held_now : Option (List ℕ)) (file : List ℕ) : Type 0 where
  pub read : List ℕ
  pub taken : HasReadIfTold unread unread_now read
  pub leaves : Leaves site before held held_now (ended_lines read) file

-- The service ended inside a round. The lines before the round have their replies, and no line of it has one. Whatever is left,
-- all that the round brought is recorded, or nothing of it.
pub record Stops (site : WatchedSite) (before : List (List ℕ)) (held held_now : Option (List ℕ)) (lines : List (List ℕ)) (may_leave : List ℕ → Type 0) : Type 0 where
  pub done : List (List ℕ)
  pub round : List (List ℕ)
  pub others : List (List ℕ)
  pub parts : lines ≡ done ++ (round ++ others)
  pub replied : AppendsIfTold held held_now (replies_to site done)
  pub leaves : (file : List ℕ) → may_leave file → IsRecordedBeforeOrAfter (before ++ brought_by site.core done) (brought_by (watched_site_after site done).core round) file

-- The same of what was read, after these first bytes were written. All lines that were ended before the last read have their
-- replies, so the round is one of the last read. That gave at most so many bytes.
pub record StopsReading (most : ℕ) (first : List ℕ) (site : WatchedSite) (before : List (List ℕ)) (unread unread_now held held_now : Option (List ℕ)) (may_leave : List ℕ → Type 0) : Type 0 where
  pub front : List ℕ
  pub last : List ℕ
  pub taken : HasReadIfTold unread unread_now (front ++ last)
  pub most_last : length last ≤ most
  pub done : List (List ℕ)
  pub round : List (List ℕ)
  pub others : List (List ℕ)
  pub parts : ended_lines (front ++ last) ≡ (ended_lines front ++ done) ++ (round ++ others)
  pub replied : AppendsIfTold held held_now (first ++ replies_to site (ended_lines front ++ done))
  pub leaves : (file : List ℕ) → may_leave file
      → IsRecordedBeforeOrAfter (before ++ brought_by site.core (ended_lines front ++ done)) (brought_by (watched_site_after site (ended_lines front ++ done)).core round) file

-- Some bytes were read. Each line of them has its reply, and what is behind them waits. No request has too many bytes.
pub record Served (site now : WatchedSite) (sound : Type 0) (before after : List (List ℕ)) (unread unread_now held held_now : Option (List ℕ)) (pending : List ℕ) : Type 0 where
  pub read : List ℕ
  pub taken : HasReadIfTold unread unread_now read
  pub behind : IsBehind read pending
  pub within : are_within read ≡ true
  pub short : length pending ≤ most_request
  pub replied : Replied site now sound before after held held_now (ended_lines read)

-- ---- faults

-- how many reads have failed when this fault ended the service
abbrev pub failed_reads : ServeFault → ℕ
failed_reads fault.Read = 1
failed_reads other = 0

-- how many writes
abbrev pub failed_writes : ServeFault → ℕ
failed_writes fault.Write = 1
failed_writes other = 0

-- a request has too many bytes: a line of what was read, or what is behind the lines
abbrev pub HasTooLong : List ℕ → List ℕ → Type 0
HasTooLong read rest = (are_within read ≡ false) ⊎ (most_request < length rest)

-- some bytes were read, and a request among them has too many bytes
pub record HasReadTooLong (unread unread_now : Option (List ℕ)) : Type 0 where
  pub read : List ℕ
  pub taken : HasReadIfTold unread unread_now read
  pub rest : List ℕ
  pub behind : IsBehind read rest
  pub long : HasTooLong read rest

-- the file is not the journal of this site (75, 76)
abbrev pub IsForeignFault : ServeFault → Type 0
IsForeignFault (fault.Keeper reason) = IsForeign reason
IsForeignFault other = ⊥

-- the faults of the first line
abbrev pub IsGreetingFault : ServeFault → Type 0
IsGreetingFault fault.Memory = ⊤
IsGreetingFault fault.Write = ⊤
IsGreetingFault other = ⊥

-- the faults of requests that are answered
abbrev pub EndsAnswering : ServeFault → Type 0
EndsAnswering fault.TooLong = ⊥
EndsAnswering fault.Read = ⊥
EndsAnswering (fault.Keeper reason) = EndsRound reason
EndsAnswering other = ⊤

-- the faults of what was read
abbrev pub EndsTaking : ServeFault → Type 0
EndsTaking fault.Read = ⊥
EndsTaking (fault.Keeper reason) = EndsRound reason
EndsTaking other = ⊤

-- the faults that may end the service after the journal is open
abbrev pub EndsAfterOpening : ServeFault → Type 0
EndsAfterOpening (fault.Keeper reason) = EndsRound reason
EndsAfterOpening other = ⊤

-- the faults that may end a life
abbrev pub EndsLife : ServeFault → Type 0
EndsLife (fault.Keeper reason) = EndsOpening reason ⊎ EndsRound reason
EndsLife other = ⊤
