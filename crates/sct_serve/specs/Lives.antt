-- What a whole life of a site writes and leaves. Read by an auditor.
use Rattle.std.specs.Prelude.{◌≡◌, ◌⊎◌, ℕ, ◌++◌, List, Option, codes}
use Rattle.sct_streams.specs.Stream.{AppendsIfTold, HasReadIfTold}
use Rattle.sct_site.specs.Cores.{Core}
use Rattle.sct_exchange.specs.Sites.{held_text}
use Rattle.sct_journal.specs.Kept.{ended_lines, recorded}
use Rattle.sct_requests.specs.WatchedSites.{WatchedSite}
use Rattle.sct_requests.specs.Grants.{brought_by}
use Rattle.sct_requests.specs.Steps.{core_kept}
use Rattle.sct_serve.specs.Replies.{replies_to}
use Rattle.sct_serve.specs.Serving.{IsFrontOf, StopsReading}
use Rattle.std.specs.Prelude.{None}

-- the line that a site writes when it has opened: `READY` and its version vector
unfoldable pub ready_line : Core → List ℕ
ready_line core = codes "READY " ++ held_text core.arrivals ++ codes "\n"

-- the site of a journal with these lines, before changes were asked for
abbrev pub watched_site_kept : ℕ → ℕ → List (List ℕ) → WatchedSite
watched_site_kept number group lines = record { core = core_kept number group lines; watched = None }

-- all that is written for an input
abbrev pub output_of : WatchedSite → List ℕ → List ℕ
output_of site input = ready_line site.core ++ replies_to site (ended_lines input)

-- Of the lines of what was read, a front lasts: all that it brought is recorded, and no more. What was written is the first
-- line and replies to that front, or a front of these bytes.
pub record LifeLeaves (site : WatchedSite) (before : List (List ℕ)) (unread unread_now held held_now : Option (List ℕ)) (file : List ℕ) : Type 0 where
  pub read : List ℕ
  pub taken : HasReadIfTold unread unread_now read
  pub lasting : List (List ℕ)
  pub others : List (List ℕ)
  pub parts : ended_lines read ≡ lasting ++ others
  pub written : List ℕ
  pub appended : AppendsIfTold held held_now written
  pub replied : IsFrontOf written (ready_line site.core ++ replies_to site lasting)
  pub keeps : recorded file ≡ before ++ brought_by site.core lasting

-- A life ended before its first line: nothing was read or written, and what is left records the same lines.
pub record NeverSpoke (before : List (List ℕ)) (unread unread_now held held_now : Option (List ℕ)) (may_leave : List ℕ → Type 0) : Type 0 where
  pub unread_alike : unread_now ≡ unread
  pub held_alike : held_now ≡ held
  pub keeps : (file : List ℕ) → may_leave file → recorded file ≡ before

-- A life ended, and no write failed. It ended before its first line, or inside a round of what one read of at most 1 MiB
-- ended: no line of that round has a reply, and all that it brought is recorded, or nothing of it.
abbrev pub LifeStops : WatchedSite → List (List ℕ) → Option (List ℕ) → Option (List ℕ) → Option (List ℕ) → Option (List ℕ) → (List ℕ → Type 0) → Type 0
LifeStops site before unread unread_now held held_now may_leave =
    NeverSpoke before unread unread_now held held_now may_leave
    ⊎ StopsReading 1048576 (ready_line site.core) site before unread unread_now held held_now may_leave
