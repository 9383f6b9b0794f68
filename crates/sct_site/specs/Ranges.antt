-- Ranges of logs: entries by their origin and numbers, without their messages. Read by an auditor. Worlds use these words.
use Rattle.std.specs.Prelude.{◌+◌, ◌-◌, ◌≤◌, ◌<◌, ℕ, List, drop, take, length}
use Rattle.std.specs.List.{flat_map, sum_by, All}
use Rattle.sct_message.specs.declared.draft.Draft.{Draft}
use Rattle.sct_delta.specs.Entries.{Placed, numbered}
use Rattle.sct_site.specs.declared.ranges.LogRange.{LogRange}

-- the entries of a range: those of its origin that the logs hold above one number, up to another
abbrev pub in_range : (ℕ → List Draft) → LogRange → List Placed
in_range log range = numbered range.origin (range.above + 1) (drop range.above (take range.upto (log range.origin)))

-- the entries of several ranges, one range after another
abbrev pub in_ranges : (ℕ → List Draft) → List LogRange → List Placed
in_ranges log ranges = flat_map (in_range log) ranges

-- the logs reach to the end of each range
abbrev pub ReachEnds : (ℕ → List Draft) → List LogRange → Type 0
ReachEnds log ranges = All (λ range. range.upto ≤ length (log range.origin)) ranges

-- each range has an entry, if logs reach to its end
abbrev pub HaveEntries : List LogRange → Type 0
HaveEntries ranges = All (λ range. range.above < range.upto) ranges

-- how many entries ranges have, if logs reach to their ends
abbrev pub size_of : List LogRange → ℕ
size_of ranges = sum_by (λ range. range.upto - range.above) ranges
