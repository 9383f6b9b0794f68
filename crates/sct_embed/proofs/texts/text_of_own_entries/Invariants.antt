-- The lines of the own entries so far, from the first place on, are appended.
use Rattle.std.proofs.Common.{◌≡◌, take, drop}
use Rattle.sct_embed.specs.Asking.{lines_of_entries, own_above}
use Rattle.sct_embed.proofs.texts.text_of_own_entries.Given as goal

abbrev pub invariant-loop-entry : goal.invariant-loop-entry
invariant-loop-entry l = l.text.items ≡ lines_of_entries (own_above l.number l.above (take l.entry-index (drop l.first l.arrivals)))
