-- The lines of the entries so far are appended.
use Rattle.std.proofs.Common.{◌≡◌, take}
use Rattle.sct_embed.specs.Asking.{lines_of_entries}
use Rattle.sct_embed.proofs.texts.text_of_entries.Given as goal

abbrev pub invariant-loop-entry : goal.invariant-loop-entry
invariant-loop-entry l = l.text.items ≡ lines_of_entries (take l.entry-index l.entries)
