-- The messages are filed as the archive of them has them.
use Rattle.std.proofs.Common.{sym}
use Rattle.sct_message.specs.Sets.{messages_in}
use Rattle.sct_view.proofs.build.filled_in_parts.Goals as goal

pub tables_in_parts-requires-clause-filed : goal.tables_in_parts-requires-clause-filed
tables_in_parts-requires-clause-filed g c = λ _ _. (messages_in c.args.messages.now, sym c.in_ok-archive.ensures.archive, c.in_ok-archive.ensures.index)
