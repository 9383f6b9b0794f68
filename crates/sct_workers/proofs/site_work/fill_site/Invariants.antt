-- The desk is of this site, of the history that was opened and of the messages that were read.
use Rattle.sct_message.specs.Sets.{messages_in}
use Rattle.sct_set.specs.Contents.{contents_of}
use Rattle.sct_workers.proofs.site_work.fill_site.Given as goal

abbrev pub ghosts-run_site-J-Site : goal.ghosts-run_site-J-Site
ghosts-run_site-J-Site g a = record { book = a.history; number = a.member.number; group = a.member.group }

abbrev pub ghosts-run_site-J-Takes : goal.ghosts-run_site-J-Takes
ghosts-run_site-J-Takes g a = record { messages = contents_of (messages_in a.messages.now) }
