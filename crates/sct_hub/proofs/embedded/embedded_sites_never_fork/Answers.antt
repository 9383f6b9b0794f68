-- A site of a program that embeds it never forks.
use Rattle.sct_hub.proofs.EmbeddedLemmas.{embedded_never_fork}
use Rattle.sct_hub.proofs.embedded.embedded_sites_never_fork.Goals as goal

pub returns : goal.returns
returns c = embedded_never_fork
