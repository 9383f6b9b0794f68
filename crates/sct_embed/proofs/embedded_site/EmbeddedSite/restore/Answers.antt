-- A view of nothing shows the first arrivals of every site.
use Rattle.std.proofs.Common.{[]}
use Rattle.sct_embed.proofs.ShownLemmas.{showing_before}
use Rattle.sct_embed.proofs.embedded_site.EmbeddedSite.restore.Goals as goal

pub invariant_of-result : goal.invariant_of-result
invariant_of-result c = showing_before c.new.result [] c.in_ok-core.field-0.core.arrivals c.new.ensures.shown
