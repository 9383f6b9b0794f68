-- A new site of the number and the group of a snapshot is earlier.
use Rattle.std.proofs.Common.{ap}
use Rattle.sct_embed.specs.Embeddings.{Embedding}
use Rattle.sct_embed.proofs.FollowLemmas.{earlier_opened}
use Rattle.sct_embed.proofs.embedded_site.EmbeddedSite.of_snapshot.Goals as goal

pub follow-requires : goal.follow-requires
follow-requires c =
    earlier_opened c.in-Ok.site.core c.args.snapshot.now c.number.result c.group.result c.number.ensures.number c.group.ensures
    (ap (λ (e : Embedding). e.core) c.in-Ok.ensures.ok)
