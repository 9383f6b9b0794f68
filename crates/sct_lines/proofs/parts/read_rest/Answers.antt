-- The lines before a part are no more than the bytes before it.
use Rattle.std.proofs.Common.{◌≡◌, ◌+◌, filter, length, arith}
use Rattle.sct_lines.proofs.LineLemmas.{is_feed}
use Rattle.sct_lines.proofs.PartLemmas.{few_feeds}
use Rattle.sct_lines.proofs.parts.read_rest.Goals as goal

pub read_part-requires : goal.read_part-requires
read_part-requires c =
    let before : c.of.result ≡ c.args.counted + length (filter is_feed c.split_at.result.0.now) = c.of.ensures in
    let few = few_feeds c.split_at.result.0.now in
    omega (arith, before, few, c.split_at.ensures.front_len, c.split_at.ensures.back_len, c.requires.few, c.requires.within)
