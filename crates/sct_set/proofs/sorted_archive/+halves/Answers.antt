-- What is written of both halves is what is written of the whole.
use Rattle.sct_set.proofs.GroupLemmas.{written_in_two}
use Rattle.sct_set.proofs.sorted_archive.+halves.Goals as goal

pub returns : goal.returns
returns g t c =
    let first = rw c.in_ok-pieces.was at c.join-first.ensures.first in
    let second = rw c.in_ok-more.was at c.join-first.ensures.second in
    written_in_two c.args.arrivals.now c.args.identities.now _ _
    c.in_ok-pieces.pieces.items c.in_ok-more.more.items c.append.new.self.items
    c.split_at.ensures.by_index.0 first second c.in_ok-append.ensures.items
