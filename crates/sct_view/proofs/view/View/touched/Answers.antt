-- The messages held are those of the view, and a fresh message is not held.
use Rattle.std.proofs.Common.{◌∙◌, ap, sym}
use Rattle.std.specs.FinSet as set
use Rattle.sct_message.specs.Sets.{MessageSet}
use Rattle.sct_view.proofs.FewLemmas.{fresh_apart}
use Rattle.sct_view.proofs.view.View.touched.Goals as goal

pub touched-requires : goal.touched-requires
touched-requires c = record {
  fresh = λ m e. fresh_apart c.self.inside.archive _ m (ap (λ (s : MessageSet). set.contains s m) (sym c.in_ok-fresh.ensures) ∙ e);
}
