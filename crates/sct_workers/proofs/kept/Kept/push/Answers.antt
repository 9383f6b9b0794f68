-- One receipt more, or none if it is out of memory.
use Rattle.std.proofs.Common.{◌≡◌, ◌++◌, ◌∷◌, [], All, Bool, List, cond, false, true}
use Rattle.std.specs.Prelude.{is_ok}
use Rattle.std.proofs.lemmas.List.Elements.{All-push, All-same}
use Rattle.sct_desk.specs.Passes.{Told}
use Rattle.sct_workers.specs.Kept.{Keeps}
use Rattle.sct_workers.proofs.kept.Kept.push.Goals as goal

all_after : (P : Told → Type 0) (pushed : Bool) (before after : List Told) (r : Told) → after ≡ cond pushed (before ++ r ∷ []) before → All P before → P r
    → All P after
all_after P true before after r is all one = All-same P after (before ++ r ∷ []) is (All-push P before r all one)
all_after P false before after r is all one = All-same P after before is all

pub invariant_of-self : goal.invariant_of-self
invariant_of-self g c = record {
  kept =
      all_after (Keeps g.J.Site.book g.J.Site.number g.J.Site.group g.J.Takes.messages) (is_ok c.push.result) c.args.self.now.receipts.items
      c.push.new.self.items c.args.receipt c.push.ensures.items c.args.self.now.kept c.requires;
}
