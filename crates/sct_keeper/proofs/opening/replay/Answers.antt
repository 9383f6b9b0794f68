-- A part more.
use Rattle.std.proofs.Common.{◌≡◌, ◌++◌, ◌∙◌, ap, subst, List, ℕ, arith, IsTrue, take, Vec}
use Rattle.std.specs.Prelude.{IfSome, Option}
use Rattle.std.specs.declared.alloc.Global.{Global}
use Rattle.sct_journal.specs.Kept.{kept}
use Rattle.sct_journal.specs.Openings.{opening_end}
use Rattle.sct_requests.specs.Steps.{core_after}
use Rattle.sct_keeper.proofs.KeeperLemmas.{replayed_more}
use Rattle.sct_keeper.proofs.opening.replay.Goals as goal

pub loop-text-preserved : goal.loop-text-preserved
loop-text-preserved g c =
    let inv = c.loop-text.invariant in
    record {
      opening = c.next.ensures.opening;
      site = λ clean.
          replayed_more c.args.site.now.core c.loop-text.site.core c.give_kept.new.site.core _
          (kept (take (opening_end c.loop-text.opening) (g.D.Disk.seen c.loop-text.opening.disk)))
          (kept (take (opening_end c.next.new.self) (g.D.Disk.seen c.next.new.self.disk))) (kept c.in-Some.text.items)
          (inv.site (c.next.ensures.clean clean))
          (subst (λ (o : Option (Vec ℕ Global)). IfSome o (λ text. IsTrue (g.D.Disk.is_clean c.next.new.self.disk)
          → kept (take c.next.new.self.end (g.D.Disk.seen c.next.new.self.disk)) ≡ kept (take c.loop-text.opening.end (g.D.Disk.seen c.loop-text.opening.disk)) ++ kept text.items))
          c.in-Some.is c.in_ok-text.ensures.more clean)
          (c.in_ok-give_kept.ensures.core ∙ ap (λ (l : List ℕ). core_after c.loop-text.site.core (kept l)) c.deref.ensures.value);
      watched = c.give_kept.ensures.watched ∙ inv.watched;
      seen = c.next.ensures.seen ∙ inv.seen;
      crash = λ f left. inv.crash f (c.next.ensures.crash f left);
      clean = λ clean. inv.clean (c.next.ensures.clean clean);
      faults = omega (arith, inv.faults, c.next.ensures.faults);
    }
