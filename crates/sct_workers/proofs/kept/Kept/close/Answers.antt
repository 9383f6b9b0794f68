-- The core of a desk that was closed with all receipts that were kept, and that a desk refuses to be closed by 53 or 54.
use Rattle.std.proofs.Common.{refl}
use Rattle.sct_workers.specs.Faults.{IsNotClosed, IsRefusalToClose, fault_of_desk}
use Rattle.sct_workers.proofs.StandLemmas.{closed_fails, closed_stands, not_closed, refused_to_close}
use Rattle.sct_workers.proofs.kept.Kept.close.Goals as goal

pub returns-clause-core : goal.returns-clause-core
returns-clause-core g c =
    closed_stands (λ refusal. refusal.fault) g.J.Site.book g.J.Site.number g.J.Site.group g.J.Takes.messages c.args.self.receipts.items c.close.result
    c.closed_by.result c.closed_by.ensures.core c.closed_by.ensures.refused c.closed_by.ensures.site c.close.ensures.core c.close.ensures.tiles
    c.args.self.kept c.requires

pub returns-clause-refused : goal.returns-clause-refused
returns-clause-refused g c =
    closed_fails (λ refusal. refusal.fault) g.J.Site.number c.args.self.receipts.items IsNotClosed c.close.result
    c.closed_by.result c.closed_by.ensures.core c.closed_by.ensures.refused c.close.ensures.refused
    (λ f why. not_closed g.J.Site.number c.args.self.receipts.items f (fault_of_desk f) why refl)

pub returns-clause-reason : goal.returns-clause-reason
returns-clause-reason g c =
    closed_fails (λ refusal. refusal.fault) g.J.Site.number c.args.self.receipts.items (IsRefusalToClose g.J.Site.number c.args.self.receipts.items)
    c.close.result c.closed_by.result c.closed_by.ensures.core c.closed_by.ensures.refused c.close.ensures.refused
    (λ f why. refused_to_close g.J.Site.number c.args.self.receipts.items f (fault_of_desk f) why refl)
