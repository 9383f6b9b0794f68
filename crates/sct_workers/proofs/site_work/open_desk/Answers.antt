-- A desk without a query is a refusal.
use Rattle.std.proofs.Common.{subst, sym}
use Rattle.sct_desk.specs.declared.fault.DeskFault.TheVariants as desk
use Rattle.sct_workers.specs.Holds.{EndsWhere}
use Rattle.sct_workers.proofs.Holding.{opening_ends}
use Rattle.sct_workers.proofs.site_work.open_desk.Goals as goal

pub returns-clause-ends : goal.returns-clause-ends
returns-clause-ends g c = subst (λ fault. EndsWhere (λ point. ⊥) fault) (sym c.from.ensures) (opening_ends (λ point. ⊥) desk.NoPlace)
