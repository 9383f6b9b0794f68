-- A query sees no less than it has seen.
use Rattle.std.proofs.Common.{refl, subst}
use Rattle.std.specs.Prelude.{Err}
use Rattle.sct_site.proofs.Prefixes.{prefix_self}
use Rattle.sct_desk.specs.Answering.{AnswersFromView}
use Rattle.sct_desk.specs.Passes.{Asked}
use Rattle.sct_desk.specs.declared.fault.DeskFault.TheVariants as fault
use Rattle.sct_desk.proofs.Showing.{enters}
use Rattle.sct_desk.proofs.query.Query.answer.Goals as goal

pub enter_as-requires : goal.enter_as-requires
enter_as-requires g c x = enters _ _ x

pub returns-then-not-begins-clause-answer : goal.returns-then-not-begins-clause-answer
returns-then-not-begins-clause-answer g c =
    subst (λ (q : Asked). AnswersFromView q (record { site = c.self.inside.site; book = c.self.inside.track.book; seen = c.self.inside.track.log }) (Err fault.Closed)) c.self.view_is (record {
      same = (refl, refl);
      later = prefix_self c.self.inside.track.log;
      order = c.len-known.ensures.arrivals;
      front = tt;
    })
