-- Logs, arrivals and archive have the entry.
use Rattle.std.proofs.Common.{◌≡◌, ap, ◌∙◌, ◌++◌, ◌∷◌, [], ◌+◌, ℕ, List, cond, nat_eq}
use Rattle.std.specs.Arc.{arc_value}
use Rattle.std.specs.FinSet as set
use Rattle.sct_message.specs.declared.draft.Draft.{Draft}
use Rattle.sct_delta.specs.Entries.{Placed, held_from}
use Rattle.sct_delta.specs.Logs.{log_in}
use Rattle.sct_delta.proofs.LogsLemmas.{filled_by_one}
use Rattle.sct_site.specs.Cores.{next_entry}
use Rattle.sct_site.proofs.TakeLemmas.{next_is, IsCore-pushed}
use Rattle.sct_site.proofs.site_core.SiteCore.push.Goals as goal

-- the number of the new entry is the next one of its origin
number_is : (c : goal.After-push_reserved) → c.push_reserved-n.result ≡ held_from c.args.origin c.self.inside.arrivals.items + 1
number_is c =
    c.push_reserved-n.ensures.answer
    ∙ next_is c.args.origin _ c.self.inside.arrivals.items (c.in_ok-room.ensures.same c.args.origin ∙ c.self.invariant.by_origin c.args.origin)

-- and the arrivals end with it
came : (c : goal.After-push_reserved) → c.push_reserved.new.self.items
    ≡ c.self.inside.arrivals.items ++ next_entry c.args.origin c.self.inside.arrivals.items (arc_value c.args.message) ∷ []
came c =
    c.push_reserved.ensures.items
    ∙ ap (λ (xs : List Placed). xs ++ record { origin = c.args.origin; n = c.push_reserved-n.result; message = arc_value c.args.message } ∷ []) c.in_ok-reserve.ensures.items
    ∙ ap (λ (n : ℕ). c.self.inside.arrivals.items ++ record { origin = c.args.origin; n = n; message = arc_value c.args.message } ∷ []) (number_is c)

pub invariant_of-self-2 : goal.invariant_of-self-2
invariant_of-self-2 c =
    IsCore-pushed _ _ c.args.origin c.self.inside.logs _ c.self.inside.arrivals.items _ c.self.inside.archive _ (arc_value c.args.message)
    c.self.invariant
    (c.push_reserved-n.ensures.group ∙ c.in_ok-room.ensures.group)
    (λ o. c.push_reserved-n.ensures.logs o
    ∙ ap (λ (l : List Draft). cond (nat_eq c.args.origin o) (l ++ arc_value c.in_ok-logged.logged ∷ []) l) (c.in_ok-room.ensures.same o)
    ∙ ap (λ (m : Draft). cond (nat_eq c.args.origin o) (log_in c.self.inside.logs o ++ m ∷ []) (log_in c.self.inside.logs o)) c.in_ok-logged.ensures.cases)
    (filled_by_one c.args.origin c.self.inside.logs c.room.new.self c.push_reserved-n.new.self c.self.invariant.filled c.in_ok-room.ensures.due c.push_reserved-n.ensures.due)
    (c.in_default.ensures.ok ∙ ap (set.insert c.self.inside.archive) c.in_ok-held.ensures.cases)
    (came c)
