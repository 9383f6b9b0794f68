-- A take is a repeat where the archive holds the message; else the message is the next own entry.
use Rattle.std.proofs.Common.{rules, ◌≡◌, ap, sym, refl, ◌∙◌, ◌++◌, ◌∷◌, [], ◌+◌, ℕ, List, false, true, cond, nat_eq}
use Rattle.std.specs.Arc.{arc_value}
use Rattle.std.specs.FinSet as set
use Rattle.sct_message.specs.declared.draft.Draft.{Draft}
use Rattle.sct_set.specs.declared.added.Added.TheVariants as added
use Rattle.sct_delta.specs.Entries.{Placed, held_from}
use Rattle.sct_delta.specs.Logs.{log_in}
use Rattle.sct_delta.proofs.LogsLemmas.{filled_by_one}
use Rattle.sct_site.specs.Cores.{Core, is_repeat, own_entry}
use Rattle.sct_site.proofs.TakeLemmas.{says_repeat, says_held, repeat_is, took-held, took-new, arrivals-held, arrivals-new, next_is, IsCore-held, IsCore-taken}
use Rattle.sct_site.proofs.site_core.SiteCore.take.Goals as goal

pub returns-then-repeat-clause-answer : goal.returns-then-repeat-clause-answer
returns-then-repeat-clause-answer c =
    took-held _ _ (repeat_is _ _ _ _ _ _ true c.self.view_is c.self.invariant.messages c.deref.ensures refl (c.in_ok-repeat.ensures.held c.if-repeat.true))

pub returns-then-repeat-clause-ok : goal.returns-then-repeat-clause-ok
returns-then-repeat-clause-ok c =
    c.in_ok-repeat.ensures.entries
    ∙ ap (λ (core : Core). core.arrivals) c.self.view_is
    ∙ arrivals-held _ _ (repeat_is _ _ _ _ _ _ true c.self.view_is c.self.invariant.messages c.deref.ensures refl (c.in_ok-repeat.ensures.held c.if-repeat.true))

pub invariant_of-self-then-eq : goal.invariant_of-self-then-eq
invariant_of-self-then-eq c =
    let is : c.in-Ok.added ≡ added.Repeat = search rules in
    let held : set.contains c.self.inside.archive (arc_value c.in_ok-held.held) ≡ true = sym (says_held _ _ _ c.in-Ok.ensures.answer) ∙ ap says_repeat is in
    IsCore-held _ _ c.self.inside.logs _ c.self.inside.arrivals.items _ c.self.inside.archive _ (arc_value c.in_ok-held.held)
    c.self.invariant
    c.in_ok-repeat.ensures.group
    c.in_ok-repeat.ensures.same
    (c.in_ok-repeat.ensures.kept (ap (set.contains c.self.inside.archive) (c.deref.ensures ∙ sym c.in_ok-held.ensures.cases) ∙ held) c.self.invariant.filled)
    held
    c.in-Ok.ensures.ok
    c.in_ok-repeat.ensures.entries

pub returns-then-eq-clause-answer : goal.returns-then-eq-clause-answer
returns-then-eq-clause-answer c =
    let is : c.in-Ok.added ≡ added.Repeat = search rules in
    took-held _ _ (repeat_is _ _ _ _ _ _ true c.self.view_is c.self.invariant.messages c.in_ok-held.ensures.cases (says_held _ _ _ c.in-Ok.ensures.answer) (ap says_repeat is))

pub returns-then-eq-clause-ok : goal.returns-then-eq-clause-ok
returns-then-eq-clause-ok c =
    let is : c.in-Ok.added ≡ added.Repeat = search rules in
    c.in_ok-repeat.ensures.entries
    ∙ ap (λ (core : Core). core.arrivals) c.self.view_is
    ∙ arrivals-held _ _ (repeat_is _ _ _ _ _ _ true c.self.view_is c.self.invariant.messages c.in_ok-held.ensures.cases (says_held _ _ _ c.in-Ok.ensures.answer) (ap says_repeat is))

-- the number of the new entry is the next own one
own_number : (c : goal.After-push_reserved) → c.push_reserved-n.result ≡ held_from c.self.inside.number c.self.inside.arrivals.items + 1
own_number c =
    c.push_reserved-n.ensures.answer
    ∙ next_is c.self.inside.number _ c.self.inside.arrivals.items (c.in_ok-repeat.ensures.same c.self.inside.number ∙ c.self.invariant.by_origin c.self.inside.number)

-- and the arrivals end with it
came : (c : goal.After-push_reserved) → c.push_reserved.new.self.items
    ≡ c.self.inside.arrivals.items ++ own_entry (record { number = c.self.inside.number; group = c.self.inside.group; arrivals = c.self.inside.arrivals.items }) (arc_value c.args.message) ∷ []
came c =
    c.push_reserved.ensures.items
    ∙ ap (λ (xs : List Placed). xs ++ record { origin = c.self.inside.number; n = c.push_reserved-n.result; message = arc_value c.args.message } ∷ []) c.in_ok-repeat.ensures.entries
    ∙ ap (λ (n : ℕ). c.self.inside.arrivals.items ++ record { origin = c.self.inside.number; n = n; message = arc_value c.args.message } ∷ []) (own_number c)

pub invariant_of-self-2 : goal.invariant_of-self-2
invariant_of-self-2 c =
    IsCore-taken _ _ c.self.inside.logs _ c.self.inside.arrivals.items _ c.self.inside.archive _ (arc_value c.args.message)
    c.self.invariant
    (c.push_reserved-n.ensures.group ∙ c.in_ok-repeat.ensures.group)
    (λ o. c.push_reserved-n.ensures.logs o
    ∙ ap (λ (l : List Draft). cond (nat_eq c.self.inside.number o) (l ++ arc_value c.in_ok-logged.logged ∷ []) l) (c.in_ok-repeat.ensures.same o)
    ∙ ap (λ (m : Draft). cond (nat_eq c.self.inside.number o) (log_in c.self.inside.logs o ++ m ∷ []) (log_in c.self.inside.logs o)) c.in_ok-logged.ensures.cases)
    (filled_by_one c.self.inside.number c.self.inside.logs c.is_held_without_room.new.logs c.push_reserved-n.new.self c.self.invariant.filled c.in_ok-repeat.ensures.due c.push_reserved-n.ensures.due)
    (c.in-Ok.ensures.ok ∙ ap (set.insert c.self.inside.archive) c.in_ok-held.ensures.cases)
    (came c)

-- the message is new
is_new : (c : goal.After-push_reserved) → is_repeat c.args.self.now (arc_value c.args.message) ≡ false
is_new c =
    let other : says_repeat c.in-Ok.added ≡ false = search rules in
    repeat_is _ _ _ _ _ _ false c.self.view_is c.self.invariant.messages c.in_ok-held.ensures.cases (says_held _ _ _ c.in-Ok.ensures.answer) other

pub returns-clause-answer : goal.returns-clause-answer
returns-clause-answer c = took-new _ _ (is_new c) _ (own_number c ∙ ap (λ (core : Core). held_from core.number core.arrivals + 1) c.self.view_is)

pub returns-clause-ok : goal.returns-clause-ok
returns-clause-ok c =
    came c
    ∙ ap (λ (core : Core). core.arrivals ++ own_entry core (arc_value c.args.message) ∷ []) c.self.view_is
    ∙ arrivals-new _ _ (is_new c)
