-- The logs refuse what the site refuses, and what is fresh comes to logs, arrivals and archive alike.
use Rattle.std.proofs.Common.{◌≡◌, ◌∙◌, ◌++◌, ap, sym, subst, not, map, rules, List}
use Rattle.std.specs.FinSet as set
use Rattle.std.specs.List.{list_any}
use Rattle.sct_message.specs.declared.draft.Draft.{Draft}
use Rattle.sct_message.specs.Sets.{messages_in}
use Rattle.sct_set.specs.Contents.{contents_of}
use Rattle.sct_delta.specs.Entries.{Placed, held_from, log_of}
use Rattle.sct_delta.specs.Logs.{log_in, KeepsEmptyIfDue}
use Rattle.sct_delta.specs.Refusals.{is_held, is_outside}
use Rattle.sct_delta.proofs.JoinLemmas.{passed}
use Rattle.sct_delta.proofs.TestLemmas.{none_kept}
use Rattle.sct_site.proofs.AcceptLemmas.{IsCore-joined, refusal_is}
use Rattle.sct_site.proofs.SiteLemmas.{site_is}
use Rattle.sct_site.proofs.site_core.SiteCore.accept.Goals as goal

pub returns-in_err-fresh-clause-err : goal.returns-in_err-fresh-clause-err
returns-in_err-fresh-clause-err c = rw (sym (refusal_is c.args.self.now _ _ c.self.inside.logs _ c.args.delta.now _ c.self.view_is c.self.invariant)) (search rules)

pub returns-in_err-messages-clause-err : goal.returns-in_err-messages-clause-err
returns-in_err-messages-clause-err c =
    rw (sym (refusal_is c.args.self.now _ _ c.self.inside.logs _ c.args.delta.now _ c.self.view_is c.self.invariant) ∙ c.in_ok-fresh.ensures.fits) (search rules)

pub returns-in_err-reserve-clause-err : goal.returns-in_err-reserve-clause-err
returns-in_err-reserve-clause-err c =
    rw (sym (refusal_is c.args.self.now _ _ c.self.inside.logs _ c.args.delta.now _ c.self.view_is c.self.invariant) ∙ c.in_ok-fresh.ensures.fits) (search rules)

pub returns-in_err-reserve-2-clause-err : goal.returns-in_err-reserve-2-clause-err
returns-in_err-reserve-2-clause-err c =
    rw (sym (refusal_is c.args.self.now _ _ c.self.inside.logs _ c.args.delta.now _ c.self.view_is c.self.invariant) ∙ c.in_ok-fresh.ensures.fits) (search rules)

pub append_all-requires-clause-inside : goal.append_all-requires-clause-inside
append_all-requires-clause-inside c =
    let log = log_in c.self.inside.logs in
    (λ i. list_any (is_outside (c.in_ok-reserve-2.ensures.group i)) ((c.deref-2.ensures.value ∙ c.into_entries-entries.ensures.entries ∙ c.in_ok-fresh.ensures.ok) i))
    ∙ none_kept (is_outside c.self.inside.logs.group) (λ entry. not (is_held log entry)) c.args.delta.now
    (passed c.self.inside.number c.self.inside.logs.group log c.args.delta.now c.in_ok-fresh.ensures.fits).inside

pub invariant_of-self-2 : goal.invariant_of-self-2
invariant_of-self-2 c =
    let entries : c.into_entries-entries.result.items ≡ c.in_ok-fresh.fresh = c.into_entries-entries.ensures.entries in
    IsCore-joined c.self.inside.number c.self.inside.group c.self.inside.logs c.append_all.new.self c.self.inside.arrivals.items _ c.in_ok-fresh.fresh c.self.inside.archive _
    c.self.invariant
    (c.append_all.ensures.group ∙ c.in_ok-reserve-2.ensures.group)
    c.in_ok-fresh.ensures.goes_on
    (λ o. c.append_all.ensures.logs o ∙ (λ i. c.in_ok-reserve-2.ensures.same o i ++ log_of o ((c.deref-2.ensures.value ∙ entries) i)))
    (c.append_all.ensures.filled
    (subst (λ (ds : List Placed). KeepsEmptyIfDue (λ o. held_from o ds) c.reserve-2.new.self) (sym (c.deref-2.ensures.value ∙ entries)) (c.in_ok-reserve-2.ensures.due c.self.invariant.filled)))
    (c.in_default.ensures.ok
    ∙ ap (λ (ds : List Draft). set.union c.self.inside.archive (contents_of ds)) (ap messages_in c.deref.ensures.value ∙ c.in_ok-messages.ensures ∙ ap (map (λ (e : Placed). e.message)) c.entries.ensures.entries))
    (c.in_ok-append.ensures.items ∙ (λ i. c.in_ok-reserve.ensures.items i ++ entries i))

-- ---- what the site keeps makes it a site, however the call ends

pub returns-in_err-fresh-clause-site : goal.returns-in_err-fresh-clause-site
returns-in_err-fresh-clause-site c = site_is c.args.self.now _ _ c.self.inside.logs _ _ c.self.view_is c.self.invariant c.in_err-fresh.ensures.inside

pub returns-in_err-messages-clause-site : goal.returns-in_err-messages-clause-site
returns-in_err-messages-clause-site c = site_is c.args.self.now _ _ c.self.inside.logs _ _ c.self.view_is c.self.invariant c.in_ok-fresh.ensures.inside

pub returns-in_err-reserve-clause-site : goal.returns-in_err-reserve-clause-site
returns-in_err-reserve-clause-site c = site_is c.args.self.now _ _ c.self.inside.logs _ _ c.self.view_is c.self.invariant c.in_ok-fresh.ensures.inside

pub returns-in_err-reserve-2-clause-site : goal.returns-in_err-reserve-2-clause-site
returns-in_err-reserve-2-clause-site c = site_is c.args.self.now _ _ c.self.inside.logs _ _ c.self.view_is c.self.invariant c.in_ok-fresh.ensures.inside

pub returns-in-Err-clause-site : goal.returns-in-Err-clause-site
returns-in-Err-clause-site c = site_is c.args.self.now _ _ c.self.inside.logs _ _ c.self.view_is c.self.invariant c.in_ok-fresh.ensures.inside

pub returns-clause-site : goal.returns-clause-site
returns-clause-site c = site_is c.args.self.now _ _ c.self.inside.logs _ _ c.self.view_is c.self.invariant c.in_ok-fresh.ensures.inside
