-- What is refused gives the site nothing.
use Rattle.std.proofs.Common.{◌≡◌, ◌∙◌, ap, sym, List, ℕ}
use Rattle.std.specs.Prelude.{Option, Some, None, option_map}
use Rattle.sct_rights.specs.Listing.{banks_in}
use Rattle.sct_requests.specs.Grants.{banks_text, granted_to, is_plain, line_sent}
use Rattle.sct_requests.specs.Steps.{core_given}
use Rattle.sct_requests.proofs.GrantLemmas.{given_for_none, given_unless_plain}
use Rattle.sct_requests.proofs.grants.give_as.Goals as goal

pub returns-in_default-clause-core : goal.returns-in_default-clause-core
returns-in_default-clause-core c =
    let core = c.args.site.now.core in
    let request = c.args.request.now in
    let none : banks_in (banks_text request) ≡ None =
    ap banks_in (sym c.as_parts.ensures.banks) ∙ sym c.in_ok-banks.ensures ∙ ap (option_map (λ list. list.items)) c.in_default.is in
    sym (given_for_none core (banks_in (banks_text request)) (line_sent request) none)

pub returns-then-not-is_plain-clause-core : goal.returns-then-not-is_plain-clause-core
returns-then-not-is_plain-clause-core c =
    let core = c.args.site.now.core in
    let request = c.args.request.now in
    let banks = c.in-Some.banks.items in
    let listed : banks_in (banks_text request) ≡ Some banks =
    ap banks_in (sym c.as_parts.ensures.banks) ∙ sym c.in_ok-banks.ensures ∙ ap (option_map (λ list. list.items)) c.in-Some.is in
    sym (ap (λ (b : Option (List (List ℕ))). core_given core (granted_to core b (line_sent request))) listed
    ∙ given_unless_plain core banks (line_sent request) (ap is_plain (sym c.as_parts.ensures.line) ∙ sym c.if-not-is_plain.ensures))
