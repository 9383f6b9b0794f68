-- Any two sites of a hub are peers. Proof plumbing.
use Rattle.std.proofs.Common.{◌≡◌, ◌∙◌, inl, inr, refl, ap, sym, subst, ℕ, zero, suc, ◌+◌, ◌-◌, ◌≤◌, Bool, true, cond, List, [], ◌∷◌, ◌++◌, length, arith, length-append}
use Rattle.std.specs.Prelude.{Option, Some, None, Ok}
use Rattle.std.specs.List.{slice_get}
use Rattle.std.specs.Option.{is_none}
use Rattle.std.proofs.lemmas.Bool.Decides.{nat_tests}
use Rattle.std.proofs.lemmas.Option.{same_Some}
use Rattle.sct_message.specs.declared.draft.Draft.{Draft}
use Rattle.sct_delta.specs.DeltaText.{delta_in}
use Rattle.sct_delta.specs.Entries.{IsArrivals, Placed, held_from, holds, log_of}
use Rattle.sct_delta.specs.Refusals.{has_site, is_held, message_at}
use Rattle.sct_delta.specs.declared.fault.DeltaFault.{DeltaFault}
use Rattle.sct_delta.proofs.EntryLemmas.{not_zero}
use Rattle.sct_delta.proofs.LawLemmas.{at_place}
use Rattle.sct_site.specs.Cores.{Core, IsSite, entries_above, is_open}
use Rattle.sct_site.proofs.ArrivalLemmas.{length-log}
use Rattle.sct_site.proofs.HeldLemmas.{held_number, held_stands}
use Rattle.sct_exchange.specs.Journals.{Begins, opened}
use Rattle.sct_exchange.specs.Laws.{IsAcceptedOrEarly}
use Rattle.sct_exchange.specs.Owned.{IsOf, IsTextOf}
use Rattle.sct_exchange.specs.Rounds.{File, core_with, is_accepted}
use Rattle.sct_exchange.proofs.HubLemmas.{its_message, only_early}
use Rattle.sct_exchange.proofs.WayLemmas.{delta_shape}
use Rattle.sct_requests.proofs.StepLemmas.{group_after, number_after}
use Rattle.sct_read_again.specs.ReadAgain.{MessagesAreReadAgain}
use Rattle.sct_hub.specs.Hubs.{IsHeldInHub, IsTextOfHub, MayBegin, World, arrivals_in, cut_in, site_in}
use Rattle.sct_hub.specs.Laws.{KeepersNeverFork, WrittenTextsNeverFork}
use Rattle.sct_hub.specs.Restored.{AgreeSoFar, ArePeers, CatchesUpBy, HasEachOf, SitesOfAHubArePeers, SitesOfAHubCatchUp}
use Rattle.sct_hub.proofs.CatchUpLemmas.{peers_catch}
use Rattle.sct_hub.proofs.HonestLemmas.{hubs_go_on, its_site, written_back}

-- ---- lists that begin alike

begins_by : (xs ys : List Draft) → ((k : ℕ) (m : Draft) → slice_get xs k ≡ Some m → slice_get ys k ≡ Some m) → Begins xs ys
begins_by [] ys each = record { rest = ys; is = refl }
begins_by (x ∷ xs) [] each = let none : None ≡ Some x = each zero x refl in cc
begins_by (x ∷ xs) (y ∷ ys) each =
    let same : y ≡ x = same_Some y x (each zero x refl) in
    let later : Begins xs ys = begins_by xs ys (λ k m is. each (suc k) m is) in
    record { rest = later.rest; is = λ i. same i ∷ later.is i }

begins_either : (xs ys zs : List Draft) → Begins xs zs → Begins ys zs → AgreeSoFar xs ys
begins_either [] ys zs one two = inl (record { rest = ys; is = refl })
begins_either (x ∷ xs) [] zs one two = inr (record { rest = x ∷ xs; is = refl })
begins_either (x ∷ xs) (y ∷ ys) zs one two =
    let both : (x ∷ (xs ++ one.rest)) ≡ (y ∷ (ys ++ two.rest)) = sym one.is ∙ two.is in
    let head : x ≡ y = cc in
    let tail : (xs ++ one.rest) ≡ (ys ++ two.rest) = cc in
    elim (begins_either xs ys (xs ++ one.rest) (record { rest = one.rest; is = refl }) (record { rest = two.rest; is = tail })) as (λ c. AgreeSoFar (x ∷ xs) (y ∷ ys)) [
      | inl first ↦ inl (record { rest = first.rest; is = λ i. sym head i ∷ first.is i })
      | inr second ↦ inr (record { rest = second.rest; is = λ i. head i ∷ second.is i })
    ]

-- the log of entries each of which is its origin's message of that number is the front of the origin's log
pub log_begins : (owned : ℕ → List Draft) (es : List Placed) → IsArrivals es → ((e : Placed) → holds es e ≡ true → is_held owned e ≡ true) → (o : ℕ) → Begins (log_of o es) (owned o)
log_begins owned es order known o = begins_by (log_of o es) (owned o) (λ k m is.
    let e : Placed = record { origin = o; n = k + 1; message = m } in
    sym (at_place (owned o) k) ∙ its_message owned e (known e (held_number es order o (k + 1) m (at_place (log_of o es) k ∙ is))))

length_begins : (xs ys : List Draft) → Begins xs ys → length xs ≤ length ys
length_begins xs ys begins = let size : length ys ≡ length (xs ++ begins.rest) = ap length begins.is in omega (arith, size, length-append xs begins.rest)

-- ---- the own logs of the sites of a hub

pub open_too : (site sites o : ℕ) → is_open site sites ≡ true → has_site sites o ≡ true → is_open o sites ≡ true
open_too site sites o valid there = grind (arith, nat_tests)

module _ (sites : ℕ) (world : World) (begun : MayBegin sites world) where
  -- the messages of each origin, as its own site holds them
  abbrev pub owned : ℕ → List Draft
  owned o = log_of o (arrivals_in sites world o)

  group_is : (site : ℕ) → (site_in sites world site).group ≡ sites
  group_is site = group_after (world.lines site) (opened site sites)

  number_is : (site : ℕ) → (site_in sites world site).number ≡ site
  number_is site = number_after (world.lines site) (opened site sites)

  pub inside_here : (site : ℕ) → is_open site sites ≡ true → (e : Placed) → holds (arrivals_in sites world site) e ≡ true → has_site sites e.origin ≡ true
  inside_here site valid e held = ap (λ (g : ℕ). has_site g e.origin) (sym (group_is site)) ∙ (its_site sites world begun site valid).inside e held

  pub owned_held : (site : ℕ) → is_open site sites ≡ true → (e : Placed) → holds (arrivals_in sites world site) e ≡ true → is_held owned e ≡ true
  owned_held site valid e held =
      held_stands (arrivals_in sites world e.origin)
      (its_site sites world begun e.origin (open_too site sites e.origin valid (inside_here site valid e held))).order e
      (begun.known site e valid held)

  pub of_site : (site : ℕ) → is_open site sites ≡ true → IsOf owned (site_in sites world site)
  of_site site valid =
      let here : IsSite (site_in sites world site) = its_site sites world begun site valid in
      record {
        order = here.order;
        inside = here.inside;
        known = owned_held site valid;
        own = ap (λ (n : ℕ). log_of (site_in sites world site).number (arrivals_in sites world n)) (sym (number_is site));
      }

  pub text_is : (text : List ℕ) → (of : IsTextOfHub sites world text) → IsTextOf owned sites of.delta
  text_is text of = record {
    shape = delta_shape text of.delta of.read;
    inside = λ e among. let there : IsHeldInHub sites world e = of.held e among in inside_here there.site there.opened e there.held;
    known = λ e among. let there : IsHeldInHub sites world e = of.held e among in owned_held there.site there.opened e there.held;
  }

  pub never_fork : (site : ℕ) → is_open site sites ≡ true → (text : List ℕ) → IsTextOfHub sites world text → IsAcceptedOrEarly (site_in sites world site) text
  never_fork site valid text of = record {
    delta = of.delta;
    read = of.read;
    early = only_early owned (site_in sites world site) (of_site site valid) of.delta
        (subst (λ (g : ℕ). IsTextOf owned g of.delta) (sym (group_is site)) (text_is text of));
  }

  pub begins_owned : (site : ℕ) → is_open site sites ≡ true → (o : ℕ) → Begins (log_of o (arrivals_in sites world site)) (owned o)
  begins_owned site valid o =
      log_begins owned (arrivals_in sites world site) (its_site sites world begun site valid).order (owned_held site valid) o

  -- the site of an origin holds most of it
  pub own_most : (site o : ℕ) → is_open site sites ≡ true → held_from o (arrivals_in sites world site) ≤ held_from o (arrivals_in sites world o)
  own_most site o valid =
      let counted : length (log_of o (arrivals_in sites world site)) ≤ length (owned o) = length_begins (log_of o (arrivals_in sites world site)) (owned o) (begins_owned site valid o) in
      omega (arith, counted, length-log o (arrivals_in sites world site), length-log o (arrivals_in sites world o))

  pub peers_here : (giver taker : ℕ) → is_open giver sites ≡ true → is_open taker sites ≡ true → ArePeers (site_in sites world giver) (site_in sites world taker)
  peers_here giver taker first second = record {
    giver_is = its_site sites world begun giver first;
    taker_is = its_site sites world begun taker second;
    group = group_is giver ∙ sym (group_is taker);
    agree = λ o. begins_either (log_of o (arrivals_in sites world giver)) (log_of o (arrivals_in sites world taker)) (owned o) (begins_owned giver first o) (begins_owned taker second o);
    own = subst (λ (n : ℕ). held_from n (arrivals_in sites world giver) ≤ held_from n (arrivals_in sites world taker)) (sym (number_is taker)) (own_most giver taker first);
  }

pub keepers_never_fork : MessagesAreReadAgain → KeepersNeverFork
keepers_never_fork again sites world hub site valid text of = never_fork sites world (hubs_go_on again sites world hub) site valid text of

pub written_never_fork : MessagesAreReadAgain → WrittenTextsNeverFork
written_never_fork again sites world hub site valid text among = keepers_never_fork again sites world hub site valid text ((hubs_go_on again sites world hub).texts text among)

pub hub_peers : MessagesAreReadAgain → SitesOfAHubArePeers
hub_peers again sites world hub giver taker first second = peers_here sites world (hubs_go_on again sites world hub) giver taker first second

by_text : (giver taker : Core) (file : File) (delta : List Placed) → file ≡ Ok delta → CatchesUpBy giver taker delta
    → (is_accepted taker file ≡ true) × HasEachOf giver.arrivals (core_with taker file).arrivals
by_text giver taker file delta read catches = (
  ap (is_accepted taker) read ∙ ap (λ (o : Option DeltaFault). is_none o) catches.fits,
  subst (λ (f : File). HasEachOf giver.arrivals (core_with taker f).arrivals) (sym read) catches.has,
)

pub hub_catches : MessagesAreReadAgain → SitesOfAHubCatchUp
hub_catches again sites world hub giver taker first second have most few =
    let read = (written_back again sites world (hubs_go_on again sites world hub) giver first few).cuts have in
    let both = by_text (site_in sites world giver) (site_in sites world taker) (delta_in (cut_in sites world giver have)) (entries_above have (arrivals_in sites world giver)) read
    (peers_catch (site_in sites world giver) (site_in sites world taker) have (hub_peers again sites world hub giver taker first second) most) in
    record { accepted = both.0; has = both.1 }
