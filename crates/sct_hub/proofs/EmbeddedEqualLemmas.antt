-- Sites of programs that embed them, with equal vectors. Proof plumbing.
use Rattle.std.proofs.Common.{◌≡◌, ◌∙◌, ap, sym, ℕ, true, List, length, nat_lt}
use Rattle.std.specs.Prelude.{Some}
use Rattle.std.specs.Cmp.{both_ways}
use Rattle.std.proofs.lemmas.Option.{same_Some}
use Rattle.sct_message.specs.declared.draft.Draft.{Draft}
use Rattle.sct_delta.specs.DeltaText.{written_delta}
use Rattle.sct_delta.specs.Entries.{IsArrivals, Placed, held_from, holds, log_of}
use Rattle.sct_delta.specs.Refusals.{message_at}
use Rattle.sct_delta.specs.VectorText.{vector_text}
use Rattle.sct_site.specs.Cores.{Core}
use Rattle.sct_site.proofs.ArrivalLemmas.{length-log}
use Rattle.sct_site.proofs.HeldLemmas.{at_number, held_number, not_0, one_place, within}
use Rattle.sct_site.proofs.MessageLemmas.{same_messages}
use Rattle.sct_exchange.specs.Laws.{HaveEqualVectors, HoldAlike}
use Rattle.sct_exchange.specs.Owned.{IsOf}
use Rattle.sct_exchange.proofs.HubLemmas.{its_message}
use Rattle.sct_hub.specs.Embedded.{own_messages}
use Rattle.sct_hub.specs.EmbeddedLaws.{EqualSitesAnswerAlike}
use Rattle.sct_hub.specs.Laws.{SitesAnswerAlike}
use Rattle.sct_hub.proofs.AlikeLemmas.{above_alike}
use Rattle.sct_hub.proofs.AskLemmas.{asked_alike}
use Rattle.sct_hub.proofs.EmbeddedLemmas.{holds_of, of_site}
use Rattle.sct_hub.proofs.EqualLemmas.{same_digest, same_digests, same_entries, same_logs}

-- what one site holds another holds too, if it has as many entries of that origin
held_too : (owned : ℕ → List Draft) (one other : Core) → IsOf owned one → IsOf owned other → (e : Placed) → held_from e.origin one.arrivals ≡ held_from e.origin other.arrivals
    → holds one.arrivals e ≡ true → holds other.arrivals e ≡ true
held_too owned one other mine theirs e same held =
    let place : message_at (log_of e.origin one.arrivals) e.n ≡ Some e.message = one_place one.arrivals mine.order e held in
    let sizes : length (log_of e.origin one.arrivals) ≡ length (log_of e.origin other.arrivals) = length-log e.origin one.arrivals ∙ same ∙ sym (length-log e.origin other.arrivals) in
    at_number (log_of e.origin other.arrivals) e.n (not_0 (log_of e.origin one.arrivals) e.n e.message place)
    (ap (λ (n : ℕ). nat_lt n e.n) (sym sizes) ∙ within (log_of e.origin one.arrivals) e.n e.message place)
    (holds other.arrivals e ≡ true)
    (λ m is.
    let found : Placed = record { origin = e.origin; n = e.n; message = m } in
    let there : holds other.arrivals found ≡ true = held_number other.arrivals theirs.order e.origin e.n m is in
    let message : m ≡ e.message = same_Some m e.message (sym (its_message owned found (theirs.known found there)) ∙ its_message owned e (mine.known e held)) in
    ap (λ (x : Draft). holds other.arrivals (record { origin = e.origin; n = e.n; message = x })) (sym message) ∙ there)

hold_alike : (owned : ℕ → List Draft) (one other : Core) → IsOf owned one → IsOf owned other → HaveEqualVectors one.arrivals other.arrivals → HoldAlike one.arrivals other.arrivals
hold_alike owned one other mine theirs same e =
    both_ways _ _ (held_too owned one other mine theirs e (same e.origin)) (held_too owned other one theirs mine e (sym (same e.origin)))

-- sites that hold alike and have equal vectors answer alike
pub answer_alike : (one other : Core) → IsArrivals one.arrivals → IsArrivals other.arrivals → HoldAlike one.arrivals other.arrivals → HaveEqualVectors one.arrivals other.arrivals → SitesAnswerAlike one other
answer_alike one other first second alike same =
    let messages = same_messages one.arrivals other.arrivals alike in
    let logs = same_logs one.arrivals other.arrivals first second alike same in
    record {
      entries = alike;
      messages = messages;
      answers = λ question watched also plain.
          asked_alike (record { core = one; watched = watched }) (record { core = other; watched = also })
          messages (ap vector_text (λ i o. same o i)) (λ have. ap written_delta (above_alike have one.arrivals other.arrivals alike))
          (same_entries one.arrivals other.arrivals logs) (same_digest one.arrivals other.arrivals logs)
          (same_digests one.arrivals other.arrivals logs) question plain;
    }

pub equal_sites_alike : EqualSitesAnswerAlike
equal_sites_alike sites world hub one other same =
    let holds_in = holds_of sites world hub in
    let mine : IsOf (own_messages world) (world.core one) = of_site sites world holds_in one in
    let theirs : IsOf (own_messages world) (world.core other) = of_site sites world holds_in other in
    answer_alike (world.core one) (world.core other) mine.order theirs.order
    (hold_alike (own_messages world) (world.core one) (world.core other) mine theirs same) same
