-- Sites of a hub with equal vectors hold the same and answer alike. Proof plumbing.
use Rattle.std.proofs.Common.{◌≡◌, ◌∙◌, inl, inr, refl, ap, sym, ℕ, zero, suc, true, take, ◌+◌, List, [], ◌∷◌, ◌++◌, length, drop, arith, length-append}
use Rattle.std.proofs.lemmas.List.{append-nil}
use Rattle.std.specs.Prelude.{Ok, Err, decimal, if◌then◌else◌, nat_le, nat_lt}
use Rattle.hex.specs.Hex.{encode_lower}
use Rattle.sct_message.specs.declared.draft.Draft.{Draft}
use Rattle.sct_delta.specs.DeltaText.{written_delta}
use Rattle.sct_delta.specs.Entries.{IsArrivals, Placed, held_from, holds, log_of, numbered}
use Rattle.sct_delta.specs.Refusals.{is_held}
use Rattle.sct_delta.specs.Sites.{most_sites}
use Rattle.sct_delta.specs.VectorText.{vector_text}
use Rattle.sct_delta.proofs.HeldLemmas.{held_in_logs}
use Rattle.sct_site.specs.Cores.{is_open}
use Rattle.sct_site.proofs.ArrivalLemmas.{length-log}
use Rattle.sct_site.proofs.HeldLemmas.{held_stands}
use Rattle.sct_site.proofs.MessageLemmas.{same_messages}
use Rattle.sct_digest.specs.Digests.{digest_of, digests_text, line_if_held, lines_to}
use Rattle.sct_exchange.specs.Entries.{entries_text, entries_within}
use Rattle.sct_exchange.specs.Journals.{Begins}
use Rattle.sct_exchange.specs.Laws.{HaveEqualVectors, HoldAlike}
use Rattle.sct_embed.specs.Calls.{digest_if_held}
use Rattle.sct_embed.specs.declared.faults.EmbedFault.TheVariants as fault
use Rattle.sct_read_again.specs.ReadAgain.{MessagesAreReadAgain}
use Rattle.sct_hub.specs.Hubs.{MayBegin, World, arrivals_in, site_in}
use Rattle.sct_hub.specs.Laws.{EqualVectorsAnswerAlike, SitesAnswerAlike}
use Rattle.sct_hub.specs.Restored.{AgreeSoFar}
use Rattle.sct_hub.proofs.AlikeLemmas.{above_alike}
use Rattle.sct_hub.proofs.AskLemmas.{asked_alike}
use Rattle.sct_hub.proofs.HonestLemmas.{hubs_go_on, its_site}
use Rattle.sct_hub.proofs.PeerLemmas.{log_begins, peers_here}

-- ---- equal counts

begins_whole : (xs ys : List Draft) → Begins xs ys → length xs ≡ length ys → xs ≡ ys
begins_whole xs ys begins same = sym (begins.is ∙ ap (λ (r : List Draft). xs ++ r) (none begins.rest (omega (arith, same, ap length begins.is, length-append xs begins.rest))) ∙ append-nil xs)
  where
    none : (rest : List Draft) → length rest ≡ 0 → rest ≡ []
    none [] is = refl
    none (m ∷ rest) is = absurd (omega (arith, is))

agree_whole : (xs ys : List Draft) → AgreeSoFar xs ys → length xs ≡ length ys → xs ≡ ys
agree_whole xs ys (inl first) same = begins_whole xs ys first same
agree_whole xs ys (inr second) same = sym (begins_whole ys xs second (sym same))

-- sites that hold alike have the same logs
pub same_logs : (es fs : List Placed) → IsArrivals es → IsArrivals fs → HoldAlike es fs → HaveEqualVectors es fs → (o : ℕ) → log_of o es ≡ log_of o fs
same_logs es fs first second alike same o =
    begins_whole (log_of o es) (log_of o fs)
    (log_begins (λ p. log_of p fs) es first (λ e held. held_stands fs second e (sym (alike e) ∙ held)) o)
    (length-log o es ∙ same o ∙ sym (length-log o fs))

-- and hand on the same entries of an origin
pub same_entries : (es fs : List Placed) → ((o : ℕ) → log_of o es ≡ log_of o fs) → (origin above most : ℕ) → entries_text origin above most es ≡ entries_text origin above most fs
same_entries es fs logs origin above most =
    ap (λ (log : List Draft). written_delta (entries_within most (numbered origin (above + 1) (drop above log)))) (logs origin)

-- they work out the same digests
pub same_counts : (es fs : List Placed) → ((o : ℕ) → log_of o es ≡ log_of o fs) → (o : ℕ) → held_from o es ≡ held_from o fs
same_counts es fs logs o = sym (length-log o es) ∙ ap length (logs o) ∙ length-log o fs

pub same_digest : (es fs : List Placed) → ((o : ℕ) → log_of o es ≡ log_of o fs) → (origin count : ℕ) → digest_if_held origin count es ≡ digest_if_held origin count fs
same_digest es fs logs origin count =
    λ i. if nat_le count (same_counts es fs logs origin i) then Ok (encode_lower (digest_of (take count (logs origin i)))) else Err (fault.BadArgument 2)

same_line : (es fs : List Placed) → ((o : ℕ) → log_of o es ≡ log_of o fs) → (o : ℕ) → line_if_held o es ≡ line_if_held o fs
same_line es fs logs o =
    λ i. let count = same_counts es fs logs o i in
    if nat_lt 0 count
    then decimal o ++ 58 ∷ (decimal count ++ 58 ∷ (encode_lower (digest_of (take count (logs o i))) ++ 10 ∷ []))
    else []

same_lines : (es fs : List Placed) → ((o : ℕ) → log_of o es ≡ log_of o fs) → (last : ℕ) → lines_to last es ≡ lines_to last fs
same_lines es fs logs zero = refl
same_lines es fs logs (suc before) = λ i. same_lines es fs logs before i ++ same_line es fs logs (suc before) i

pub same_digests : (es fs : List Placed) → ((o : ℕ) → log_of o es ≡ log_of o fs) → digests_text es ≡ digests_text fs
unfolding digests_text
same_digests es fs logs = same_lines es fs logs most_sites

module _ (sites : ℕ) (world : World) (begun : MayBegin sites world) (one other : ℕ) (first : is_open one sites ≡ true) (second : is_open other sites ≡ true)
    (same : HaveEqualVectors (arrivals_in sites world one) (arrivals_in sites world other)) where
  abbrev mine : List Placed
  mine = arrivals_in sites world one

  abbrev theirs : List Placed
  theirs = arrivals_in sites world other

  logs_alike : (o : ℕ) → log_of o mine ≡ log_of o theirs
  logs_alike o =
      agree_whole (log_of o mine) (log_of o theirs) ((peers_here sites world begun one other first second).agree o)
      (length-log o mine ∙ same o ∙ sym (length-log o theirs))

  hold_alike : HoldAlike mine theirs
  hold_alike e =
      held_in_logs mine (its_site sites world begun one first).order e
      ∙ ap (λ (log : ℕ → List Draft). is_held log e) (λ i o. logs_alike o i)
      ∙ sym (held_in_logs theirs (its_site sites world begun other second).order e)

  pub answer_alike : SitesAnswerAlike (site_in sites world one) (site_in sites world other)
  answer_alike = record {
    entries = hold_alike;
    messages = same_messages mine theirs hold_alike;
    answers = λ question watched also plain.
        asked_alike (record { core = site_in sites world one; watched = watched }) (record { core = site_in sites world other; watched = also })
        (same_messages mine theirs hold_alike) (ap vector_text (λ i o. same o i)) (λ have. ap written_delta (above_alike have mine theirs hold_alike)) (same_entries mine theirs logs_alike)
        (same_digest mine theirs logs_alike) (same_digests mine theirs logs_alike) question plain;
  }

pub equal_vectors_alike : MessagesAreReadAgain → EqualVectorsAnswerAlike
equal_vectors_alike again sites world hub one other first second same = answer_alike sites world (hubs_go_on again sites world hub) one other first second same
