-- What a site holds, after a restart and whatever happens. Proof plumbing.
use Rattle.std.proofs.Common.{◌≡◌, ◌∙◌, inl, inr, refl, ap, sym, ℕ, Bool, true, false, cond, List, [], ◌∷◌, ◌++◌, nat_eq, append_assoc}
use Rattle.std.specs.FinSet as set
use Rattle.std.specs.Prelude.{flat_map, Result}
use Rattle.std.proofs.lemmas.Bool.{eqb-true}
use Rattle.std.proofs.lemmas.List.{append-nil}
use Rattle.sct_message.specs.declared.draft.Draft.{Draft}
use Rattle.sct_set.specs.Contents.{Contents, contents_of}
use Rattle.sct_set.proofs.ContentsLemmas.{union-none, union-of_none}
use Rattle.sct_json.specs.Reading.{message_in}
use Rattle.sct_json.specs.declared.faults.JsonFault.{JsonFault}
use Rattle.sct_delta.specs.DeltaText.{delta_in}
use Rattle.sct_delta.specs.Entries.{Placed, messages_of}
use Rattle.sct_site.specs.Cores.{Core, arrivals_taken, own_entry}
use Rattle.sct_site.proofs.MessageLemmas.{joined_messages, taken_messages, union-more}
use Rattle.sct_exchange.specs.Journals.{Begins, opened}
use Rattle.sct_exchange.specs.Rounds.{File}
use Rattle.sct_exchange.proofs.JournalLemmas.{begins_itself}
use Rattle.sct_requests.specs.Steps.{AreKept, brought, core_after, core_given, core_kept, text_in}
use Rattle.sct_requests.proofs.BringLemmas.{Joins, Takes, brings_how}
use Rattle.sct_requests.proofs.StepLemmas.{after_brought, after_join, brought_join, grows}
use Rattle.sct_read_again.specs.ReadAgain.{MessagesAreReadAgain}
use Rattle.sct_hub.specs.Hubs.{Event, World, after, arrivals_in, happens, site_in}
use Rattle.sct_hub.specs.Hubs.Event.{Cut, Round}
use Rattle.sct_hub.specs.Lives.{GoesBy, SitesGoByTheirRounds, given_by, given_in}
use Rattle.sct_hub.specs.Laws.{KeepersHoldExactly, NothingIsLost, RestartsAreTheSame, message_read, messages_of_file, messages_of_line}
use Rattle.sct_hub.proofs.HonestLemmas.{hubs_go_on}

-- ---- the messages that lines brought

messages_given : (core : Core) (line : List ℕ) → Takes core line → messages_of (core_given core line).arrivals ≡ set.union (messages_of core.arrivals) (contents_of (messages_of_line line))
unfolding arrivals_taken
messages_given core line how =
    ap (λ (c : Core). messages_of c.arrivals) how.is
    ∙ ap (λ (b : Bool). messages_of (cond b core.arrivals (core.arrivals ++ own_entry core how.message ∷ []))) (sym how.new)
    ∙ taken_messages core how.message
    ∙ ap (λ (read : Result Draft JsonFault). set.union (messages_of core.arrivals) (contents_of (message_read read))) (sym how.read)
    ∙ ap (λ (b : Bool). set.union (messages_of core.arrivals) (contents_of (cond b (messages_of_file (delta_in (text_in line))) (message_read (message_in line))))) (sym how.plain)

messages_joined : (core : Core) (line : List ℕ) → Joins core line → messages_of (core_given core line).arrivals ≡ set.union (messages_of core.arrivals) (contents_of (messages_of_line line))
messages_joined core line how =
    ap (λ (c : Core). messages_of c.arrivals) how.is
    ∙ joined_messages core.arrivals how.delta
    ∙ ap (λ (file : File). set.union (messages_of core.arrivals) (contents_of (messages_of_file file))) (sym how.read)
    ∙ ap (λ (b : Bool). set.union (messages_of core.arrivals) (contents_of (cond b (messages_of_file (delta_in (text_in line))) (message_read (message_in line))))) (sym how.told)

messages_along : (lines : List (List ℕ)) (core : Core) → AreKept core lines → messages_of (core_after core lines).arrivals ≡ set.union (messages_of core.arrivals) (contents_of (flat_map messages_of_line lines))
messages_along [] core some = sym (union-none (messages_of core.arrivals))
messages_along (line ∷ lines) core some =
    messages_along lines (core_given core line) some.1
    ∙ ap (λ (s : Contents). set.union s (contents_of (flat_map messages_of_line lines)))
    (elim (brings_how core line some.0) as (λ c. messages_of (core_given core line).arrivals ≡ set.union (messages_of core.arrivals) (contents_of (messages_of_line line))) [
      | inl how ↦ messages_given core line how
      | inr how ↦ messages_joined core line how
    ])
    ∙ union-more (messages_of core.arrivals) (messages_of_line line) (flat_map messages_of_line lines)

pub hold_exactly : MessagesAreReadAgain → KeepersHoldExactly
hold_exactly again sites world hub site =
    messages_along (world.lines site) (opened site sites) ((hubs_go_on again sites world hub).some site)
    ∙ union-of_none (contents_of (flat_map messages_of_line (world.lines site)))

-- ---- a restart

pub restarts_same : RestartsAreTheSame
restarts_same number group before lasting file is =
    ap (core_kept number group) is
    ∙ after_join before (brought (core_kept number group before) lasting) (opened number group)
    ∙ after_brought lasting (core_kept number group before)
