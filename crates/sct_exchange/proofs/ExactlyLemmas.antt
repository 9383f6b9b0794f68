-- What a site holds after its rounds, and what it refuses. Proof plumbing.
use Rattle.std.proofs.Common.{ℕ, ◌≡◌, ◌∙◌, ap, sym, List, [], ◌∷◌, ◌++◌, map}
use Rattle.std.specs.FinSet as set
use Rattle.sct_message.specs.declared.draft.Draft.{Draft}
use Rattle.sct_set.specs.Contents.{Contents, contents_of}
use Rattle.sct_lines.specs.Lines.{messages_read}
use Rattle.sct_delta.specs.Entries.{Placed, messages_of, numbered}
use Rattle.sct_site.specs.Cores.{Core, IsSite, core_joined, core_taken}
use Rattle.sct_set.proofs.ContentsLemmas.{union-none}
use Rattle.sct_site.proofs.AcceptLemmas.{contents-append}
use Rattle.sct_site.proofs.MessageLemmas.{joined_messages, taken_messages, union-more}
use Rattle.sct_exchange.specs.Journals.{core_of_journal, core_taking, opened}
use Rattle.sct_exchange.specs.Laws.{HoldsExactly, RefusalsAreTheLast, RoundsExchange, RunsAgainEndAlike, messages_within}
use Rattle.sct_exchange.specs.Rounds.{File, exchanged, files_in}
use Rattle.sct_exchange.specs.Ways.{AreAccepted}
use Rattle.sct_exchange.proofs.JournalLemmas.{journal_core, journal_site}
use Rattle.sct_exchange.proofs.WayLemmas.{exchanged_is, refused_is, site_exchanged, texts_are_deltas}

taking_messages : (ms : List Draft) (core : Core) → messages_of (core_taking core ms).arrivals ≡ set.union (messages_of core.arrivals) (contents_of ms)
taking_messages [] core = sym (union-none (messages_of core.arrivals))
taking_messages (m ∷ ms) core =
    taking_messages ms (core_taken core m)
    ∙ ap (λ (s : Contents). set.union s (contents_of ms)) (taken_messages core m)
    ∙ union-more (messages_of core.arrivals) (m ∷ []) ms

along_messages : (files : List File) (deltas : List (List Placed)) (before after : Core) → AreAccepted files before deltas after
    → messages_of after.arrivals ≡ set.union (messages_of before.arrivals) (contents_of (messages_within deltas))
along_messages files [] before after is = ap (λ (c : Core). messages_of c.arrivals) is ∙ sym (union-none (messages_of before.arrivals))
along_messages files (delta ∷ deltas) before after way =
    along_messages files deltas (core_joined before delta) after way.2
    ∙ ap (λ (s : Contents). set.union s (contents_of (messages_within deltas))) (joined_messages before.arrivals delta)
    ∙ union-more (messages_of before.arrivals) (map (λ entry. entry.message) delta) (messages_within deltas)

pub holds_exactly : HoldsExactly
holds_exactly number group journal texts deltas after way =
    along_messages (files_in texts) deltas (core_of_journal number group journal) after way
    ∙ ap (λ (s : Contents). set.union s (contents_of (messages_within deltas))) (taking_messages (messages_read journal) (opened number group))
    ∙ union-more (contents_of []) (messages_read journal) (messages_within deltas)
    ∙ sym (contents-append [] (messages_read journal ++ messages_within deltas))

-- ---- the rounds of a site that took its journal

pub rounds_come_to_it : RoundsExchange
rounds_come_to_it number group journal texts valid =
    let start : Core = core_of_journal number group journal in
    let site : IsSite start = journal_site number group journal valid in (
      exchanged_is start site (files_in texts) (texts_are_deltas texts),
      site_exchanged start site (files_in texts) (texts_are_deltas texts),
    )

pub refused_last : RefusalsAreTheLast
refused_last number group journal texts valid =
    refused_is (core_of_journal number group journal) (journal_site number group journal valid) (files_in texts) (texts_are_deltas texts)

-- ---- a run again

pub end_alike : RunsAgainEndAlike
end_alike number group journal again texts others log files =
    let start : core_of_journal number group journal ≡ core_of_journal number group again =
    journal_core number group journal
    ∙ ap (λ (l : List Draft). record { number = number; group = group; arrivals = numbered number 1 l }) log
    ∙ sym (journal_core number group again) in
    λ i. exchanged (start i) (files i)
