-- The questions to a site, and the answer to each. Read by an auditor.
use Rattle.std.specs.Prelude.{ℕ, ◌-◌, ◌&&◌, List, Option, Some, Result, Ok, drop, filter, flat_map, length, nat_eq, nat_lt}
use Rattle.sct_set.specs.Archive.{archive_text_of, line_of}
use Rattle.sct_view.specs.StatusText.{status_text_of}
use Rattle.sct_view.specs.TotalsText.{totals_text_of}
use Rattle.sct_delta.specs.Entries.{Placed, messages_of}
use Rattle.sct_site.specs.Cores.{Core}
use Rattle.sct_digest.specs.Digests.{digests_text}
use Rattle.sct_exchange.specs.Sites.{held_text}
use Rattle.sct_embed.specs.ByBanks.{bank_answer_for, messages_answer_for, report_answer_for, transfer_answer_for}
use Rattle.sct_embed.specs.Calls.{cut_above_answer, cut_answer, digest_answer, entries_answer}
use Rattle.sct_embed.specs.Embeddings.{Embedding}
use Rattle.sct_embed.specs.Questions.{bank_answer, changes_since, closed_answer, contradictions_text_of, kept_answer, messages_answer, report_answer, transfer_answer}
use Rattle.sct_embed.specs.Reading.{reading_text_of}
use Rattle.sct_embed.specs.declared.faults.EmbedFault.{EmbedFault}
use Rattle.sct_embed.specs.declared.question.Question.{Question}
use Rattle.sct_embed.specs.declared.question.Question.TheVariants as question

-- ---- entries as lines

-- the message of each entry on a line, as the archive text has it
abbrev pub lines_of_entries : List Placed → List ℕ
lines_of_entries entries = flat_map (λ entry. line_of entry.message) entries

-- the site's own entries that are numbered above a count, in their order
abbrev pub own_above : ℕ → ℕ → List Placed → List Placed
own_above number above arrivals = filter (λ entry. nat_eq entry.origin number && nat_lt above entry.n) arrivals

-- the lines that a journal lacks which has the first `above` own messages
abbrev pub journal_text : ℕ → Core → List ℕ
journal_text above core = lines_of_entries (own_above core.number above core.arrivals)

-- the entries that came last, at most so many
abbrev pub newest : ℕ → List Placed → List Placed
newest count arrivals = drop (length arrivals - count) arrivals

abbrev pub newest_text : ℕ → List Placed → List ℕ
newest_text count arrivals = lines_of_entries (newest count arrivals)

-- ---- questions

-- the answer to a question
abbrev pub answer_to_question : Question → Embedding → Result (List ℕ) EmbedFault
answer_to_question question.Archive site = Ok (archive_text_of (messages_of site.core.arrivals))
answer_to_question question.Status site = Ok (status_text_of (messages_of site.core.arrivals))
answer_to_question question.Totals site = Ok (totals_text_of (messages_of site.core.arrivals))
answer_to_question question.Contradictions site = Ok (contradictions_text_of (messages_of site.core.arrivals))
answer_to_question question.Vector site = Ok (held_text site.core.arrivals)
answer_to_question (question.Cut vector) site = cut_answer vector.now site.core.arrivals
answer_to_question (question.CutAbove counts) site = cut_above_answer counts.now site.core.arrivals
answer_to_question (question.Entries origin above most) site = entries_answer origin above most site.core.arrivals
answer_to_question (question.Digest origin count) site = digest_answer origin count site.core.arrivals
answer_to_question question.Digests site = Ok (digests_text site.core.arrivals)
answer_to_question (question.Journal above) site = Ok (journal_text above site.core)
answer_to_question (question.Newest count) site = Ok (newest_text count site.core.arrivals)
answer_to_question (question.Reading text) site = Ok (reading_text_of text.now)
answer_to_question (question.Transfer bank tx) site = transfer_answer bank.now tx.now (messages_of site.core.arrivals)
answer_to_question (question.Messages bank tx) site = messages_answer bank.now tx.now (messages_of site.core.arrivals)
answer_to_question (question.Bank bank) site = bank_answer bank.now (messages_of site.core.arrivals)
answer_to_question (question.Report bank day list) site = report_answer bank.now day.now list.now (messages_of site.core.arrivals)
answer_to_question (question.Kept day) site = kept_answer day.now (messages_of site.core.arrivals)
answer_to_question (question.Closed day) site = closed_answer day.now (messages_of site.core.arrivals)
answer_to_question question.Changes site = Ok (changes_since site.watched site.core.arrivals)
answer_to_question (question.TransferFor banks bank tx) site =
    transfer_answer_for banks.now bank.now tx.now (messages_of site.core.arrivals)
answer_to_question (question.MessagesFor banks bank tx) site =
    messages_answer_for banks.now bank.now tx.now (messages_of site.core.arrivals)
answer_to_question (question.BankFor banks bank) site = bank_answer_for banks.now bank.now (messages_of site.core.arrivals)
answer_to_question (question.ReportFor banks bank day list) site =
    report_answer_for banks.now bank.now day.now list.now (messages_of site.core.arrivals)

-- how many arrivals the site had when its changes were asked for last, after a question that is answered
abbrev pub watched_after_answer : Question → Embedding → Option ℕ
watched_after_answer question.Changes site = Some (length site.core.arrivals)
watched_after_answer other site = site.watched
