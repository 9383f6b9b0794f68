-- Sites with the same messages, vector, cuts, entries and digests answer questions alike. Proof plumbing.
use Rattle.std.proofs.Common.{◌≡◌, ◌∙◌, ap, sym, ℕ, false, refl, List, []}
use Rattle.std.specs.Prelude.{codes, Bool, Option, None, Some, Result, Ok, Err, if◌then◌else◌, option_and_then}
use Rattle.sct_element.specs.Text.{is_text}
use Rattle.sct_message.specs.Sets.{MessageSet}
use Rattle.sct_set.specs.Archive.{archive_text_of}
use Rattle.sct_view.specs.StatusText.{status_text_of}
use Rattle.sct_view.specs.TotalsText.{totals_text_of}
use Rattle.sct_delta.specs.Entries.{messages_of}
use Rattle.sct_delta.specs.TextLines.{number_in}
use Rattle.sct_delta.specs.VectorText.{Pair, counts_of, origin_of_text, vector_in}
use Rattle.sct_digest.specs.Digests.{digests_text}
use Rattle.sct_exchange.specs.Entries.{entries_text}
use Rattle.sct_exchange.specs.Sites.{cut_text, held_text}
use Rattle.sct_embed.specs.Calls.{cut_answer, cut_for, digest_by_arguments, digest_if_held, entries_by_arguments, text_size_named}
use Rattle.sct_embed.specs.Questions.{bank_answer, changes_since, contradictions_text_of, messages_answer, transfer_answer}
use Rattle.sct_embed.specs.declared.faults.EmbedFault.{EmbedFault}
use Rattle.sct_requests.specs.Questions.{about, answer_about, answer_asked, answer_for_banks, answer_in, answer_named, answered, digest_in_words, digest_of_words, entries_about, entries_in_words, entries_of_words, report_asked}
use Rattle.sct_requests.specs.WatchedSites.{WatchedSite}
use Rattle.sct_requests.specs.Words.{one_word, two_parts}
use Rattle.sct_requests.specs.declared.questions.QuestionFault.{QuestionFault}
use Rattle.sct_requests.specs.declared.questions.QuestionFault.TheVariants as fault

-- the questions of one word but `changes`, by the text of the vector, that of the digests and the messages
abbrev named_by : List ℕ → List ℕ → MessageSet → List ℕ → Bool → Result (List ℕ) QuestionFault → Result (List ℕ) QuestionFault
named_by vector digests held name last changes =
    if is_text name (codes "vector") then Ok vector
    else if is_text name (codes "status") then Ok (status_text_of held)
    else if is_text name (codes "totals") then Ok (totals_text_of held)
    else if is_text name (codes "archive") then Ok (archive_text_of held)
    else if is_text name (codes "contradictions") then Ok (contradictions_text_of held)
    else if is_text name (codes "digests") then Ok digests
    else if is_text name (codes "evaluate") then Ok []
    else if last then changes
    else Err fault.NoQuestion

-- the questions of more words, by the cuts, the entries, the digests and the messages
abbrev about_by : (List ℕ → Result (List ℕ) EmbedFault) → (Option (List ℕ × List ℕ) → Result (List ℕ) QuestionFault)
    → (Option (List ℕ × List ℕ) → Result (List ℕ) QuestionFault) → MessageSet → List ℕ → List ℕ → Result (List ℕ) QuestionFault
about_by cut entries digest held name rest =
    if is_text name (codes "cut") then about (one_word rest) cut
    else if is_text name (codes "transfer") then about (two_parts rest) (λ parts. transfer_answer parts.0 parts.1 held)
    else if is_text name (codes "messages") then about (two_parts rest) (λ parts. messages_answer parts.0 parts.1 held)
    else if is_text name (codes "bank") then about (one_word rest) (λ bank. bank_answer bank held)
    else if is_text name (codes "entries") then entries (two_parts rest)
    else if is_text name (codes "digest") then digest (two_parts rest)
    else if is_text name (codes "report") then report_asked held (two_parts rest)
    else if is_text name (codes "of") then answer_for_banks held (two_parts rest)
    else Err fault.NoQuestion

module _ (one other : WatchedSite) (messages : messages_of one.core.arrivals ≡ messages_of other.core.arrivals) (vector : held_text one.core.arrivals ≡ held_text other.core.arrivals)
    (cuts : (have : ℕ → ℕ) → cut_text have one.core.arrivals ≡ cut_text have other.core.arrivals)
    (entries : (origin above most : ℕ) → entries_text origin above most one.core.arrivals ≡ entries_text origin above most other.core.arrivals)
    (digest : (origin count : ℕ) → digest_if_held origin count one.core.arrivals ≡ digest_if_held origin count other.core.arrivals)
    (digests : digests_text one.core.arrivals ≡ digests_text other.core.arrivals) where
  cut_read : (pairs : Option (List Pair)) → cut_for pairs one.core.arrivals ≡ cut_for pairs other.core.arrivals
  cut_read None = refl
  cut_read (Some pairs) = ap (λ (text : List ℕ). Ok text) (cuts (counts_of pairs))

  cut_alike : (have : List ℕ) → cut_answer have one.core.arrivals ≡ cut_answer have other.core.arrivals
  cut_alike have = cut_read (vector_in have)

  entries_read : (origin above most : Option ℕ) → entries_by_arguments origin above most one.core.arrivals ≡ entries_by_arguments origin above most other.core.arrivals
  entries_read None above most = refl
  entries_read (Some origin) None most = refl
  entries_read (Some origin) (Some above) None = refl
  entries_read (Some origin) (Some above) (Some most) = ap (λ (text : List ℕ). Ok text) (entries origin above most)

  entries_by_last : (origin above : List ℕ) (word : Option (List ℕ))
      → about word (λ most. entries_of_words one.core.arrivals origin above most) ≡ about word (λ most. entries_of_words other.core.arrivals origin above most)
  entries_by_last origin above None = refl
  entries_by_last origin above (Some most) = ap answered (entries_read (origin_of_text origin) (number_in above) (option_and_then text_size_named (number_in most)))

  entries_by_two : (origin : List ℕ) (parts : Option (List ℕ × List ℕ)) → entries_about one.core.arrivals origin parts ≡ entries_about other.core.arrivals origin parts
  entries_by_two origin None = refl
  entries_by_two origin (Some parts) = entries_by_last origin parts.0 (one_word parts.1)

  entries_alike : (parts : Option (List ℕ × List ℕ)) → entries_in_words one.core.arrivals parts ≡ entries_in_words other.core.arrivals parts
  entries_alike None = refl
  entries_alike (Some parts) = entries_by_two parts.0 (two_parts parts.1)

  digest_read : (origin count : Option ℕ) → digest_by_arguments origin count one.core.arrivals ≡ digest_by_arguments origin count other.core.arrivals
  digest_read None count = refl
  digest_read (Some origin) None = refl
  digest_read (Some origin) (Some count) = digest origin count

  digest_by_last : (origin : List ℕ) (word : Option (List ℕ))
      → about word (λ count. digest_of_words one.core.arrivals origin count) ≡ about word (λ count. digest_of_words other.core.arrivals origin count)
  digest_by_last origin None = refl
  digest_by_last origin (Some count) = ap answered (digest_read (origin_of_text origin) (number_in count))

  digest_alike : (parts : Option (List ℕ × List ℕ)) → digest_in_words one.core.arrivals parts ≡ digest_in_words other.core.arrivals parts
  digest_alike None = refl
  digest_alike (Some parts) = digest_by_last parts.0 (one_word parts.1)

  named_alike : (name : List ℕ) → is_text name (codes "changes") ≡ false → answer_named one name ≡ answer_named other name
  named_alike name plain =
      ap (λ (b : Bool). named_by (held_text one.core.arrivals) (digests_text one.core.arrivals) (messages_of one.core.arrivals) name b (Ok (changes_since one.watched one.core.arrivals))) plain
      ∙ (λ i. named_by (vector i) (digests i) (messages i) name false (Err fault.NoQuestion))
      ∙ sym (ap (λ (b : Bool). named_by (held_text other.core.arrivals) (digests_text other.core.arrivals) (messages_of other.core.arrivals) name b (Ok (changes_since other.watched other.core.arrivals))) plain)

  about_alike : (name rest : List ℕ) → answer_about one name rest ≡ answer_about other name rest
  about_alike name rest = λ i. about_by (λ have. cut_alike have i) (λ parts. entries_alike parts i) (λ parts. digest_alike parts i) (messages i) name rest

  parts_alike : (question : List ℕ) → is_text question (codes "changes") ≡ false → (parts : Option (List ℕ × List ℕ)) → answer_in one question parts ≡ answer_in other question parts
  parts_alike question plain None = named_alike question plain
  parts_alike question plain (Some parts) = about_alike parts.0 parts.1

  pub asked_alike : (question : List ℕ) → is_text question (codes "changes") ≡ false → answer_asked one question ≡ answer_asked other question
  unfolding answer_asked
  asked_alike question plain = parts_alike question plain (two_parts question)
