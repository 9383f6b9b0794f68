-- The status text, for auditors: the status of each transfer of a set of messages and of its recalls, and the findings.
use Rattle.std.specs.Prelude.{ℕ, List, [], ◌∷◌, ◌++◌, flat_map, if◌then◌else◌, codes}
use Rattle.sct_element.specs.Money.{amount_text}
use Rattle.sct_reason.specs.declared.reasons.Reason.{Reason}
use Rattle.sct_reason.specs.declared.uses.Use.{Use}
use Rattle.sct_reason.specs.declared.uses.Use.TheVariants.{Reject, Refusal}
use Rattle.sct_reason.specs.Codes.{reason_text}
use Rattle.sct_reason.specs.Uses.{is_usual}
use Rattle.sct_message.specs.Kinds.{kind_text}
use Rattle.sct_message.specs.Sets.{MessageSet}
use Rattle.sct_message.specs.Transfers.{keys_of}
use Rattle.sct_message.specs.declared.keys.Identity.{Identity}
use Rattle.sct_message.specs.declared.keys.TransferKey.{TransferKey}
use Rattle.sct_case.specs.declared.finding.Finding.{Finding}
use Rattle.sct_case.specs.declared.finding.Finding.TheVariants as finding
use Rattle.sct_case.specs.declared.status.RecallStatus.{RecallStatus}
use Rattle.sct_case.specs.declared.status.RecallStatus.TheVariants as recall
use Rattle.sct_case.specs.Statuses.{Standing, Rejected, Returned}
use Rattle.sct_case.specs.Words.{recall_word_text, word_of, word_text}
use Rattle.sct_view.specs.Answers.{status_of, found_on, recall_of, recalls_on}

-- ---- words

-- a reason is shown as its code, followed by a question mark if it is not usual in that use
abbrev pub shown : Use → Reason → List ℕ
shown usage reason = reason_text reason ++ (if is_usual reason usage then [] else codes "?")

-- what follows the word of a status: the reason of a rejection or the amount of a return, after a bar
abbrev pub after_word : Standing → List ℕ
after_word (Rejected reason) = codes "|" ++ shown Reject reason
after_word (Returned amount) = codes "|" ++ amount_text amount
after_word other = []

-- the words of a transfer's status, such as `REJECTED|AC04`
abbrev pub status_words : Standing → List ℕ
status_words stands = word_text (word_of stands) ++ after_word stands

-- what follows the word of a recall's status: the amount of a return or the reason of a refusal, after a bar
abbrev pub after_recall_word : RecallStatus → List ℕ
after_recall_word (recall.Returned amount) = codes "|" ++ amount_text amount
after_recall_word (recall.Refused reason) = codes "|" ++ shown Refusal reason
after_recall_word other = []

-- the words of a recall's status, such as `REFUSED|CUST`
abbrev pub recall_words : RecallStatus → List ℕ
recall_words stands = recall_word_text stands ++ after_recall_word stands

-- an identity by its three parts
abbrev pub identity_words : Identity → List ℕ
identity_words i = i.sender ++ codes "|" ++ kind_text i.kind ++ codes "|" ++ i.msg_id

-- the words of a finding: its name, and the identity or the recall that it is about
abbrev pub finding_words : Finding → List ℕ
finding_words (finding.Identity i) = codes "Identity|" ++ identity_words i
finding_words finding.TwoInstructions = codes "TwoInstructions"
finding_words finding.BothConfirmed = codes "BothConfirmed"
finding_words finding.ReasonsDiffer = codes "ReasonsDiffer"
finding_words finding.AmountDiffers = codes "AmountDiffers"
finding_words (finding.RecallsDiffer cxl) = codes "RecallsDiffer|" ++ cxl
finding_words (finding.BothAnswers cxl) = codes "BothAnswers|" ++ cxl
finding_words (finding.RefusalsDiffer cxl) = codes "RefusalsDiffer|" ++ cxl
finding_words finding.TwoReturns = codes "TwoReturns"
finding_words finding.ReturnOfRejected = codes "ReturnOfRejected"

-- ---- lines

-- a letter and a transfer's key, each followed by a bar
abbrev pub key_words : List ℕ → TransferKey → List ℕ
key_words letter transfer = letter ++ codes "|" ++ transfer.debtor_agent ++ codes "|" ++ transfer.tx ++ codes "|"

-- a line on a transfer: a letter, the transfer's key and the words after it, separated by bars, and a line feed
unfoldable pub line_on : List ℕ → TransferKey → List ℕ → List ℕ
line_on letter transfer words = key_words letter transfer ++ words ++ 10 ∷ []

-- the T line of a transfer
abbrev pub status_line : TransferKey → Standing → List ℕ
status_line transfer stands = line_on (codes "T") transfer (status_words stands)

-- the F line of a finding
abbrev pub finding_line : TransferKey → Finding → List ℕ
finding_line transfer found = line_on (codes "F") transfer (finding_words found)

-- the R line of a recall
abbrev pub recall_line : TransferKey → List ℕ → RecallStatus → List ℕ
recall_line transfer cxl stands = line_on (codes "R") transfer (cxl ++ codes "|" ++ recall_words stands)

-- ---- the text

-- the R line of each recall of a transfer that a message of the set names
abbrev pub recall_lines : MessageSet → TransferKey → List ℕ
recall_lines held transfer =
    flat_map (λ cxl. recall_line transfer cxl (recall_of held (record { transfer = transfer; cxl = cxl })))
    (recalls_on held transfer)

-- the lines of a transfer of the set: its T line, the F line of each finding, the R line of each recall
unfoldable pub lines_on : MessageSet → TransferKey → List ℕ
lines_on held transfer =
    status_line transfer (status_of held transfer)
    ++ flat_map (finding_line transfer) (found_on held transfer)
    ++ recall_lines held transfer

-- the status text of a set of messages: the lines of each transfer that a message of the set is on, ascending
unfoldable pub status_text_of : MessageSet → List ℕ
status_text_of held = flat_map (lines_on held) (keys_of held)
