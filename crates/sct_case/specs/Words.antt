-- The words of the statuses of transfers and recalls, for auditors.
use Rattle.std.specs.Prelude.{ℕ, List, codes}
use Rattle.sct_case.specs.Statuses.{Standing, Contradicted, Unknown, Missing, Rejected, Returned, Accepted, Investigated, Pending}
use Rattle.sct_case.specs.declared.status.RecallStatus.{RecallStatus}
use Rattle.sct_case.specs.declared.status.RecallStatus.TheVariants as recall
use Rattle.sct_case.specs.declared.words.StatusWord.{StatusWord}
use Rattle.sct_case.specs.declared.words.StatusWord.TheVariants as word

-- the word of a status, without its argument
abbrev pub word_of : Standing → StatusWord
word_of (Contradicted found) = word.Contradicted
word_of Unknown = word.Unknown
word_of Missing = word.Missing
word_of (Rejected reason) = word.Rejected
word_of (Returned amount) = word.Returned
word_of Accepted = word.Accepted
word_of Investigated = word.Investigated
word_of Pending = word.Pending

abbrev pub word_text : StatusWord → List ℕ
word_text word.Contradicted = codes "CONTRADICTED"
word_text word.Unknown = codes "UNKNOWN"
word_text word.Missing = codes "MISSING"
word_text word.Rejected = codes "REJECTED"
word_text word.Returned = codes "RETURNED"
word_text word.Accepted = codes "ACCEPTED"
word_text word.Investigated = codes "INVESTIGATED"
word_text word.Pending = codes "PENDING"

-- the word of a recall's status, without its argument
abbrev pub recall_word_text : RecallStatus → List ℕ
recall_word_text recall.Contradicted = codes "CONTRADICTED"
recall_word_text recall.Unknown = codes "UNKNOWN"
recall_word_text recall.Unasked = codes "UNASKED"
recall_word_text (recall.Returned amount) = codes "RETURNED"
recall_word_text (recall.Refused reason) = codes "REFUSED"
recall_word_text recall.Chased = codes "CHASED"
recall_word_text recall.Open = codes "OPEN"
