-- The words of lists and reports. Read by an auditor.
use Rattle.std.specs.Prelude.{ℕ, Bool, List, Option, Some, None, codes, if◌then◌else◌}
use Rattle.sct_element.specs.Text.{is_text}
use Rattle.sct_case.specs.Words.{word_text}
use Rattle.sct_case.specs.declared.words.StatusWord.{StatusWord}
use Rattle.sct_reconcile.specs.declared.words.ListStatus.{ListStatus}
use Rattle.sct_reconcile.specs.declared.words.ListStatus.TheVariants as listed
use Rattle.sct_reconcile.specs.declared.words.Verdict.{Verdict}
use Rattle.sct_reconcile.specs.declared.words.Verdict.TheVariants as verdict

-- ---- the status of a transfer in a list

abbrev pub list_status_text : ListStatus → List ℕ
list_status_text listed.Accepted = codes "ACCEPTED"
list_status_text listed.Rejected = codes "REJECTED"
list_status_text listed.Returned = codes "RETURNED"
list_status_text listed.Pending = codes "PENDING"
list_status_text listed.Investigated = codes "INVESTIGATED"

-- the status that a word names; none if it is not one of the five
abbrev pub list_status_of : List ℕ → Option ListStatus
list_status_of text =
    if is_text text (codes "ACCEPTED") then Some listed.Accepted
    else if is_text text (codes "REJECTED") then Some listed.Rejected
    else if is_text text (codes "RETURNED") then Some listed.Returned
    else if is_text text (codes "PENDING") then Some listed.Pending
    else if is_text text (codes "INVESTIGATED") then Some listed.Investigated
    else None

-- ---- the status of a transfer

-- the list and the messages have the same word
abbrev pub agrees : ListStatus → StatusWord → Bool
agrees status told = is_text (list_status_text status) (word_text told)

-- ---- the result of a comparison

abbrev pub verdict_text : Verdict → List ℕ
verdict_text verdict.ListedTwice = codes "LISTED_TWICE"
verdict_text verdict.Contradicted = codes "CONTRADICTED"
verdict_text verdict.OnlyInList = codes "ONLY_IN_LIST"
verdict_text verdict.Missing = codes "MISSING"
verdict_text verdict.OnlyInArchive = codes "ONLY_IN_ARCHIVE"
verdict_text verdict.AmountDiffers = codes "AMOUNT_DIFFERS"
verdict_text verdict.StatusDiffers = codes "STATUS_DIFFERS"
verdict_text verdict.Matched = codes "MATCHED"
