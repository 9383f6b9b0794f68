-- Laws of parts that are apart, for auditors. Each law is the contract of a function.
use Rattle.std.specs.FinSet as set
use Rattle.std.specs.Prelude.{◌≡◌, ◌≢◌, ◌↔◌, ◌⊎◌, ◌++◌, ℕ, true, false, List, ◌∷◌, Contains, None, map, flat_map}
use Rattle.sct_message.specs.Ascending.{ascending}
use Rattle.sct_message.specs.Keys.{identity_of}
use Rattle.sct_message.specs.Order.{identity_order, transfer_order}
use Rattle.sct_message.specs.Sets.{MessageSet}
use Rattle.sct_message.specs.Transfers.{keys_of}
use Rattle.sct_message.specs.declared.draft.Draft.{Draft}
use Rattle.sct_message.specs.declared.keys.Identity.{Identity}
use Rattle.sct_message.specs.declared.keys.TransferKey.{TransferKey}
use Rattle.sct_set.specs.Archive.{added_of, archive_text_of, has_identity, in_text_order, line_of, line_order}
use Rattle.sct_set.specs.Contradictions.{IsContradicted, contradicted_identities}
use Rattle.sct_view.specs.Answers.{transfers_of_bank}
use Rattle.sct_view.specs.Kept.{case_of}
use Rattle.sct_view.specs.StatusText.{lines_on, status_text_of}
use Rattle.sct_view.specs.Totals.{banks_of, plus, totals_of}
use Rattle.sct_view.specs.TotalsText.{totals_line, totals_text_of}
use Rattle.sct_view.specs.Touched.{IsToldAlike}
use Rattle.sct_reconcile.specs.Reports.{listed_on, report_of, row_from, row_on, transfers_on_day, word_on}
use Rattle.sct_reconcile.specs.declared.rows.ListedRow.{ListedRow}
use Rattle.sct_reconcile.specs.declared.rows.ReportRow.{ReportRow}
use Rattle.sct_case.specs.declared.words.StatusWord.TheVariants as word
use Rattle.sct_parts.specs.Parts.{AreAllApart, AreApart, IsReportedBy, ShareNothing, banks_of_all, banks_of_both, keys_of_all, keys_of_both, keys_reported_of_all, keys_reported_of_both, lines_in_its_part, lines_in_part, part_with, row_in_its_part, row_in_part, totals_in, union_of}

-- ---- what is apart

-- sets are apart exactly if no message of one has an identity or a transfer in common with a message of the other
abbrev pub ApartSetsShareNothing : Type 0
ApartSetsShareNothing = (a b : MessageSet) → AreApart a b ↔ ShareNothing a b

-- A set that is apart from two sets is apart from their union. What is apart is so from both sides.
pub record ApartFromAll : Type 0 where
  pub both : (a b c : MessageSet) → AreApart a b → AreApart a c → AreApart a (set.union b c)
  pub sides : (a b : MessageSet) → AreApart a b → AreApart b a

-- ---- contradicted identities

-- The contradicted identities of the union are those of its parts.
pub record ContradictionsAreThoseOfTheParts : Type 0 where
  pub each : (a b : MessageSet) → AreApart a b → (identity : Identity)
      → IsContradicted (set.union a b) identity ↔ (IsContradicted a identity ⊎ IsContradicted b identity)
  pub listed : (a b : MessageSet) → AreApart a b
      → contradicted_identities (set.union a b)
      ≡ ascending identity_order (contradicted_identities a ++ contradicted_identities b)

-- ---- transfers

-- What a larger set keeps and answers of a transfer is what the part keeps and answers of it, and so are its lines of
-- the status text.
pub record IsOfThePart (part whole : MessageSet) (transfer : TransferKey) : Type 0 where
  pub case : case_of whole transfer ≡ case_of part transfer
  pub answers : IsToldAlike part whole transfer
  pub lines : lines_on whole transfer ≡ lines_on part transfer

-- The transfers of the union are those of its parts, and each has the case, the answers and the lines of its part. So
-- the status text has the lines of each transfer in its part, ascending.
pub record LinesAreThoseOfTheirPart : Type 0 where
  pub first : (a b : MessageSet) (transfer : TransferKey) → AreApart a b → Contains (keys_of a) transfer
      → IsOfThePart a (set.union a b) transfer
  pub second : (a b : MessageSet) (transfer : TransferKey) → AreApart a b → Contains (keys_of b) transfer
      → IsOfThePart b (set.union a b) transfer
  pub keys : (a b : MessageSet) → keys_of (set.union a b) ≡ keys_of_both a b
  pub text : (a b : MessageSet) → AreApart a b
      → status_text_of (set.union a b) ≡ flat_map (lines_in_part a b) (keys_of_both a b)

-- the transfers of a bank in the union are those in the parts
abbrev pub TransfersOfBanksAreThoseOfTheParts : Type 0
TransfersOfBanksAreThoseOfTheParts = (a b : MessageSet) (bank : List ℕ) → AreApart a b
    → transfers_of_bank (set.union a b) bank ≡ ascending transfer_order (transfers_of_bank a bank ++ transfers_of_bank b bank)

-- ---- totals

-- Each number of the totals of a bank is the sum of that number in the parts. The banks of the union are those of its
-- parts.
pub record TotalsAddUp : Type 0 where
  pub each : (a b : MessageSet) (bank : List ℕ) → AreApart a b
      → totals_of (set.union a b) bank ≡ plus (totals_of a bank) (totals_of b bank)
  pub banks : (a b : MessageSet) → AreApart a b → banks_of (set.union a b) ≡ banks_of_both a b
  pub text : (a b : MessageSet) → AreApart a b
      → totals_text_of (set.union a b)
      ≡ flat_map (λ bank. totals_line bank (plus (totals_of a bank) (totals_of b bank))) (banks_of_both a b)

-- ---- reports

-- Each transfer of a part has the row of its part, whatever the list says. So the report has the row of each transfer
-- in its part.
pub record RowsAreThoseOfTheirPart : Type 0 where
  pub first : (a b : MessageSet) (list : List ListedRow) (key : TransferKey) → AreApart a b → Contains (keys_of a) key
      → row_on (set.union a b) list key ≡ row_on a list key
  pub second : (a b : MessageSet) (list : List ListedRow) (key : TransferKey) → AreApart a b → Contains (keys_of b) key
      → row_on (set.union a b) list key ≡ row_on b list key
  pub report : (a b : MessageSet) (bank day : List ℕ) (list : List ListedRow) → AreApart a b
      → report_of (set.union a b) bank day list ≡ map (row_in_part a b list) (keys_reported_of_both a b bank day list)

-- ---- the archive

-- The archive text of the union has the lines of both sets in their order, whether or not they are apart. A message is
-- answered as in one set if the other has no message of its identity.
pub record ArchiveIsThatOfTheParts : Type 0 where
  pub lines : (a b : MessageSet)
      → archive_text_of (set.union a b) ≡ flat_map line_of (ascending line_order (in_text_order a ++ in_text_order b))
  pub answer : (a b : MessageSet) (draft : Draft) → has_identity b (identity_of draft) ≡ false
      → added_of (set.union a b) draft ≡ added_of a draft

-- ---- many parts

-- Many parts are apart, two by two. The whole contradicts an identity exactly if a part does. Its transfers are those
-- of the parts, and each is answered as in its part and has its row. A row names an unknown status and no amount
-- exactly if no message names the transfer: so it is with a transfer of the list in each part but its own. The totals
-- are the sums of those of the parts. The archive text has the lines of all parts. A message is answered as in one part
-- if no other part has a message of its identity.
pub record ManyPartsAnswerTogether : Type 0 where
  pub contradictions : (parts : List MessageSet) → AreAllApart parts → (identity : Identity)
      → IsContradicted (union_of parts) identity ↔ ((part : MessageSet) × Contains parts part × IsContradicted part identity)
  pub keys : (parts : List MessageSet) (transfer : TransferKey)
      → Contains (keys_of (union_of parts)) transfer ↔ ((part : MessageSet) × Contains parts part × Contains (keys_of part) transfer)
  pub lines : (parts : List MessageSet) → AreAllApart parts → (part : MessageSet) (transfer : TransferKey)
      → Contains parts part → Contains (keys_of part) transfer → IsOfThePart part (union_of parts) transfer
  pub totals : (parts : List MessageSet) → AreAllApart parts → (bank : List ℕ)
      → totals_of (union_of parts) bank ≡ totals_in parts bank
  pub rows : (parts : List MessageSet) → AreAllApart parts → (part : MessageSet) (list : List ListedRow) (key : TransferKey)
      → Contains parts part → Contains (keys_of part) key → row_on (union_of parts) list key ≡ row_on part list key
  pub own_rows : (held : MessageSet) (key : TransferKey) → Contains (keys_of held) key → word_on held key ≢ word.Unknown
  pub other_rows : (held : MessageSet) (list : List ListedRow) (key : TransferKey) → (Contains (keys_of held) key → ⊥)
      → row_on held list key ≡ row_from key (listed_on list key) word.Unknown None
  pub archive : (parts : List MessageSet)
      → archive_text_of (union_of parts) ≡ flat_map line_of (ascending line_order (flat_map in_text_order parts))
  pub answer : (parts : List MessageSet) (part : MessageSet) (draft : Draft) → Contains parts part
      → ((other : MessageSet) → Contains parts other → has_identity other (identity_of draft) ≡ true → other ≡ part)
      → added_of (union_of parts) draft ≡ added_of part draft

-- The whole lists what its parts list, each once, ascending. The lists are contradicted identities, transfers, those of a
-- bank, those of a bank on a day, and the banks whose totals are not all zero. The status text has the lines of each
-- transfer, as its part has them. The totals text has the line of each bank of a part, with the sums over all parts. A
-- report has the row of each of its transfers, as the part of the transfer has it.
pub record IsPutTogether (parts : List MessageSet) : Type 0 where
  pub contradictions : contradicted_identities (union_of parts) ≡ ascending identity_order (flat_map contradicted_identities parts)
  pub keys : keys_of (union_of parts) ≡ keys_of_all parts
  pub status_text : status_text_of (union_of parts) ≡ flat_map (lines_in_its_part parts) (keys_of_all parts)
  pub transfers : (bank : List ℕ)
      → transfers_of_bank (union_of parts) bank ≡ ascending transfer_order (flat_map (λ part. transfers_of_bank part bank) parts)
  pub banks : banks_of (union_of parts) ≡ banks_of_all parts
  pub totals_text : totals_text_of (union_of parts) ≡ flat_map (λ bank. totals_line bank (totals_in parts bank)) (banks_of_all parts)
  pub on_day : (bank day : List ℕ)
      → transfers_on_day (union_of parts) bank day ≡ ascending transfer_order (flat_map (λ part. transfers_on_day part bank day) parts)
  pub report : (bank day : List ℕ) (list : List ListedRow)
      → report_of (union_of parts) bank day list ≡ map (row_in_its_part parts list) (keys_reported_of_all parts bank day list)

-- The answers of the whole are put together from those of its parts, if these are apart. The part of a transfer is the one
-- that has it, and the empty set if none has it. If there are parts, a report of the whole has a row exactly if a part
-- reports that row, and this part or no part has its transfer.
pub record ManyPartsArePutTogether : Type 0 where
  pub whole : (parts : List MessageSet) → AreAllApart parts → IsPutTogether parts
  pub its_part : (parts : List MessageSet) → AreAllApart parts → (part : MessageSet) (transfer : TransferKey)
      → Contains parts part → Contains (keys_of part) transfer → part_with parts transfer ≡ part
  pub no_part : (parts : List MessageSet) (transfer : TransferKey)
      → (Contains (keys_of_all parts) transfer → ⊥) → part_with parts transfer ≡ set.empty
  pub rows : (first : MessageSet) (others : List MessageSet) → AreAllApart (first ∷ others)
      → (bank day : List ℕ) (list : List ListedRow) (row : ReportRow)
      → Contains (report_of (union_of (first ∷ others)) bank day list) row
      ↔ ((part : MessageSet) × IsReportedBy (first ∷ others) bank day list row part)

-- ---- transfers that are in both sets

-- a transfer that is in both sets is counted twice, so the totals of its originator bank do not add up
abbrev pub SharedTransfersAreCountedTwice : Type 0
SharedTransfersAreCountedTwice = (a b : MessageSet) (transfer : TransferKey)
    → Contains (keys_of a) transfer → Contains (keys_of b) transfer
    → totals_of (set.union a b) transfer.debtor_agent ≢ plus (totals_of a transfer.debtor_agent) (totals_of b transfer.debtor_agent)
