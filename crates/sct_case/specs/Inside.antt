-- What messages say of one transfer, list by list, and in the order of its recalls, for auditors. The contracts of
-- functions inside this crate use these words.
use Rattle.std.specs.Prelude.{◌≡◌, ◌++◌, ◌&&◌, ◌||◌, ℕ, List, is_some, length, map, filter, nat_lt, option_map}
use Rattle.std.specs.List.{list_any, flat_map}
use Rattle.std.specs.Option.{option_or}
use Rattle.std.specs.List.Sorted.{IsSortedByKey}
use Rattle.sct_element.specs.Text.{is_text}
use Rattle.sct_message.specs.Order.{text_order}
use Rattle.sct_message.specs.declared.draft.Draft.{Draft}
use Rattle.sct_message.specs.declared.keys.Identity.{Identity}
use Rattle.sct_message.specs.declared.keys.TransferKey.{TransferKey}
use Rattle.sct_case.specs.declared.finding.Finding.{Finding}
use Rattle.sct_case.specs.declared.finding.Finding.TheVariants as finding
use Rattle.sct_case.specs.declared.recalls.RecallSaid.{RecallSaid}
use Rattle.sct_case.specs.declared.said.RecallMade.{RecallMade}
use Rattle.sct_case.specs.declared.said.RefusalMade.{RefusalMade}
use Rattle.sct_case.specs.declared.said.ReturnMade.{ReturnMade}
use Rattle.sct_case.specs.declared.said.Said.{Said}
use Rattle.sct_case.specs.declared.status.RecallStatus.{RecallStatus}
use Rattle.sct_case.specs.Said.{amounts_by, instructions_by, is_acceptance, is_investigation, recalls_made_by, refusals_by, rejections_by, requests_by, returns_by}
use Rattle.sct_case.specs.Statuses.{Standing, amount_returned, first, reason_refused, recall_standing_by, request_of_it, standing_by}
use Rattle.sct_case.specs.Told.{cxls, differ, differ_among, has_some, names_another, recall_of_it, refusal_of_it, return_of_it, same_reason, same_recall_made, same_refusal, same_return, where_found}

-- ---- what messages say of a transfer

-- these are the statements of the messages, each sort in a list
pub record IsSaidOf (transfer : TransferKey) (clean : List Draft) (said : Said) : Type 0 where
  pub instructions : said.instructions.items ≡ flat_map instructions_by clean
  pub accepted : said.accepted ≡ list_any is_acceptance clean
  pub rejections : said.rejections.items ≡ flat_map rejections_by clean
  pub investigated : said.investigated ≡ list_any is_investigation clean
  pub recalls : said.recalls.items ≡ flat_map (recalls_made_by transfer) clean
  pub amounts : said.amounts.items ≡ flat_map (amounts_by transfer) clean
  pub returns : said.returns.items ≡ flat_map (returns_by transfer) clean
  pub refusals : said.refusals.items ≡ flat_map (refusals_by transfer) clean
  pub requests : said.requests.items ≡ flat_map (requests_by transfer) clean

-- the new lists are the old ones, followed by the statements of one more message
pub record IsOneMore (transfer : TransferKey) (m : Draft) (old new : Said) : Type 0 where
  pub instructions : new.instructions.items ≡ old.instructions.items ++ instructions_by m
  pub accepted : new.accepted ≡ (old.accepted || is_acceptance m)
  pub rejections : new.rejections.items ≡ old.rejections.items ++ rejections_by m
  pub investigated : new.investigated ≡ (old.investigated || is_investigation m)
  pub recalls : new.recalls.items ≡ old.recalls.items ++ recalls_made_by transfer m
  pub amounts : new.amounts.items ≡ old.amounts.items ++ amounts_by transfer m
  pub returns : new.returns.items ≡ old.returns.items ++ returns_by transfer m
  pub refusals : new.refusals.items ≡ old.refusals.items ++ refusals_by transfer m
  pub requests : new.requests.items ≡ old.requests.items ++ requests_by transfer m

-- the findings by these statements: those on the contradicted identities, the instruction and its confirmations, and
-- after them those on the recalls and their answers
abbrev pub instruction_found : Said → List Identity → List Finding
instruction_found said asides =
    map (λ i. finding.Identity i) asides
    ++ where_found (nat_lt 1 (length said.instructions.items)) finding.TwoInstructions
    ++ where_found (said.accepted && has_some said.rejections.items) finding.BothConfirmed
    ++ where_found (differ same_reason said.rejections.items) finding.ReasonsDiffer
    ++ where_found (names_another said.instructions.items said.amounts.items) finding.AmountDiffers

-- the findings on the recalls in a list: those made in different ways, answered in both ways, refused in different ways
abbrev pub differing_recalls : List RecallMade → List (List ℕ) → List Finding
differing_recalls made cs =
    map (λ c. finding.RecallsDiffer c) (filter (λ c. differ_among (recall_of_it c) same_recall_made made) cs)

abbrev pub both_answers : List ReturnMade → List (List ℕ) → List Finding
both_answers returns cs = map (λ c. finding.BothAnswers c) (filter (λ c. list_any (return_of_it c) returns) cs)

abbrev pub differing_refusals : List RefusalMade → List (List ℕ) → List Finding
differing_refusals made cs =
    map (λ c. finding.RefusalsDiffer c) (filter (λ c. differ_among (refusal_of_it c) same_refusal made) cs)

abbrev pub all_found : Said → List Identity → List Finding
all_found said asides =
    instruction_found said asides
    ++ differing_recalls said.recalls.items (cxls (map (λ m. m.cxl) said.recalls.items))
    ++ both_answers said.returns.items (cxls (map (λ m. m.cxl) said.refusals.items))
    ++ differing_refusals said.refusals.items (cxls (map (λ m. m.cxl) said.refusals.items))
    ++ where_found (differ same_return said.returns.items) finding.TwoReturns
    ++ where_found (has_some said.returns.items && has_some said.rejections.items) finding.ReturnOfRejected

-- the status by these statements, if nothing is found
abbrev pub standing_said : Said → Standing
standing_said said = standing_by (record {
  instructed = has_some said.instructions.items;
  rejected = option_map (λ r. r.reason) (first said.rejections.items);
  accepted = said.accepted;
  returned = option_map (λ r. r.amount) (first said.returns.items);
  investigated = said.investigated;
})

-- ---- what they say of its recalls

-- the list is sorted by the recalls that its items are about
abbrev pub IsByRecall : {X : Type 0} → (X → List ℕ) → List X → Type 0
IsByRecall recall said = IsSortedByKey recall text_order said

-- the items about one recall
abbrev pub said_of : {X : Type 0} → (X → List ℕ) → List ℕ → List X → List X
said_of recall cxl said = filter (λ m. is_text (recall m) cxl) said

-- the two lists have the same items about each recall, in the same order
abbrev pub SayAlike : {X : Type 0} → (X → List ℕ) → List X → List X → Type 0
SayAlike recall one other = (cxl : List ℕ) → said_of recall cxl one ≡ said_of recall cxl other

-- the status of a recall by these statements, if nothing is found; a message names a recall in one of four ways
abbrev pub recall_standing_said : RecallSaid → RecallStatus
recall_standing_said said = recall_standing_by (record {
  named = said.made || is_some said.returned || is_some said.refused || said.chased;
  made = said.made;
  returned = said.returned;
  refused = said.refused;
  chased = said.chased;
})

-- these are the statements of the messages about one recall: of several returns or refusals the first one
pub record IsSaidOn (transfer : TransferKey) (clean : List Draft) (cxl : List ℕ) (said : RecallSaid) : Type 0 where
  pub made : said.made ≡ list_any (recall_of_it cxl) (flat_map (recalls_made_by transfer) clean)
  pub returned : said.returned ≡ amount_returned cxl (flat_map (returns_by transfer) clean)
  pub refused : said.refused ≡ reason_refused cxl (flat_map (refusals_by transfer) clean)
  pub chased : said.chased ≡ list_any (request_of_it cxl) (flat_map (requests_by transfer) clean)

-- the new ones are the old ones with the statements of one more message
pub record IsOneMoreOn (transfer : TransferKey) (m : Draft) (cxl : List ℕ) (old new : RecallSaid) : Type 0 where
  pub made : new.made ≡ (old.made || list_any (recall_of_it cxl) (recalls_made_by transfer m))
  pub returned : new.returned ≡ option_or old.returned (amount_returned cxl (returns_by transfer m))
  pub refused : new.refused ≡ option_or old.refused (reason_refused cxl (refusals_by transfer m))
  pub chased : new.chased ≡ (old.chased || list_any (request_of_it cxl) (requests_by transfer m))
