-- What is told to banks is a function of the messages on their transfers as they are shown. Proof plumbing.
use Rattle.std.specs.FinSet as set
use Rattle.std.specs.Prelude.{Contains}
use Rattle.std.proofs.Common.{◌≡◌, ◌∙◌, refl, sym, ap, ℕ, Bool, true, false, ◌&&◌, ◌||◌, List, ◌++◌, map, filter, Option}
use Rattle.std.specs.List.{flat_map, list_any}
use Rattle.std.proofs.lemmas.Grind.{flat_map-append}
use Rattle.sct_message.specs.Ascending.{ascending}
use Rattle.sct_message.specs.Keys.{identity_of}
use Rattle.sct_message.specs.Order.{identity_order, text_order, transfer_order}
use Rattle.sct_message.specs.OrderLaws.{message_total, message_same, transfer_total, transfers_same}
use Rattle.sct_message.specs.Sets.{MessageSet, in_order}
use Rattle.sct_message.specs.Transfers.{asides_of, instruction_of, is_instruction, is_on, keys_of, messages_on, sole}
use Rattle.sct_message.specs.declared.draft.Draft.{Draft}
use Rattle.sct_message.specs.declared.keys.Identity.{Identity}
use Rattle.sct_message.specs.declared.keys.TransferKey.{TransferKey}
use Rattle.sct_message.proofs.AscendingLemmas.{any_ascending, ascending-sorted}
use Rattle.sct_message.proofs.Members.{list_any-filter, list_any-map}
use Rattle.sct_case.specs.Statuses.{Standing, recall_status_of, transfer_status_of}
use Rattle.sct_case.specs.Told.{findings_of}
use Rattle.sct_case.specs.Words.{word_of}
use Rattle.sct_case.proofs.Membership.{any_tie}
use Rattle.sct_set.specs.Archive.{archive_text_of}
use Rattle.sct_set.specs.Contents.{contents_of}
use Rattle.sct_view.specs.Answers.{cxls_named_by, found_on, is_beneficiary, is_originator, recall_of, recalls_on, status_of, transfers_of_bank}
use Rattle.sct_view.specs.Kept.{case_of, contradicted_on}
use Rattle.sct_view.specs.StatusText.{finding_line, lines_on, recall_line, status_line}
use Rattle.sct_view.specs.Totals.{share, share_of}
use Rattle.sct_view.specs.TotalsText.{totals_line}
use Rattle.sct_view.proofs.SetKeys.{key-is_on}
use Rattle.sct_view.proofs.ToldLemmas.{recalls_kept}
use Rattle.sct_reconcile.specs.Reports.{amount_in, is_of_day, keys_reported, listed_on, row_from, transfers_on_day}
use Rattle.sct_reconcile.specs.declared.rows.ListedRow.{ListedRow}
use Rattle.sct_parts.specs.Parts.{has_key}
use Rattle.sct_parts.proofs.Members.{key_there, same_members}
use Rattle.sct_rights.specs.Reported.{report_for, row_for}
use Rattle.sct_rights.specs.Rights.{is_one_of, is_theirs}
use Rattle.sct_rights.specs.Shown.{bank_line_for, lines_for, messages_for, shown_to, visible}
use Rattle.sct_rights.specs.Laws.{AreAlikeFor, NothingLeaks}
use Rattle.sct_rights.proofs.ReportLemmas.{bank_key, bank_keys_rise, filter_alike, is_of, key_bank, keys_told, not_of, row_foreign, row_theirs, theirs_of}
use Rattle.sct_rights.proofs.SaidLemmas.{found_shown, instructions_kept, named_alike, recall_shown, recalls_alike, said_alike, same_identity_shown, status_shown}
use Rattle.sct_rights.proofs.ShowingLemmas.{messages_told, nothing_told, parted, shown_parted}
use Rattle.sct_rights.proofs.TruthLemmas.{lines_told, no_share_there, same_totals, seen_foreign, totals_told}

and_true : (b : Bool) → (b && true) ≡ b
and_true true = refl
and_true false = refl

-- the identities of contradicted messages
abbrev asides_in : List Draft → List Identity
asides_in contradicted = ascending identity_order (map identity_of contradicted)

-- the status, the instruction and the lines of a transfer, and whether there is a message on it, by its messages
status_by : TransferKey → List Draft → List Draft → Standing
status_by t clean contradicted = transfer_status_of t clean (asides_in contradicted)

abbrev has_some_of : List Draft → List Draft → Bool
has_some_of clean contradicted = list_any (λ m. true) clean || list_any (λ m. true) contradicted

lines_by : TransferKey → List Draft → List Draft → List ℕ
lines_by t clean contradicted =
    status_line t (transfer_status_of t clean (asides_in contradicted))
    ++ flat_map (finding_line t) (findings_of t clean (asides_in contradicted))
    ++ flat_map (λ cxl. recall_line t cxl (recall_status_of t clean (asides_in contradicted) cxl)) (ascending text_order (flat_map (cxls_named_by t) (clean ++ contradicted)))

module _ (banks : List (List ℕ)) (s : MessageSet) (t : TransferKey) (theirs : is_theirs banks s t ≡ true) where
  abbrev f : Draft → Draft
  f = shown_to banks s

  same_asides : asides_in (map f (contradicted_on s t)) ≡ asides_of s t
  same_asides = ap (ascending identity_order) (named_alike f identity_of (same_identity_shown banks s) (contradicted_on s t))

  status_is : status_by t (map f (messages_on s t)) (map f (contradicted_on s t)) ≡ status_of s t
  unfolding status_by status_of
  status_is =
      status_shown banks s t theirs (messages_on s t) (asides_in (map f (contradicted_on s t)))
      ∙ (λ i. transfer_status_of t (messages_on s t) (same_asides i))

  instruction_is : sole (filter is_instruction (map f (messages_on s t))) ≡ instruction_of s t
  instruction_is = ap sole (instructions_kept banks s (messages_on s t))

  has_is : has_some_of (map f (messages_on s t)) (map f (contradicted_on s t)) ≡ has_key s t
  has_is =
      (λ i. list_any-map (λ m. true) f (messages_on s t) i || list_any-map (λ m. true) f (contradicted_on s t) i)
      ∙ parted banks s t (λ m. true)
      ∙ list_any-filter (λ m. true) (is_on t) (in_order s)
      ∙ any_ascending message_total message_same (λ m. is_on t m && true) (set.items s)
      ∙ ap (λ (p : Draft → Bool). list_any p (set.items s)) (λ i m. and_true (is_on t m) i)
      ∙ sym (key-is_on s t)

  same_cxls : ascending text_order (flat_map (cxls_named_by t) (map f (messages_on s t) ++ map f (contradicted_on s t))) ≡ recalls_on s t
  unfolding case_of
  same_cxls =
      let each = λ (m : Draft). ap (map (λ named. named.cxl)) (recalls_alike banks s t theirs m) in
      ap (ascending text_order)
      (flat_map-append (cxls_named_by t) (map f (messages_on s t)) (map f (contradicted_on s t))
      ∙ (λ i. said_alike f (cxls_named_by t) each (messages_on s t) i ++ said_alike f (cxls_named_by t) each (contradicted_on s t) i)
      ∙ sym (flat_map-append (cxls_named_by t) (messages_on s t) (contradicted_on s t)))
      ∙ recalls_kept s t (case_of s t) refl

  lines_shown : lines_by t (map f (messages_on s t)) (map f (contradicted_on s t)) ≡ lines_on s t
  unfolding lines_by lines_on status_of found_on recall_of
  lines_shown =
      (λ i. status_line t (status_shown banks s t theirs (messages_on s t) (asides_in (map f (contradicted_on s t))) i)
      ++ flat_map (finding_line t) (found_shown banks s t theirs (messages_on s t) (asides_in (map f (contradicted_on s t))) i)
      ++ flat_map (λ cxl. recall_line t cxl (recall_shown banks s t theirs (messages_on s t) (asides_in (map f (contradicted_on s t))) cxl i)) (same_cxls i))
      ∙ (λ i. status_line t (transfer_status_of t (messages_on s t) (same_asides i))
      ++ flat_map (finding_line t) (findings_of t (messages_on s t) (same_asides i))
      ++ flat_map (λ cxl. recall_line t cxl (recall_status_of t (messages_on s t) (same_asides i) cxl)) (recalls_on s t))

module _ (banks : List (List ℕ)) (a b : MessageSet) (alike : AreAlikeFor banks a b) where
  lines_leak : (t : TransferKey) → lines_for banks a t ≡ lines_for banks b t
  unfolding lines_for
  lines_leak t =
      elim (is_theirs banks a t) as (λ x. is_theirs banks a t ≡ x → lines_for banks a t ≡ lines_for banks b t) [
        | true ↦ λ e.
            let there = sym (alike.theirs t) ∙ e in
            lines_told banks a t e
            ∙ sym (lines_shown banks a t e)
            ∙ (λ i. lines_by t (alike.clean t e i) (alike.contradicted t e i))
            ∙ lines_shown banks b t there
            ∙ sym (lines_told banks b t there)
        | false ↦ λ e.
            ap (λ (held : MessageSet). lines_on held t) (seen_foreign banks a t e ∙ sym (seen_foreign banks b t (sym (alike.theirs t) ∙ e)))
      ] refl

  messages_leak : (t : TransferKey) → messages_for banks a t ≡ messages_for banks b t
  unfolding messages_for
  messages_leak t =
      elim (is_theirs banks a t) as (λ x. is_theirs banks a t ≡ x → messages_for banks a t ≡ messages_for banks b t) [
        | true ↦ λ e.
            let there = sym (alike.theirs t) ∙ e in
            sym (messages_told banks a t e)
            ∙ ap archive_text_of (sym (shown_parted banks a t) ∙ (λ i. contents_of (alike.clean t e i ++ alike.contradicted t e i)) ∙ shown_parted banks b t)
            ∙ messages_told banks b t there
        | false ↦ λ e. sym (nothing_told banks a t e) ∙ nothing_told banks b t (sym (alike.theirs t) ∙ e)
      ] refl

  -- ---- a transfer that is theirs in one of the sets, and so in the other

  module _ (t : TransferKey) (e : is_theirs banks a t ≡ true) where
    there : is_theirs banks b t ≡ true
    there = sym (alike.theirs t) ∙ e

    status_leaks : status_of a t ≡ status_of b t
    status_leaks = sym (status_is banks a t e) ∙ (λ i. status_by t (alike.clean t e i) (alike.contradicted t e i)) ∙ status_is banks b t there

    instruction_leaks : instruction_of a t ≡ instruction_of b t
    instruction_leaks = sym (instruction_is banks a t e) ∙ (λ i. sole (filter is_instruction (alike.clean t e i))) ∙ instruction_is banks b t there

    has_leaks : has_key a t ≡ has_key b t
    has_leaks = sym (has_is banks a t e) ∙ (λ i. has_some_of (alike.clean t e i) (alike.contradicted t e i)) ∙ has_is banks b t there

  away : (t : TransferKey) → is_theirs banks a t ≡ false → is_theirs banks b t ≡ false
  away t e = sym (alike.theirs t) ∙ e

  -- ---- the rows of a report

  row_leaks : (list : List ListedRow) (t : TransferKey) → row_for banks a list t ≡ row_for banks b list t
  row_leaks list t =
      elim (is_theirs banks a t) as (λ x. is_theirs banks a t ≡ x → row_for banks a list t ≡ row_for banks b list t) [
        | true ↦ λ e.
            row_theirs banks a list t e
            ∙ (λ i. row_from t (listed_on list t) (word_of (status_leaks t e i)) (amount_in (instruction_leaks t e i)))
            ∙ sym (row_theirs banks b list t (there t e))
        | false ↦ λ e. row_foreign banks a list t e ∙ sym (row_foreign banks b list t (away t e))
      ] refl

  -- ---- the totals and the transfers of a bank of theirs

  module _ (bank : List ℕ) (ours : is_one_of banks bank ≡ true) where
    share_leaks : (t : TransferKey) → share_of a bank t ≡ share_of b bank t
    share_leaks t =
        elim (is_theirs banks a t) as (λ x. is_theirs banks a t ≡ x → share_of a bank t ≡ share_of b bank t) [
          | true ↦ λ e i. share bank t (status_leaks t e i) (instruction_leaks t e i)
          | false ↦ λ e. no_share_there banks a bank ours t e a (λ m h. h) ∙ sym (no_share_there banks b bank ours t (away t e) b (λ m h. h))
        ] refl

    bank_leaks : bank_line_for banks a bank ≡ bank_line_for banks b bank
    unfolding bank_line_for
    bank_leaks = ap (totals_line bank) (totals_told banks a bank ours ∙ same_totals a b bank share_leaks ∙ sym (totals_told banks b bank ours))

    of_leaks : (t : TransferKey) → is_of a bank t ≡ is_of b bank t
    of_leaks t =
        elim (is_theirs banks a t) as (λ x. is_theirs banks a t ≡ x → is_of a bank t ≡ is_of b bank t) [
          | true ↦ λ e. ap (λ (o : Option Draft). is_originator bank t || is_beneficiary bank o) (instruction_leaks t e)
          | false ↦ λ e. not_of banks a bank ours t e a (λ m h. h) ∙ sym (not_of banks b bank ours t (away t e) b (λ m h. h))
        ] refl

    to_other : (t : TransferKey) → Contains (transfers_of_bank a bank) t → Contains (transfers_of_bank b bank) t
    to_other t h =
        let k = bank_key a bank t h in
        let has = any_tie transfer_total transfers_same (keys_of a) t k.0 in
        key_bank b bank t (key_there b t (sym (has_leaks t (theirs_of banks a bank ours t k.1)) ∙ has)) (sym (of_leaks t) ∙ k.1)

    from_other : (t : TransferKey) → Contains (transfers_of_bank b bank) t → Contains (transfers_of_bank a bank) t
    from_other t h =
        let k = bank_key b bank t h in
        let is = of_leaks t ∙ k.1 in
        let has = any_tie transfer_total transfers_same (keys_of b) t k.0 in
        key_bank a bank t (key_there a t (has_leaks t (theirs_of banks a bank ours t is) ∙ has)) is

    transfers_leak : transfers_of_bank a bank ≡ transfers_of_bank b bank
    transfers_leak =
        sym (ascending-sorted transfer_total transfers_same (transfers_of_bank a bank) (bank_keys_rise a bank))
        ∙ same_members transfer_total transfers_same (transfers_of_bank a bank) (transfers_of_bank b bank) to_other from_other
        ∙ ascending-sorted transfer_total transfers_same (transfers_of_bank b bank) (bank_keys_rise b bank)

    on_day_leaks : (day : List ℕ) → transfers_on_day a bank day ≡ transfers_on_day b bank day
    on_day_leaks day =
        filter_alike (λ key. is_of_day day (instruction_of a key)) (λ key. is_of_day day (instruction_of b key)) (transfers_of_bank a bank)
        (λ t h. ap (is_of_day day) (instruction_leaks t (theirs_of banks a bank ours t (bank_key a bank t h).1)))
        ∙ ap (filter (λ key. is_of_day day (instruction_of b key))) transfers_leak

    keys_leak : (day : List ℕ) (list : List ListedRow) → keys_reported (visible banks a) bank day list ≡ keys_reported (visible banks b) bank day list
    keys_leak day list =
        keys_told banks a bank ours day list
        ∙ ap (λ (ts : List TransferKey). ascending transfer_order (map (λ (row : ListedRow). row.key) list ++ ts)) (on_day_leaks day)
        ∙ sym (keys_told banks b bank ours day list)

    report_leaks : (day : List ℕ) (list : List ListedRow) → report_for banks a bank day list ≡ report_for banks b bank day list
    unfolding report_for
    report_leaks day list = λ i. map (λ t. row_leaks list t i) (keys_leak day list i)

pub nothing_leaks : NothingLeaks
nothing_leaks = record {
  lines = lines_leak;
  messages = messages_leak;
  bank = bank_leaks;
  report = λ banks a b alike bank day list ours. report_leaks banks a b alike bank ours day list;
}
