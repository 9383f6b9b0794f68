-- Each table ascends, and has the keys of its kind and no other.
use Rattle.std.proofs.Common.{◌∙◌, ap, sym}
use Rattle.sct_message.specs.declared.kinds.Kind.{Kind}
use Rattle.sct_json.specs.Keys.{is_key_of}
use Rattle.sct_json.proofs.KeyTables.{credit_transfer_ascends, credit_transfer_is_whole, status_report_ascends, status_report_is_whole, status_request_ascends, status_request_is_whole, cancellation_request_ascends, cancellation_request_is_whole, payment_return_ascends, payment_return_is_whole, resolution_ascends, resolution_is_whole}
use Rattle.sct_json.proofs.keys.keys_of.Goals as goal

pub returns-in-Pacs008-clause-ascend : goal.returns-in-Pacs008-clause-ascend
returns-in-Pacs008-clause-ascend c = credit_transfer_ascends

pub returns-in-Pacs008-clause-all : goal.returns-in-Pacs008-clause-all
returns-in-Pacs008-clause-all c = λ name. credit_transfer_is_whole name ∙ ap (λ (kind : Kind). is_key_of kind name) (sym c.in-Pacs008.is)

pub returns-in-Pacs002-clause-ascend : goal.returns-in-Pacs002-clause-ascend
returns-in-Pacs002-clause-ascend c = status_report_ascends

pub returns-in-Pacs002-clause-all : goal.returns-in-Pacs002-clause-all
returns-in-Pacs002-clause-all c = λ name. status_report_is_whole name ∙ ap (λ (kind : Kind). is_key_of kind name) (sym c.in-Pacs002.is)

pub returns-in-Pacs028-clause-ascend : goal.returns-in-Pacs028-clause-ascend
returns-in-Pacs028-clause-ascend c = status_request_ascends

pub returns-in-Pacs028-clause-all : goal.returns-in-Pacs028-clause-all
returns-in-Pacs028-clause-all c = λ name. status_request_is_whole name ∙ ap (λ (kind : Kind). is_key_of kind name) (sym c.in-Pacs028.is)

pub returns-in-Camt056-clause-ascend : goal.returns-in-Camt056-clause-ascend
returns-in-Camt056-clause-ascend c = cancellation_request_ascends

pub returns-in-Camt056-clause-all : goal.returns-in-Camt056-clause-all
returns-in-Camt056-clause-all c = λ name. cancellation_request_is_whole name ∙ ap (λ (kind : Kind). is_key_of kind name) (sym c.in-Camt056.is)

pub returns-in-Pacs004-clause-ascend : goal.returns-in-Pacs004-clause-ascend
returns-in-Pacs004-clause-ascend c = payment_return_ascends

pub returns-in-Pacs004-clause-all : goal.returns-in-Pacs004-clause-all
returns-in-Pacs004-clause-all c = λ name. payment_return_is_whole name ∙ ap (λ (kind : Kind). is_key_of kind name) (sym c.in-Pacs004.is)

pub returns-in-Camt029-clause-ascend : goal.returns-in-Camt029-clause-ascend
returns-in-Camt029-clause-ascend c = resolution_ascends

pub returns-in-Camt029-clause-all : goal.returns-in-Camt029-clause-all
returns-in-Camt029-clause-all c = λ name. resolution_is_whole name ∙ ap (λ (kind : Kind). is_key_of kind name) (sym c.in-Camt029.is)
