-- The transfers of an index that files the messages of a set. Proof plumbing.
use Rattle.std.proofs.Common.{◌≡◌, ◌∙◌, refl, sym, ap, false, List, [], Option, None, Some, is_some}
use Rattle.std.specs.Global.{Global}
use Rattle.std.specs.List.Sorted.{IsStrictlySortedBy}
use Rattle.std.specs.declared.sync.Arc.{Arc}
use Rattle.std.proofs.lemmas.Bool.{false≢true}
use Rattle.std.proofs.lemmas.Map.Made.{is_some-lookup}
use Rattle.indexmap.specs.IndexMap.{IndexMap, get, keys}
use Rattle.sct_message.specs.Ascending.{ascending}
use Rattle.sct_message.specs.Order.{message_order}
use Rattle.sct_message.specs.OrderLaws.{message_total, message_same}
use Rattle.sct_message.specs.Sets.{MessageSet, messages_in}
use Rattle.sct_message.specs.declared.draft.Draft.{Draft}
use Rattle.sct_message.specs.declared.keys.TransferKey.{TransferKey}
use Rattle.sct_message.proofs.AscendingLemmas.{ascending-sorted}
use Rattle.sct_set.specs.Buckets.{items_in}
use Rattle.sct_view.specs.Filed.{IsFiled}
use Rattle.sct_view.specs.Kept.{ListsAll, case_of, same_key}
use Rattle.sct_view.proofs.ChangeLemmas.{nothing_on}
use Rattle.sct_view.proofs.RebuildLemmas.{filed-contents}
use Rattle.sct_view.proofs.TableLemmas.{none_is}

-- no transfer that the index does not have has messages
pub filed_keys : {S : Type 0} (s : MessageSet) (index : IndexMap TransferKey (List (Arc Draft Global)) S) → IsFiled s index
    → ListsAll (keys index) (case_of s)
unfolding IsStrictlySortedBy
filed_keys s index filed t away =
    let nothing : get same_key index t ≡ None = none_is _ (is_some-lookup (same_key t) index.entries ∙ away) in
    nothing_on s t
    (sym (filed-contents s t filed.0 _ filed.1 (filed.2 t))
    ∙ ap (λ o. ascending message_order (messages_in (items_in o))) nothing
    ∙ ascending-sorted message_total message_same [] tt)
