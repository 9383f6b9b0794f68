-- The messages on a transfer as they are shown, as a set. Proof plumbing.
use Rattle.std.specs.FinSet as set
use Rattle.std.specs.FinSet.{contains-from_list, members}
use Rattle.std.proofs.Common.{◌≡◌, ◌∙◌, sym, ap, ℕ, Bool, true, false, ◌&&◌, ◌||◌, List, [], ◌++◌, map, filter, arith}
use Rattle.std.specs.Global.{Global}
use Rattle.std.specs.List.{list_any}
use Rattle.std.specs.declared.sync.Arc.{Arc}
use Rattle.std.proofs.lemmas.List.Folds.{list_any-append}
use Rattle.indexmap.specs.IndexMap.{IndexMap}
use Rattle.sct_message.specs.Order.{message_order, same_message}
use Rattle.sct_message.specs.OrderLaws.{message_total, message_same}
use Rattle.sct_message.specs.Sets.{MessageSet, clean_messages, contradicted_messages, in_order, is_contradicted, messages_in}
use Rattle.sct_message.specs.Transfers.{is_on, messages_on}
use Rattle.sct_message.specs.declared.draft.Draft.{Draft}
use Rattle.sct_message.specs.declared.keys.TransferKey.{TransferKey}
use Rattle.sct_message.proofs.AscendingLemmas.{any_ascending}
use Rattle.sct_message.proofs.Members.{list_any-filter, list_any-map}
use Rattle.sct_set.specs.Archive.{archive_text_of}
use Rattle.sct_set.specs.Contents.{contents_of}
use Rattle.sct_set.proofs.ContentsLemmas.{any_items, same_contents, union-of_none}
use Rattle.sct_view.specs.Filed.{HasThose, IsFiled, IsFiledBy}
use Rattle.sct_view.specs.Kept.{contradicted_on}
use Rattle.sct_view.proofs.StandingLemmas.{split}
use Rattle.sct_rights.specs.Rights.{is_theirs}
use Rattle.sct_rights.specs.Shown.{messages_for, shown_to}
use Rattle.sct_rights.proofs.TheirsLemmas.{has_on_filed}
use Rattle.sct_rights.proofs.TruthLemmas.{seen_foreign, seen_theirs}
use Rattle.sct_rights.proofs.VisibleLemmas.{all_alike}

none_of_none : (p : Draft → Bool) → list_any p (set.items (set.empty {R = message_order})) ≡ false
none_of_none p = any_items p []

module _ (banks : List (List ℕ)) (s : MessageSet) (t : TransferKey) where
  abbrev f : Draft → Draft
  f = shown_to banks s

  abbrev on_it : MessageSet → List Draft
  on_it held = filter (is_on t) (in_order held)

  -- the messages that are filed under the transfer, as they are shown, are those of the set on it as they are shown
  pub shown_filed : {S : Type 0} (index : IndexMap TransferKey (List (Arc Draft Global)) S) → IsFiled s index → (found : List (Arc Draft Global))
      → ((ms : List Draft) → IsFiledBy index ms → HasThose (messages_in found) (filter (is_on t) ms))
      → contents_of (map f (messages_in found)) ≡ contents_of (map f (on_it s))
  shown_filed index filed found those =
      same_contents _ _ (λ q.
      contains-from_list message_total (map f (messages_in found)) q
      ∙ list_any-map (same_message q) f (messages_in found)
      ∙ has_on_filed s t index filed found those (λ m. same_message q (f m))
      ∙ sym (any_ascending message_total message_same (λ m. is_on t m && same_message q (f m)) (set.items s))
      ∙ sym (list_any-filter (λ m. same_message q (f m)) (is_on t) (in_order s))
      ∙ sym (list_any-map (same_message q) f (on_it s))
      ∙ sym (contains-from_list message_total (map f (on_it s)) q))

  -- a message on the transfer passes the test: a clean one, or a contradicted one
  pub parted : (p : Draft → Bool) → (list_any p (messages_on s t) || list_any p (contradicted_on s t)) ≡ list_any p (on_it s)
  parted p =
      grind (
        arith,
        list_any-filter p (is_on t) (clean_messages s),
        list_any-filter p (is_on t) (contradicted_messages s),
        list_any-filter p (is_on t) (in_order s),
        split (λ m. is_on t m && p m) (is_contradicted s) (in_order s),
      )

  -- the clean messages and the contradicted ones, as they are shown
  pub shown_parted : contents_of (map f (messages_on s t) ++ map f (contradicted_on s t)) ≡ contents_of (map f (on_it s))
  shown_parted =
      same_contents _ _ (λ q.
      contains-from_list message_total (map f (messages_on s t) ++ map f (contradicted_on s t)) q
      ∙ list_any-append (same_message q) (map f (messages_on s t)) (map f (contradicted_on s t))
      ∙ (λ i. list_any-map (same_message q) f (messages_on s t) i || list_any-map (same_message q) f (contradicted_on s t) i)
      ∙ parted (λ m. same_message q (f m))
      ∙ sym (list_any-map (same_message q) f (on_it s))
      ∙ sym (contains-from_list message_total (map f (on_it s)) q))

  pub messages_told : is_theirs banks s t ≡ true → archive_text_of (contents_of (map f (on_it s))) ≡ messages_for banks s t
  unfolding messages_for
  messages_told theirs =
      ap (λ (ms : List Draft). archive_text_of (contents_of (map f ms))) (sym (all_alike banks s t theirs))
      ∙ ap (λ (held : MessageSet). archive_text_of (contents_of (map f (filter (is_on t) (in_order held))))) (sym (seen_theirs banks s t theirs))

  pub nothing_told : is_theirs banks s t ≡ false → archive_text_of set.empty ≡ messages_for banks s t
  unfolding messages_for
  nothing_told foreign =
      ap archive_text_of (same_contents _ _ (λ q.
      grind (
        arith,
        members,
        message_total,
        contains-from_list message_total (map f (on_it set.empty)) q,
        list_any-map (same_message q) f (on_it set.empty),
        list_any-filter (λ m. same_message q (f m)) (is_on t) (in_order set.empty),
        any_ascending message_total message_same (λ m. is_on t m && same_message q (f m)) (set.items (set.empty {R = message_order})),
        none_of_none (λ m. is_on t m && same_message q (f m)),
      )))
      ∙ ap (λ (held : MessageSet). archive_text_of (contents_of (map f (filter (is_on t) (in_order held))))) (sym (seen_foreign banks s t foreign))

  -- a text that is of these messages
  pub theirs_messages : is_theirs banks s t ≡ true → (told : List Draft) → contents_of told ≡ contents_of (map f (on_it s))
      → (old archive : MessageSet) → old ≡ set.empty → archive ≡ set.union old (contents_of told) → (text : List ℕ) → text ≡ archive_text_of archive
      → text ≡ messages_for banks s t
  theirs_messages theirs told e old archive none is text are =
      are
      ∙ ap archive_text_of (is ∙ ap (λ (o : MessageSet). set.union o (contents_of told)) none ∙ union-of_none (contents_of told) ∙ e)
      ∙ messages_told theirs

  pub foreign_messages : is_theirs banks s t ≡ false → (archive : MessageSet) → archive ≡ set.empty → (text : List ℕ) → text ≡ archive_text_of archive
      → text ≡ messages_for banks s t
  foreign_messages foreign archive none text are = are ∙ ap archive_text_of none ∙ nothing_told foreign
