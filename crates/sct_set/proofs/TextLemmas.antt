-- The archive text: a line for each message of a set, in an order that the set determines. Proof plumbing; the crates
-- that read an archive text again cite the lemmas that are public here.
use Rattle.std.proofs.Common.{◌≡◌, Bool, true, All, subst, List, ◌++◌, ◌∷◌, [], refl, sym, ap, ◌∙◌}
use Rattle.std.specs.FinSet as set
use Rattle.std.specs.FinSet.{contains-from_list, contains-items, IsAntisymmetric}
use Rattle.std.specs.Cmp.{eq_by_cmp_equiv}
use Rattle.std.specs.List.{list_any, flat_map}
use Rattle.std.specs.List.Sorted.{IsStrictlySortedBy}
use Rattle.std.specs.Ordering.{eq_by_cmp}
use Rattle.std.specs.Prelude.{Contains, ◌↔◌}
use Rattle.std.specs.Cmp.{both_ways}
use Rattle.std.proofs.lemmas.Map.Views.{Contains-from_any, list_any-from_Contains}
use Rattle.sct_json.specs.Writing.{written_text}
use Rattle.sct_message.specs.declared.draft.Draft.{Draft}
use Rattle.sct_message.specs.OrderLaws.{both_tie, message_total, message_same}
use Rattle.sct_message.specs.Order.{message_order}
use Rattle.sct_message.specs.Ascending.{ascending}
use Rattle.sct_message.proofs.AscendingLemmas.{ascending-same, ascending_rises, members_ascending}
use Rattle.sct_message.proofs.Members.{tie_is, ties_itself}
use Rattle.sct_set.specs.Archive.{archive_text_of, in_text_order, line_of, line_order, AreReadAgain, IsReadAgain}
use Rattle.sct_set.specs.Contents.{Contents, contents_of}
use Rattle.sct_set.specs.Laws.{WritesEachOnce}
use Rattle.sct_set.specs.LineOrder.{line_order_total}
use Rattle.sct_set.proofs.ContentsLemmas.{any_items, same_contents}

-- messages of one place in the text's order are the same
pub line_order_same : IsAntisymmetric line_order
unfolding line_order
line_order_same a b e = message_same a b (both_tie _ _ (both_tie _ _ e).1).1

-- the text's order of the set of a list
pub in_text_order-contents_of : (ds : List Draft) → in_text_order (contents_of ds) ≡ ascending line_order ds
unfolding in_text_order
in_text_order-contents_of ds = ascending-same line_order_total line_order_same _ ds (λ q. any_items (eq_by_cmp line_order q) ds)

-- the archive text of the set of a list
pub archive_text-contents_of : (ds : List Draft) → archive_text_of (contents_of ds) ≡ flat_map line_of (ascending line_order ds)
unfolding archive_text_of in_text_order
archive_text-contents_of ds =
    ap (flat_map line_of) (ascending-same line_order_total line_order_same _ ds (λ q. any_items (eq_by_cmp line_order q) ds))

-- ---- the messages of the text

same_tie : (d e : Draft) → eq_by_cmp line_order d e ≡ eq_by_cmp message_order d e
same_tie d e =
    both_ways _ _
    (λ t. ap (eq_by_cmp message_order d) (sym (tie_is line_order_total line_order_same d e t)) ∙ ties_itself message_total message_same d)
    (λ t. ap (eq_by_cmp line_order d) (sym (tie_is message_total message_same d e t)) ∙ ties_itself line_order_total line_order_same d)

same_tests : (d : Draft) (ds : List Draft) → list_any (eq_by_cmp line_order d) ds ≡ list_any (eq_by_cmp message_order d) ds
same_tests d ds = ap (λ (p : Draft → Bool). list_any p ds) (λ n e. same_tie d e n)

-- whether a message stands in the text's order is whether the set holds it
any_of : (s : Contents) (d : Draft) → list_any (eq_by_cmp line_order d) (in_text_order s) ≡ set.contains s d
unfolding in_text_order
any_of s d = members_ascending line_order_total line_order_same (set.items s) d ∙ same_tests d (set.items s) ∙ sym (contains-items s d)

-- the archive text is the written text of each message in the text's order, each with a line feed after it
pub archive_text-lines : (s : Contents) → archive_text_of s ≡ flat_map (λ m. written_text m ++ 10 ∷ []) (in_text_order s)
unfolding archive_text_of
archive_text-lines s = refl

-- the messages in the text's order are the set
pub contents-in_text_order : (s : Contents) → contents_of (in_text_order s) ≡ s
contents-in_text_order s =
    same_contents _ _ (λ d. contains-from_list message_total (in_text_order s) d ∙ sym (same_tests d (in_text_order s)) ∙ any_of s d)

-- a message stands among them exactly where the set holds it
pub Contains-in_text_order : (s : Contents) (d : Draft) → Contains (in_text_order s) d ↔ (set.contains s d ≡ true)
Contains-in_text_order s d = (
  λ h. sym (any_of s d) ∙ list_any-from_Contains (eq_by_cmp_equiv line_order_total) d (in_text_order s) h,
  λ e. Contains-from_any (tie_is line_order_total line_order_same) d (in_text_order s) (any_of s d ∙ e),
)

-- and none stands twice, since they rise strictly
pub in_text_order-rises : (s : Contents) → IsStrictlySortedBy line_order (in_text_order s)
unfolding in_text_order
in_text_order-rises s = ascending_rises line_order_total line_order_same _

-- where each of the messages in the text's order is read again, each of the set is
pub read_again-contents_of : (ds : List Draft) → All IsReadAgain (ascending line_order ds) → AreReadAgain (contents_of ds)
read_again-contents_of ds all d held =
    let listed : Contains (ascending line_order ds) d =
    subst (λ l. Contains l d) (in_text_order-contents_of ds) ((Contains-in_text_order (contents_of ds) d).1 held) in
    subst IsReadAgain listed.2 (all listed.0 d listed.1)

pub written_once : WritesEachOnce
written_once s = record {
  order = record { members = Contains-in_text_order s; rises = in_text_order-rises s; contents_again = contents-in_text_order s };
  lines = archive_text-lines s;
}
