-- The messages of a set that pass a test, in order and as a set. Proof plumbing.
use Rattle.std.specs.FinSet as set
use Rattle.std.specs.FinSet.{contains-items}
use Rattle.std.proofs.Common.{◌≡◌, ◌∙◌, refl, sym, ap, Bool, ◌&&◌, List, [], ◌∷◌, filter, arith}
use Rattle.std.specs.List.{list_any}
use Rattle.sct_message.specs.OrderLaws.{message_total, message_same}
use Rattle.sct_message.specs.Sets.{MessageSet, in_order}
use Rattle.sct_message.specs.declared.draft.Draft.{Draft}
use Rattle.sct_message.proofs.AscendingLemmas.{any_ascending, ascending-filter, ascending-same}
use Rattle.sct_message.proofs.Members.{list_any-filter}
use Rattle.sct_set.specs.Contents.{contents_of}
use Rattle.sct_set.proofs.ContentsLemmas.{any_items}
use Rattle.sct_view.proofs.EvaluationLemmas.{among_picked}

pub filter_filter : {X : Type 0} (p q : X → Bool) (xs : List X) → filter p (filter q xs) ≡ filter (λ x. q x && p x) xs
filter_filter p q [] = refl
filter_filter p q (x ∷ xs) = grind (arith, filter_filter p q xs)

-- the messages of two sets that pass a test each, where the same messages do
pub picked_alike : (s t : MessageSet) (p r : Draft → Bool)
    → ((q : Draft) → (p q && set.contains s q) ≡ (r q && set.contains t q)) → filter p (in_order s) ≡ filter r (in_order t)
picked_alike s t p r alike =
    sym (ascending-filter message_total message_same p (set.items s))
    ∙ ascending-same message_total message_same (filter p (set.items s)) (filter r (set.items t)) (λ q.
    grind (arith, alike q, among_picked p q (set.items s), among_picked r q (set.items t), contains-items s q, contains-items t q))
    ∙ ascending-filter message_total message_same r (set.items t)

pub picked_held : (s : MessageSet) (p : Draft → Bool) (m : Draft)
    → set.contains (contents_of (filter p (in_order s))) m ≡ (p m && set.contains s m)
picked_held s p m =
    contains-items (contents_of (filter p (in_order s))) m
    ∙ any_items _ (filter p (in_order s))
    ∙ among_picked p m (in_order s)
    ∙ ap (λ (b : Bool). p m && b) (any_ascending message_total message_same _ (set.items s) ∙ sym (contains-items s m))

pub picked_any : (s : MessageSet) (p q : Draft → Bool)
    → list_any q (set.items (contents_of (filter p (in_order s)))) ≡ list_any (λ m. p m && q m) (set.items s)
picked_any s p q =
    any_items q (filter p (in_order s))
    ∙ list_any-filter q p (in_order s)
    ∙ any_ascending message_total message_same _ (set.items s)
