-- The messages of a transfer, parted, are what a set of messages keeps of it. Proof plumbing.
use Rattle.std.specs.FinSet as set
use Rattle.std.specs.FinSet.{contains-items, contains-union}
use Rattle.std.proofs.Common.{◌≡◌, ◌∙◌, refl, sym, ap, Bool, false, not, ◌&&◌, ◌||◌, List, [], ◌∷◌, ◌++◌, map, filter, arith}
use Rattle.std.specs.List.{list_any}
use Rattle.std.proofs.lemmas.List.Folds.{list_any-append}
use Rattle.std.proofs.lemmas.Map.Views.{any-filter_same}
use Rattle.sct_message.specs.Ascending.{ascending}
use Rattle.sct_message.specs.Keys.{identity_of}
use Rattle.sct_message.specs.Order.{identity_order, same_message}
use Rattle.sct_message.specs.OrderLaws.{message_total, message_same}
use Rattle.sct_message.specs.Sets.{MessageSet, in_order, is_contradicted}
use Rattle.sct_message.specs.Transfers.{is_on, messages_on, asides_of}
use Rattle.sct_message.specs.declared.draft.Draft.{Draft}
use Rattle.sct_message.specs.declared.keys.Identity.{Identity}
use Rattle.sct_message.specs.declared.keys.TransferKey.{TransferKey}
use Rattle.sct_message.proofs.AscendingLemmas.{any_ascending}
use Rattle.sct_message.proofs.Members.{same_any, tie_is}
use Rattle.sct_case.specs.Statuses.{Standing, transfer_status_of}
use Rattle.sct_view.specs.Answers.{status_of}
use Rattle.sct_view.specs.Kept.{case_of, contradicted_on}

pub filter_swap : {X : Type 0} (p r : X → Bool) (xs : List X) → filter p (filter r xs) ≡ filter r (filter p xs)
filter_swap p r [] = refl
filter_swap p r (x ∷ xs) = grind (arith, filter_swap p r xs)

-- where no item passes, all of them fail
pub all_fail : {X : Type 0} (p : X → Bool) (xs : List X) → list_any p xs ≡ false → filter (λ x. not (p x)) xs ≡ xs
all_fail p [] e = refl
all_fail p (x ∷ xs) e = grind (arith, all_fail p xs)

-- ---- the messages of two sets

-- a test is passed in the union of two sets where it is passed in one of them
pub any_union : (p : Draft → Bool) (a b : MessageSet) → list_any p (set.items (set.union a b)) ≡ (list_any p (set.items a) || list_any p (set.items b))
any_union p a b =
    same_any message_total message_same p (set.items (set.union a b)) (set.items a ++ set.items b)
    (λ q. grind (arith, contains-items (set.union a b) q, contains-union message_total a b q, contains-items a q, contains-items b q, list_any-append (same_message q) (set.items a) (set.items b)))
    ∙ list_any-append p (set.items a) (set.items b)

pub contradicted_in_union : (a b : MessageSet) (m : Draft) → is_contradicted (set.union a b) m ≡ (is_contradicted a m || is_contradicted b m)
contradicted_in_union a b m = any_union _ a b

-- a message is among those of a list that pass a test where it passes, and is in the list
pub among_picked : (p : Draft → Bool) (q : Draft) (ms : List Draft) → list_any (same_message q) (filter p ms) ≡ (p q && list_any (same_message q) ms)
among_picked p q = any-filter_same (same_message q) p (p q) (λ m e. ap p (sym (tie_is message_total message_same q m e)))

-- ---- the messages on a transfer

-- those that pass a test are fewer
none_among : (p r : Draft → Bool) (ms : List Draft) → list_any p ms ≡ false → list_any p (filter r ms) ≡ false
none_among p r [] e = refl
none_among p r (m ∷ ms) e = grind (arith, none_among p r ms)

-- where no message of the set is contradicted, none on a transfer is
pub calm_on : (s : MessageSet) (t : TransferKey) (ms : List Draft) → ms ≡ filter (is_on t) (in_order s)
    → list_any (is_contradicted s) (set.items s) ≡ false → list_any (is_contradicted s) ms ≡ false
calm_on s t ms all none =
    ap (list_any (is_contradicted s)) all
    ∙ none_among (is_contradicted s) (is_on t) (in_order s) (any_ascending message_total message_same (is_contradicted s) (set.items s) ∙ none)

-- a case that was evaluated from all messages on a transfer is what is to be kept of it
pub evaluated : (s : MessageSet) (t : TransferKey) (ms clean contradicted : List Draft) (asides : List Identity) (stands : Standing)
    → ms ≡ filter (is_on t) (in_order s) → clean ≡ filter (λ m. not (is_contradicted s m)) ms → contradicted ≡ filter (is_contradicted s) ms
    → asides ≡ ascending identity_order (map identity_of contradicted) → stands ≡ transfer_status_of t clean asides
    → record { clean = clean; contradicted = contradicted; stands = stands } ≡ case_of s t
unfolding case_of status_of
evaluated s t ms clean contradicted asides stands all c d i e =
    let parted = λ (p : Draft → Bool). ap (filter p) all ∙ filter_swap p (is_on t) (in_order s) in
    let first : clean ≡ messages_on s t = c ∙ parted (λ m. not (is_contradicted s m)) in
    let second : contradicted ≡ contradicted_on s t = d ∙ parted (is_contradicted s) in
    let third : asides ≡ asides_of s t = i ∙ ap (λ (xs : List Draft). ascending identity_order (map identity_of xs)) second in
    let last : stands ≡ transfer_status_of t (messages_on s t) (asides_of s t) = e ∙ (λ n. transfer_status_of t (first n) (third n)) in
    λ n. record { clean = first n; contradicted = second n; stands = last n }
