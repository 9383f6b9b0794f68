-- The tables of keys: each ascends by bytes, and has the keys of its kind or its shape and no other.
use Rattle.std.proofs.Common.{◌≡◌, ◌∙◌, ap, sym, subst, refl, ℕ, Bool, true, false, List, [], ◌∷◌, ◌++◌, map, Ordering, Less, Equal, Greater, nat_cmp, is_lt}
use Rattle.std.specs.Prelude.{◌||◌, ◌&&◌}
use Rattle.std.specs.List.{AllByRecursion, list_all}
use Rattle.std.specs.List.Sorted.{IsStrictlySortedBy}
use Rattle.std.specs.Cmp.{both_ways}
use Rattle.std.specs.Cmp.Lexicographic.{slice_cmp, bytes_decides, nat_list_cmp_total}
use Rattle.std.proofs.lemmas.Bool.{false≢true, and_parts}
use Rattle.std.proofs.lemmas.List.Folds.{list_any-append}
use Rattle.sct_element.specs.Text.{is_text}
use Rattle.sct_message.specs.declared.kinds.Kind.TheVariants.{Camt029, Camt056, Pacs002, Pacs004, Pacs008, Pacs028}
use Rattle.sct_json.specs.declared.keys.Key.{Key}
use Rattle.sct_json.specs.declared.keys.TheConstants.{CREDIT_TRANSFER_KEYS, STATUS_REPORT_KEYS, STATUS_REQUEST_KEYS, CANCELLATION_REQUEST_KEYS, LISTED_KEYS, TRANSACTION_KEYS, PAYMENT_RETURN_KEYS, RESOLUTION_KEYS}
use Rattle.sct_json.specs.declared.keys.Shape.TheVariants.{Listed, Transaction}
use Rattle.sct_json.specs.Keys.{key_text, is_key_among, is_key_of, is_key_in, head_keys, original_keys, credit_transfer_keys, status_report_keys, status_request_keys, cancellation_request_keys, list_keys, payment_return_keys, resolution_keys}
use Rattle.sct_json.specs.Names.{IsBefore, AscendByBytes}

-- ---- in order

-- each name stands before the next
each_before_next : List (List ℕ) → Bool
each_before_next [] = true
each_before_next (s ∷ []) = true
each_before_next (s ∷ t ∷ names) = is_lt (slice_cmp nat_cmp s t) && each_before_next (t ∷ names)

is_less : (o : Ordering) → is_lt o ≡ true → o ≡ Less
is_less Less e = refl
is_less Equal e = absurd (false≢true e)
is_less Greater e = absurd (false≢true e)

before_all : (s t : List ℕ) (names : List (List ℕ)) → IsBefore s t → AllByRecursion (λ name. IsBefore t name) names → AllByRecursion (λ name. IsBefore s name) names
before_all s t [] before all = tt
before_all s t (name ∷ names) before all = (nat_list_cmp_total.trans s t name before all.0, before_all s t names before all.1)

ascend_where_each_does : (names : List (List ℕ)) → each_before_next names ≡ true → AscendByBytes names
unfolding IsStrictlySortedBy each_before_next
ascend_where_each_does [] e = tt
ascend_where_each_does (s ∷ []) e = (tt, tt)
ascend_where_each_does (s ∷ t ∷ names) e =
    let before : IsBefore s t = is_less (slice_cmp nat_cmp s t) ((and_parts _ _ e).0) in
    let later : AscendByBytes (t ∷ names) = ascend_where_each_does (t ∷ names) (and_parts _ _ e).1 in
    ((before, before_all s t names before later.0), later)

pub credit_transfer_ascends : AscendByBytes (map key_text CREDIT_TRANSFER_KEYS)
unfolding each_before_next
credit_transfer_ascends = ascend_where_each_does (map key_text CREDIT_TRANSFER_KEYS) refl

pub status_report_ascends : AscendByBytes (map key_text STATUS_REPORT_KEYS)
unfolding each_before_next
status_report_ascends = ascend_where_each_does (map key_text STATUS_REPORT_KEYS) refl

pub status_request_ascends : AscendByBytes (map key_text STATUS_REQUEST_KEYS)
unfolding each_before_next
status_request_ascends = ascend_where_each_does (map key_text STATUS_REQUEST_KEYS) refl

pub cancellation_request_ascends : AscendByBytes (map key_text CANCELLATION_REQUEST_KEYS)
unfolding each_before_next
cancellation_request_ascends = ascend_where_each_does (map key_text CANCELLATION_REQUEST_KEYS) refl

pub listed_ascends : AscendByBytes (map key_text LISTED_KEYS)
unfolding each_before_next
listed_ascends = ascend_where_each_does (map key_text LISTED_KEYS) refl

pub transaction_ascends : AscendByBytes (map key_text TRANSACTION_KEYS)
unfolding each_before_next
transaction_ascends = ascend_where_each_does (map key_text TRANSACTION_KEYS) refl

pub payment_return_ascends : AscendByBytes (map key_text PAYMENT_RETURN_KEYS)
unfolding each_before_next
payment_return_ascends = ascend_where_each_does (map key_text PAYMENT_RETURN_KEYS) refl

pub resolution_ascends : AscendByBytes (map key_text RESOLUTION_KEYS)
unfolding each_before_next
resolution_ascends = ascend_where_each_does (map key_text RESOLUTION_KEYS) refl

-- ---- the same keys

-- each of the keys is one of the others
are_among : List Key → List Key → Bool
are_among keys others = list_all (λ key. is_key_among others (key_text key)) keys

among_at : (b : Bool) (name : List ℕ) (key : Key) (keys others : List Key) → is_text name (key_text key) ≡ b → are_among (key ∷ keys) others ≡ true → (b || is_key_among keys name) ≡ true
    → (is_key_among keys name ≡ true → is_key_among others name ≡ true) → is_key_among others name ≡ true
unfolding is_key_among are_among
among_at true name key keys others same all h later =
    subst (λ (s : List ℕ). is_key_among others s ≡ true) (sym ((bytes_decides name (key_text key)).0 same)) (and_parts _ _ all).0
among_at false name key keys others same all h later = later h

among_others : (name : List ℕ) (keys others : List Key) → are_among keys others ≡ true → is_key_among keys name ≡ true → is_key_among others name ≡ true
unfolding is_key_among are_among
among_others name [] others all h = absurd (false≢true h)
among_others name (key ∷ keys) others all h =
    among_at (is_text name (key_text key)) name key keys others refl all h
    (λ later. among_others name keys others (and_parts _ _ all).1 later)

among_both : (name : List ℕ) (keys others : List Key) → are_among keys others ≡ true → are_among others keys ≡ true → is_key_among keys name ≡ is_key_among others name
among_both name keys others there back =
    both_ways (is_key_among keys name) (is_key_among others name) (among_others name keys others there) (among_others name others keys back)

among_parts : (name : List ℕ) (keys others : List Key) → is_key_among (keys ++ others) name ≡ (is_key_among keys name || is_key_among others name)
unfolding is_key_among
among_parts name keys others = list_any-append (λ key. is_text name (key_text key)) keys others

among_three : (name : List ℕ) (own : List Key) → is_key_among (head_keys ++ original_keys ++ own) name ≡ (is_key_among head_keys name || is_key_among original_keys name || is_key_among own name)
among_three name own = among_parts name (head_keys ++ original_keys) own ∙ ap (λ (b : Bool). b || is_key_among own name) (among_parts name head_keys original_keys)

pub credit_transfer_is_whole : (name : List ℕ) → is_key_among CREDIT_TRANSFER_KEYS name ≡ is_key_of Pacs008 name
unfolding is_key_among are_among
credit_transfer_is_whole name = among_both name CREDIT_TRANSFER_KEYS (head_keys ++ credit_transfer_keys) refl refl ∙ among_parts name head_keys credit_transfer_keys

pub status_report_is_whole : (name : List ℕ) → is_key_among STATUS_REPORT_KEYS name ≡ is_key_of Pacs002 name
unfolding is_key_among are_among
status_report_is_whole name = among_both name STATUS_REPORT_KEYS (head_keys ++ original_keys ++ status_report_keys) refl refl ∙ among_three name status_report_keys

pub status_request_is_whole : (name : List ℕ) → is_key_among STATUS_REQUEST_KEYS name ≡ is_key_of Pacs028 name
unfolding is_key_among are_among
status_request_is_whole name = among_both name STATUS_REQUEST_KEYS (head_keys ++ original_keys ++ status_request_keys) refl refl ∙ among_three name status_request_keys

pub cancellation_request_is_whole : (name : List ℕ) → is_key_among CANCELLATION_REQUEST_KEYS name ≡ is_key_of Camt056 name
unfolding is_key_among are_among
cancellation_request_is_whole name =
    among_both name CANCELLATION_REQUEST_KEYS (head_keys ++ original_keys ++ cancellation_request_keys) refl refl ∙ among_three name cancellation_request_keys

pub listed_is_whole : (name : List ℕ) → is_key_among LISTED_KEYS name ≡ is_key_in Listed name
unfolding is_key_among are_among
listed_is_whole name = among_both name LISTED_KEYS (head_keys ++ list_keys) refl refl ∙ among_parts name head_keys list_keys

pub transaction_is_whole : (name : List ℕ) → is_key_among TRANSACTION_KEYS name ≡ is_key_in Transaction name
unfolding is_key_among are_among
transaction_is_whole name =
    among_both name TRANSACTION_KEYS (original_keys ++ cancellation_request_keys) refl refl ∙ among_parts name original_keys cancellation_request_keys

pub payment_return_is_whole : (name : List ℕ) → is_key_among PAYMENT_RETURN_KEYS name ≡ is_key_of Pacs004 name
unfolding is_key_among are_among
payment_return_is_whole name = among_both name PAYMENT_RETURN_KEYS (head_keys ++ original_keys ++ payment_return_keys) refl refl ∙ among_three name payment_return_keys

pub resolution_is_whole : (name : List ℕ) → is_key_among RESOLUTION_KEYS name ≡ is_key_of Camt029 name
unfolding is_key_among are_among
resolution_is_whole name = among_both name RESOLUTION_KEYS (head_keys ++ original_keys ++ resolution_keys) refl refl ∙ among_three name resolution_keys
