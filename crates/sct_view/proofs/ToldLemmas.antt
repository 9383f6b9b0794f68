-- What is told of a transfer by what is kept of it is what is told of it in the set. Proof plumbing.
use Rattle.std.proofs.Common.{◌≡◌, ◌∙◌, refl, sym, ap, ℕ, Bool, false, not, List, [], ◌∷◌, ◌++◌, filter, append-nil, append_assoc, arith}
use Rattle.std.specs.List.{list_any, flat_map}
use Rattle.std.specs.List.Sorted.{IsStrictlySortedBy}
use Rattle.std.specs.Ordering.{eq_by_cmp}
use Rattle.std.specs.Cmp.Lexicographic.{nat_list_cmp_total}
use Rattle.std.proofs.lemmas.Grind.{flat_map-append}
use Rattle.std.proofs.lemmas.List.Folds.{list_any-append}
use Rattle.sct_message.specs.Order.{text_order}
use Rattle.sct_message.specs.Sets.{MessageSet, clean_messages, contradicted_messages, in_order, is_contradicted}
use Rattle.sct_message.specs.Transfers.{is_on, messages_on, instruction_of}
use Rattle.sct_message.specs.declared.keys.TransferKey.{TransferKey}
use Rattle.sct_message.proofs.AscendingLemmas.{ascending-same, ascending-sorted}
use Rattle.sct_case.specs.declared.finding.Finding.{Finding}
use Rattle.sct_case.specs.Statuses.{Unknown, TransferFacts, facts_of, first_standing, standing_by, transfer_status_of}
use Rattle.sct_view.specs.Answers.{status_of, found_on, cxls_named_by, recalls_on}
use Rattle.sct_view.specs.Kept.{Kept, no_messages, case_of, contradicted_on, instruction_in}
use Rattle.sct_view.specs.Listed.{found_in, recalls_in_case}
use Rattle.sct_view.specs.StatusText.{status_line, finding_line, lines_on}
use Rattle.sct_view.proofs.NamedLemmas.{lines_of_recalls, none_named}
use Rattle.sct_message.proofs.Tests.{any_flat_map}
use Rattle.sct_message.specs.CellsBack.{texts_same}
use Rattle.sct_view.proofs.StandingLemmas.{split}

-- ---- findings stand in the status

-- nothing that is told by sentence is a contradiction
first_found : (found : List Finding) (unknown : Bool) (facts : TransferFacts)
    → found_in (first_standing found unknown (standing_by facts)) ≡ found
first_found found unknown facts = grind arith

-- the findings of a transfer stand in its status
pub found_on_status : (s : MessageSet) (t : TransferKey) → found_in (status_of s t) ≡ found_on s t
unfolding status_of found_on transfer_status_of
found_on_status s t = first_found _ _ (facts_of t (messages_on s t))

-- ---- the messages that are kept

pub stands_kept : (s : MessageSet) (t : TransferKey) (case : Kept) → case ≡ case_of s t → case.stands ≡ status_of s t
unfolding case_of
stands_kept s t case is = ap (λ (k : Kept). k.stands) is

found_kept : (s : MessageSet) (t : TransferKey) (case : Kept) → case ≡ case_of s t → found_in case.stands ≡ found_on s t
found_kept s t case is = ap found_in (stands_kept s t case is) ∙ found_on_status s t

pub instruction_kept : (s : MessageSet) (t : TransferKey) (case : Kept) → case ≡ case_of s t → instruction_in case ≡ instruction_of s t
unfolding case_of
instruction_kept s t case is = ap instruction_in is

-- ---- the recalls that are named

-- items that give nothing can be left out
given_where : {X Y : Type 0} (f : X → List Y) (p : X → Bool) → ((x : X) → p x ≡ false → f x ≡ []) → (xs : List X) → flat_map f (filter p xs) ≡ flat_map f xs
given_where f p none [] = refl
given_where f p none (x ∷ xs) = grind (arith, none x, given_where f p none xs)

-- of two parts of a list, what is named in them is what is named in the list
both_name : {X Y : Type 0} (f : X → List Y) (c : X → Bool) (q : Y → Bool) (xs : List X)
    → list_any q (flat_map f (filter (λ x. not (c x)) xs) ++ flat_map f (filter c xs)) ≡ list_any q (flat_map f xs)
both_name f c q xs = grind (arith, list_any-append q, any_flat_map q f, split (λ x. list_any q (f x)) c xs)

-- the recalls that the messages kept of a transfer name are those that the messages of the set name
pub recalls_kept : (s : MessageSet) (t : TransferKey) (case : Kept) → case ≡ case_of s t → recalls_in_case t case ≡ recalls_on s t
unfolding case_of recalls_on
recalls_kept s t case is =
    ap (recalls_in_case t) is
    ∙ ascending-same nat_list_cmp_total texts_same _ _ (λ q.
    ap (list_any (eq_by_cmp text_order q))
    (flat_map-append (cxls_named_by t) (messages_on s t) (contradicted_on s t)
    ∙ (λ i. given_where (cxls_named_by t) (is_on t) (none_named t) (clean_messages s) i ++ given_where (cxls_named_by t) (is_on t) (none_named t) (contradicted_messages s) i))
    ∙ both_name (cxls_named_by t) (is_contradicted s) (eq_by_cmp text_order q) (in_order s))

-- ---- the lines

-- the lines of a transfer, put one after another
pub case_told : (s : MessageSet) (t : TransferKey) (case : Kept) (old one two three : List ℕ) (found : List Finding) (cxls : List (List ℕ)) → case ≡ case_of s t
    → found ≡ found_in case.stands → cxls ≡ recalls_in_case t case
    → one ≡ old ++ status_line t case.stands → two ≡ one ++ flat_map (finding_line t) found → three ≡ two ++ lines_of_recalls s t cxls
    → three ≡ old ++ lines_on s t
unfolding lines_on
case_told s t case old one two three found cxls is f r first second third =
    let T = status_line t case.stands in
    let F = flat_map (finding_line t) found in
    let R = lines_of_recalls s t cxls in
    third
    ∙ ap (λ (l : List ℕ). l ++ R) (second ∙ ap (λ (l : List ℕ). l ++ F) first ∙ append_assoc old T F)
    ∙ append_assoc old (T ++ F) R
    ∙ (λ i. old ++ (status_line t (stands_kept s t case is i)
    ++ flat_map (finding_line t) ((f ∙ found_kept s t case is) i)
    ++ lines_of_recalls s t ((r ∙ recalls_kept s t case is) i)))

-- ---- a transfer of which nothing is kept

pub no_recalls : (s : MessageSet) (t : TransferKey) → no_messages ≡ case_of s t → [] ≡ recalls_on s t
unfolding IsStrictlySortedBy
no_recalls s t is = sym (ascending-sorted nat_list_cmp_total texts_same [] tt) ∙ recalls_kept s t no_messages is

-- its one line tells that it is unknown
pub nothing_told : (s : MessageSet) (t : TransferKey) → no_messages ≡ case_of s t → status_line t Unknown ≡ lines_on s t
unfolding lines_on
nothing_told s t is =
    sym (append-nil (status_line t Unknown ++ []) ∙ append-nil (status_line t Unknown))
    ∙ (λ i. status_line t (stands_kept s t no_messages is i)
    ++ flat_map (finding_line t) (found_kept s t no_messages is i)
    ++ lines_of_recalls s t (no_recalls s t is i))
