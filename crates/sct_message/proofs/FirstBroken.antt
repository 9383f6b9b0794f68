-- The rule that is told is the first by number of those that a draft breaks.
use Rattle.std.proofs.Common.{arith, ◌≡◌, ◌≢◌, ◌∙◌, ap, sym, subst, refl, ℕ, ◌≤◌, Bool, true, false, cond, List, [], ◌∷◌, length, inl, inr, Option, Some, None}
use Rattle.std.specs.Prelude.{◌&&◌, ◌||◌, ◌⊎◌, ◌↔◌, ◌==◌, ◌<◌, not, is_some, is_none, IsFalse, IsSomeAnd, codes, nat_le}
use Rattle.std.specs.Bool.{Decides}
use Rattle.std.specs.List.{find, list_all, list_any, AllByRecursion, Any, IsDistinct}
use Rattle.std.specs.Cmp.Lexicographic.{bytes_decides}
use Rattle.std.proofs.lemmas.Bool.{leb-true, leb-false, lt-leb, and_parts, and_left, and_right, true_from_ne_false, false≢true}
use Rattle.std.proofs.lemmas.List.Folds.{Any-from_list_any, list_any-from_Any, list_all-map}
use Rattle.std.proofs.lemmas.Bool.Decides.{nat_tests, Decides-and, Decides-not}
use Rattle.sct_reason.specs.declared.reasons.Reason.{Reason}
use Rattle.sct_reason.specs.declared.reasons.Reason.TheVariants.{FOCR}
use Rattle.sct_reason.specs.Codes.{reason_text}
use Rattle.sct_reason.specs.ReasonLaws.{same_text as same_reason}
use Rattle.sct_message.specs.declared.draft.Draft.{Draft}
use Rattle.sct_message.specs.declared.draft.Draft.TheVariants as draft
use Rattle.sct_message.specs.declared.rules.RuleFault.{RuleFault}
use Rattle.sct_message.specs.declared.rules.RuleFault.TheVariants.{WrongName, WrongCurrency, WrongService, WrongInstrument, WrongCharge, WrongStatus, ReasonMissing, ReasonUnasked, ReturnAboveOriginal, WrongReturnReason, WrongAnswer, WrongOriginalName, RepeatedRecall, WrongCount}
use Rattle.sct_element.specs.Text.{is_text}
use Rattle.sct_message.specs.Kinds.{is_name_of}
use Rattle.sct_message.specs.Drafts.{kind_of, head_of, originals_of, currencies_of, credit_transfer_of, status_report_of, recalls_in, payment_return_of, resolution_of}
use Rattle.sct_message.specs.Recalls.{have_same_recall}
use Rattle.sct_message.specs.declared.draft.RecallTx.{RecallTx}
use Rattle.sct_message.proofs.LongLists.{apart_where_none, none_where_apart}
use Rattle.sct_message.proofs.Tests.{not_and}
use Rattle.sct_message.specs.Rules.{rule_number, Breaks, IsFirstBroken, broken_in_credit_transfer, broken_in_status_report, broken_in_cancellation_request, broken_in_payment_return, broken_in_resolution, broken_by_transactions, broken_in_list, broken_first, first_broken_rule, names_its_original, repeats, is_right_count}

-- ---- a test of each rule

abbrev some_and : {A : Type 0} → Option A → (A → Bool) → Bool
some_and None test = false
some_and (Some a) test = test a

abbrev is_not : List ℕ → List ℕ → Bool
is_not s t = not (is_text s t)

abbrev breaks : RuleFault → Draft → Bool
breaks WrongName d = not (is_name_of (kind_of d) (head_of d).message_name)
breaks WrongCurrency d = not (list_all (λ currency. is_text currency (codes "EUR")) (currencies_of d))
breaks WrongService d = some_and (credit_transfer_of d) (λ m. is_not m.service_level (codes "SEPA"))
breaks WrongInstrument d = some_and (credit_transfer_of d) (λ m. is_not m.local_instrument (codes "INST"))
breaks WrongCharge d = some_and (credit_transfer_of d) (λ m. is_not m.charge_bearer (codes "SLEV"))
breaks WrongStatus d = some_and (status_report_of d)
    (λ m. is_not m.status (codes "ACCP") && is_not m.status (codes "RJCT"))
breaks ReasonMissing d = some_and (status_report_of d) (λ m. is_text m.status (codes "RJCT") && is_none m.reason)
breaks ReasonUnasked d = some_and (status_report_of d) (λ m. is_text m.status (codes "ACCP") && is_some m.reason)
breaks ReturnAboveOriginal d = some_and (payment_return_of d) (λ m. not (nat_le m.returned_amount m.original_amount))
breaks WrongReturnReason d = some_and (payment_return_of d) (λ m. is_not (reason_text m.reason) (codes "FOCR"))
breaks WrongAnswer d = some_and (resolution_of d) (λ m. is_not m.confirmation (codes "RJCR"))
breaks WrongOriginalName d = not (names_its_original d)
breaks RepeatedRecall d = some_and (recalls_in d) (λ m. repeats m.txs)
breaks WrongCount d = some_and (recalls_in d) (λ m. not (is_right_count (length m.txs)))

-- ---- each test decides whether the rule is broken

some_decides : {A : Type 0} (o : Option A) (test : A → Bool) (P : A → Type 0)
    → ((a : A) → Decides (test a) (P a))
    → Decides (some_and o test) (IsSomeAnd o P)
some_decides None test P each = (λ e. absurd (false≢true e), λ p. absurd p)
some_decides (Some a) test P each = each a

false_decides : (b : Bool) → Decides (not b) (IsFalse b)
false_decides true = (λ e. cc, λ e. cc)
false_decides false = (λ e. refl, λ e. refl)

not_text_decides : (s t : List ℕ) → Decides (is_not s t) (s ≢ t)
not_text_decides s t = Decides-not (is_text s t) (bytes_decides s t)

above_decides : (returned original : ℕ) → Decides (not (nat_le returned original)) (original < returned)
above_decides returned original =
    (λ e. leb-false returned original ((false_decides _).0 e), λ below. grind (arith, nat_tests))

reason_decides : (r : Reason) → Decides (is_not (reason_text r) (codes "FOCR")) (r ≢ FOCR)
reason_decides r =
    let same : Decides (is_text (reason_text r) (codes "FOCR")) (r ≡ FOCR) =
    (λ e. same_reason r FOCR ((bytes_decides _ _).0 e), λ e. (bytes_decides _ _).1 (ap reason_text e)) in
    Decides-not _ same

some_item : {A : Type 0} (P Q : A → Type 0) → ((a : A) → P a → Q a) → (xs : List A) → Any P xs → Any Q xs
some_item P Q each xs some = (some.0, some.1, some.2, some.3, each some.1 some.4)

not_all_any : {A : Type 0} (test : A → Bool) (xs : List A) → not (list_all test xs) ≡ list_any (λ a. not (test a)) xs
not_all_any test [] = refl
not_all_any test (x ∷ xs) = not_and (test x) (list_all test xs) ∙ ap (λ (b : Bool). not (test x) || b) (not_all_any test xs)

-- a test fails of some item where it does not pass of all
fails_decides : {A : Type 0} (test : A → Bool) (P : A → Type 0)
    → ((a : A) → Decides (not (test a)) (P a))
    → (xs : List A) → Decides (not (list_all test xs)) (Any P xs)
fails_decides test P each xs = (
  λ e. some_item _ _ (λ a. (each a).0) xs (Any-from_list_any (λ a. not (test a)) xs (sym (not_all_any test xs) ∙ e)),
  λ some. not_all_any test xs ∙ list_any-from_Any (λ a. not (test a)) xs (some_item _ _ (λ a. (each a).1) xs some),
)

repeats_decides : (txs : List RecallTx) → Decides (repeats txs) (¬ IsDistinct have_same_recall txs)
repeats_decides txs = (
  λ e apart. false≢true (sym (none_where_apart txs apart) ∙ e),
  λ twice. true_from_ne_false _ (λ none. twice (apart_where_none txs none)),
)

wrong_by : (n : ℕ) (some most : Bool) → nat_le 1 n ≡ some → nat_le n 100 ≡ most → not (some && most) ≡ true → (n ≡ 0) ⊎ (100 < n)
wrong_by n true true s m e = absurd (false≢true e)
wrong_by n true false s m e = inr (leb-false _ _ m)
wrong_by n false most s m e = inl (let none = leb-false _ _ s in omega (arith, none))

by_wrong : (n : ℕ) → (n ≡ 0) ⊎ (100 < n) → not (is_right_count n) ≡ true
by_wrong n (inl none) = ap not (and_left _ _ (lt-leb 1 n (omega (arith, none))))
by_wrong n (inr many) = ap not (and_right _ _ (lt-leb n 100 many))

count_decides : (n : ℕ) → Decides (not (is_right_count n)) ((n ≡ 0) ⊎ (100 < n))
count_decides n = (λ e. wrong_by n _ _ refl refl e, λ wrong. by_wrong n wrong)

breaks_decides : (f : RuleFault) (d : Draft) → Decides (breaks f d) (Breaks f d)
breaks_decides WrongName d = false_decides _
breaks_decides WrongCurrency d = fails_decides _ _ (λ s. not_text_decides s _) (currencies_of d)
breaks_decides WrongService d = some_decides (credit_transfer_of d) _ _ (λ m. not_text_decides m.service_level _)
breaks_decides WrongInstrument d = some_decides (credit_transfer_of d) _ _ (λ m. not_text_decides m.local_instrument _)
breaks_decides WrongCharge d = some_decides (credit_transfer_of d) _ _ (λ m. not_text_decides m.charge_bearer _)
breaks_decides WrongStatus d = some_decides (status_report_of d) _ _
    (λ m. Decides-and _ _ (not_text_decides m.status _) (not_text_decides m.status _))
breaks_decides ReasonMissing d = some_decides (status_report_of d) _ _
    (λ m. Decides-and _ _ (bytes_decides m.status _) (false_decides (is_some m.reason)))
breaks_decides ReasonUnasked d = some_decides (status_report_of d) _ _
    (λ m. Decides-and _ _ (bytes_decides m.status _) (λ e. e, λ e. e))
breaks_decides ReturnAboveOriginal d = some_decides (payment_return_of d) _ _
    (λ m. above_decides m.returned_amount m.original_amount)
breaks_decides WrongReturnReason d = some_decides (payment_return_of d) _ _ (λ m. reason_decides m.reason)
breaks_decides WrongAnswer d = some_decides (resolution_of d) _ _ (λ m. not_text_decides m.confirmation _)
breaks_decides WrongOriginalName d = fails_decides _ _ (λ o. false_decides _) (originals_of d)
breaks_decides RepeatedRecall d = some_decides (recalls_in d) _ _ (λ m. repeats_decides m.txs)
breaks_decides WrongCount d = some_decides (recalls_in d) _ _ (λ m. count_decides (length m.txs))

-- ---- the rule that is told is the first of the list that is broken

abbrev all_rules : List RuleFault
all_rules =
    WrongName
    ∷ WrongCurrency
    ∷ WrongService
    ∷ WrongInstrument
    ∷ WrongCharge
    ∷ WrongStatus
    ∷ ReasonMissing
    ∷ ReasonUnasked
    ∷ ReturnAboveOriginal
    ∷ WrongReturnReason
    ∷ WrongAnswer
    ∷ WrongOriginalName
    ∷ RepeatedRecall
    ∷ WrongCount
    ∷ []

first_alone : (o : Option RuleFault) → broken_first o None ≡ o
first_alone None = refl
first_alone (Some f) = refl

after_one : (a : Bool) (f : RuleFault) (later : Option RuleFault)
    → broken_first (cond a (Some f) None) later ≡ cond a (Some f) later
after_one true f later = refl
after_one false f later = refl

after_three : (a b c : Bool) (f g h : RuleFault) (later : Option RuleFault)
    → broken_first (cond a (Some f) (cond b (Some g) (cond c (Some h) None))) later
    ≡ cond a (Some f) (cond b (Some g) (cond c (Some h) later))
after_three true b c f g h later = refl
after_three false true c f g h later = refl
after_three false false true f g h later = refl
after_three false false false f g h later = refl

-- what stands behind the rule of the name
named : (b : Bool) {x y : Option RuleFault} → x ≡ y → cond b (Some WrongName) x ≡ cond b (Some WrongName) y
named b e = ap (λ (o : Option RuleFault). cond b (Some WrongName) o) e

abbrev name_wrong : Draft → Bool
name_wrong d = breaks WrongName d

-- the rule on the original message, and behind it those on the list of a recall message
abbrev original_wrong : Draft → Option RuleFault
original_wrong d = cond (breaks WrongOriginalName d) (Some WrongOriginalName) (broken_in_list d)

-- of a list of one, the test of all is the test of it
alone : (b : Bool) → not b ≡ not (b && true)
alone true = refl
alone false = refl

-- a test in the place of one that answers alike
tested : (a b : Bool) (f : RuleFault) (later : Option RuleFault) → a ≡ b → cond a (Some f) later ≡ cond b (Some f) later
tested a b f later e = ap (λ (t : Bool). cond t (Some f) later) e

abbrev euro : List ℕ → Bool
euro currency = is_text currency (codes "EUR")

first_is_found : (d : Draft) → first_broken_rule d ≡ find (λ f. breaks f d) all_rules
unfolding first_broken_rule broken_in_credit_transfer broken_in_status_report broken_in_cancellation_request broken_in_payment_return broken_in_resolution broken_by_transactions
first_is_found (draft.CreditTransfer d) =
    named (name_wrong (draft.CreditTransfer d))
    (first_alone (broken_in_credit_transfer d) ∙ tested _ _ WrongCurrency _ (alone (euro d.currency)))
first_is_found (draft.StatusReport d) =
    let m : Draft = draft.StatusReport d in
    named (name_wrong m) (after_three (breaks WrongStatus m) (breaks ReasonMissing m) (breaks ReasonUnasked m)
    WrongStatus ReasonMissing ReasonUnasked (original_wrong m))
first_is_found (draft.StatusRequest d) = refl
first_is_found (draft.CancellationRequest d) =
    let m : Draft = draft.CancellationRequest d in
    named (name_wrong m)
    (after_one (not (list_all (λ tx. euro tx.currency) d.txs)) WrongCurrency (original_wrong m)
    ∙ tested _ _ WrongCurrency _ (ap not (sym (list_all-map euro (λ tx. tx.currency) d.txs))))
first_is_found (draft.PaymentReturn d) =
    let m : Draft = draft.PaymentReturn d in
    named (name_wrong m)
    (after_three (not (euro d.currency)) (breaks ReturnAboveOriginal m) (breaks WrongReturnReason m)
    WrongCurrency ReturnAboveOriginal WrongReturnReason (original_wrong m)
    ∙ tested _ _ WrongCurrency _ (alone (euro d.currency)))
first_is_found (draft.Resolution d) =
    let m : Draft = draft.Resolution d in
    named (name_wrong m) (after_one (breaks WrongAnswer m) WrongAnswer (original_wrong m))

-- ---- of a list that ascends by number, the first that passes a test has the least number

abbrev ascends : List RuleFault → Bool
ascends [] = true
ascends (f ∷ fs) = list_all (λ g. nat_le (rule_number f) (rule_number g)) fs && ascends fs

inside : {f g : RuleFault} → Some f ≡ Some g → f ≡ g
inside e = cc

later_is_more : (test : RuleFault → Bool) (f : RuleFault) (fs : List RuleFault)
    → list_all (λ g. nat_le (rule_number f) (rule_number g)) fs ≡ true
    → AllByRecursion (λ g. test g ≡ true → rule_number f ≤ rule_number g) fs
later_is_more test f [] e = tt
later_is_more test f (g ∷ fs) e =
    let parts : (nat_le (rule_number f) (rule_number g) ≡ true) × (list_all (λ k. nat_le (rule_number f) (rule_number k)) fs ≡ true) = and_parts _ _ e in
    (λ passes. leb-true _ _ parts.0, later_is_more test f fs parts.1)

found_passes : (test : RuleFault → Bool) (fs : List RuleFault) (f : RuleFault) → find test fs ≡ Some f → test f ≡ true
found_passes test [] f e = cc
found_passes test (g ∷ fs) f e =
    elim (test g) as (λ b. test g ≡ b → cond b (Some g) (find test fs) ≡ Some f → test f ≡ true) [
      | true ↦ λ passes here. sym (ap test (inside here)) ∙ passes
      | false ↦ λ _ later. found_passes test fs f later
    ] refl e

found_is_least : (test : RuleFault → Bool) (fs : List RuleFault) (f : RuleFault) → ascends fs ≡ true → find test fs ≡ Some f
    → AllByRecursion (λ g. test g ≡ true → rule_number f ≤ rule_number g) fs
found_is_least test [] f rises e = tt
found_is_least test (g ∷ fs) f rises e =
    let parts : (list_all (λ k. nat_le (rule_number g) (rule_number k)) fs ≡ true) × (ascends fs ≡ true) = and_parts _ _ rises in
    elim (test g) as (λ b. test g ≡ b → cond b (Some g) (find test fs) ≡ Some f → AllByRecursion (λ k. test k ≡ true → rule_number f ≤ rule_number k) (g ∷ fs)) [
      | true ↦ λ passes here. subst (λ (k : RuleFault). AllByRecursion (λ x. test x ≡ true → rule_number k ≤ rule_number x) (g ∷ fs)) (inside here)
          (λ _. omega arith, later_is_more test g fs parts.0)
      | false ↦ λ fails later. (λ passes. absurd (false≢true (sym fails ∙ passes)), found_is_least test fs f parts.1 later)
    ] refl e

none_passes : (test : RuleFault → Bool) (fs : List RuleFault) → find test fs ≡ None → AllByRecursion (λ g. test g ≡ false) fs
none_passes test [] e = tt
none_passes test (g ∷ fs) e =
    elim (test g) as (λ b. test g ≡ b → cond b (Some g) (find test fs) ≡ None → AllByRecursion (λ k. test k ≡ false) (g ∷ fs)) [
      | true ↦ λ _ here. cc
      | false ↦ λ fails later. (fails, none_passes test fs later)
    ] refl e

-- what holds of each rule of the list holds of every rule
among : (P : RuleFault → Type 0) (f : RuleFault) → AllByRecursion P all_rules → P f
among P WrongName h = h.0
among P WrongCurrency h = h.1.0
among P WrongService h = h.1.1.0
among P WrongInstrument h = h.1.1.1.0
among P WrongCharge h = h.1.1.1.1.0
among P WrongStatus h = h.1.1.1.1.1.0
among P ReasonMissing h = h.1.1.1.1.1.1.0
among P ReasonUnasked h = h.1.1.1.1.1.1.1.0
among P ReturnAboveOriginal h = h.1.1.1.1.1.1.1.1.0
among P WrongReturnReason h = h.1.1.1.1.1.1.1.1.1.0
among P WrongAnswer h = h.1.1.1.1.1.1.1.1.1.1.0
among P WrongOriginalName h = h.1.1.1.1.1.1.1.1.1.1.1.0
among P RepeatedRecall h = h.1.1.1.1.1.1.1.1.1.1.1.1.0
among P WrongCount h = h.1.1.1.1.1.1.1.1.1.1.1.1.1.0

-- rules of one number are one rule
by_number : (f : RuleFault) → find (λ k. rule_number k == rule_number f) all_rules ≡ Some f
by_number WrongName = refl
by_number WrongCurrency = refl
by_number WrongService = refl
by_number WrongInstrument = refl
by_number WrongCharge = refl
by_number WrongStatus = refl
by_number ReasonMissing = refl
by_number ReasonUnasked = refl
by_number ReturnAboveOriginal = refl
by_number WrongReturnReason = refl
by_number WrongAnswer = refl
by_number WrongOriginalName = refl
by_number RepeatedRecall = refl
by_number WrongCount = refl

numbers_same : (f g : RuleFault) → rule_number f ≡ rule_number g → f ≡ g
numbers_same f g e =
    inside (sym (by_number f) ∙ ap (λ (n : ℕ). find (λ k. rule_number k == n) all_rules) e ∙ by_number g)

-- ---- the laws

told_is_first : (d : Draft) (f : RuleFault) → first_broken_rule d ≡ Some f → IsFirstBroken f d
told_is_first d f e =
    let found : find (λ g. breaks g d) all_rules ≡ Some f = sym (first_is_found d) ∙ e in
    record {
      broken = (breaks_decides f d).0 (found_passes (λ k. breaks k d) all_rules f found);
      least = λ g broken. among (λ k. breaks k d ≡ true → rule_number f ≤ rule_number k) g (found_is_least (λ k. breaks k d) all_rules f refl found) ((breaks_decides g d).1 broken);
    }

none_is_broken : (d : Draft) → first_broken_rule d ≡ None → (f : RuleFault) → ¬ Breaks f d
none_is_broken d e f broken =
    let found : find (λ g. breaks g d) all_rules ≡ None = sym (first_is_found d) ∙ e in
    false≢true (sym (among (λ g. breaks g d ≡ false) f (none_passes (λ g. breaks g d) all_rules found)) ∙ (breaks_decides f d).1 broken)

first_is_told : (d : Draft) (f : RuleFault) (o : Option RuleFault) → first_broken_rule d ≡ o → IsFirstBroken f d → o ≡ Some f
first_is_told d f None e first = absurd (none_is_broken d e f first.broken)
first_is_told d f (Some g) e first =
    let other : IsFirstBroken g d = told_is_first d g e in
    let above : rule_number g ≤ rule_number f = other.least f first.broken in
    let below : rule_number f ≤ rule_number g = first.least g other.broken in
    ap (λ (k : RuleFault). Some k) (numbers_same g f (omega arith))

none_is_told : (d : Draft) (o : Option RuleFault) → first_broken_rule d ≡ o → ((f : RuleFault) → ¬ Breaks f d) → o ≡ None
none_is_told d None e none = refl
none_is_told d (Some g) e none = absurd (none g (told_is_first d g e).broken)

pub first_is_first : (d : Draft) (f : RuleFault) → (first_broken_rule d ≡ Some f) ↔ IsFirstBroken f d
first_is_first d f = (told_is_first d f, first_is_told d f (first_broken_rule d) refl)

pub none_where_none : (d : Draft) → (first_broken_rule d ≡ None) ↔ ((f : RuleFault) → ¬ Breaks f d)
none_where_none d = (none_is_broken d, none_is_told d (first_broken_rule d) refl)
