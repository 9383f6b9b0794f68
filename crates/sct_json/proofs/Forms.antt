-- What is read is a form of its message, and a form is read as its message.
use Rattle.std.proofs.Common.{◌≡◌, ◌∙◌, ap, sym, subst, refl, inl, inr, ℕ, Bool, true, false, cond, List, [], ◌∷◌, take, Option, Some, None, Ok}
use Rattle.std.specs.Prelude.{◌↔◌, find, not, ok_or, option_and_then}
use Rattle.std.specs.List.{list_all}
use Rattle.std.specs.Cmp.Lexicographic.{bytes_decides}
use Rattle.std.proofs.lemmas.Bool.{false≢true, and_parts}
use Rattle.serde_json.specs.Data.{Data, Members}
use Rattle.serde_json.specs.Find.{as_str, as_object}
use Rattle.sct_element.specs.Identification.{is_identification, written_identification}
use Rattle.sct_element.specs.Settles.{read_parts}
use Rattle.sct_message.specs.declared.kinds.Kind.{Kind}
use Rattle.sct_message.specs.declared.kinds.Kind.TheVariants.{Camt029, Camt056, Pacs002, Pacs004, Pacs008, Pacs028}
use Rattle.sct_message.specs.declared.draft.Draft.{Draft}
use Rattle.sct_message.specs.declared.draft.Draft.TheVariants as draft
use Rattle.sct_message.specs.declared.rules.RuleFault.{RuleFault}
use Rattle.sct_message.specs.Drafts.{kind_of, head_of}
use Rattle.sct_message.specs.Kinds.{kind_text, is_name_of, kinds, kind_named}
use Rattle.sct_message.specs.OrderLaws.{kinds_same}
use Rattle.sct_message.specs.Rules.{FollowsRules, first_broken_rule}
use Rattle.sct_json.specs.declared.keys.Key.TheVariants as key
use Rattle.sct_json.specs.declared.faults.JsonFault.TheVariants as fault
use Rattle.sct_json.specs.Keys.{is_key_in}
use Rattle.sct_json.specs.Reading.{credit_transfer_in, status_report_in, status_request_in, cancellation_request_in, payment_return_in, resolution_in, draft_in, names_of, first_extra, kind_in, shape_in, passes_unless, follows_unless, object_in}
use Rattle.sct_json.specs.Form.{Holds, HoldsHead, HoldsElements, HasKeysOf, IsFormOf}
use Rattle.sct_json.proofs.RecallForms.{recalls_hold, holds_recalls}
use Rattle.sct_json.proofs.TableForms.{bind_then, bind_from, ok_or_ok, ok_same, credit_transfer_holds, holds_credit_transfer, status_report_holds, holds_status_report, status_request_holds, holds_status_request, payment_return_holds, holds_payment_return, resolution_holds, holds_resolution, is_object, all_pass, none_fails, passes_none}

-- ---- the elements of a message

pub draft_holds : (kind : Kind) (d : Data) (m : Draft) → draft_in kind d ≡ Ok m → (kind ≡ kind_of m) × HoldsElements d m
draft_holds Camt029 d m e = bind_then (resolution_in d) _ _ e (λ t r e1. subst (λ (n : Draft). (Camt029 ≡ kind_of n) × HoldsElements d n) (ok_same _ _ e1) (refl, resolution_holds d t r))
draft_holds Camt056 d m e = bind_then (cancellation_request_in d) _ _ e (λ t r e1. subst (λ (n : Draft). (Camt056 ≡ kind_of n) × HoldsElements d n) (ok_same _ _ e1) (refl, recalls_hold d t r))
draft_holds Pacs002 d m e = bind_then (status_report_in d) _ _ e (λ t r e1. subst (λ (n : Draft). (Pacs002 ≡ kind_of n) × HoldsElements d n) (ok_same _ _ e1) (refl, status_report_holds d t r))
draft_holds Pacs004 d m e = bind_then (payment_return_in d) _ _ e (λ t r e1. subst (λ (n : Draft). (Pacs004 ≡ kind_of n) × HoldsElements d n) (ok_same _ _ e1) (refl, payment_return_holds d t r))
draft_holds Pacs008 d m e = bind_then (credit_transfer_in d) _ _ e (λ t r e1. subst (λ (n : Draft). (Pacs008 ≡ kind_of n) × HoldsElements d n) (ok_same _ _ e1) (refl, credit_transfer_holds d t r))
draft_holds Pacs028 d m e = bind_then (status_request_in d) _ _ e (λ t r e1. subst (λ (n : Draft). (Pacs028 ≡ kind_of n) × HoldsElements d n) (ok_same _ _ e1) (refl, status_request_holds d t r))

holds_draft : (d : Data) (m : Draft) → HoldsElements d m → draft_in (kind_of m) d ≡ Ok m
holds_draft d (draft.CreditTransfer m) h = bind_from _ _ _ _ (holds_credit_transfer d m h) refl
holds_draft d (draft.StatusReport m) h = bind_from _ _ _ _ (holds_status_report d m h) refl
holds_draft d (draft.StatusRequest m) h = bind_from _ _ _ _ (holds_status_request d m h) refl
holds_draft d (draft.CancellationRequest m) h = bind_from _ _ _ _ (holds_recalls d m h) refl
holds_draft d (draft.PaymentReturn m) h = bind_from _ _ _ _ (holds_payment_return d m h) refl
holds_draft d (draft.Resolution m) h = bind_from _ _ _ _ (holds_resolution d m h) refl

holds_its_head : (d : Data) (m : Draft) → HoldsElements d m → HoldsHead d (head_of m)
holds_its_head d (draft.CreditTransfer m) h = h.head
holds_its_head d (draft.StatusReport m) h = h.head
holds_its_head d (draft.StatusRequest m) h = h.head
holds_its_head d (draft.CancellationRequest m) h = elim h [ inl one ↦ one.head | inr list ↦ list.head ]
holds_its_head d (draft.PaymentReturn m) h = h.head
holds_its_head d (draft.Resolution m) h = h.head

-- ---- the kind

kept_as_read : (s t : List ℕ) → written_identification s ≡ Some t → s ≡ t
unfolding written_identification
kept_as_read s t e = (read_parts (is_identification s) s t e).1

text_of_name : (k : Kind) (s : List ℕ) → is_name_of k s ≡ true → take 8 s ≡ kind_text k
text_of_name k s e = (bytes_decides (take 8 s) (kind_text k)).0 (and_parts _ _ e).0

some_name : (b : Bool) (j k : Kind) (s : List ℕ) (later : Option Kind) → is_name_of j s ≡ b → is_name_of k s ≡ true → (b ≡ false → later ≡ Some k) → cond b (Some j) later ≡ Some k
some_name true j k s later named e others = ap (λ (i : Kind). Some i) (kinds_same j k (sym (text_of_name j s named) ∙ text_of_name k s e))
some_name false j k s later named e others = others refl

no_kind_left : (k : Kind) (s : List ℕ) → is_name_of Camt029 s ≡ false → is_name_of Camt056 s ≡ false → is_name_of Pacs002 s ≡ false → is_name_of Pacs004 s ≡ false → is_name_of Pacs008 s ≡ false → is_name_of Pacs028 s ≡ false → is_name_of k s ≡ true → None ≡ Some k
no_kind_left Camt029 s a b c d g h e = absurd (false≢true (sym a ∙ e))
no_kind_left Camt056 s a b c d g h e = absurd (false≢true (sym b ∙ e))
no_kind_left Pacs002 s a b c d g h e = absurd (false≢true (sym c ∙ e))
no_kind_left Pacs004 s a b c d g h e = absurd (false≢true (sym d ∙ e))
no_kind_left Pacs008 s a b c d g h e = absurd (false≢true (sym g ∙ e))
no_kind_left Pacs028 s a b c d g h e = absurd (false≢true (sym h ∙ e))

kind_of_name : (k : Kind) (s : List ℕ) → is_name_of k s ≡ true → kind_named s ≡ Some k
kind_of_name k s e =
    some_name _ Camt029 k s _ refl e (λ a.
    some_name _ Camt056 k s _ refl e (λ b.
    some_name _ Pacs002 k s _ refl e (λ c.
    some_name _ Pacs004 k s _ refl e (λ d.
    some_name _ Pacs008 k s _ refl e (λ g.
    some_name _ Pacs028 k s _ refl e (λ h.
    no_kind_left k s a b c d g h e))))))

kind_held : (d : Data) (m : Draft) → HoldsHead d (head_of m) → is_name_of (kind_of m) (head_of m).message_name ≡ true → kind_in d ≡ Some (kind_of m)
kind_held d m h named =
    let name : Holds written_identification key.MsgNmId d (head_of m).message_name = h.message_name in
    ap (λ (o : Option Data). option_and_then kind_named (option_and_then as_str o)) name.1
    ∙ kind_of_name (kind_of m) name.0 (subst (λ (s : List ℕ). is_name_of (kind_of m) s ≡ true) (sym (kept_as_read _ _ name.2)) named)

same_kind : (j k : Kind) → ◌≡◌ {A = Option Kind} (Some j) (Some k) → j ≡ k
same_kind j k e = cc

passes_at : (b : Bool) (p : Kind → Bool) (j k : Kind) (later : Option Kind) → p j ≡ b → cond b (Some j) later ≡ Some k → (later ≡ Some k → p k ≡ true) → p k ≡ true
passes_at true p j k later passes h next = subst (λ (i : Kind). p i ≡ true) (same_kind j k h) passes
passes_at false p j k later fails h next = next h

found_passes : (p : Kind → Bool) (ks : List Kind) (k : Kind) → find p ks ≡ Some k → p k ≡ true
found_passes p [] k h = cc
found_passes p (j ∷ ks) k h = passes_at (p j) p j k (find p ks) refl h (found_passes p ks k)

-- the text at MsgNmId is a name of the kind that it names, and is the element
pub named_as_its_kind : (d : Data) (m : Draft) → HoldsElements d m → kind_in d ≡ Some (kind_of m) → is_name_of (kind_of m) (head_of m).message_name ≡ true
named_as_its_kind d m elements at =
    let name : Holds written_identification key.MsgNmId d (head_of m).message_name = (holds_its_head d m elements).message_name in
    let named : kind_named name.0 ≡ Some (kind_of m) = sym (ap (λ (o : Option Data). option_and_then kind_named (option_and_then as_str o)) name.1) ∙ at in
    subst (λ (s : List ℕ). is_name_of (kind_of m) s ≡ true) (kept_as_read _ _ name.2) (found_passes (λ k. is_name_of k name.0) kinds (kind_of m) named)

-- ---- the rules

follows_none : (o : Option RuleFault) (m n : Draft) → follows_unless o m ≡ Ok n → (o ≡ None) × (m ≡ n)
follows_none None m n e = (refl, cc)
follows_none (Some broken) m n e = cc

-- ---- the whole

abbrev pub RulesAreKnown : Type 0
RulesAreKnown = (m : Draft) → (first_broken_rule m ≡ None) ↔ FollowsRules m

read_is_form : RulesAreKnown → (d : Data) (m : Draft) → object_in d ≡ Ok m → IsFormOf d m
unfolding object_in
read_is_form rules d m e0 =
    bind_then (ok_or (as_object d) fault.NotObject) _ _ e0 (λ ms r1 e1. bind_then (ok_or (kind_in d) fault.UnknownKind) _ _ e1 (λ kind r2 e2.
    bind_then (draft_in kind d) _ _ e2 (λ n r3 e3. bind_then (passes_unless (first_extra (shape_in kind d) ms)) _ _ e3 (λ t r4 e4.
    let last : (first_broken_rule n ≡ None) × (n ≡ m) = follows_none _ _ _ e4 in
    let drafted : (kind ≡ kind_of n) × HoldsElements d n = draft_holds kind d n r3 in
    let only : list_all (is_key_in (shape_in kind d)) (names_of ms) ≡ true = all_pass (is_key_in (shape_in kind d)) (names_of ms) (passes_none _ t r4) in
    subst (λ (n : Draft). IsFormOf d n) last.1 (record {
      keys = (ms, is_object d ms (ok_or_ok _ _ _ r1), subst (λ (k : Kind). list_all (is_key_in (shape_in k d)) (names_of ms) ≡ true) drafted.0 only);
      elements = drafted.1;
      rules = (rules n).0 last.0;
    })))))

kept_rule : (b : Bool) (broken : RuleFault) (later : Option RuleFault) → cond (not b) (Some broken) later ≡ None → b ≡ true
kept_rule true broken later e = refl
kept_rule false broken later e = cc

names_its_kind : (m : Draft) → first_broken_rule m ≡ None → is_name_of (kind_of m) (head_of m).message_name ≡ true
unfolding first_broken_rule
names_its_kind m e = kept_rule _ _ _ e

-- an object that holds the elements of a message, and has no other keys, is read as the message
pub held_is_read : (d : Data) (m : Draft) → HasKeysOf (kind_of m) d → HoldsElements d m → first_broken_rule m ≡ None → object_in d ≡ Ok m
unfolding object_in
held_is_read d m keys elements rules =
    bind_from _ _ keys.0 _ (ap (λ (o : Option Members). ok_or o fault.NotObject) (ap as_object keys.1))
    (bind_from _ _ (kind_of m) _ (ap (λ (o : Option Kind). ok_or o fault.UnknownKind) (kind_held d m (holds_its_head d m elements) (names_its_kind m rules)))
    (bind_from _ _ m _ (holds_draft d m elements)
    (bind_from _ _ tt _ (ap passes_unless (none_fails (is_key_in (shape_in (kind_of m) d)) (names_of keys.0) keys.2))
    (ap (λ (o : Option RuleFault). follows_unless o m) rules))))

form_is_read : RulesAreKnown → (d : Data) (m : Draft) → IsFormOf d m → object_in d ≡ Ok m
form_is_read rules d m h = held_is_read d m h.keys h.elements ((rules m).1 h.rules)

pub forms_read : RulesAreKnown → (d : Data) (m : Draft) → (object_in d ≡ Ok m) ↔ IsFormOf d m
forms_read rules d m = (read_is_form rules d m, form_is_read rules d m)

pub one_message : RulesAreKnown → (d : Data) (m n : Draft) → IsFormOf d m → IsFormOf d n → m ≡ n
one_message rules d m n h k = ok_same _ _ (sym (form_is_read rules d m h) ∙ form_is_read rules d n k)
