-- Where the transfers of a set stand: none is unknown, and one that was accepted has one instruction. Proof plumbing.
use Rattle.std.proofs.Common.{◌≡◌, Bool, true, false, not, ◌||◌, List, [], ◌∷◌, length, map, refl, sym, ◌∙◌, Option, Some, filter, arith, length-append}
use Rattle.std.specs.FinSet as set
use Rattle.std.specs.Prelude.{◌==◌, nat_lt}
use Rattle.std.specs.List.{flat_map, list_all, list_any}
use Rattle.std.proofs.lemmas.Bool.Decides.{nat_tests}
use Rattle.sct_message.specs.Keys.{identity_of}
use Rattle.sct_message.specs.OrderLaws.{identity_total, identities_same, message_total, message_same}
use Rattle.sct_message.specs.Sets.{MessageSet, clean_messages, contradicted_messages, in_order, is_contradicted}
use Rattle.sct_message.specs.Transfers.{asides_of, instruction_of, is_instruction, is_on, messages_on, sole}
use Rattle.sct_message.specs.declared.draft.Draft.{Draft}
use Rattle.sct_message.specs.declared.draft.Draft.TheVariants.{CreditTransfer}
use Rattle.sct_message.specs.declared.keys.Identity.{Identity}
use Rattle.sct_message.specs.declared.keys.TransferKey.{TransferKey}
use Rattle.sct_message.proofs.AscendingLemmas.{any_ascending}
use Rattle.sct_message.proofs.Members.{list_any-map}
use Rattle.sct_case.specs.declared.finding.Finding.{Finding}
use Rattle.sct_case.specs.Said.{instructions_by}
use Rattle.sct_case.specs.Statuses.{Standing, Unknown, Returned, Accepted, is_unknown, transfer_status_of}
use Rattle.sct_case.specs.Told.{findings_of, findings_of_instruction, has_some, has_two_instructions}
use Rattle.sct_view.specs.Answers.{status_of}

-- ---- lists that are not empty

not_empty : {X : Type 0} (xs : List X) → not (length xs == 0) ≡ list_any (λ x. true) xs
not_empty [] = refl
not_empty (x ∷ xs) = grind (arith, nat_tests)

-- one passes the test, so that those that pass it are not none
pub some_left : {X : Type 0} (p : X → Bool) (xs : List X) → not (length (filter p xs) == 0) ≡ list_any p xs
some_left p [] = refl
some_left p (x ∷ xs) = grind (arith, nat_tests, some_left p xs)

-- what passes a test passes another one, or does not
pub split : {X : Type 0} (p q : X → Bool) (xs : List X)
    → list_any p xs ≡ (list_any p (filter q xs) || list_any p (filter (λ x. not (q x)) xs))
split p q [] = refl
split p q (x ∷ xs) = grind (arith, split p q xs)

-- ---- no key of a set is unknown

abbrev pub is_known : Standing → Bool
is_known Unknown = false
is_known other = true

status_known : (t : TransferKey) (clean : List Draft) (asides : List Identity) → is_unknown clean asides ≡ false
    → is_known (transfer_status_of t clean asides) ≡ true
unfolding transfer_status_of
status_known t clean asides e = grind arith

asides_there : (held : MessageSet) (t : TransferKey) → not (length (asides_of held t) == 0) ≡ list_any (is_on t) (contradicted_messages held)
asides_there held t =
    let on_it = filter (is_on t) (contradicted_messages held) in
    not_empty (asides_of held t)
    ∙ any_ascending identity_total identities_same (λ i. true) (map identity_of on_it)
    ∙ list_any-map (λ i. true) identity_of on_it
    ∙ sym (not_empty on_it)
    ∙ some_left (is_on t) (contradicted_messages held)

-- a transfer of which the set has a message is not unknown
pub key_known : (held : MessageSet) (t : TransferKey) → list_any (is_on t) (set.items held) ≡ true → is_known (status_of held t) ≡ true
unfolding status_of
key_known held t h =
    status_known t (messages_on held t) (asides_of held t)
    (grind (arith, asides_there held t, some_left (is_on t) (clean_messages held), split (is_on t) (is_contradicted held) (in_order held), any_ascending message_total message_same (is_on t) (set.items held)))

-- ---- what was accepted has one instruction

-- accepted, whether or not money comes back
abbrev pub is_settled : Standing → Bool
is_settled (Returned amount) = true
is_settled Accepted = true
is_settled other = false

abbrev pub is_instructed : Option Draft → Bool
is_instructed (Some (CreditTransfer d)) = true
is_instructed other = false

one_instruction : (t : TransferKey) (clean : List Draft) (asides : List Identity) → has_some (findings_of t clean asides) ≡ false
    → has_two_instructions clean ≡ false
unfolding findings_of findings_of_instruction
one_instruction t clean asides h = grind (arith, nat_tests, length-append {A = Finding})

-- a message instructs by one amount, or it is no instruction
as_often : (clean : List Draft) → length (flat_map instructions_by clean) ≡ length (filter is_instruction clean)
as_often [] = refl
as_often (m ∷ ms) = grind (arith, as_often ms)

all_pass : {X : Type 0} (p : X → Bool) (xs : List X) → list_all p (filter p xs) ≡ true
all_pass p [] = refl
all_pass p (x ∷ xs) = grind (arith, all_pass p xs)

just_one : (ms : List Draft) → list_all is_instruction ms ≡ true → not (length ms == 0) ≡ true → nat_lt 1 (length ms) ≡ false
    → is_instructed (sole ms) ≡ true
just_one ms all some h = grind (arith, nat_tests)

instructed_where : (t : TransferKey) (clean : List Draft) (asides : List Identity)
    → is_settled (transfer_status_of t clean asides) ≡ true → is_instructed (sole (filter is_instruction clean)) ≡ true
unfolding transfer_status_of
instructed_where t clean asides h =
    grind (arith, nat_tests, one_instruction t clean asides, as_often clean, just_one (filter is_instruction clean) (all_pass is_instruction clean))

-- a transfer that was accepted has an instruction
pub settled_instructed : (held : MessageSet) (t : TransferKey) → is_settled (status_of held t) ≡ true → is_instructed (instruction_of held t) ≡ true
unfolding status_of
settled_instructed held t h = instructed_where t (messages_on held t) (asides_of held t) h
