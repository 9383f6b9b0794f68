-- A recall message as it is shown follows the rules of its kind. Proof plumbing.
use Rattle.std.proofs.Common.{◌≡◌, ◌∙◌, refl, sym, ℕ, ◌≤◌, Bool, true, false, not, List, [], ◌∷◌, filter, map, length, None, Some, arith}
use Rattle.std.specs.Prelude.{codes, if◌then◌else◌}
use Rattle.std.specs.List.{list_all, list_any}
use Rattle.std.proofs.lemmas.Bool.Decides.{nat_tests}
use Rattle.sct_element.specs.Text.{is_text}
use Rattle.sct_message.specs.Kinds.{is_name_of}
use Rattle.sct_message.specs.Recalls.{Recalls, have_same_recall, transfer_in}
use Rattle.sct_message.specs.Rules.{broken_first, broken_by_transactions, broken_in_cancellation_request, first_broken_rule, is_right_count, repeats}
use Rattle.sct_message.specs.Sets.{MessageSet}
use Rattle.sct_message.specs.Transfers.{is_on}
use Rattle.sct_message.specs.declared.draft.Draft.{Draft}
use Rattle.sct_message.specs.declared.draft.Draft.TheVariants.{CancellationRequest}
use Rattle.sct_message.specs.declared.draft.RecallTx.{RecallTx}
use Rattle.sct_message.specs.declared.keys.TransferKey.{TransferKey}
use Rattle.sct_message.specs.declared.kinds.Kind.TheVariants.{Camt056, Pacs008}
use Rattle.sct_message.proofs.Members.{list_any-map}
use Rattle.sct_rights.specs.Rights.{is_one_of, is_theirs}
use Rattle.sct_rights.specs.Shown.{shown_to}
use Rattle.sct_rights.specs.Laws.{ShownMessagesFollowTheRules}
use Rattle.sct_message.specs.declared.draft.Original.{Original}
use Rattle.sct_message.specs.declared.rules.RuleFault.TheVariants.{RepeatedRecall, WrongCount, WrongCurrency, WrongName, WrongOriginalName}
use Rattle.sct_rights.proofs.TruthLemmas.{Some≢None}
use Rattle.sct_rights.proofs.VisibleLemmas.{on_theirs}

module _ (p : RecallTx → Bool) where
  all_kept : (q : RecallTx → Bool) (txs : List RecallTx) → list_all q txs ≡ true → list_all q (filter p txs) ≡ true
  all_kept q [] e = refl
  all_kept q (tx ∷ txs) e = grind (arith, e, all_kept q txs)

  any_kept : (q : RecallTx → Bool) (txs : List RecallTx) → list_any q txs ≡ false → list_any q (filter p txs) ≡ false
  any_kept q [] e = refl
  any_kept q (tx ∷ txs) e = grind (arith, e, any_kept q txs)

  repeats_kept : (txs : List RecallTx) → repeats txs ≡ false → repeats (filter p txs) ≡ false
  repeats_kept [] e = refl
  repeats_kept (tx ∷ txs) e = grind (arith, e, any_kept (have_same_recall tx) txs, repeats_kept txs)

  fewer : (txs : List RecallTx) → length (filter p txs) ≤ length txs
  fewer [] = omega arith
  fewer (tx ∷ txs) = grind (arith, fewer txs)

  some_left : (txs : List RecallTx) → list_any p txs ≡ true → 1 ≤ length (filter p txs)
  some_left [] e = grind (arith, e)
  some_left (tx ∷ txs) e = grind (arith, e, some_left txs)

all_mapped : {X Y : Type 0} (q : Y → Bool) (f : X → Y) (xs : List X) → list_all q (map f xs) ≡ list_all (λ x. q (f x)) xs
all_mapped q f [] = refl
all_mapped q f (x ∷ xs) = grind (arith, all_mapped q f xs)

abbrev in_euro : RecallTx → Bool
in_euro tx = is_text tx.currency (codes "EUR")

abbrev names_it : RecallTx → Bool
names_it tx = is_name_of Pacs008 tx.original.message_name

pub record FollowsAll (d : Recalls) : Type 0 where
  pub name : is_name_of Camt056 d.head.message_name ≡ true
  pub euro : list_all in_euro d.txs ≡ true
  pub names : list_all names_it d.txs ≡ true
  pub once : repeats d.txs ≡ false
  pub count : is_right_count (length d.txs) ≡ true

-- a draft that breaks none of five rules follows them all
each_holds : (n e o r c : Bool)
    → (if not n then Some WrongName else broken_first (if not e then Some WrongCurrency else None) (if not o then Some WrongOriginalName else (if r then Some RepeatedRecall else (if not c then Some WrongCount else None)))) ≡ None
    → (n ≡ true) × (e ≡ true) × (o ≡ true) × (r ≡ false) × (c ≡ true)
each_holds false e o r c h = absurd (Some≢None _ h)
each_holds true false o r c h = absurd (Some≢None _ h)
each_holds true true false r c h = absurd (Some≢None _ h)
each_holds true true true true c h = absurd (Some≢None _ h)
each_holds true true true false false h = absurd (Some≢None _ h)
each_holds true true true false true h = (refl, refl, refl, refl, refl)

follows : (d : Recalls) → first_broken_rule (CancellationRequest d) ≡ None → FollowsAll d
unfolding first_broken_rule broken_in_cancellation_request broken_by_transactions
follows d e =
    let names = λ (o : Original). is_name_of Pacs008 o.message_name in
    let each = each_holds (is_name_of Camt056 d.head.message_name) (list_all in_euro d.txs) (list_all names (map (λ tx. tx.original) d.txs)) (repeats d.txs) (is_right_count (length d.txs)) e in
    record {
      name = each.0;
      euro = each.1;
      names = sym (all_mapped names (λ tx. tx.original) d.txs) ∙ each.2;
      once = each.3;
      count = each.4;
    }

unbroken : (d : Recalls) → FollowsAll d → first_broken_rule (CancellationRequest d) ≡ None
unfolding first_broken_rule broken_in_cancellation_request broken_by_transactions
unbroken d all = grind (arith, all.name, all.euro, all_mapped (λ o. is_name_of Pacs008 o.message_name) (λ tx. tx.original) d.txs ∙ all.names, all.once, all.count)

module _ (banks : List (List ℕ)) (s : MessageSet) where
  kept_follows : (d : Recalls) → FollowsAll d → list_any (λ tx. is_theirs banks s (transfer_in tx)) d.txs ≡ true
      → FollowsAll (record { head = d.head; txs = filter (λ tx. is_theirs banks s (transfer_in tx)) d.txs })
  kept_follows d all some =
      let p = λ (tx : RecallTx). is_theirs banks s (transfer_in tx) in
      record {
        name = all.name;
        euro = all_kept p in_euro d.txs all.euro;
        names = all_kept p names_it d.txs all.names;
        once = repeats_kept p d.txs all.once;
        count = grind (arith, nat_tests, all.count, fewer p d.txs, some_left p d.txs some);
      }

  pub shown_follows : (t : TransferKey) → is_theirs banks s t ≡ true → (m : Draft) → is_on t m ≡ true → first_broken_rule m ≡ None
      → first_broken_rule (shown_to banks s m) ≡ None
  shown_follows t theirs (CancellationRequest d) on e =
      let some = sym (list_any-map (is_theirs banks s) transfer_in d.txs) ∙ on_theirs banks s t (CancellationRequest d) theirs on in
      elim (is_one_of banks d.head.instructing_agent)
      as (λ b. first_broken_rule (CancellationRequest (record { head = d.head; txs = if b then d.txs else filter (λ tx. is_theirs banks s (transfer_in tx)) d.txs })) ≡ None) [
        | true ↦ e
        | false ↦ unbroken _ (kept_follows d (follows d e) some)
      ]
  shown_follows t theirs other on e = e

pub shown_are_messages : ShownMessagesFollowTheRules
shown_are_messages banks held transfer m theirs on e = shown_follows banks held transfer theirs m on e
