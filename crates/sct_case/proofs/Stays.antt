-- A contradiction stays in every larger set; and if there is none, messages say one thing.
use Rattle.std.proofs.Common.{◌≡◌, ◌∙◌, refl, sym, ap, subst, true, not, Bool, List, [], ◌∷◌, map, filter}
use Rattle.std.specs.FinSet as set
use Rattle.std.specs.FinSet.{contains-items}
use Rattle.std.specs.Prelude.{◌≢◌, Contains}
use Rattle.std.specs.Bool.{Decides}
use Rattle.std.specs.List.Sorted.{IsStrictlySortedBy}
use Rattle.std.specs.declared.cmp.Ordering.TheVariants.{Less, Equal}
use Rattle.std.specs.Cmp.{tied_itself}
use Rattle.std.proofs.lemmas.Bool.{false_from_ne_true, false≢true, not_from_false, not-true}
use Rattle.std.proofs.lemmas.Bool.Decides.{Decides-and, Decides-not}
use Rattle.std.proofs.lemmas.List.Elements.{All-contains, All-from_recursion}
use Rattle.std.proofs.lemmas.List.Kept.{IsStrictlySortedBy-filter}
use Rattle.std.proofs.lemmas.Map.Views.{Contains-from_any}
use Rattle.sct_message.specs.Keys.{identity_of}
use Rattle.sct_message.specs.Order.{message_order, same_message}
use Rattle.sct_message.specs.OrderLaws.{message_total, message_same, identity_total, identities_same}
use Rattle.sct_message.specs.Sets.{MessageSet, in_order, is_contradicted, clean_messages, contradicted_messages}
use Rattle.sct_message.specs.Transfers.{is_on, messages_on, asides_of}
use Rattle.sct_message.specs.declared.draft.Draft.{Draft}
use Rattle.sct_message.specs.declared.keys.Identity.{Identity}
use Rattle.sct_message.specs.declared.keys.TransferKey.{TransferKey}
use Rattle.sct_message.proofs.AscendingLemmas.{ascending_rises}
use Rattle.sct_message.proofs.Members.{tie_is}
use Rattle.sct_case.specs.declared.finding.Finding.{Finding}
use Rattle.sct_case.specs.declared.finding.Finding.TheVariants as finding
use Rattle.sct_case.specs.Said.{IsSaid}
use Rattle.sct_case.specs.Findings.{IsFound, IsSoleInstruction}
use Rattle.sct_case.specs.Told.{findings_of}
use Rattle.sct_case.specs.Laws.{HaveDistinctIdentities, findings_in, ContradictionsStay, MessagesAreApart, ConsistentSayOneThing}
use Rattle.sct_case.proofs.Membership.{empty, nothing, here, later, in_map, mapped_in, in_filter, filtered_in, any-Decides, any_tie, ties-Decides, equal_unless, in_ascending, ascending_in}
use Rattle.sct_case.proofs.Same.{reason-Decides, return-Decides, refusal-Decides}
use Rattle.sct_case.proofs.Exact.{told_is_found, found_is_told}

-- ---- the messages of a set

pub in_items : (held : MessageSet) (m : Draft) → set.contains held m ≡ true → Contains (set.items held) m
in_items held m h = Contains-from_any (tie_is message_total message_same) m (set.items held) (sym (contains-items held m) ∙ h)

pub held_from : (held : MessageSet) (m : Draft) → Contains (set.items held) m → set.contains held m ≡ true
held_from held m h = contains-items held m ∙ any_tie message_total message_same (set.items held) m h

message-Decides : (m n : Draft) → Decides (same_message m n) (m ≡ n)
message-Decides = ties-Decides message_total message_same

contradicted-Decides : (held : MessageSet) (m : Draft) → Decides (is_contradicted held m) ((other : Draft) × Contains (set.items held) other × ((identity_of other ≡ identity_of m) × (other ≢ m)))
contradicted-Decides held m = any-Decides _ (λ x. (identity_of x ≡ identity_of m) × (x ≢ m))
    (λ x. Decides-and _ _ (ties-Decides identity_total identities_same (identity_of x) (identity_of m)) (Decides-not _ (message-Decides x m))) (set.items held)

-- the messages on a transfer that pass a test
module _ (held : MessageSet) (t : TransferKey) (p : Draft → Bool) where
  in_passed : (m : Draft) → Contains (filter (is_on t) (filter p (in_order held))) m → Contains (set.items held) m × (p m ≡ true) × (is_on t m ≡ true)
  in_passed m h =
      let outer = in_filter (is_on t) (filter p (in_order held)) m h in
      let inner = in_filter p (in_order held) m outer.0 in
      (in_ascending message_total message_same (set.items held) m inner.0, inner.1, outer.1)

  passed_in : (m : Draft) → Contains (set.items held) m → p m ≡ true → is_on t m ≡ true → Contains (filter (is_on t) (filter p (in_order held))) m
  passed_in m h passes on =
      filtered_in (is_on t) (filter p (in_order held)) m
      (filtered_in p (in_order held) m (ascending_in message_total message_same (set.items held) m h) passes) on

is_aside : (held : MessageSet) (t : TransferKey) (m : Draft) → Contains (set.items held) m → is_contradicted held m ≡ true → is_on t m ≡ true → Contains (asides_of held t) (identity_of m)
is_aside held t m h c on =
    ascending_in identity_total identities_same (map identity_of (filter (is_on t) (contradicted_messages held))) (identity_of m)
    (mapped_in identity_of (filter (is_on t) (contradicted_messages held)) m (passed_in held t (λ x. is_contradicted held x) m h c on))

apart_of : (xs : List Draft) → IsStrictlySortedBy message_order xs → ((m n : Draft) → Contains xs m → Contains xs n → identity_of m ≡ identity_of n → m ≡ n) → HaveDistinctIdentities xs
unfolding IsStrictlySortedBy
apart_of [] h same = tt
apart_of (m ∷ ms) h same = (
  (λ n k e.
      let less : message_order m n ≡ Less = All-contains (λ y. message_order m y ≡ Less) ms n (All-from_recursion (λ y. message_order m y ≡ Less) ms h.0) k in
      let one : m ≡ n = same m n (here m ms) (later m ms n k) e in
      let both : message_order m m ≡ Less = ap (message_order m) one ∙ less in
      let tied : message_order m m ≡ Equal = tied_itself message_total m in
      cc),
  apart_of ms h.1 (λ a b i j. same a b (later m ms a i) (later m ms b j)),
)

pub messages_apart : MessagesAreApart
messages_apart held t =
    apart_of (messages_on held t)
    (IsStrictlySortedBy-filter message_order (is_on t) (clean_messages held)
    (IsStrictlySortedBy-filter message_order (λ x. not (is_contradicted held x)) (in_order held) (ascending_rises message_total message_same (set.items held))))
    (λ m n i j e.
    let a = in_passed held t _ m i in
    let b = in_passed held t _ n j in
    equal_unless _ (message-Decides m n) (λ differ. false≢true (sym (not-true _ b.1) ∙ (contradicted-Decides held n).1 (m, a.0, (e, differ)))))

-- ---- what is found stays found

module _ {on larger : List Draft} (more : (m : Draft) → Contains on m → Contains larger m) where
  pub moved : {X : Type 0} {by : Draft → List X} {x : X} → IsSaid by on x → IsSaid by larger x
  moved s = record { message = s.message; held = more s.message s.held; says = s.says }

  module _ (t : TransferKey) (asides more_asides : List Identity)
      (aside : (i : Identity) → Contains asides i → Contains more_asides i) (sole : (m : Draft) → IsSoleInstruction on m → IsSoleInstruction larger m) where
    pub still : (f : Finding) → IsFound t on asides f → IsFound t larger more_asides f
    still (finding.Identity i) h = aside i h
    still finding.TwoInstructions h =
        record { one = h.one; other = h.other; one_held = more h.one h.one_held; other_held = more h.other h.other_held; one_instructs = h.one_instructs; other_instructs = h.other_instructs; different = h.different }
    still finding.BothConfirmed h =
        record { acceptance = h.acceptance; held = more h.acceptance h.held; accepts = h.accepts; reason = h.reason; rejected = moved h.rejected }
    still finding.ReasonsDiffer h =
        record { one = h.one; other = h.other; one_given = moved h.one_given; other_given = moved h.other_given; different = h.different }
    still finding.AmountDiffers h =
        record { instruction = h.instruction; sole = sole h.instruction h.sole; instructed = h.instructed; of_instruction = h.of_instruction; named = h.named; is_named = moved h.is_named; different = h.different }
    still (finding.RecallsDiffer c) h =
        record { one = h.one; other = h.other; one_made = moved h.one_made; other_made = moved h.other_made; one_of_it = h.one_of_it; other_of_it = h.other_of_it; different = h.different }
    still (finding.BothAnswers c) h =
        record { refusal = h.refusal; return = h.return; refused = moved h.refused; returned = moved h.returned; refusal_of_it = h.refusal_of_it; return_of_it = h.return_of_it }
    still (finding.RefusalsDiffer c) h =
        record { one = h.one; other = h.other; one_made = moved h.one_made; other_made = moved h.other_made; one_of_it = h.one_of_it; other_of_it = h.other_of_it; different = h.different }
    still finding.TwoReturns h =
        record { one = h.one; other = h.other; one_made = moved h.one_made; other_made = moved h.other_made; different = h.different }
    still finding.ReturnOfRejected h =
        record { return = h.return; returned = moved h.returned; reason = h.reason; rejected = moved h.rejected }

not_found : (t : TransferKey) (clean : List Draft) (asides : List Identity) → HaveDistinctIdentities clean → findings_of t clean asides ≡ [] → (f : Finding) → IsFound t clean asides f → ⊥
not_found t clean asides apart none f h = nothing f (subst (λ fs. Contains fs f) none (found_is_told t clean asides apart f h))

pub contradictions_stay : ContradictionsStay
contradictions_stay held larger t within found none =
    let no = not_found t (messages_on larger t) (asides_of larger t) (messages_apart larger t) none in
    let items : (m : Draft) → Contains (set.items held) m → Contains (set.items larger) m = λ m h. in_items larger m (within m (held_from held m h)) in
    let aside : (i : Identity) → Contains (asides_of held t) i → Contains (asides_of larger t) i =
    λ i h.
    let r = in_map identity_of (filter (is_on t) (contradicted_messages held)) i (in_ascending identity_total identities_same _ i h) in
    let a = in_passed held t (λ x. is_contradicted held x) r.0 r.1 in
    let o = (contradicted-Decides held r.0).0 a.1 in
    subst (Contains (asides_of larger t)) r.2 (is_aside larger t r.0 (items r.0 a.0) ((contradicted-Decides larger r.0).1 (o.0, items o.0 o.1, o.2)) a.2) in
    let more : (m : Draft) → Contains (messages_on held t) m → Contains (messages_on larger t) m =
    λ m h.
    let on = in_passed held t _ m h in
    passed_in larger t (λ x. not (is_contradicted larger x)) m (items m on.0)
    (not_from_false _ (false_from_ne_true _ (λ c. no (finding.Identity (identity_of m)) (is_aside larger t m (items m on.0) c on.2)))) on.2 in
    let sole : (m : Draft) → IsSoleInstruction (messages_on held t) m → IsSoleInstruction (messages_on larger t) m =
    λ m s. record {
      held = more m s.held;
      instructs = s.instructs;
      sole = λ other k i. equal_unless _ (message-Decides other m)
          (λ differ. no finding.TwoInstructions (record { one = other; other = m; one_held = k; other_held = more m s.held; one_instructs = i; other_instructs = s.instructs; different = differ }));
    } in
    found (empty (findings_in held t) (λ f h. no f (still more t (asides_of held t) (asides_of larger t) aside sole f
    (told_is_found t (messages_on held t) (asides_of held t) (messages_apart held t) f h))))

-- ---- if nothing is found

pub consistent_say_one_thing : ConsistentSayOneThing
consistent_say_one_thing t clean asides apart none =
    let no = not_found t clean asides apart none in
    record {
      rejections = λ one other a b. equal_unless _ (reason-Decides one other) (λ differ. no finding.ReasonsDiffer (record { one = one; other = other; one_given = a; other_given = b; different = differ }));
      returns = λ one other a b. equal_unless _ (return-Decides one other) (λ differ. no finding.TwoReturns (record { one = one; other = other; one_made = a; other_made = b; different = differ }));
      refusals = λ one other a b e. equal_unless _ (refusal-Decides one other)
          (λ differ. no (finding.RefusalsDiffer other.cxl) (record { one = one; other = other; one_made = a; other_made = b; one_of_it = e; other_of_it = refl; different = differ }));
    }
