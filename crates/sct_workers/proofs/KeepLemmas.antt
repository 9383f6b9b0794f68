-- What the receipts of takes, of publications and of deltas that are handed over say. Proof plumbing.
use Rattle.std.proofs.Common.{◌≡◌, ◌∙◌, refl, ap, sym, subst, inl, inr, ℕ, zero, suc, ◌+◌, ◌≤◌, Bool, true, false, cond, not, ◌||◌, List, [], ◌∷◌, ◌++◌, filter, length, arith, length-append}
use Rattle.std.specs.FinSet as set
use Rattle.std.specs.FinSet.{contains-insert}
use Rattle.std.specs.Prelude.{Option, Some, None}
use Rattle.std.specs.List.{slice_get}
use Rattle.std.proofs.lemmas.Bool.{false≢true, or_cases, or_right}
use Rattle.std.proofs.lemmas.Option.{slice_get_within}
use Rattle.std.proofs.lemmas.Map.Keys.{any_passes_from_place}
use Rattle.logbook.specs.Pages.{Book}
use Rattle.sct_message.specs.declared.draft.Draft.{Draft}
use Rattle.sct_message.specs.Order.{same_message}
use Rattle.sct_message.specs.OrderLaws.{message_total}
use Rattle.sct_message.specs.Sets.{MessageSet}
use Rattle.sct_set.specs.Contents.{contents_of}
use Rattle.sct_set.proofs.ContentsLemmas.{contains-contents_of, same_itself, same_message-is}
use Rattle.sct_delta.specs.Entries.{Placed, IsDelta, holds, messages_of, same_entry}
use Rattle.sct_delta.specs.Laws.{IsFitting}
use Rattle.sct_delta.specs.Refusals.{is_held, vector_of}
use Rattle.sct_delta.specs.declared.fault.DeltaFault.{DeltaFault}
use Rattle.sct_delta.proofs.FittingLemmas.{refused_where_it_does_not_fit}
use Rattle.sct_delta.proofs.HeldLemmas.{entry_itself, one_entry}
use Rattle.sct_site.specs.Cores.{Core, arrivals_joined, arrivals_taken, fresh_entries, is_repeat, logs_of, own_entry, refusal_by, took_by}
use Rattle.sct_site.specs.declared.answers.Accepted.{Accepted}
use Rattle.sct_site.specs.declared.answers.Took.{Took}
use Rattle.sct_site.proofs.TakeLemmas.{arrivals-held, arrivals-new, messages-push, took-held, took-new}
use Rattle.sct_desk.specs.Locked.{answer_for, answer_to_delta, arrivals_for, arrivals_handed, came_by_delta, came_by_take}
use Rattle.std.specs.Prelude.{Result}
use Rattle.sct_desk.specs.Passes.{IsOf, Told, site_with}
use Rattle.sct_workers.specs.Kept.{Keeps, MayCome, shows}

-- ---- receipts of more messages

-- a receipt that may be kept where a site takes some messages may be kept where it takes more
pub keeps_more : (book : Book) (own size : ℕ) (small big : MessageSet) (r : Told)
    → ((m : Draft) → set.contains small m ≡ true → set.contains big m ≡ true)
    → Keeps book own size small r → Keeps book own size big r
keeps_more book own size small big r more kept = record {
  of_desk = kept.of_desk;
  first = kept.first;
  last = kept.last;
  adds = λ at e from is.
      let came : MayCome own size small e = kept.adds at e from is in
      record { own_of = λ mine. more e.message (came.own_of mine); other_of = came.other_of };
}

-- ---- what a call published

-- a call that published nothing
pub none_keeps : (book : Book) (own size : ℕ) (held : MessageSet) (r : Told) → IsOf book own r → 1 ≤ r.from
    → r.from + r.count ≡ length r.shown + 1 → r.count ≡ 0 → Keeps book own size held r
none_keeps book own size held r of first last none = record {
  of_desk = of;
  first = first;
  last = last;
  adds = λ at e from is. absurd (omega (arith, slice_get_within r.shown at e is, from, last, none));
}

-- what stands at a place behind some entries is one of the others
behind : (es new : List Placed) (at : ℕ) (e : Placed) → length es ≤ at → slice_get (es ++ new) at ≡ Some e → holds new e ≡ true
behind [] new at e past is = any_passes_from_place (λ x. same_entry x e) new at e is (entry_itself e)
behind (x ∷ es) new zero e past is = absurd (omega (arith, past))
behind (x ∷ es) new (suc at) e past is = behind es new at e (omega (arith, past)) is

-- a call that published these entries, each of which may come
some_keep : (book : Book) (own size : ℕ) (held : MessageSet) (r : Told) (es new : List Placed) → IsOf book own r → 1 ≤ r.from
    → r.from + r.count ≡ length r.shown + 1 → r.count ≡ length new → r.shown ≡ es ++ new
    → ((e : Placed) → holds new e ≡ true → MayCome own size held e) → Keeps book own size held r
some_keep book own size held r es new of first last count shown each = record {
  of_desk = of;
  first = first;
  last = last;
  adds = λ at e from is.
      let past : length es ≤ at = omega (arith, from, last, count, ap length shown, length-append es new) in
      each e (behind es new at e past (ap (λ (l : List Placed). slice_get l at) (sym shown) ∙ is));
}

-- ---- takes

-- an own entry with the message of a take
own_comes : (own size : ℕ) (m : Draft) (mine e : Placed) → mine.origin ≡ own → mine.message ≡ m → holds (mine ∷ []) e ≡ true
    → MayCome own size (contents_of (m ∷ [])) e
own_comes own size m mine e origin message among =
    let same : mine ≡ e = one_entry mine e (elim (same_entry mine e) as (λ b. (b || false) ≡ true → b ≡ true) [ true ↦ λ f. refl | false ↦ λ f. f ] among) in
    let has : m ≡ e.message = sym message ∙ ap (λ (x : Placed). x.message) same in
    record {
      own_of = λ _. contains-contents_of (m ∷ []) e.message ∙ ap (λ (b : Bool). b || false) (ap (λ (d : Draft). same_message d e.message) has ∙ same_itself e.message);
      other_of = λ other. absurd (other (sym (ap (λ (x : Placed). x.origin) same) ∙ origin));
    }

taken_cases : (book : Book) (own size : ℕ) (r : Told) (t : Took) (m : Draft) (es : List Placed) → IsOf book own r → 1 ≤ r.from
    → r.from + r.count ≡ length r.shown + 1 → r.count ≡ r.carried + came_by_take t → r.carried ≡ 0
    → t ≡ took_by (site_with own size es) m → r.shown ≡ arrivals_taken (site_with own size es) m
    → (b : Bool) → is_repeat (site_with own size es) m ≡ b → Keeps book own size (contents_of (m ∷ [])) r
taken_cases book own size r t m es of first last count carried answer shown true repeat =
    let none : came_by_take t ≡ 0 = ap came_by_take (answer ∙ sym (took-held (site_with own size es) m repeat)) in
    none_keeps book own size (contents_of (m ∷ [])) r of first last (omega (arith, count, carried, none))
taken_cases book own size r t m es of first last count carried answer shown false new =
    let core : Core = site_with own size es in
    let one : came_by_take t ≡ 1 = ap came_by_take (answer ∙ sym (took-new core m new _ refl)) in
    some_keep book own size (contents_of (m ∷ [])) r es (own_entry core m ∷ []) of first last (omega (arith, count, carried, one))
    (shown ∙ sym (arrivals-new core m new)) (λ e among. own_comes own size m (own_entry core m) e refl refl among)

pub taken_keeps : (book : Book) (own size : ℕ) (r : Told) (t : Took) (m : Draft) (es : List Placed) → IsOf book own r → 1 ≤ r.from
    → r.from + r.count ≡ length r.shown + 1 → r.count ≡ r.carried + came_by_take t → r.carried ≡ 0
    → t ≡ took_by (site_with own size es) m → r.shown ≡ arrivals_taken (site_with own size es) m
    → Keeps book own size (contents_of (m ∷ [])) r
taken_keeps book own size r t m es of first last count carried answer shown =
    taken_cases book own size r t m es of first last count carried answer shown (is_repeat (site_with own size es) m) refl

-- after a take the message is held
taken_holds : (core : Core) (m : Draft) (b : Bool) → is_repeat core m ≡ b → set.contains (messages_of (arrivals_taken core m)) m ≡ true
taken_holds core m true repeat = ap (λ (es : List Placed). set.contains (messages_of es) m) (sym (arrivals-held core m repeat)) ∙ repeat
taken_holds core m false new =
    ap (λ (es : List Placed). set.contains (messages_of es) m) (sym (arrivals-new core m new))
    ∙ ap (λ s. set.contains s m) (sym (messages-push core.arrivals (own_entry core m)))
    ∙ contains-insert message_total (messages_of core.arrivals) m m
    ∙ ap (λ (b : Bool). b || set.contains (messages_of core.arrivals) m) (sym (same_message-is m m) ∙ same_itself m)

pub taken_shows : (core : Core) (m : Draft) (r : Told) → r.shown ≡ arrivals_taken core m → shows m r ≡ true
taken_shows core m r shown =
    ap (λ (es : List Placed). set.contains (messages_of es) m) shown ∙ taken_holds core m (is_repeat core m) refl

-- ---- deltas

-- what a filter leaves stands in the list, and passes
kept_of : (p : Placed → Bool) (ds : List Placed) (e : Placed) → holds (filter p ds) e ≡ true → (holds ds e ≡ true) × (p e ≡ true)
kept_of p [] e among = absurd (false≢true among)
kept_of p (x ∷ ds) e among =
    elim (p x) as (λ b. p x ≡ b → holds (cond b (x ∷ filter p ds) (filter p ds)) e ≡ true → (holds (x ∷ ds) e ≡ true) × (p e ≡ true)) [
      | true ↦ λ passes held.
          elim (or_cases (same_entry x e) (holds (filter p ds) e) held) as (λ c. (holds (x ∷ ds) e ≡ true) × (p e ≡ true)) [
            | inl here ↦ (ap (λ (b : Bool). b || holds ds e) here, ap p (sym (one_entry x e here)) ∙ passes)
            | inr later ↦
                let rest = kept_of p ds e later in
                (ap (λ (b : Bool). same_entry x e || b) rest.0 ∙ or_right (same_entry x e) true refl, rest.1)
          ]
      | false ↦ λ _ held.
          let rest = kept_of p ds e held in
          (ap (λ (b : Bool). same_entry x e || b) rest.0 ∙ or_right (same_entry x e) true refl, rest.1)
    ] refl among

not_both : (b : Bool) → not b ≡ true → b ≡ true → ⊥
not_both true f e = false≢true f
not_both false f e = false≢true e

-- what comes with a delta that nothing refuses is of another site of the group
fresh_comes : (own size : ℕ) (held : MessageSet) (es ds : List Placed) → IsDelta ds → refusal_by (site_with own size es) ds ≡ None
    → (e : Placed) → holds (fresh_entries es ds) e ≡ true → MayCome own size held e
fresh_comes own size held es ds shape none e among =
    let fits : IsFitting own size (logs_of es) ds = (refused_where_it_does_not_fit own size (logs_of es) ds shape).0 none in
    let fresh : (holds ds e ≡ true) × (not (is_held (logs_of es) e) ≡ true) = kept_of (λ x. not (is_held (logs_of es) x)) ds e among in
    record {
      own_of = λ mine.
          let below : e.n ≤ vector_of (logs_of es) own = fits.known e fresh.0 mine in
          let known : e.n ≤ vector_of (logs_of es) e.origin = subst (λ (o : ℕ). e.n ≤ vector_of (logs_of es) o) (sym mine) below in
          absurd (not_both (is_held (logs_of es) e) fresh.1 (fits.no_fork e fresh.0 known));
      other_of = λ _. fits.inside e fresh.0;
    }

handed_cases : (book : Book) (own size : ℕ) (held : MessageSet) (r : Told) (es ds : List Placed) → IsDelta ds → IsOf book own r → 1 ≤ r.from
    → r.from + r.count ≡ length r.shown + 1 → (o : Option DeltaFault) → refusal_by (site_with own size es) ds ≡ o
    → r.count ≡ came_by_delta (answer_for o (length (fresh_entries es ds)))
    → r.shown ≡ arrivals_for o (arrivals_joined es ds) es
    → Keeps book own size held r
handed_cases book own size held r es ds shape of first last None none count shown =
    some_keep book own size held r es (fresh_entries es ds) of first last count shown (fresh_comes own size held es ds shape none)
handed_cases book own size held r es ds shape of first last (Some refusal) some count shown =
    none_keeps book own size held r of first last count

pub handed_keeps : (book : Book) (own size : ℕ) (held : MessageSet) (r : Told) (t : Result Accepted DeltaFault) (es ds : List Placed) → IsDelta ds
    → IsOf book own r → 1 ≤ r.from → r.from + r.count ≡ length r.shown + 1 → r.count ≡ r.carried + came_by_delta t → r.carried ≡ 0
    → t ≡ answer_to_delta (site_with own size es) ds → r.shown ≡ arrivals_handed (site_with own size es) ds
    → Keeps book own size held r
handed_keeps book own size held r t es ds shape of first last count carried answer shown =
    let came : came_by_delta t ≡ came_by_delta (answer_to_delta (site_with own size es) ds) = ap came_by_delta answer in
    handed_cases book own size held r es ds shape of first last (refusal_by (site_with own size es) ds) refl
    (omega (arith, count, carried, came)) shown
