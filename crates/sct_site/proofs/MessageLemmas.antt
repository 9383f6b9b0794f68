-- The messages of entries as a set. It serves sites and the crates above. Proof plumbing.
use Rattle.std.proofs.Common.{◌≡◌, ◌∙◌, refl, ap, sym, inl, inr, ℕ, zero, suc, ◌-◌, Bool, true, false, not, cond, ◌||◌, List, [], ◌∷◌, ◌++◌, map, filter, nat_eq}
use Rattle.std.specs.FinSet as set
use Rattle.std.specs.FinSet.{contains-union, same_set, contains-from_list}
use Rattle.std.specs.Cmp.{both_ways}
use Rattle.std.specs.Prelude.{Option, Some, None}
use Rattle.std.specs.Ordering.{eq_by_cmp}
use Rattle.std.specs.List.{list_any, slice_get}
use Rattle.std.proofs.lemmas.Bool.{false≢true, or_cases}
use Rattle.std.proofs.lemmas.Option.{same_Some}
use Rattle.std.proofs.Math.Bool.{or-true}
use Rattle.sct_message.specs.declared.draft.Draft.{Draft}
use Rattle.sct_message.specs.OrderLaws.{message_total, message_same}
use Rattle.sct_message.specs.Order.{message_order, same_message}
use Rattle.sct_set.specs.Contents.{Contents, contents_of}
use Rattle.sct_set.proofs.ContentsLemmas.{insert-held, union-none, union-push, contains-contents_of, same_is, same_itself}
use Rattle.sct_set.proofs.LawLemmas.{associative}
use Rattle.sct_message.proofs.Members.{tie_is}
use Rattle.sct_delta.specs.Entries.{Placed, holds, messages_of, log_of, is_from, same_entry}
use Rattle.sct_delta.specs.Refusals.{is_held, is_same_as, message_at}
use Rattle.sct_delta.proofs.HeldLemmas.{entry_itself, one_entry}
use Rattle.sct_site.specs.Cores.{Core, is_repeat, own_entry, arrivals_taken, arrivals_joined, fresh_entries, logs_of}
use Rattle.sct_site.proofs.AcceptLemmas.{contents-append, messages-append}
use Rattle.sct_site.proofs.TakeLemmas.{messages-push}

-- ---- sets

pub union-one : (s : Contents) (m : Draft) → set.union s (contents_of (m ∷ [])) ≡ set.insert s m
union-one s m = union-push s [] m ∙ ap (λ (t : Contents). set.insert t m) (union-none s)

pub union-more : (s : Contents) (xs ys : List Draft) → set.union (set.union s (contents_of xs)) (contents_of ys) ≡ set.union s (contents_of (xs ++ ys))
union-more s xs ys = associative s (contents_of xs) (contents_of ys) ∙ ap (set.union s) (sym (contents-append xs ys))

kept : (a t r s : Bool) → (a || r) ≡ (a || s) → (a || (t || r)) ≡ (a || (t || s))
kept true t r s e = refl
kept false true r s e = refl
kept false false r s e = e

left : (a t r s : Bool) → (a || r) ≡ (a || s) → (t ≡ true → a ≡ true) → (a || r) ≡ (a || (t || s))
left true t r s e also = refl
left false true r s e also = absurd (false≢true (also refl))
left false false r s e also = e

-- ---- a held entry has its message among those held

at_first : (x : Draft) (rest : List Draft) (y : Draft) (others : Bool) (k : ℕ) → slice_get (x ∷ rest) k ≡ Some y
    → ((j : ℕ) → slice_get rest j ≡ Some y → others ≡ true) → (same_message x y || others) ≡ true
at_first x rest y others zero is later =
    ap (λ (b : Bool). b || others) (ap (same_message x) (sym (same_Some x y is)) ∙ same_itself x)
at_first x rest y others (suc j) is later = ap (λ (b : Bool). same_message x y || b) (later j is) ∙ or-true (same_message x y)

found : (p : Placed → Bool) (es : List Placed) (k : ℕ) (y : Draft) → slice_get (map (λ e. e.message) (filter p es)) k ≡ Some y
    → list_any (λ d. same_message d y) (map (λ e. e.message) es) ≡ true
found p [] k y is = cc
found p (e ∷ es) k y is =
    elim (p e) as (λ b. slice_get (map (λ e. e.message) (cond b (e ∷ filter p es) (filter p es))) k ≡ Some y
    → (same_message e.message y || list_any (λ d. same_message d y) (map (λ e. e.message) es)) ≡ true) [
      | true ↦ λ at. at_first e.message (map (λ e. e.message) (filter p es)) y (list_any (λ d. same_message d y) (map (λ e. e.message) es)) k at (λ j. found p es j y)
      | false ↦ λ later. ap (λ (b : Bool). same_message e.message y || b) (found p es k y later) ∙ or-true (same_message e.message y)
    ] is

at_place : (log : List Draft) (n : ℕ) (y : Draft) → message_at log n ≡ Some y → slice_get log (n - 1) ≡ Some y
at_place log n y is = elim (nat_eq n 0) as (λ b. cond b None (slice_get log (n - 1)) ≡ Some y → slice_get log (n - 1) ≡ Some y) [
  | true ↦ λ e. cc
  | false ↦ λ e. e
] is

same_as_some : (m : Draft) (ds : List Draft) (o : Option Draft) → ((y : Draft) → o ≡ Some y → list_any (λ d. same_message d y) ds ≡ true) → is_same_as m o ≡ true
    → list_any (λ d. same_message d m) ds ≡ true
same_as_some m ds None held same = cc
same_as_some m ds (Some y) held same = ap (λ (z : Draft). list_any (λ d. same_message d z) ds) (sym (same_is y m same)) ∙ held y refl

held_has_message : (es : List Placed) (e : Placed) → is_held (logs_of es) e ≡ true → set.contains (messages_of es) e.message ≡ true
held_has_message es e held =
    contains-contents_of (map (λ e. e.message) es) e.message
    ∙ same_as_some e.message (map (λ e. e.message) es) (message_at (log_of e.origin es) e.n)
    (λ y is. found (is_from e.origin) es (e.n - 1) y (at_place (log_of e.origin es) e.n y is)) held

-- so the messages of what is new, beside those held, are the messages of the whole delta
module _ (s : Contents) (log : ℕ → List Draft) (has : (e : Placed) → is_held log e ≡ true → set.contains s e.message ≡ true) (q : Draft) where
  any_new : (ds : List Placed) → (set.contains s q || list_any (eq_by_cmp message_order q) (map (λ e. e.message) (filter (λ e. not (is_held log e)) ds)))
      ≡ (set.contains s q || list_any (eq_by_cmp message_order q) (map (λ e. e.message) ds))
  any_new [] = refl
  any_new (d ∷ ds) =
      elim (is_held log d) as (λ b. is_held log d ≡ b
      → (set.contains s q || list_any (eq_by_cmp message_order q) (map (λ e. e.message) (cond (not b) (d ∷ filter (λ e. not (is_held log e)) ds) (filter (λ e. not (is_held log e)) ds))))
      ≡ (set.contains s q || (eq_by_cmp message_order q d.message || list_any (eq_by_cmp message_order q) (map (λ e. e.message) ds)))) [
        | true ↦ λ held. left (set.contains s q) (eq_by_cmp message_order q d.message) _ _ (any_new ds)
            (λ tie. ap (set.contains s) (tie_is message_total message_same q d.message tie) ∙ has d held)
        | false ↦ λ new. kept (set.contains s q) (eq_by_cmp message_order q d.message) _ _ (any_new ds)
      ] refl

pub joined_messages : (es ds : List Placed) → messages_of (arrivals_joined es ds) ≡ set.union (messages_of es) (messages_of ds)
joined_messages es ds =
    messages-append es (fresh_entries es ds)
    ∙ same_set message_total message_same _ _ (λ q.
    contains-union message_total (messages_of es) (messages_of (fresh_entries es ds)) q
    ∙ ap (λ (b : Bool). set.contains (messages_of es) q || b) (contains-from_list message_total (map (λ e. e.message) (fresh_entries es ds)) q)
    ∙ any_new (messages_of es) (logs_of es) (held_has_message es) q ds
    ∙ sym (ap (λ (b : Bool). set.contains (messages_of es) q || b) (contains-from_list message_total (map (λ e. e.message) ds) q))
    ∙ sym (contains-union message_total (messages_of es) (messages_of ds) q))

pub taken_messages : (core : Core) (m : Draft) → messages_of (arrivals_taken core m) ≡ set.union (messages_of core.arrivals) (contents_of (m ∷ []))
unfolding arrivals_taken
taken_messages core m =
    elim (is_repeat core m) as (λ b. is_repeat core m ≡ b → messages_of (cond b core.arrivals (core.arrivals ++ own_entry core m ∷ [])) ≡ set.insert (messages_of core.arrivals) m) [
      | true ↦ λ held. sym (insert-held (messages_of core.arrivals) m held)
      | false ↦ λ new. sym (messages-push core.arrivals (own_entry core m))
    ] refl
    ∙ sym (union-one (messages_of core.arrivals) m)

-- ---- the same entries have the same messages

abbrev is_it : Draft → Draft → Bool
is_it = eq_by_cmp message_order

in_messages : (q : Draft) (es : List Placed) (e : Placed) → holds es e ≡ true → is_it q e.message ≡ true → list_any (is_it q) (map (λ x. x.message) es) ≡ true
in_messages q [] e held is = absurd (false≢true held)
in_messages q (x ∷ es) e held is =
    elim (or_cases (same_entry x e) (holds es e) held) as (λ c. (is_it q x.message || list_any (is_it q) (map (λ x. x.message) es)) ≡ true) [
      | inl here ↦ ap (λ (b : Bool). b || list_any (is_it q) (map (λ x. x.message) es)) (ap (λ (p : Placed). is_it q p.message) (one_entry x e here) ∙ is)
      | inr later ↦ ap (λ (b : Bool). is_it q x.message || b) (in_messages q es e later is) ∙ or-true (is_it q x.message)
    ]

messages_in : (q : Draft) (fs es : List Placed) → ((e : Placed) → holds es e ≡ true → holds fs e ≡ true)
    → list_any (is_it q) (map (λ x. x.message) es) ≡ true → list_any (is_it q) (map (λ x. x.message) fs) ≡ true
messages_in q fs [] has is = absurd (false≢true is)
messages_in q fs (x ∷ es) has is =
    elim (or_cases (is_it q x.message) (list_any (is_it q) (map (λ x. x.message) es)) is) as (λ c. list_any (is_it q) (map (λ x. x.message) fs) ≡ true) [
      | inl here ↦ in_messages q fs x (has x (ap (λ (b : Bool). b || holds es x) (entry_itself x))) here
      | inr later ↦ messages_in q fs es (λ e held. has e (ap (λ (b : Bool). same_entry x e || b) held ∙ or-true (same_entry x e))) later
    ]

pub same_messages : (es fs : List Placed) → ((e : Placed) → holds es e ≡ holds fs e) → messages_of es ≡ messages_of fs
same_messages es fs same =
    same_set message_total message_same _ _ (λ q.
    contains-from_list message_total (map (λ x. x.message) es) q
    ∙ both_ways _ _
    (messages_in q fs es (λ e held. sym (same e) ∙ held))
    (messages_in q es fs (λ e held. same e ∙ held))
    ∙ sym (contains-from_list message_total (map (λ x. x.message) fs) q))
