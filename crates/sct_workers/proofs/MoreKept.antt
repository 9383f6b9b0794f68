-- More messages, and more receipts that are kept. Proof plumbing.
use Rattle.std.proofs.Common.{◌≡◌, ◌∙◌, refl, sym, ap, subst, inl, inr, ℕ, suc, ◌+◌, ◌-◌, Bool, true, false, ◌||◌, List, [], ◌∷◌, ◌++◌, length, arith}
use Rattle.std.specs.Prelude.{Option, Some, IfSome}
use Rattle.std.specs.Arc.{arc_value}
use Rattle.std.specs.FinSet as set
use Rattle.std.specs.FinSet.{contains-empty}
use Rattle.std.specs.Global.{Global}
use Rattle.std.specs.List.{list_any, slice_get}
use Rattle.std.specs.declared.sync.Arc.{Arc}
use Rattle.std.proofs.lemmas.Bool.{cases_lt, false≢true, or_cases, or_right}
use Rattle.std.proofs.lemmas.List.Folds.{list_any-append}
use Rattle.std.proofs.lemmas.Map.Keys.{any_passes_from_place}
use Rattle.std.proofs.lemmas.Option.{slice_get_within}
use mathlib.Core.List.{IsPrefix}
use Rattle.logbook.specs.Pages.{Book}
use Rattle.sct_delta.specs.Entries.{Placed}
use Rattle.sct_site.proofs.Prefixes.{prefix_trans}
use Rattle.sct_message.specs.Keys.{transfers_of}
use Rattle.sct_message.specs.declared.draft.Draft.{Draft}
use Rattle.sct_message.specs.declared.keys.TransferKey.{TransferKey}
use Rattle.sct_message.specs.Order.{message_order, same_message}
use Rattle.sct_message.specs.Sets.{MessageSet, messages_in}
use Rattle.sct_set.specs.Contents.{contents_of}
use Rattle.sct_set.proofs.ContentsLemmas.{contains-contents_of, same_is, same_itself}
use Rattle.sct_desk.specs.Passes.{Told}
use Rattle.sct_workers.specs.Kept.{AllShown, IsFirstOfOne, Keeps, is_shown, shows}
use Rattle.sct_workers.proofs.KeepLemmas.{keeps_more}
use Rattle.sct_workers.specs.Shown.{ShownTo, ShowsMore}

-- ---- receipts where a site takes more messages

none_held : (held : MessageSet) (m : Draft) → set.contains (contents_of []) m ≡ true → set.contains held m ≡ true
none_held held m there = absurd (false≢true (sym (contains-empty message_order m) ∙ there))

-- a receipt that may be kept where a site takes nothing
pub keeps_any : (book : Book) (own size : ℕ) (held : MessageSet) (r : Told) → Keeps book own size (contents_of []) r → Keeps book own size held r
keeps_any book own size held r kept = keeps_more book own size (contents_of []) held r (none_held held) kept

one_held : (held : MessageSet) (m q : Draft) → set.contains held m ≡ true → set.contains (contents_of (m ∷ [])) q ≡ true → set.contains held q ≡ true
one_held held m q there one =
    let same : (same_message m q || false) ≡ true = sym (contains-contents_of (m ∷ []) q) ∙ one in
    let is : same_message m q ≡ true = elim (same_message m q) as (λ b. (b || false) ≡ true → b ≡ true) [ true ↦ λ f. refl | false ↦ λ f. f ] same in
    subst (λ (d : Draft). set.contains held d ≡ true) (same_is m q is) there

-- a receipt that may be kept where a site takes one message
pub keeps_among : (book : Book) (own size : ℕ) (held : MessageSet) (m : Draft) (r : Told) → set.contains held m ≡ true
    → Keeps book own size (contents_of (m ∷ [])) r → Keeps book own size held r
keeps_among book own size held m r there kept = keeps_more book own size (contents_of (m ∷ [])) held r (λ q. one_held held m q there) kept

-- ---- what more receipts show

pub shows_more : (rs more : List Told) → ShowsMore rs (rs ++ more)
shows_more rs more m shown = list_any-append (shows m) rs more ∙ ap (λ (b : Bool). b || list_any (shows m) more) shown

pub shown_last : (rs : List Told) (r : Told) (m : Draft) → shows m r ≡ true → is_shown (rs ++ r ∷ []) m ≡ true
shown_last rs r m here = list_any-append (shows m) rs (r ∷ []) ∙ ap (λ (b : Bool). is_shown rs m || (b || false)) here ∙ or_right (is_shown rs m) true refl

-- what a query has seen after an answer begins with what it had seen before, and with what its receipts show
pub shown_to_query : (shown learned seen : List Placed) → IsPrefix shown learned → IsPrefix learned seen → IsPrefix shown seen
shown_to_query shown learned seen one other = prefix_trans shown learned seen one other

-- the first transfer of a message that the site takes
pub first_of_one : (held : MessageSet) (m : Draft) (transfer : TransferKey) → set.contains held m ≡ true → Some transfer ≡ slice_get (transfers_of m) 0
    → ∥ IsFirstOfOne held transfer ∥₁
first_of_one held m transfer taken is = ∣ record { message = m; taken = taken; first = sym is } ∣₁

-- ---- one message after the other

-- the message after those that are shown is shown too
pub shown_at_next : (ms : List (Arc Draft Global)) (n k : ℕ) (before after : List Told) → ShownTo n ms before → ShowsMore before after
    → k ≡ n + 1 → IfSome (slice_get ms (k - 1)) (λ m. is_shown after (arc_value m) ≡ true) → ShownTo (n + 1) ms after
shown_at_next ms n k before after so_far more is here at y low there =
    elim (cases_lt at n) as (λ c. is_shown after (arc_value y) ≡ true) [
      | inl less ↦ more (arc_value y) (so_far at y less there)
      | inr past ↦
          let place : k - 1 ≡ at = omega (arith, is, low, past) in
          subst (λ (found : Option (Arc Draft Global)). IfSome found (λ m. is_shown after (arc_value m) ≡ true)) (ap (slice_get ms) place ∙ there) here
    ]

each_held : (ms : List (Arc Draft Global)) (m : Draft) → list_any (λ d. same_message d m) (messages_in ms) ≡ true
    → (P : Draft → Type 0) → ((at : ℕ) (x : Arc Draft Global) → slice_get ms at ≡ Some x → P (arc_value x)) → P m
each_held [] m is P each = absurd (false≢true is)
each_held (x ∷ ms) m is P each =
    elim (or_cases (same_message (arc_value x) m) (list_any (λ d. same_message d m) (messages_in ms)) is) as (λ c. P m) [
      | inl here ↦ subst P (same_is (arc_value x) m here) (each 0 x refl)
      | inr later ↦ each_held ms m later P (λ at y there. each (suc at) y there)
    ]

-- receipts that show each message of a list show all of its set
pub all_shown : (held : MessageSet) (ms : List (Arc Draft Global)) (rs : List Told) → held ≡ contents_of (messages_in ms) → ShownTo (length ms) ms rs
    → AllShown held rs
all_shown held ms rs is each m there =
    each_held ms m (sym (contains-contents_of (messages_in ms) m) ∙ ap (λ (s : MessageSet). set.contains s m) (sym is) ∙ there) (λ d. is_shown rs d ≡ true)
    (λ at x here. each at x (slice_get_within ms at x here) here)

any_of_values : (p : Draft → Bool) (ms : List (Arc Draft Global)) → list_any p (messages_in ms) ≡ list_any (λ x. p (arc_value x)) ms
any_of_values p [] = refl
any_of_values p (x ∷ ms) = ap (λ (b : Bool). p (arc_value x) || b) (any_of_values p ms)

-- a message at some place is of the set
pub among : (held : MessageSet) (ms : List (Arc Draft Global)) (at : ℕ) (x : Arc Draft Global) → held ≡ contents_of (messages_in ms)
    → slice_get ms at ≡ Some x → set.contains held (arc_value x) ≡ true
among held ms at x is here =
    ap (λ (s : MessageSet). set.contains s (arc_value x)) is
    ∙ contains-contents_of (messages_in ms) (arc_value x)
    ∙ any_of_values (λ d. same_message d (arc_value x)) ms
    ∙ any_passes_from_place (λ y. same_message (arc_value y) (arc_value x)) ms at x here (same_itself (arc_value x))

-- what receipts show, they show beside others too
pub all_shown_more : (held : MessageSet) (rs more : List Told) → AllShown held rs → AllShown held (rs ++ more)
all_shown_more held rs more shown m there = shows_more rs more m (shown m there)
