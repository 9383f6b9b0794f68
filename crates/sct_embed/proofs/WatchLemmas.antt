-- What changed since changes were asked for, as the view follows the arrivals.
use Rattle.std.proofs.Common.{◌≡◌, ◌∙◌, ◌≤◌, ℕ, sym, subst, ap, refl, Bool, ◌||◌, false, List, [], ◌∷◌, ◌++◌, Option, Some, None, arith, take, drop, filter, length, flat_map}
use Rattle.std.specs.FinSet as set
use Rattle.std.specs.FinSet.{members}
use Rattle.std.specs.List.{list_any}
use Rattle.std.proofs.lemmas.List.Folds.{list_any-append}
use Rattle.std.proofs.lemmas.List.{take-append-drop, take-take, take_all}
use Rattle.sct_message.specs.Ascending.{ascending}
use Rattle.sct_message.specs.Keys.{transfers_of}
use Rattle.sct_message.specs.Order.{same_transfer, transfer_order}
use Rattle.sct_message.specs.OrderLaws.{message_total, transfer_total, transfers_same}
use Rattle.sct_message.proofs.AscendingLemmas.{any_ascending}
use Rattle.sct_message.proofs.Members.{ties_itself}
use Rattle.sct_message.proofs.Tests.{any_flat_map}
use Rattle.sct_message.specs.Sets.{MessageSet, is_contradicted}
use Rattle.sct_message.specs.declared.keys.TransferKey.{TransferKey}
use Rattle.sct_set.specs.Contents.{contents_of}
use Rattle.sct_set.proofs.ContentsLemmas.{any_items, same_contents, union-none}
use Rattle.sct_delta.specs.Entries.{Placed, messages_of}
use Rattle.sct_site.proofs.AcceptLemmas.{messages-append}
use Rattle.sct_view.specs.StatusText.{lines_on}
use Rattle.sct_view.specs.Touched.{fresh_of, is_newly_contradicted, touched_by, touched_in}
use Rattle.sct_view.proofs.TouchedLemmas.{untouched_stay}
use Rattle.sct_view.proofs.TouchesAddUpLemmas.{touches_add_up}
use Rattle.sct_parts.proofs.TransferLemmas.{lines_alike}
use Rattle.sct_embed.specs.Laws.{OtherTransfersKeepTheirLines}
use Rattle.sct_embed.specs.Questions.{changes_since, changes_text_of, transfer_line}
use Rattle.sct_embed.specs.Showing.{IsLater, IsWatched, text_of_changes, watched_by}
use Rattle.sct_embed.specs.declared.changes.Watch.{Watch}

whole : (es : List Placed) → take (length es) es ≡ es
whole es = take_all (length es) es (omega (arith))

-- ---- more arrivals

-- the messages of the first arrivals are among those of more arrivals
within : (k j : ℕ) (es : List Placed) → k ≤ j → set.union (messages_of (take k es)) (messages_of (take j es)) ≡ messages_of (take j es)
within k j es fewer =
    let first = messages_of (take k es) in
    let rest = messages_of (drop k (take j es)) in
    let all : messages_of (take j es) ≡ set.union first rest =
    ap messages_of (sym (take-append-drop k (take j es)) ∙ ap (λ (front : List Placed). front ++ drop k (take j es)) (take-take k j es fewer))
    ∙ messages-append (take k es) (drop k (take j es)) in
    ap (set.union first) all
    ∙ same_contents (set.union first (set.union first rest)) (set.union first rest) (λ q. grind (arith, members, message_total))
    ∙ sym all

-- from the first k arrivals to all, what is touched up to the first i and what is touched after them
in_steps : (k i : ℕ) (es : List Placed) → k ≤ i
    → touched_in (messages_of (take k es)) (messages_of es)
    ≡ ascending transfer_order (touched_in (messages_of (take k es)) (messages_of (take i es)) ++ touched_in (messages_of (take i es)) (messages_of (drop i es)))
in_steps k i es fewer =
    let first = messages_of (take k es) in
    let more = messages_of (take i es) in
    let rest = messages_of (drop i es) in
    ap (touched_in first) (ap messages_of (sym (take-append-drop i es)) ∙ messages-append (take i es) (drop i es))
    ∙ touches_add_up first more rest
    ∙ ap (λ (held : MessageSet). ascending transfer_order (touched_in first more ++ touched_in held rest)) (within k i es fewer)

pub watched_more : (w later : Option Watch) (k : ℕ) (es : List Placed) → k ≤ length es → IsWatched w k es
    → IsLater w (messages_of (take k es)) (messages_of (drop k es)) later → IsWatched later (length es) es
watched_more None later k es fewer was is = subst (λ (w : Option Watch). IsWatched w (length es) es) (sym is) tt
watched_more (Some watch) None k es fewer was is = absurd is
watched_more (Some watch) (Some later) k es fewer was is = record {
  within = omega (arith, was.within, fewer, is.0);
  since = is.1
      ∙ ap (λ (before : List TransferKey). ascending transfer_order (before ++ touched_in (messages_of (take k es)) (messages_of (drop k es)))) was.since
      ∙ sym (in_steps watch.asked k es was.within)
      ∙ (λ i. touched_in (messages_of (take (sym is.0 i) es)) (messages_of (sym (whole es) i)));
}

pub watched_later : (w later : Option Watch) (held batch : MessageSet) → IsLater w held batch later → watched_by later ≡ watched_by w
watched_later None later held batch is = ap watched_by is
watched_later (Some watch) None held batch is = absurd is
watched_later (Some watch) (Some later) held batch is = ap Some is.0

-- ---- the answer

pub changes_told : (w : Option Watch) (es : List Placed) → IsWatched w (length es) es → text_of_changes w ≡ changes_since (watched_by w) es
unfolding changes_text_of
changes_told None es was = refl
changes_told (Some watch) es was =
    ap (flat_map transfer_line) (was.since ∙ ap (λ (all : List Placed). touched_in (messages_of (take watch.asked es)) (messages_of all)) (whole es))

-- ---- the watch begins anew

filter_none : {X : Type 0} (p : X → Bool) (xs : List X) → ((x : X) → p x ≡ false) → filter p xs ≡ []
filter_none p [] none = refl
filter_none p (x ∷ xs) none = grind (arith, none x, filter_none p xs none)

nothing_fresh : (held : MessageSet) → fresh_of held held ≡ contents_of []
nothing_fresh held = same_contents _ _ (λ q. grind (arith, members, message_total))

-- a list of transfers that has none of them is empty
none_of_them : (ts : List TransferKey) → ((q : TransferKey) → list_any (same_transfer q) ts ≡ false) → ts ≡ []
none_of_them [] none = refl
none_of_them (t ∷ ts) none = grind (arith, none t, ties_itself transfer_total transfers_same t)

touched_by_nothing : (held : MessageSet) → touched_by held (contents_of []) ≡ []
unfolding touched_by
touched_by_nothing held =
    let fresh = flat_map transfers_of (set.items (contents_of [])) in
    let newly = filter (is_newly_contradicted held (contents_of [])) (set.items held) in
    let none : newly ≡ [] =
    filter_none (is_newly_contradicted held (contents_of [])) (set.items held) (λ m. grind (arith, ap (λ (s : MessageSet). is_contradicted s m) (union-none held))) in
    none_of_them _ (λ q.
    any_ascending transfer_total transfers_same (same_transfer q) (fresh ++ flat_map transfers_of newly)
    ∙ list_any-append (same_transfer q) fresh (flat_map transfers_of newly)
    ∙ (λ i. (any_flat_map (same_transfer q) transfers_of (set.items (contents_of []))
    ∙ any_items (λ m. list_any (same_transfer q) (transfers_of m)) []) i || list_any (same_transfer q) (flat_map transfers_of (none i))))

touched_by_itself : (held : MessageSet) → touched_in held held ≡ []
touched_by_itself held = ap (touched_by held) (nothing_fresh held) ∙ touched_by_nothing held

pub watched_anew : (k : ℕ) (es : List Placed) (watch : Watch) → watch.asked ≡ k → watch.changed.items ≡ [] → IsWatched (Some watch) k es
watched_anew k es watch asked none = record {
  within = omega (arith, asked);
  since = none
      ∙ sym (touched_by_itself (messages_of (take k es)))
      ∙ (λ i. touched_in (messages_of (take (sym asked i) es)) (messages_of (take k es)));
}

-- ---- transfers that did not change

pub others_keep : OtherTransfersKeepTheirLines
others_keep arrivals asked transfer fewer away =
    let first = messages_of (take asked arrivals) in
    let later : set.union first (messages_of arrivals) ≡ messages_of arrivals =
    subst (λ (es : List Placed). set.union first (messages_of es) ≡ messages_of es) (whole arrivals) (within asked (length arrivals) arrivals fewer) in
    subst (λ (held : MessageSet). lines_on held transfer ≡ lines_on first transfer) later
    (lines_alike first (set.union first (messages_of arrivals)) transfer (untouched_stay first (messages_of arrivals) transfer away))
