-- A chain goes on by one message after another.
use Rattle.std.proofs.Common.{◌≡◌, ◌∙◌, ap, sym, ℕ, ◌+◌, ◌<◌, ◌≤◌, List, [], ◌∷◌, ◌++◌, length, take, drop, get_or}
use Rattle.std.proofs.lemmas.List.{drop-map, map_more, take-append-drop, take-map, take-take}
use Rattle.std.proofs.lemmas.List.Sums.{fold-append}
use Rattle.std.specs.Arc.{arc_value}
use Rattle.std.specs.Global.{Global}
use Rattle.std.specs.declared.sync.Arc.{Arc}
use Rattle.sct_message.specs.declared.draft.Draft.{Draft}
use Rattle.sct_message.specs.Sets.{messages_in}
use Rattle.sct_digest.specs.Digests.{digest_after, digest_of, next_digest, no_digest}

-- the first messages and the next one
front_more : (xs : List (Arc Draft Global)) (i : ℕ) (x : Arc Draft Global) → i < length xs → x ≡ get_or xs i x
    → take i (messages_in xs) ++ arc_value x ∷ [] ≡ take (i + 1) (messages_in xs)
front_more xs i x low is =
    ap (λ (l : List Draft). l ++ arc_value x ∷ []) (take-map arc_value i xs)
    ∙ ap (λ (y : Arc Draft Global). messages_in (take i xs) ++ arc_value y ∷ []) is
    ∙ sym (map_more arc_value xs i x low)
    ∙ sym (take-map arc_value (i + 1) xs)

-- one message more
pub one_more : (before : List ℕ) (xs : List (Arc Draft Global)) (i : ℕ) (x : Arc Draft Global) → i < length xs → x ≡ get_or xs i x
    → next_digest (digest_after before (take i (messages_in xs))) (arc_value x) ≡ digest_after before (take (i + 1) (messages_in xs))
one_more before xs i x low is =
    sym (fold-append next_digest before (take i (messages_in xs)) (arc_value x ∷ []))
    ∙ ap (digest_after before) (front_more xs i x low is)

-- the first messages, and those after them up to a count
pub rest_of_front : (xs : List (Arc Draft Global)) (from count : ℕ) → from ≤ count
    → digest_after (digest_of (take from (messages_in xs))) (messages_in (drop from (take count xs))) ≡ digest_of (take count (messages_in xs))
rest_of_front xs from count fewer =
    let ms : List Draft = messages_in xs in
    ap (digest_after (digest_of (take from ms))) (sym (drop-map arc_value from (take count xs)) ∙ ap (drop from) (sym (take-map arc_value count xs)))
    ∙ sym (fold-append next_digest no_digest (take from ms) (drop from (take count ms)))
    ∙ ap digest_of ((λ i. sym (take-take from count ms fewer) i ++ drop from (take count ms)) ∙ take-append-drop from (take count ms))
