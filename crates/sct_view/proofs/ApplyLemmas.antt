-- What a batch adds to a set. Proof plumbing.
use Rattle.std.proofs.Common.{◌≡◌, ℕ, ◌+◌, ◌*◌, ◌≤◌, true, false, cond, ◌||◌, List, [], ◌∷◌, length, refl, sym, ap, ◌∙◌, arith}
use Rattle.std.specs.FinSet as set
use Rattle.std.specs.FinSet.{contains-from_list, contains-insert, contains-union, len-insert}
use Rattle.std.specs.List.{list_any}
use Rattle.sct_message.specs.Order.{same_message}
use Rattle.sct_message.specs.OrderLaws.{message_total}
use Rattle.sct_message.specs.Sets.{MessageSet, in_order}
use Rattle.sct_message.specs.declared.draft.Draft.{Draft}
use Rattle.sct_set.specs.Contents.{contents_of}
use Rattle.sct_set.proofs.ContentsLemmas.{same_contents, same_itself, union-none}
use Rattle.sct_view.specs.Touched.{AreOnAtMost, fresh_of, touched_by}
use Rattle.sct_view.proofs.FewLemmas.{batches_touch_few, contents_in_order, fresh_apart, held_where, in_order_apart, length_in_order}
use Rattle.sct_view.proofs.SumLemmas.{AreApart}
use Rattle.std.proofs.lemmas.Bool.{or_right}
use Rattle.sct_message.proofs.Tests.{or_later}

-- ---- how many messages there are

-- one message more on the one side is one more in both
union-cons : (s : MessageSet) (m : Draft) (ms : List Draft) → set.union s (contents_of (m ∷ ms)) ≡ set.insert (set.union s (contents_of ms)) m
union-cons s m ms = same_contents _ _ (λ q.
    contains-union message_total s (contents_of (m ∷ ms)) q
    ∙ ap (λ b. set.contains s q || b) (contains-insert message_total (contents_of ms) m q)
    ∙ or_later (set.contains s q) (same_message q m) (set.contains (contents_of ms) q)
    ∙ sym (contains-insert message_total (set.union s (contents_of ms)) m q
    ∙ ap (λ b. same_message q m || b) (contains-union message_total s (contents_of ms) q)))

joined_length : (s : MessageSet) (ms : List Draft) → AreApart same_message ms
    → ((m : Draft) → list_any (same_message m) ms ≡ true → set.contains s m ≡ false)
    → set.len (set.union s (contents_of ms)) ≡ set.len s + length ms
joined_length s [] apart absent =
    let e : set.len (set.union s (contents_of [])) ≡ set.len s = ap (λ (t : MessageSet). set.len t) (union-none s) in omega arith
joined_length s (m ∷ ms) apart absent =
    let rest : set.len (set.union s (contents_of ms)) ≡ set.len s + length ms =
    joined_length s ms apart.1 (λ n among. absent n (ap (λ b. same_message n m || b) among ∙ or_right (same_message n m) true refl)) in
    let away : set.contains (set.union s (contents_of ms)) m ≡ false =
    contains-union message_total s (contents_of ms) m
    ∙ (λ i. absent m (ap (λ b. b || list_any (same_message m) ms) (same_itself m)) i || (contains-from_list message_total ms m ∙ apart.0) i) in
    let more : set.len (set.union s (contents_of (m ∷ ms))) ≡ set.len (set.union s (contents_of ms)) + 1 =
    ap (λ (t : MessageSet). set.len t) (union-cons s m ms)
    ∙ len-insert message_total (set.union s (contents_of ms)) m
    ∙ ap (λ b. cond b (set.len (set.union s (contents_of ms))) (set.len (set.union s (contents_of ms)) + 1)) away in
    omega arith

-- a set and what is not in it have as many messages as both
pub len_disjoint : (s f : MessageSet) → ((m : Draft) → set.contains f m ≡ true → set.contains s m ≡ false)
    → set.len (set.union s f) ≡ set.len s + set.len f
len_disjoint s f apart =
    let one : set.len (set.union s (contents_of (in_order f))) ≡ set.len s + length (in_order f) =
    joined_length s (in_order f) (in_order_apart f) (λ m among. apart m (held_where f m among)) in
    let two : length (in_order f) ≡ set.len f = length_in_order f in
    let three : set.len (set.union s (contents_of (in_order f))) ≡ set.len (set.union s f) = ap (λ (t : MessageSet). set.len (set.union s t)) (contents_in_order f) in
    omega arith

pub len_joined : (s b : MessageSet) → set.len (set.union s (fresh_of s b)) ≡ set.len s + set.len (fresh_of s b)
len_joined s b = len_disjoint s (fresh_of s b) (fresh_apart s b)

-- a batch touches few transfers, where each message is on one
pub few_applied : (s f b : MessageSet) (touched fresh : ℕ) → f ≡ fresh_of s b → touched ≡ length (touched_by s f) → fresh ≡ set.len f
    → AreOnAtMost 1 s → AreOnAtMost 1 b → touched ≤ 2 * fresh
few_applied s f b touched fresh is counted len before later =
    let law : length (touched_by s (fresh_of s b)) ≤ 2 * 1 * set.len (fresh_of s b) = batches_touch_few 1 s b before later in
    let all : touched ≡ length (touched_by s (fresh_of s b)) = counted ∙ ap (λ (g : MessageSet). length (touched_by s g)) is in
    let new : fresh ≡ set.len (fresh_of s b) = len ∙ ap (λ (g : MessageSet). set.len g) is in
    omega arith
