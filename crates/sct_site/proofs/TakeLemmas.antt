-- What a take is answered and leaves, told from what the body finds. Proof plumbing.
use Rattle.std.proofs.Common.{◌≡◌, ◌∙◌, refl, ap, sym, ℕ, ◌+◌, Bool, true, false, cond, List, [], ◌∷◌, ◌++◌, map, length, arith, nat_eq}
use Rattle.std.specs.FinSet as set
use Rattle.std.proofs.lemmas.Bool.Decides.{nat_tests}
use Rattle.std.proofs.lemmas.List.{append-nil, map-append}
use Rattle.sct_message.specs.declared.draft.Draft.{Draft}
use Rattle.sct_message.specs.Keys.{identity_of}
use Rattle.sct_set.specs.Archive.{added_of, added_where, has_identity}
use Rattle.sct_set.specs.Contents.{Contents}
use Rattle.sct_set.specs.declared.added.Added.{Added}
use Rattle.sct_set.specs.declared.added.Added.TheVariants as added
use Rattle.sct_set.proofs.ContentsLemmas.{contents-push, insert-held}
use Rattle.sct_delta.specs.Entries.{Placed, log_of, held_from, messages_of}
use Rattle.sct_delta.specs.Logs.{HeldLogs, log_in, HoldSame, KeepsNoEmpty}
use Rattle.sct_delta.specs.Refusals.{has_site}
use Rattle.sct_delta.proofs.EntryLemmas.{log-append}
use Rattle.sct_site.specs.Cores.{Core, is_open, is_repeat, next_entry, next_own, own_entry, took_by, arrivals_taken}
use Rattle.sct_site.specs.Inside.{IsCore}
use Rattle.sct_site.specs.declared.answers.Took.TheVariants as took
use Rattle.sct_site.proofs.ArrivalLemmas.{arrivals-push, length-log}

-- whether the archive holds the message is whether the take is a repeat
pub repeat_is : (core inside : Core) (s : Contents) (m d : Draft) (r b : Bool) → inside ≡ core → s ≡ messages_of inside.arrivals → d ≡ m
    → r ≡ set.contains s d → r ≡ b → is_repeat core m ≡ b
repeat_is core inside s m d r b view held same told is =
    ap (λ (c : Core). is_repeat c m) (sym view)
    ∙ ap (λ (t : Contents). set.contains t m) (sym held)
    ∙ ap (set.contains s) (sym same)
    ∙ sym told
    ∙ is

module _ (core : Core) (m : Draft) where
  pub took-held : is_repeat core m ≡ true → took.Repeat ≡ took_by core m
  unfolding took_by
  took-held held = ap (λ (b : Bool). cond b took.Repeat (took.Taken (next_own core))) (sym held)

  pub took-new : is_repeat core m ≡ false → (n : ℕ) → n ≡ next_own core → took.Taken n ≡ took_by core m
  unfolding took_by
  took-new new n is = ap took.Taken is ∙ ap (λ (b : Bool). cond b took.Repeat (took.Taken (next_own core))) (sym new)

  pub arrivals-held : is_repeat core m ≡ true → core.arrivals ≡ arrivals_taken core m
  unfolding arrivals_taken
  arrivals-held held = ap (λ (b : Bool). cond b core.arrivals (core.arrivals ++ own_entry core m ∷ [])) (sym held)

  pub arrivals-new : is_repeat core m ≡ false → core.arrivals ++ own_entry core m ∷ [] ≡ arrivals_taken core m
  unfolding arrivals_taken
  arrivals-new new = ap (λ (b : Bool). cond b core.arrivals (core.arrivals ++ own_entry core m ∷ [])) (sym new)

-- ---- what the archive answers

-- the archive answers that it holds the message
abbrev pub says_repeat : Added → Bool
says_repeat added.Repeat = true
says_repeat added.Fresh = false
says_repeat added.Against = false

-- and says so where it holds it
pub says_held : (s : Contents) (m : Draft) (answer : Added) → answer ≡ added_of s m → says_repeat answer ≡ set.contains s m
unfolding added_of
says_held s m answer is =
    ap says_repeat is
    ∙ elim (set.contains s m) as (λ b. says_repeat (cond b added.Repeat (added_where (has_identity s (identity_of m)))) ≡ b) [
      | true ↦ refl
      | false ↦ elim (has_identity s (identity_of m)) as (λ b. says_repeat (added_where b) ≡ false) [ true ↦ refl | false ↦ refl ]
    ]

-- ---- one entry more

pub messages-push : (es : List Placed) (e : Placed) → set.insert (messages_of es) e.message ≡ messages_of (es ++ e ∷ [])
messages-push es e =
    sym (contents-push (map (λ entry. entry.message) es) e.message)
    ∙ ap set.from_list (sym (map-append (λ (entry : Placed). entry.message) es (e ∷ [])))

pub log-push : (o : ℕ) (es : List Placed) (e : Placed) → cond (nat_eq e.origin o) (log_of o es ++ e.message ∷ []) (log_of o es) ≡ log_of o (es ++ e ∷ [])
log-push o es e =
    elim (nat_eq e.origin o) as (λ b. cond b (log_of o es ++ e.message ∷ []) (log_of o es) ≡ log_of o es ++ map (λ entry. entry.message) (cond b (e ∷ []) [])) [
      | true ↦ refl
      | false ↦ sym (append-nil (log_of o es))
    ]
    ∙ sym (log-append o es (e ∷ []))

-- the next own number, as the logs count it
pub next_is : (o : ℕ) (log : List Draft) (es : List Placed) → log ≡ log_of o es → length log + 1 ≡ held_from o es + 1
next_is o log es is = ap (λ (l : List Draft). length l + 1) is ∙ ap (λ (n : ℕ). n + 1) (length-log o es)

-- logs, arrivals and archive with one entry more
pub IsCore-pushed : (number group origin : ℕ) (old new : HeldLogs) (es fs : List Placed) (s t : Contents) (m : Draft)
    → IsCore number group old es s
    → new.group ≡ old.group
    → ((o : ℕ) → log_in new o ≡ cond (nat_eq origin o) (log_in old o ++ m ∷ []) (log_in old o))
    → KeepsNoEmpty new
    → t ≡ set.insert s m
    → fs ≡ es ++ next_entry origin es m ∷ []
    → IsCore number group new fs t
IsCore-pushed number group origin old new es fs s t m was same logged filled held came =
    let entry : Placed = next_entry origin es m in
    rw came
    (record {
      opened = was.opened;
      one_group = same ∙ was.one_group;
      order = arrivals-push es entry was.order refl;
      by_origin = λ o. logged o ∙ ap (λ (l : List Draft). cond (nat_eq origin o) (l ++ m ∷ []) l) (was.by_origin o) ∙ log-push o es entry;
      filled = filled;
      messages = held ∙ ap (λ (c : Contents). set.insert c m) was.messages ∙ messages-push es entry;
    })

-- with one own entry more
pub IsCore-taken : (number group : ℕ) (old new : HeldLogs) (es fs : List Placed) (s t : Contents) (m : Draft)
    → IsCore number group old es s
    → new.group ≡ old.group
    → ((o : ℕ) → log_in new o ≡ cond (nat_eq number o) (log_in old o ++ m ∷ []) (log_in old o))
    → KeepsNoEmpty new
    → t ≡ set.insert s m
    → fs ≡ es ++ own_entry (record { number = number; group = group; arrivals = es }) m ∷ []
    → IsCore number group new fs t
IsCore-taken number group = IsCore-pushed number group number

-- a message that is held leaves them as they are
pub IsCore-held : (number group : ℕ) (old new : HeldLogs) (es fs : List Placed) (s t : Contents) (m : Draft)
    → IsCore number group old es s
    → new.group ≡ old.group
    → HoldSame new old
    → KeepsNoEmpty new
    → set.contains s m ≡ true
    → t ≡ set.insert s m
    → fs ≡ es
    → IsCore number group new fs t
IsCore-held number group old new es fs s t m was same logged filled held kept came =
    rw came
    (record {
      opened = was.opened;
      one_group = same ∙ was.one_group;
      order = was.order;
      by_origin = λ o. logged o ∙ was.by_origin o;
      filled = filled;
      messages = kept ∙ insert-held s m held ∙ was.messages;
    })

-- a site is one of its group
pub own_site : (number group held : ℕ) → is_open number group ≡ true → held ≡ group → has_site held number ≡ true
own_site number group held opened same = grind (arith, nat_tests, same)
