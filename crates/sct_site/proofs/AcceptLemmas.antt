-- What an accepted delta leaves of logs, arrivals and archive. Proof plumbing.
use Rattle.std.proofs.Common.{◌≡◌, ◌∙◌, ap, sym, ℕ, ◌+◌, ◌||◌, List, ◌++◌, length, map}
use Rattle.std.specs.FinSet as set
use Rattle.std.specs.FinSet.{contains-from_list, contains-union, same_set}
use Rattle.std.specs.Ordering.{eq_by_cmp}
use Rattle.std.proofs.lemmas.List.{map-append}
use Rattle.std.proofs.lemmas.List.Folds.{list_any-append}
use Rattle.sct_message.specs.declared.draft.Draft.{Draft}
use Rattle.sct_message.specs.OrderLaws.{message_total, message_same}
use Rattle.sct_message.specs.Order.{message_order}
use Rattle.sct_set.specs.Contents.{Contents, contents_of}
use Rattle.sct_delta.specs.Entries.{Placed, entries_from, log_of, messages_of, numbered}
use Rattle.sct_delta.specs.Logs.{HeldLogs, log_in, KeepsNoEmpty}
use Rattle.sct_delta.specs.Refusals.{first_refusal}
use Rattle.sct_delta.proofs.EntryLemmas.{log-append}
use Rattle.sct_site.specs.Cores.{Core, logs_of, refusal_by}
use Rattle.sct_site.specs.Inside.{IsCore}
use Rattle.sct_site.proofs.ArrivalLemmas.{arrivals-append, length-log}

-- the set of two lists is the union of their sets
pub contents-append : (xs ys : List Draft) → contents_of (xs ++ ys) ≡ set.union (contents_of xs) (contents_of ys)
contents-append xs ys =
    same_set message_total message_same _ _ (λ q.
    contains-from_list message_total (xs ++ ys) q
    ∙ list_any-append (eq_by_cmp message_order q) xs ys
    ∙ sym (λ i. contains-from_list message_total xs q i || contains-from_list message_total ys q i)
    ∙ sym (contains-union message_total (contents_of xs) (contents_of ys) q))

pub messages-append : (es ds : List Placed) → messages_of (es ++ ds) ≡ set.union (messages_of es) (messages_of ds)
messages-append es ds = ap contents_of (map-append (λ (e : Placed). e.message) es ds) ∙ contents-append (map (λ e. e.message) es) (map (λ e. e.message) ds)

-- the logs of a site are those of its arrivals, as functions
pub logs_are : (logs : HeldLogs) (es : List Placed) → ((o : ℕ) → log_in logs o ≡ log_of o es) → log_in logs ≡ logs_of es
logs_are logs es same = λ i o. same o i

-- logs, arrivals and archive with the fresh entries of a delta, which go on where the logs end
pub IsCore-joined : (number group : ℕ) (old new : HeldLogs) (es fs fresh : List Placed) (s t : Contents)
    → IsCore number group old es s
    → new.group ≡ old.group
    → ((o : ℕ) → entries_from o fresh ≡ numbered o (length (log_in old o) + 1) (log_of o fresh))
    → ((o : ℕ) → log_in new o ≡ log_in old o ++ log_of o fresh)
    → KeepsNoEmpty new
    → t ≡ set.union s (messages_of fresh)
    → fs ≡ es ++ fresh
    → IsCore number group new fs t
IsCore-joined number group old new es fs fresh s t was same follow logged filled held came =
    rw came
    (record {
      opened = was.opened;
      one_group = same ∙ was.one_group;
      order = arrivals-append es fresh was.order (λ o.
          follow o ∙ ap (λ (n : ℕ). numbered o (n + 1) (log_of o fresh)) (ap length (was.by_origin o) ∙ length-log o es));
      by_origin = λ o. logged o ∙ ap (λ (l : List Draft). l ++ log_of o fresh) (was.by_origin o) ∙ sym (log-append o es fresh);
      filled = filled;
      messages = held ∙ ap (λ (c : Contents). set.union c (messages_of fresh)) was.messages ∙ sym (messages-append es fresh);
    })

-- the logs of a site refuse what the site refuses
pub refusal_is : (core : Core) (number group : ℕ) (logs : HeldLogs) (es ds : List Placed) (s : Contents)
    → record { number = number; group = group; arrivals = es } ≡ core → IsCore number group logs es s
    → first_refusal number logs.group (log_in logs) ds ≡ refusal_by core ds
refusal_is core number group logs es ds s view inside =
    (λ i. first_refusal number (inside.one_group i) (logs_are logs es inside.by_origin i) ds) ∙ ap (λ (c : Core). refusal_by c ds) view
