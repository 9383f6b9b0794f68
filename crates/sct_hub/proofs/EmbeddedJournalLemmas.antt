-- A journal with a line for each message that was new to its site has the site's own messages. Proof plumbing.
use Rattle.std.proofs.Common.{◌≡◌, ◌∙◌, refl, ap, sym, ℕ, Bool, true, false, cond, ◌||◌, List, [], ◌∷◌, ◌++◌, map, filter, nat_eq}
use Rattle.std.specs.Prelude.{None, Some, Ok, Err}
use Rattle.std.specs.List.{list_any}
use Rattle.std.specs.Option.{is_none}
use Rattle.std.proofs.lemmas.Bool.{or_parts}
use Rattle.std.proofs.lemmas.List.Sums.{fold-append}
use Rattle.sct_message.specs.declared.draft.Draft.{Draft}
use Rattle.sct_message.specs.Order.{same_message}
use Rattle.sct_set.proofs.ContentsLemmas.{contains-contents_of}
use Rattle.sct_lines.specs.Lines.{messages_read}
use Rattle.sct_lines.proofs.PartLemmas.{messages_stay}
use Rattle.sct_delta.specs.DeltaText.{delta_in}
use Rattle.sct_delta.specs.Entries.{Placed, log_of}
use Rattle.sct_site.specs.Cores.{Core, arrivals_taken, core_joined, is_repeat, own_entry, refusal_by}
use Rattle.sct_exchange.specs.Journals.{each_once, own_log, with_message}
use Rattle.sct_exchange.specs.Rounds.{File}
use Rattle.sct_exchange.proofs.OwnLemmas.{own_kept}
use Rattle.sct_exchange.proofs.WayLemmas.{delta_shape}
use Rattle.sct_requests.specs.Steps.{core_offered}
use Rattle.sct_hub.specs.EmbeddedLaws.{DeltasAddNothing, JournalsHaveTheMessages, RepeatsAddNothing}
use Rattle.sct_hub.proofs.OwnLogLemmas.{log_taken, not_in_log}

-- ---- a message that is new is not in the own messages

-- ---- the journal

with_one : (journal line : List ℕ) (message : Draft) → messages_read (journal ++ line) ≡ messages_read journal ++ messages_read line → messages_read line ≡ message ∷ []
    → own_log (journal ++ line) ≡ with_message (own_log journal) message
unfolding own_log
with_one journal line message join read =
    ap each_once (join ∙ ap (λ (l : List Draft). messages_read journal ++ l) read) ∙ fold-append with_message [] (messages_read journal) (message ∷ [])

pub journals_have : JournalsHaveTheMessages
unfolding arrivals_taken
journals_have core journal line message whole read new is =
    let log : List Draft = log_of core.number core.arrivals in
    with_one journal line message (messages_stay journal line whole) read
    ∙ ap (λ (l : List Draft). with_message l message) is
    ∙ ap (λ (b : Bool). cond b log (log ++ message ∷ [])) (not_in_log core message new)
    ∙ sym (log_taken core message)
    ∙ ap (λ (b : Bool). log_of core.number (cond b core.arrivals (core.arrivals ++ own_entry core message ∷ []))) (sym new)

pub repeats_add_nothing : RepeatsAddNothing
unfolding arrivals_taken
repeats_add_nothing core message held = ap (λ (b : Bool). log_of core.number (cond b core.arrivals (core.arrivals ++ own_entry core message ∷ []))) held

-- ---- delta texts

own_offered : (core : Core) (text : List ℕ) (file : File) → delta_in text ≡ file → log_of core.number (core_offered core file).arrivals ≡ log_of core.number core.arrivals
own_offered core text (Ok delta) read =
    (elim (refusal_by core delta) as (λ o. refusal_by core delta ≡ o → log_of core.number (cond (is_none o) (core_joined core delta) core).arrivals ≡ log_of core.number core.arrivals) [
      | None ↦ λ fits. own_kept core delta (delta_shape text delta read) fits
      | Some fault ↦ λ refused. refl
    ]) refl
own_offered core text (Err line) read = refl

pub deltas_add_nothing : DeltasAddNothing
deltas_add_nothing core text = own_offered core text (delta_in text) refl
