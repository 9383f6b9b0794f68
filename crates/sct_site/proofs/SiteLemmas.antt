-- What a site keeps makes it a site, and it stays one. Proof plumbing.
use Rattle.std.proofs.Common.{◌≡◌, ◌∙◌, refl, ap, sym, inl, inr, ℕ, ◌-◌, true, false, not, cond, List, [], ◌∷◌, ◌++◌, arith, nat_eq}
use Rattle.std.specs.Prelude.{None}
use Rattle.std.specs.List.{slice_get}
use Rattle.std.proofs.lemmas.Bool.{false≢true, not-false}
use Rattle.std.proofs.lemmas.Bool.Decides.{nat_tests}
use Rattle.std.proofs.Math.Bool.{or-false}
use Rattle.sct_message.specs.declared.draft.Draft.{Draft}
use Rattle.sct_set.specs.Contents.{Contents}
use Rattle.sct_delta.specs.Entries.{Placed, holds, log_of, same_entry}
use Rattle.sct_delta.specs.Refusals.{has_site, is_held, is_outside, message_at, is_same_as}
use Rattle.sct_delta.specs.Logs.{HeldLogs, IsOfGroup}
use Rattle.sct_delta.proofs.HeldLemmas.{held_in_logs, none_passes, one_entry}
use Rattle.sct_delta.proofs.JoinLemmas.{IsPassed, passed}
use Rattle.sct_site.specs.Cores.{Core, IsSite, arrivals_taken, fresh_entries, is_open, is_repeat, logs_of, own_entry}
use Rattle.sct_site.specs.Inside.{IsCore}
use Rattle.sct_site.specs.Laws.{IsSiteAfterDeltas, IsSiteAfterTakes, IsSiteWhenOpened}
use Rattle.sct_site.proofs.ArrivalLemmas.{arrivals-joined, arrivals-push}
use Rattle.sct_site.proofs.HeldLemmas.{any_kept, one_of}

-- an empty log has no message
none_at : (m : Draft) (n : ℕ) → is_same_as m (message_at [] n) ≡ false
none_at m n = elim (nat_eq n 0) as (λ b. is_same_as m (cond b None (slice_get [] (n - 1))) ≡ false) [ true ↦ refl | false ↦ refl ]

pub site_is : (core : Core) (number group : ℕ) (logs : HeldLogs) (es : List Placed) (archive : Contents)
    → record { number = number; group = group; arrivals = es } ≡ core → IsCore number group logs es archive → IsOfGroup logs → IsSite core
site_is core number group logs es archive view kept of_group =
    rw (sym view)
    (record {
      opened = kept.opened;
      order = kept.order;
      inside = λ e held.
          elim (has_site group e.origin) as (λ b. has_site group e.origin ≡ b → b ≡ true) [
            | true ↦ λ there. refl
            | false ↦ λ none.
                let empty : log_of e.origin es ≡ []
                = sym (kept.by_origin e.origin) ∙ of_group e.origin (ap (λ (g : ℕ). has_site g e.origin) kept.one_group ∙ none) in
                sym (none_at e.message e.n) ∙ ap (λ (l : List Draft). is_same_as e.message (message_at l e.n)) (sym empty) ∙ sym (held_in_logs es kept.order e) ∙ held
          ] refl;
    })

-- ---- a site stays one

pub site_opened : IsSiteWhenOpened
site_opened number group valid = record { opened = valid; order = λ o. refl; inside = λ e held. absurd (false≢true held) }

pub has_itself : (number group : ℕ) → is_open number group ≡ true → has_site group number ≡ true
has_itself number group valid = grind (arith, nat_tests)

pub site_taken : IsSiteAfterTakes
unfolding arrivals_taken
site_taken core m site =
    let own : Placed = own_entry core m in
    elim (is_repeat core m) as (λ b. IsSite (record { number = core.number; group = core.group; arrivals = cond b core.arrivals (core.arrivals ++ own ∷ []) })) [
      | true ↦ record { opened = site.opened; order = site.order; inside = site.inside }
      | false ↦ record {
        opened = site.opened;
        order = arrivals-push core.arrivals own site.order refl;
        inside = λ e held. elim (one_of core.arrivals (own ∷ []) e held) as (λ c. has_site core.group e.origin ≡ true) [
          | inl old ↦ site.inside e old
          | inr new ↦
              ap (λ (x : Placed). has_site core.group x.origin) (sym (one_entry own e (sym (or-false (same_entry own e)) ∙ new)))
              ∙ has_itself core.number core.group site.opened
        ];
      }
    ]

pub site_joined : IsSiteAfterDeltas
site_joined core delta site shape fits =
    let passes : IsPassed core.number core.group (logs_of core.arrivals) delta = passed core.number core.group (logs_of core.arrivals) delta fits in
    record {
      opened = site.opened;
      order = arrivals-joined core.number core.group core.arrivals delta site.order shape.runs passes;
      inside = λ e held. elim (one_of core.arrivals (fresh_entries core.arrivals delta) e held) as (λ c. has_site core.group e.origin ≡ true) [
        | inl old ↦ site.inside e old
        | inr new ↦
            let among : holds delta e ≡ true = any_kept (λ x. not (is_held (logs_of core.arrivals) x)) (λ x. same_entry x e) delta new in
            not-false (has_site core.group e.origin) (none_passes (is_outside core.group) delta passes.inside e among)
      ];
    }
