-- What takes make of a site and of its own messages. Proof plumbing.
use Rattle.std.proofs.Common.{◌≡◌, ◌∙◌, ◌⊎◌, inl, inr, refl, ap, sym, subst, ℕ, true, false, cond, List, [], ◌∷◌, ◌++◌, append_assoc}
use Rattle.std.proofs.Math.Bool.{or-false}
use Rattle.sct_message.specs.declared.draft.Draft.{Draft}
use Rattle.sct_delta.specs.Entries.{Placed, holds, log_of, same_entry}
use Rattle.sct_delta.proofs.HeldLemmas.{one_entry}
use Rattle.sct_site.specs.Cores.{Core, IsSite, arrivals_taken, core_taken, is_repeat, own_entry}
use Rattle.sct_site.proofs.HeldLemmas.{one_of}
use Rattle.sct_site.proofs.SiteLemmas.{site_taken}
use Rattle.sct_exchange.specs.Journals.{Begins, core_taking}
use Rattle.sct_exchange.proofs.JournalLemmas.{begins_itself, begins_on}
use Rattle.sct_hub.proofs.OwnLogLemmas.{log_taken}

-- What a site comes to by takes: its own messages grow, and it gets no entry of another site.
pub record IsGrown (before now : Core) : Type 0 where
  pub number : now.number ≡ before.number
  pub group : now.group ≡ before.group
  pub site : IsSite now
  pub own : Begins (log_of before.number before.arrivals) (log_of before.number now.arrivals)
  pub others : (e : Placed) → holds now.arrivals e ≡ true → (holds before.arrivals e ≡ true) ⊎ (e.origin ≡ before.number)

grown_none : (core : Core) → IsSite core → IsGrown core core
grown_none core site = record {
  number = refl;
  group = refl;
  site = site;
  own = begins_itself (log_of core.number core.arrivals);
  others = λ e held. inl held;
}

grown_taken : (core : Core) (message : Draft) → IsSite core → IsGrown core (core_taken core message)
unfolding arrivals_taken
grown_taken core message site =
    let own : Placed = own_entry core message in
    record {
      number = refl;
      group = refl;
      site = site_taken core message site;
      own = elim (is_repeat core message) as (λ b. Begins (log_of core.number core.arrivals) (log_of core.number (cond b core.arrivals (core.arrivals ++ own_entry core message ∷ [])))) [
        | true ↦ begins_itself (log_of core.number core.arrivals)
        | false ↦ record { rest = message ∷ []; is = log_taken core message }
      ];
      others = λ e held. (elim (is_repeat core message) as (λ b. holds (cond b core.arrivals (core.arrivals ++ own_entry core message ∷ [])) e ≡ true → (holds core.arrivals e ≡ true) ⊎ (e.origin ≡ core.number)) [
        | true ↦ λ old. inl old
        | false ↦ λ some. elim (one_of core.arrivals (own ∷ []) e some) as (λ c. (holds core.arrivals e ≡ true) ⊎ (e.origin ≡ core.number)) [
          | inl old ↦ inl old
          | inr new ↦ inr (ap (λ (x : Placed). x.origin) (sym (one_entry own e (sym (or-false (same_entry own e)) ∙ new))))
        ]
      ]) held;
    }

grown_on : (before mid now : Core) → IsGrown before mid → IsGrown mid now → IsGrown before now
grown_on before mid now one two = record {
  number = two.number ∙ one.number;
  group = two.group ∙ one.group;
  site = two.site;
  own = begins_on _ _ _ one.own (subst (λ (n : ℕ). Begins (log_of n mid.arrivals) (log_of n now.arrivals)) one.number two.own);
  others = λ e held. elim (two.others e held) as (λ c. (holds before.arrivals e ≡ true) ⊎ (e.origin ≡ before.number)) [
    | inl old ↦ one.others e old
    | inr new ↦ inr (new ∙ one.number)
  ];
}

pub grown_taking : (messages : List Draft) (core : Core) → IsSite core → IsGrown core (core_taking core messages)
grown_taking [] core site = grown_none core site
grown_taking (message ∷ messages) core site =
    grown_on core (core_taken core message) (core_taking (core_taken core message) messages)
    (grown_taken core message site) (grown_taking messages (core_taken core message) (site_taken core message site))
