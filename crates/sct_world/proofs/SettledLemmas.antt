-- The laws of settled sites.
use Rattle.std.proofs.Common.{◌≡◌, ◌∙◌, refl, ap, sym, ℕ, ◌<◌, true, false, List, length, arith, nat_lt}
use Rattle.std.specs.Prelude.{Some}
use Rattle.std.specs.Cmp.{both_ways}
use Rattle.std.proofs.lemmas.Bool.Decides.{nat_tests}
use Rattle.std.proofs.lemmas.List.Sorted.{list_any-IsPermutation}
use Rattle.std.proofs.lemmas.Option.{same_Some}
use Rattle.sct_delta.specs.Entries.{Placed, log_of, held_from, holds}
use Rattle.sct_delta.specs.Refusals.{message_at}
use Rattle.sct_delta.specs.declared.fault.DeltaFault.{DeltaFault}
use Rattle.sct_delta.specs.declared.fault.DeltaFault.TheVariants as fault
use Rattle.sct_site.specs.Cores.{Core, IsSite}
use Rattle.sct_site.proofs.ArrivalLemmas.{length-log}
use Rattle.sct_site.proofs.HeldLemmas.{one_place, within}
use Rattle.sct_site.proofs.MessageLemmas.{same_messages}
use Rattle.sct_world.specs.Answers.{texts_of}
use Rattle.sct_world.specs.Settling.{core_in, AreSettled, IsWhy, HoldApart, IsAhead}
use Rattle.sct_world.specs.SettlingLaws.{SettledAnswerAlike, SettlesOnce, SettlesInAnyOrder}
use Rattle.sct_world.proofs.KeptLemmas.{HolderOf, place_some, some_place}

-- ---- settled sites answer alike

pub settled_alike : SettledAnswerAlike
settled_alike before after settled i j here there =
    ap texts_of (same_messages (core_in after i).arrivals (core_in after j).arrivals (λ e. settled.joined i here e ∙ sym (settled.joined j there e)))

-- ---- the order of the sites

pub any_order : SettlesInAnyOrder
any_order some other settled also_settled moved first second i j here there e =
    first.joined i here e ∙ list_any-IsPermutation (λ core. holds core.arrivals e) some other moved ∙ sym (second.joined j there e)

-- ---- settling again

not_both : (a b : ℕ) → nat_lt a b ≡ false → a < b → ⊥
not_both a b is_not is = absurd (grind (arith, nat_tests))

module _ (before settled : List Core) (are : AreSettled before settled) (sites : (place : ℕ) → place < length settled → IsSite (core_in settled place)) where
  -- what one holds each holds
  all_hold : (k j : ℕ) (e : Placed) → holds (core_in settled k).arrivals e ≡ true → j < length settled → holds (core_in settled j).arrivals e ≡ true
  all_hold k j e held there =
      let h : HolderOf settled e = some_place settled e (place_some settled k e held) in
      let size : length settled ≡ length before = are.kept.size in
      let first : h.place < length settled = h.there in
      are.joined j (omega (arith, there, size)) e ∙ sym (are.joined h.place (omega (arith, first, size)) e) ∙ h.held

  never_apart : (origin n : ℕ) → HoldApart settled origin n → ⊥
  never_apart origin n apart =
      let mine : Placed = record { origin = origin; n = n; message = apart.message } in
      let theirs : Placed = record { origin = origin; n = n; message = apart.another } in
      let h : HolderOf settled mine = some_place settled mine (place_some settled apart.one mine apart.held) in
      let site : IsSite (core_in settled h.place) = sites h.place h.there in
      let one : message_at (log_of origin (core_in settled h.place).arrivals) n ≡ Some apart.message
      = one_place (core_in settled h.place).arrivals site.order mine h.held in
      let other : message_at (log_of origin (core_in settled h.place).arrivals) n ≡ Some apart.another
      = one_place (core_in settled h.place).arrivals site.order theirs (all_hold apart.other h.place theirs apart.also_held h.there) in
      apart.different (same_Some apart.message apart.another (sym one ∙ other))

  never_ahead : (n : ℕ) → IsAhead settled n → ⊥
  never_ahead n ahead =
      let e : Placed = ahead.entry in
      let site : IsSite (core_in settled ahead.owner) = sites ahead.owner ahead.there in
      let held : holds (core_in settled ahead.owner).arrivals e ≡ true = all_hold ahead.holder ahead.owner e ahead.held ahead.there in
      let inside : nat_lt (length (log_of e.origin (core_in settled ahead.owner).arrivals)) e.n ≡ false
      = within (log_of e.origin (core_in settled ahead.owner).arrivals) e.n e.message (one_place (core_in settled ahead.owner).arrivals site.order e held) in
      let count : length (log_of e.origin (core_in settled ahead.owner).arrivals) ≡ held_from e.origin (core_in settled ahead.owner).arrivals
      = length-log e.origin (core_in settled ahead.owner).arrivals in
      let above : held_from e.origin (core_in settled ahead.owner).arrivals < n = ahead.above in
      let number : e.n ≡ n = ahead.number in
      not_both (length (log_of e.origin (core_in settled ahead.owner).arrivals)) e.n inside (omega (arith, above, count, number))

  why_again : (refusal : DeltaFault) → IsWhy settled refusal → refusal ≡ fault.Memory
  why_again fault.Memory why = refl
  why_again (fault.Gap origin have first) why = absurd why
  why_again (fault.Fork origin n) why = absurd (never_apart origin n why)
  why_again (fault.OwnAhead n) why = absurd (never_ahead n why)
  why_again fault.BadSite why = absurd why
  why_again (fault.BadDelta line) why = absurd why

  again_same : (again : List Core) → AreSettled settled again → (place : ℕ) → place < length settled
      → (e : Placed) → holds (core_in again place).arrivals e ≡ holds (core_in settled place).arrivals e
  again_same again more place there e =
      more.joined place there e
      ∙ both_ways _ _
      (λ some. let h : HolderOf settled e = some_place settled e some in all_hold h.place place e h.held there)
      (place_some settled place e)

pub settles_once : SettlesOnce
settles_once before settled are sites = record { refusal = why_again before settled are sites; same = again_same before settled are sites }
