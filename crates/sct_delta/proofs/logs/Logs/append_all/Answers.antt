-- One message more is in, that of the next entry.
use Rattle.std.proofs.Common.{◌≡◌, ◌<◌, ◌≤◌, ◌+◌, ◌++◌, ◌∷◌, [], ◌∙◌, refl, ap, sym, subst, drop, ℕ, Bool, true, false, map, length, List, arith, cond, nat_eq, append_assoc, rules}
use Rattle.std.specs.Arc.{arc_value}
use Rattle.std.specs.List.{list_any}
use Rattle.std.specs.Vec.Iter.{into_iter_items}
use Rattle.std.proofs.lemmas.Bool.{or_parts}
use Rattle.std.proofs.lemmas.List.{append-nil, length-drop, length-map, nil_from_length}
use Rattle.sct_message.specs.Sets.{messages_in}
use Rattle.sct_message.specs.declared.draft.Draft.{Draft}
use Rattle.sct_delta.specs.Entries.{Placed, entries_from, held_from, log_of}
use Rattle.sct_delta.specs.Logs.{log_in, room_at}
use Rattle.sct_delta.specs.Refusals.{is_outside}
use Rattle.sct_delta.proofs.RoomLemmas.{drop_more, split_at}
use Rattle.sct_delta.proofs.LogsLemmas.{none_due}
use Rattle.sct_delta.proofs.logs.Logs.append_all.Goals as goal

log_step : (o : ℕ) (e : Placed) (rest : List Placed) (old : List Draft)
    → cond (nat_eq e.origin o) (old ++ e.message ∷ []) old ++ log_of o rest ≡ old ++ log_of o (e ∷ rest)
log_step o e rest old =
    elim (nat_eq e.origin o) as (λ b. cond b (old ++ e.message ∷ []) old ++ log_of o rest ≡ old ++ map (λ x. x.message) (cond b (e ∷ entries_from o rest) (entries_from o rest))) [
      | true ↦ append_assoc old (e.message ∷ []) (log_of o rest)
      | false ↦ refl
    ]

pub loop-message-preserved : goal.loop-message-preserved
loop-message-preserved c =
    let e : Placed = c.index-entries-place.result in
    let es : List Placed = c.args.entries.now in
    let i : ℕ = c.loop-message.place in
    let kept = c.loop-message.invariant in
    let view : c.entry.inside.origin ≡ e.origin = ap (λ (p : Placed). p.origin) c.entry.view_is in
    let one : into_iter_items c.loop-message.message-iterator ≡ c.in-Some.message ∷ into_iter_items c.next.new.self = search rules in
    let inside : i < length es = omega (arith, simp (length-map, length-drop) at (ap length kept.left), ap length one) in
    let more : drop i es ≡ e ∷ drop (i + 1) es = split_at i es e inside c.index-entries-place.is in
    let both : arc_value c.in-Some.message ∷ messages_in (into_iter_items c.next.new.self) ≡ e.message ∷ map (λ x. x.message) (drop (i + 1) es)
    = sym (ap messages_in one) ∙ kept.left ∙ ap (map (λ x. x.message)) more in
    let head : arc_value c.in-Some.message ≡ e.message = cc in
    record {
      group = c.push_reserved.ensures.group ∙ kept.group;
      left = cc;
      logs = λ o.
          ap (λ (log : List Draft). log ++ log_of o (drop (i + 1) es))
          (c.push_reserved.ensures.logs o ∙ (λ j. cond (nat_eq (view j) o) (log_in c.loop-message.self o ++ head j ∷ []) (log_in c.loop-message.self o)))
          ∙ log_step o e (drop (i + 1) es) (log_in c.loop-message.self o)
          ∙ ap (λ (rest : List Placed). log_in c.loop-message.self o ++ log_of o rest) (sym more)
          ∙ kept.logs o;
      inside = (or_parts _ _ ((λ j. list_any (is_outside (c.push_reserved.ensures.group j)) (sym more j)) ∙ kept.inside)).1;
      room = λ o.
          let keeps : room_at c.loop-message.self o ≤ room_at c.push_reserved.new.self o + cond {A = ℕ} (nat_eq e.origin o) 1 0 =
          subst (λ (p : ℕ). room_at c.loop-message.self o ≤ room_at c.push_reserved.new.self o + cond {A = ℕ} (nat_eq p o) 1 0) view (c.push_reserved.ensures.keeps o) in
          omega (arith, kept.room o, drop_more o i es e inside c.index-entries-place.is, keeps);
      filled = λ was. c.push_reserved.ensures.due (λ o. held_from o (drop i es)) (λ o. held_from o (drop (i + 1) es)) (kept.filled was)
          (λ o other. omega (arith, drop_more o i es e inside c.index-entries-place.is ∙ ap (λ (b : Bool). cond {A = ℕ} b 1 0 + held_from o (drop (i + 1) es)) (subst (λ (p : ℕ). nat_eq p o ≡ false) view other)));
    }

nothing_left : (c : goal.After-drop-message-iterator) → drop c.loop-message.place c.args.entries.now ≡ []
nothing_left c = nil_from_length _ (omega (arith, simp length-map at (ap length c.loop-message.invariant.left), c.loop-message.message-iterator.rest.ok, c.in-None.ensures.steps.0))

pub returns-clause-logs : goal.returns-clause-logs
returns-clause-logs c = λ o.
    sym (append-nil (log_in c.loop-message.self o))
    ∙ ap (λ (rest : List Placed). log_in c.loop-message.self o ++ log_of o rest) (sym (nothing_left c))
    ∙ c.loop-message.invariant.logs o

pub returns-clause-filled : goal.returns-clause-filled
returns-clause-filled c = λ was. none_due c.loop-message.self (λ o. held_from o (drop c.loop-message.place c.args.entries.now)) (λ o. ap (held_from o) (nothing_left c)) (c.loop-message.invariant.filled was)
