-- The entries of one origin follow each other, so that the count of places is the count of its entries so far.
use Rattle.std.proofs.Common.{◌≡◌, ◌∙◌, ◌≤◌, ◌+◌, sym, subst, ap, ℕ, arith}
use Rattle.std.proofs.lemmas.Bool.{false≢true}
use Rattle.sct_delta.specs.Entries.{Placed, held_from}
use Rattle.sct_delta.specs.Logs.{room_at}
use Rattle.sct_delta.proofs.RoomLemmas.{none_before, Counted, same_origin, new_origin, places_more, places_fit, later_more, room_more, after}
use Rattle.sct_delta.proofs.logs.Logs.room_for_each.Goals as goal
use Rattle.sct_delta.proofs.logs.Logs.room_for_each.Goals.{then-entry-previous, else-entry-previous}

pub loop-entry-preserved : goal.loop-entry-preserved
loop-entry-preserved c =
    let e = c.entry-item.result in
    let es = c.entries-entry-items.result.now in
    let i = c.loop-entry.entry-index in
    let inside = c.loop-entry-test.true in
    let is = c.entry-item.is in
    let view : e.origin ≡ c.entry.inside.origin = ap (λ (p : Placed). p.origin) (sym c.entry.view_is) in
    let kept = c.loop-entry.invariant in
    let k : Counted e i es c.if-entry-previous.previous c.if-entry-previous.places = elim c.if-entry-previous.branch [
      | then-entry-previous w ↦ new_origin e i es c.loop-entry.previous c.entry.inside.origin _ _ view inside is kept.later kept.earlier w.if-entry-previous.true w.previous-is w.places-is
      | else-entry-previous w ↦ same_origin e i es c.loop-entry.previous c.loop-entry.places c.entry.inside.origin _ _ view kept.places w.if-entry-previous.false w.previous-is w.places-is
    ] in
    let up : c.loop-entry.previous ≤ e.origin = elim c.if-entry-previous.branch [
      | then-entry-previous w ↦ let a = after e i es c.loop-entry.previous inside is kept.earlier (λ same. w.if-entry-previous.true (sym view ∙ same)) in omega (arith, a)
      | else-entry-previous w ↦ let f = w.if-entry-previous.false in omega (arith, view, f)
    ] in
    record {
      group = c.in_ok-room_for.ensures.group ∙ kept.group;
      same = λ o. c.in_ok-room_for.ensures.same o ∙ kept.same o;
      grows = λ o. omega (arith, c.in_ok-room_for.ensures.keeps o, kept.grows o);
      room = room_more i es e _ c.if-entry-previous.places (room_at c.loop-entry.self) (room_at c.room_for.new.self) inside is k kept.room c.in_ok-room_for.ensures.keeps
          (subst (λ (o : ℕ). c.if-entry-previous.places + 1 ≤ room_at c.room_for.new.self o) (sym view) c.in_ok-room_for.ensures.ok);
      places = places_more i es e _ _ inside is k;
      few = c.in_ok-room_for.ensures.few;
      due = λ was. c.in_ok-room_for.ensures.due (λ o. held_from o es)
          (subst (λ (o : ℕ). 1 ≤ held_from o es) view (omega (arith, places_fit i es e _ c.if-entry-previous.places inside is k))) (kept.due was);
      later = later_more i es e _ c.if-entry-previous.places c.loop-entry.previous inside is k kept.later up;
      earlier = λ o before. none_before o i es e inside is c.entries-entry-items.ensures.shape.rises (let last : c.if-entry-previous.previous ≡ e.origin = k.last in omega (arith, before, last));
    }

pub returns-in_err-room_for-clause-there : goal.returns-in_err-room_for-clause-there
returns-in_err-room_for-clause-there c = λ room.
    let e = c.entry-item.result in
    let es = c.entries-entry-items.result.now in
    let i = c.loop-entry.entry-index in
    let inside = c.loop-entry-test.true in
    let is = c.entry-item.is in
    let view : e.origin ≡ c.entry.inside.origin = ap (λ (p : Placed). p.origin) (sym c.entry.view_is) in
    let kept = c.loop-entry.invariant in
    let k : Counted e i es c.if-entry-previous.previous c.if-entry-previous.places = elim c.if-entry-previous.branch [
      | then-entry-previous w ↦ new_origin e i es c.loop-entry.previous c.entry.inside.origin _ _ view inside is kept.later kept.earlier w.if-entry-previous.true w.previous-is w.places-is
      | else-entry-previous w ↦ same_origin e i es c.loop-entry.previous c.loop-entry.places c.entry.inside.origin _ _ view kept.places w.if-entry-previous.false w.previous-is w.places-is
    ] in
    let all : held_from e.origin es ≡ held_from e.origin c.args.delta.now = ap (held_from e.origin) c.entries-entry-items.ensures.entries in
    let there : c.if-entry-previous.places + 1 ≤ room_at c.loop-entry.self e.origin =
    omega (arith, places_fit i es e _ c.if-entry-previous.places inside is k, all, room e.origin, kept.grows e.origin) in
    absurd (false≢true (c.in_err-room_for.ensures.there (subst (λ (o : ℕ). c.if-entry-previous.places + 1 ≤ room_at c.loop-entry.self o) view there) (omega arith)))
