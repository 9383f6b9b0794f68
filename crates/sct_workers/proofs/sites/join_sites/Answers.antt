-- One site more is waited for.
use Rattle.std.proofs.Common.{◌≡◌, ◌∙◌, ◌++◌, ◌∷◌, [], ap, sym, subst, length, length-append, append_assoc, arith, rules}
use Rattle.std.specs.Prelude.{IfErr}
use Rattle.std.specs.Vec.Iter.{into_iter_items}
use Rattle.sct_workers.specs.Files.{bytes_of}
use Rattle.sct_workers.specs.Holds.{SiteEndsWhere}
use Rattle.sct_workers.specs.Reported.{AnswersTo}
use Rattle.sct_workers.proofs.Places.{each_pushed, get_behind}
use Rattle.sct_workers.proofs.ReportLemmas.{answers_to}
use Rattle.sct_workers.proofs.sites.join_sites.Goals as goal

pub loop-child-preserved : goal.loop-child-preserved
loop-child-preserved g c =
    let step : into_iter_items c.loop-child.child-iterator ≡ c.in-Some.child ∷ into_iter_items c.next.new.self = search rules in
    let all = ap (λ rest. c.loop-child.yielded ++ rest) (sym step) ∙ c.loop-child.invariant.rest in
    let here = get_behind c.loop-child.yielded c.in-Some.child (into_iter_items c.next.new.self) c.args.children.items all in
    let many = c.loop-child.invariant.len in
    let before = c.loop-child.answers.items in
    let site = c.requires.sites (length c.loop-child.yielded) c.in-Some.child here in
    let size = length c.args.inputs.now in
    let filled =
    answers_to size (bytes_of c.args.inputs.now) (length c.loop-child.yielded) c.in-Some.child.promise.member.number c.in-Some.child.promise.member.group
    c.in-Some.child.promise.input.now c.join.result site.0 site.1 (c.requires.inputs (length c.loop-child.yielded) c.in-Some.child here) c.join.ensures.0 in
    let ends =
    subst (λ gate. IfErr c.join.result (SiteEndsWhere (g.G.Gate.may_hold gate))) (c.requires.gate (length c.loop-child.yielded) c.in-Some.child here) c.join.ensures.1 in
    let longer = length-append before (c.join.result ∷ []) in
    let counted = ap length c.push_reserved.ensures.items in
    let done = length-append c.loop-child.yielded (c.in-Some.child ∷ []) in
    record {
      rest = append_assoc c.loop-child.yielded (c.in-Some.child ∷ []) (into_iter_items c.next.new.self) ∙ all;
      count = omega (arith, c.in-Some.ensures.steps.1, ap length c.in-Some.ensures.steps.0, c.loop-child.invariant.count);
      len = omega (arith, many, longer, counted, done);
      room = omega (arith, c.loop-child.invariant.room, c.push_reserved.ensures.capacity);
      filled =
          each_pushed (AnswersTo size (bytes_of c.args.inputs.now)) before c.push_reserved.new.self.items c.join.result c.push_reserved.ensures.items c.loop-child.invariant.filled
          (subst (λ place. AnswersTo size (bytes_of c.args.inputs.now) place c.join.result) (sym many) filled);
      ends = each_pushed (λ place answer. IfErr answer (SiteEndsWhere (g.G.Gate.may_hold c.args.run.now.gate.now))) before c.push_reserved.new.self.items c.join.result c.push_reserved.ensures.items c.loop-child.invariant.ends ends;
    }
