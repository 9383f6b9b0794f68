-- One site more is started.
use Rattle.std.proofs.Common.{◌≡◌, ◌∙◌, ◌+◌, ◌<◌, ◌++◌, ◌∷◌, [], ℕ, ap, sym, subst, arith, rules, length, length-append, append_assoc}
use Rattle.std.specs.Prelude.{Some}
use Rattle.std.specs.List.{slice_get}
use Rattle.std.specs.Vec.Iter.{into_iter_items}
use Rattle.std.proofs.lemmas.Option.{slice_get-get_or}
use Rattle.sct_workers.specs.Files.{bytes_of}
use Rattle.sct_workers.proofs.Places.{each_pushed, fewer_than_all, get_mapped}
use Rattle.sct_workers.proofs.sites.start_sites.Goals as goal

pub loop-own-preserved : goal.loop-own-preserved
loop-own-preserved g c =
    let step : into_iter_items c.loop-own.own-iterator ≡ c.in-Some.own ∷ into_iter_items c.next.new.self = search rules in
    let all : c.loop-own.yielded ++ c.in-Some.own ∷ into_iter_items c.next.new.self ≡ c.args.channels.items =
    ap (λ rest. c.loop-own.yielded ++ rest) (sym step) ∙ c.loop-own.invariant.rest in
    let before = c.loop-own.children.items in
    let child = c.in_ok-child.child in
    let inputs = c.args.inputs.now in
    let after = c.push_reserved.new.self.items in
    let is = c.push_reserved.ensures.items in
    let many = c.loop-own.invariant.len in
    let place : c.len-place.result ≡ length before = omega (arith, c.len-place.ensures, c.loop-own.children.ok.0) in
    let number : child.promise.member.number ≡ length before + 1 = omega (arith, c.in_ok-child.ensures.site.0, place) in
    let group : child.promise.member.group ≡ length inputs = search rules in
    let few = fewer_than_all c.loop-own.yielded c.in-Some.own (into_iter_items c.next.new.self) c.args.channels.items all in
    let low : c.len-place.result < length inputs = omega (arith, few, place, many, c.requires.channels, c.args.channels.ok.0) in
    let item =
    get_mapped (λ input. input.items) inputs c.len-place.result c.index-inputs-place.result
    (slice_get-get_or inputs c.len-place.result c.index-inputs-place.result low ∙ ap Some (sym c.index-inputs-place.is)) in
    let there : slice_get (bytes_of inputs) (length before) ≡ Some child.promise.input.now =
    subst (λ (n : ℕ). slice_get (bytes_of inputs) n ≡ Some child.promise.input.now) place
    (item ∙ ap Some (sym (c.in_ok-child.ensures.input ∙ c.deref.ensures.value))) in
    let longer = length-append before (child ∷ []) in
    let counted = ap length is in
    let done = length-append c.loop-own.yielded (c.in-Some.own ∷ []) in
    record {
      rest = append_assoc c.loop-own.yielded (c.in-Some.own ∷ []) (into_iter_items c.next.new.self) ∙ all;
      count = omega (arith, c.in-Some.ensures.steps.1, ap length c.in-Some.ensures.steps.0, c.loop-own.invariant.count);
      len = omega (arith, many, longer, counted, done);
      room = omega (arith, c.loop-own.invariant.room, c.push_reserved.ensures.capacity);
      sites = each_pushed (λ at one. (one.promise.member.number ≡ at + 1) × (one.promise.member.group ≡ length inputs)) before after child is c.loop-own.invariant.sites (number, group);
      inputs = each_pushed (λ at one. slice_get (bytes_of inputs) at ≡ Some one.promise.input.now) before after child is c.loop-own.invariant.inputs there;
      gate = each_pushed (λ at one. one.promise.gate.now ≡ c.args.run.now.gate.now) before after child is c.loop-own.invariant.gate c.in_ok-child.ensures.gate;
    }
