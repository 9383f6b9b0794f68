-- The walk finds the first name that is no key of the shape.
use Rattle.std.proofs.Common.{◌≡◌, ◌∙◌, sym, ap, List, String, Global, Some, None}
use Rattle.std.specs.BTreeMap.{keys}
use Rattle.sct_json.specs.Keys.{is_key_in}
use Rattle.sct_json.proofs.Beside.{walk, walk_stops, walk_finds_first_other}
use Rattle.sct_json.proofs.extra_key.first_other.Goals as goal

pub returns-then-not-is_first : goal.returns-then-not-is_first
returns-then-not-is_first c =
    let stops : walk c.loop-name.keys.now c.loop-name.name-iterator ≡ Some c.in-Some.name.now =
    ap (λ (names : List (String Global)). walk c.loop-name.keys.now names) c.in-Some.ensures.steps
    ∙ walk_stops c.loop-name.keys.now c.keys_from-keys.result.now c.in-Some.name.now c.next.new.self c.as_str.result.now c.as_str-in-loop-name.result.now
    c.as_str.ensures.value c.as_str-in-loop-name.ensures.value c.keys_from-keys.ensures c.if-not-is_first.ensures in
    let names : c.into_iter-name-iterator.result ≡ keys c.args.object.now = c.into_iter-name-iterator.ensures.into_iter_gives ∙ c.keys-name-items.ensures.rest in
    sym stops ∙ c.loop-name.invariant ∙ ap (λ (all : List (String Global)). walk c.keys_in-keys.result.now all) names
    ∙ walk_finds_first_other (is_key_in c.args.shape) c.keys_in-keys.result.now (keys c.args.object.now) c.keys_in-keys.ensures.ascend c.keys_in-keys.ensures.all c.keys-name-items.ensures.ordered

pub returns : goal.returns
returns c =
    let ends : walk c.loop-name.keys.now c.loop-name.name-iterator ≡ None = ap (λ (names : List (String Global)). walk c.loop-name.keys.now names) c.in-None.ensures.steps.0 in
    let names : c.into_iter-name-iterator.result ≡ keys c.args.object.now = c.into_iter-name-iterator.ensures.into_iter_gives ∙ c.keys-name-items.ensures.rest in
    sym ends ∙ c.loop-name.invariant ∙ ap (λ (all : List (String Global)). walk c.keys_in-keys.result.now all) names
    ∙ walk_finds_first_other (is_key_in c.args.shape) c.keys_in-keys.result.now (keys c.args.object.now) c.keys_in-keys.ensures.ascend c.keys_in-keys.ensures.all c.keys-name-items.ensures.ordered
