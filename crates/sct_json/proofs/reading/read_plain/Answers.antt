-- An object of texts at keys of its shape is read by its elements and the rules.
use Rattle.std.proofs.Common.{◌∙◌, sym, subst, true}
use Rattle.sct_json.specs.Objects.{members_of}
use Rattle.sct_json.specs.Reading.{FailsWhere}
use Rattle.sct_json.proofs.PlainTexts.{object_of_kind}
use Rattle.sct_json.proofs.reading.read_plain.Goals as goal

pub returns-in-Ok : goal.returns-in-Ok
returns-in-Ok c =
    object_of_kind (members_of c.args.object.now) c.in-Some.kind c.shape_in.result c.in_ok-elements.elements c.in-Some.ensures c.in_ok-elements.ensures c.shape_in.ensures c.if-not-has_keys_in.ensures
    ∙ c.in-Ok.ensures.read

pub returns-in-Err : goal.returns-in-Err
returns-in-Err c =
    subst (FailsWhere true c.in-Err.fault)
    (sym (object_of_kind (members_of c.args.object.now) c.in-Some.kind c.shape_in.result c.in_ok-elements.elements c.in-Some.ensures c.in_ok-elements.ensures c.shape_in.ensures c.if-not-has_keys_in.ensures))
    c.in-Err.ensures.read
