-- What was written is the text of the object.
use Rattle.std.proofs.Common.{◌∙◌}
use Rattle.sct_json.proofs.Ordered.{text_written}
use Rattle.sct_json.proofs.writing.text_of.Goals as goal

pub returns : goal.returns
returns c =
    let made = text_written c.args.draft.now c.new-out.result c.begin_object.new.self c.put_members.new.out c.end_object.new.self c.into_inner.result.items
    (c.new-out.ensures.before ∙ c.in_ok-with_capacity.ensures.items) c.new-out.ensures.tokens
    c.in_ok-begin_object.ensures.room.0 c.in_ok-begin_object.ensures.ok c.in_ok-put_members.ensures
    c.in_ok-end_object.ensures.room.0 c.in_ok-end_object.ensures.ok
    c.into_inner.ensures.items c.into_inner.ensures.reads_back c.into_inner.ensures.utf8 in
    record { text = made.text; stands = made.stands }
