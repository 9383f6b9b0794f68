-- Each member is at a key of the shape.
use Rattle.std.proofs.Common.{◌∙◌, ap, sym, List}
use Rattle.std.specs.List.{list_all}
use Rattle.std.proofs.lemmas.List.Folds.{list_all-map}
use Rattle.sct_json.specs.declared.plain.Member.{Member}
use Rattle.sct_json.specs.Keys.{key_text, is_key_among, is_key_in}
use Rattle.sct_json.proofs.plain.PlainObject.has_keys_in.Goals as goal

pub returns : goal.returns
returns c =
    c.are_among.ensures
    ∙ ap (λ (members : List Member). list_all (λ member. is_key_among c.keys_in.result.now (key_text member.key)) members) c.deref.ensures.value
    ∙ (λ n. list_all (λ (member : Member). c.keys_in.ensures.all (key_text member.key) n) c.self.inside.members.items)
    ∙ sym (list_all-map (λ member. is_key_in c.args.shape (key_text member.0)) (λ (member : Member). (member.key, member.text.now)) c.self.inside.members.items)
    ∙ ap (list_all (λ member. is_key_in c.args.shape (key_text member.0))) c.self.view_is
