-- The members of an object whose members are all texts. Serves proofs.
use Rattle.std.specs.Prelude.{ℕ, List, map}
use Rattle.sct_json.specs.declared.keys.Key.{Key}
use Rattle.sct_json.specs.declared.plain.Member.{Member}

abbrev pub texts_of : List Member → List (Key × List ℕ)
texts_of members = map (λ member. (member.key, member.text.now)) members
