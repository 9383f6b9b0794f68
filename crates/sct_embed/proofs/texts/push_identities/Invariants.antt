-- The lines of the identities so far are appended.
use Rattle.std.proofs.Common.{◌≡◌, ◌++◌, string_bytes, take}
use Rattle.std.specs.List.{flat_map}
use Rattle.sct_embed.specs.Questions.{identity_line}
use Rattle.sct_embed.proofs.texts.push_identities.Given as goal

abbrev pub invariant-loop-identity : goal.invariant-loop-identity
invariant-loop-identity l =
    string_bytes l.text ≡ string_bytes l.initial.text ++ flat_map identity_line (take l.identity-index l.identities)
