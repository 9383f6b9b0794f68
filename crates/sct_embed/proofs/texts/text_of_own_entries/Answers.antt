-- What is written from the first place on is all that is to be written, since nothing before that place is.
use Rattle.std.proofs.Common.{◌∙◌, ap, List, drop, arith, length-drop, length-take}
use Rattle.std.proofs.lemmas.List.{take_all}
use Rattle.sct_delta.specs.Entries.{Placed}
use Rattle.sct_embed.specs.Asking.{lines_of_entries, own_above}
use Rattle.sct_embed.proofs.EntryLemmas.{rest_is_all}
use Rattle.sct_embed.proofs.texts.text_of_own_entries.Goals as goal

pub returns : goal.returns
returns c =
    c.loop-entry.invariant
    ∙ ap (λ (es : List Placed). lines_of_entries (own_above c.args.number c.args.above es))
    (take_all c.loop-entry.entry-index (drop c.place_after-first.result c.args.arrivals.now) (omega (arith, length-drop {A = Placed}, length-take {A = Placed})))
    ∙ ap lines_of_entries (rest_is_all c.args.number c.args.above c.place_after-first.result c.args.arrivals.now c.place_after-first.ensures.none)
