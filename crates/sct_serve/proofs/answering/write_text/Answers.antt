-- A text, cut off in one of its three parts or whole.
use Rattle.std.proofs.Common.{◌∙◌, List, ℕ, arith, subst}
use Rattle.sct_streams.specs.Stream.{AppendsIfTold, AppendsPrefixIfTold}
use Rattle.sct_serve.proofs.ReplyLemmas.{text_cut_first, text_cut_second, text_cut_third, text_written}
use Rattle.sct_serve.proofs.answering.write_text.Goals as goal

pub returns-in-Err-clause-cut_off : goal.returns-in-Err-clause-cut_off
returns-in-Err-clause-cut_off g c =
    let held = (g.K.Sink.state c.args.sink.now).held in
    let first = (g.K.Sink.state c.write.new.sink).held in
    text_cut_first c.args.text.now held first (subst (λ (l : List ℕ). AppendsPrefixIfTold held first l) (c.as_bytes.ensures.value ∙ c.in_ok-head.ensures) c.in-Err.ensures.cut_off)

pub returns-in-Err-write-clause-cut_off : goal.returns-in-Err-write-clause-cut_off
returns-in-Err-write-clause-cut_off g c =
    let held = (g.K.Sink.state c.args.sink.now).held in
    let first = (g.K.Sink.state c.write.new.sink).held in
    text_cut_second c.args.text.now held first (g.K.Sink.state c.write-2.new.sink).held
    (subst (λ (l : List ℕ). AppendsIfTold held first l) (c.as_bytes.ensures.value ∙ c.in_ok-head.ensures) c.in_default.ensures.written) c.in-Err-write.ensures.cut_off

pub returns-in-Ok-clause-written : goal.returns-in-Ok-clause-written
returns-in-Ok-clause-written g c =
    let held = (g.K.Sink.state c.args.sink.now).held in
    let first = (g.K.Sink.state c.write.new.sink).held in
    text_written c.args.text.now held first (g.K.Sink.state c.write-2.new.sink).held (g.K.Sink.state c.write-3.new.sink).held
    (subst (λ (l : List ℕ). AppendsIfTold held first l) (c.as_bytes.ensures.value ∙ c.in_ok-head.ensures) c.in_default.ensures.written) c.in_default-write.ensures.written c.in-Ok.ensures.written

pub returns-clause-cut_off : goal.returns-clause-cut_off
returns-clause-cut_off g c =
    let held = (g.K.Sink.state c.args.sink.now).held in
    let first = (g.K.Sink.state c.write.new.sink).held in
    text_cut_third c.args.text.now held first (g.K.Sink.state c.write-2.new.sink).held (g.K.Sink.state c.write-3.new.sink).held
    (subst (λ (l : List ℕ). AppendsIfTold held first l) (c.as_bytes.ensures.value ∙ c.in_ok-head.ensures) c.in_default.ensures.written) c.in_default-write.ensures.written c.in-Err-write-2.ensures.cut_off

pub returns-in-Err-clause-unwritten : goal.returns-in-Err-clause-unwritten
returns-in-Err-clause-unwritten g c quiet = absurd (omega (arith, quiet, c.in-Err.ensures.counted.1))

pub returns-in-Err-write-clause-unwritten : goal.returns-in-Err-write-clause-unwritten
returns-in-Err-write-clause-unwritten g c quiet = absurd (omega (arith, quiet, c.in_default.ensures.quiet, c.in-Err-write.ensures.counted.1))

pub returns-clause-unwritten : goal.returns-clause-unwritten
returns-clause-unwritten g c quiet =
    absurd (omega (arith, quiet, c.in_default.ensures.quiet, c.in_default-write.ensures.quiet, c.in-Err-write-2.ensures.counted.1))
