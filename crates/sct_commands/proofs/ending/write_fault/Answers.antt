-- The line of the fault and the text after it, of which either may be cut off.
use Rattle.std.proofs.Common.{◌≡◌, Some, subst, rules}
use Rattle.sct_commands.specs.Ending.{fault_line_of}
use Rattle.sct_streams.specs.Stream.{IsCutOff, IsWritten}
use Rattle.sct_commands.proofs.Prefixes.{first_cut_off, second_cut_off, on_err, on_err_map}
use Rattle.sct_commands.proofs.ending.write_fault.Goals as goal

pub returns-in_err-write_all-clause-prefix : goal.returns-in_err-write_all-clause-prefix
returns-in_err-write_all-clause-prefix g c =
    let line : c.as_bytes.result.now ≡ fault_line_of c.args.fault.now = search rules in
    on_err c.from_residual.result _ (first_cut_off _ _ (fault_line_of c.args.fault.now) c.args.text.now
    (subst (λ l. IsCutOff (g.E.Sink.state c.args.err.now) (g.E.Sink.state c.write_all.new.sink) (Some l)) line c.in_err-write_all.ensures.prefix))

pub returns-clause-prefix : goal.returns-clause-prefix
returns-clause-prefix g c =
    let line : c.as_bytes.result.now ≡ fault_line_of c.args.fault.now = search rules in
    let text : c.as_bytes-2.result.now ≡ c.args.text.now = search rules in
    let whole : IsWritten (g.E.Sink.state c.args.err.now) (g.E.Sink.state c.write_all.new.sink) (Some (fault_line_of c.args.fault.now)) =
    subst (λ l. IsWritten (g.E.Sink.state c.args.err.now) (g.E.Sink.state c.write_all.new.sink) (Some l)) line c.in_ok-write_all.ensures.all in
    on_err_map c.write_all-2.result _ _ (λ cut. second_cut_off _ _ _ _ _ whole
    (subst (λ l. IsCutOff (g.E.Sink.state c.write_all.new.sink) (g.E.Sink.state c.write_all-2.new.sink) (Some l)) text cut)) c.write_all-2.ensures.prefix
