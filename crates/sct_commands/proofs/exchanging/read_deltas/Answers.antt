-- The delta file of one path more is read, or ends this.
use Rattle.std.proofs.Common.{◌≡◌, ◌+◌, ◌∙◌, [], ◌∷◌, ◌++◌, map, take, IfErr, rules, subst, sym}
use Rattle.sct_commands.specs.Exchanging.{AreReadAs}
use Rattle.sct_commands.specs.Stream.{EndsFiles}
use Rattle.sct_commands.proofs.FileLemmas.{ended_by, ends_at, memory_at}
use Rattle.sct_commands.proofs.GatherLemmas.{read_more}
use Rattle.sct_commands.proofs.exchanging.read_deltas.Goals as goal

pub returns-in_err-read_delta-clause-faults : goal.returns-in_err-read_delta-clause-faults
returns-in_err-read_delta-clause-faults g c =
    let gives = g.R.Files.gives c.args.files.now in
    let is : IfErr c.from_residual.result (λ e. e ≡ c.in_err-read_delta.field-0.0) = search rules in
    ended_by (EndsFiles gives (map (λ path. path.now) c.args.paths.now)) c.from_residual.result c.in_err-read_delta.field-0.0 is
    (ends_at gives (λ path. path.now) c.args.paths.now c.loop-path.path-index _ c.loop-path.invariant.0.texts c.in_err-read_delta.field-0.0
    c.loop-path-test.true c.loop-path.invariant.0.given c.loop-path.invariant.0.within c.in_err-read_delta.ensures.faults)

pub returns-in_err-map_err-clause-faults : goal.returns-in_err-map_err-clause-faults
returns-in_err-map_err-clause-faults g c =
    memory_at c.from_residual-in_err-map_err.result (g.R.Files.gives c.args.files.now) (λ path. path.now) c.args.paths.now c.loop-path.path-index
    c.loop-path.invariant.0.texts c.loop-path-test.true c.loop-path.invariant.0.given c.loop-path.invariant.0.within (search rules)

pub loop-path-preserved : goal.loop-path-preserved
loop-path-preserved g c =
    let gives = g.R.Files.gives c.args.files.now in
    let file = c.in_ok-read_delta.field-0 in
    let pushed : c.push.new.self.items ≡ c.loop-path.deltas.items ++ file ∷ [] = search rules in (
      subst (AreReadAs gives (map (λ path. path.now) (take (c.loop-path.path-index + 1) c.args.paths.now))) (sym pushed)
          (read_more gives (λ path. path.now) c.args.paths.now c.loop-path.path-index _ c.loop-path.deltas.items file
          c.loop-path-test.true c.loop-path.invariant.0 c.in_ok-read_delta.ensures.read),
      c.in_ok-read_delta.ensures.quiet ∙ c.loop-path.invariant.1,
    )
