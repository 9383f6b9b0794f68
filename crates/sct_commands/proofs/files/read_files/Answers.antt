-- The file of one path more is read, or ends this.
use Rattle.std.proofs.Common.{◌≡◌, ◌≤◌, ◌+◌, ◌∙◌, [], ◌∷◌, ◌++◌, length, map, take, IfErr, rules, subst, sym}
use Rattle.sct_streams.specs.Files.{AreGiven}
use Rattle.sct_workers.specs.Files.{bytes_of}
use Rattle.sct_commands.specs.Stream.{AreWithin, EndsFiles}
use Rattle.sct_commands.proofs.FileLemmas.{ended_by, ends_at, file_more, items_within, memory_at}
use Rattle.sct_commands.proofs.files.read_files.Goals as goal

pub loop-path-preserved : goal.loop-path-preserved
loop-path-preserved g c =
    let input = c.in_ok-read_file.field-0 in
    let short : length input.items ≤ 1073741824 = search rules in
    let pushed : c.push.new.self.items ≡ c.loop-path.inputs.items ++ input ∷ [] = search rules in (
      subst (λ inputs. AreGiven (g.R.Files.gives c.args.files.now) (map (λ path. path.now) (take (c.loop-path.path-index + 1) c.args.paths.now)) (bytes_of inputs))
          (sym pushed)
          (file_more (g.R.Files.gives c.args.files.now) (λ path. path.now) (λ bytes. bytes.items) c.args.paths.now c.loop-path.inputs.items c.loop-path.path-index _ input
          c.loop-path-test.true c.loop-path.invariant.0 c.in_ok-read_file.ensures.given),
      subst (λ inputs. AreWithin (bytes_of inputs)) (sym pushed)
          (items_within (λ bytes. bytes.items) c.loop-path.inputs.items input c.loop-path.invariant.1 short),
      c.in_ok-read_file.ensures.quiet ∙ c.loop-path.invariant.2,
    )

pub returns-in_err-read_file-clause-faults : goal.returns-in_err-read_file-clause-faults
returns-in_err-read_file-clause-faults g c =
    let gives = g.R.Files.gives c.args.files.now in
    let is : IfErr c.from_residual.result (λ e. e ≡ c.in_err-read_file.field-0.0) = search rules in
    ended_by (EndsFiles gives (map (λ path. path.now) c.args.paths.now)) c.from_residual.result c.in_err-read_file.field-0.0 is
    (ends_at gives (λ path. path.now) c.args.paths.now c.loop-path.path-index _ (bytes_of c.loop-path.inputs.items) c.in_err-read_file.field-0.0
    c.loop-path-test.true c.loop-path.invariant.0 c.loop-path.invariant.1 c.in_err-read_file.ensures.faults)

pub returns-in_err-map_err-clause-faults : goal.returns-in_err-map_err-clause-faults
returns-in_err-map_err-clause-faults g c =
    memory_at c.from_residual-in_err-map_err.result (g.R.Files.gives c.args.files.now) (λ path. path.now) c.args.paths.now c.loop-path.path-index
    (bytes_of c.loop-path.inputs.items) c.loop-path-test.true c.loop-path.invariant.0 c.loop-path.invariant.1 (search rules)
