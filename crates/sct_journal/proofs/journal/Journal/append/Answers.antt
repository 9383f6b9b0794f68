-- Each exit of an append.
use Rattle.std.proofs.Common.{◌≡◌, ◌∙◌, List, ℕ, IsTrue, length, take, drop, ap, subst, arith, length-drop}
use Rattle.sct_journal.specs.Kept.{AreLines, at_rest}
use Rattle.sct_journal.proofs.LineLemmas.{kept_are_lines}
use Rattle.sct_journal.proofs.AppendLemmas.{gate_keeps, gate_left, gate_rests, long, some_lines, stage_left, stage_put}
use Rattle.sct_journal.proofs.journal.Journal.append.Goals as goal

pub put-requires-clause-some : goal.put-requires-clause-some
put-requires-clause-some g c =
    let some = some_lines c.args.batch c.is_empty.result c.is_empty.ensures c.if-is_empty.false in
    let text : c.deref.result.now ≡ at_rest c.args.batch = c.deref.ensures.value ∙ c.in_ok-text.ensures in
    omega (arith, ap length c.split_at.ensures.back, length-drop 1 c.deref.result.now, ap length text, long c.args.batch some)

pub returns-in_err-put-clause-crash : goal.returns-in_err-put-clause-crash
returns-in_err-put-clause-crash g c clean f left =
    let rest = c.requires.rest clean in
    let others = subst AreLines c.batch.view_is (kept_are_lines c.batch.inside.text.items) in
    let some = some_lines c.args.batch c.is_empty.result c.is_empty.ensures c.if-is_empty.false in
    stage_left (g.D.Disk.seen c.args.self.now.disk) c.args.self.now.end rest c.args.batch others some _ f (c.put.ensures.crash f left)

pub returns-in_err-put-2-clause-crash : goal.returns-in_err-put-2-clause-crash
returns-in_err-put-2-clause-crash g c clean f left =
    let rest = c.requires.rest clean in
    let others = subst AreLines c.batch.view_is (kept_are_lines c.batch.inside.text.items) in
    let some = some_lines c.args.batch c.is_empty.result c.is_empty.ensures c.if-is_empty.false in
    let text : c.deref.result.now ≡ at_rest c.args.batch = c.deref.ensures.value ∙ c.in_ok-text.ensures in
    let stage = stage_put (g.D.Disk.seen c.args.self.now.disk) c.args.self.now.end rest c.args.batch others some (g.D.Disk.seen c.put.new.disk) c.split_at.result.1.now
    (c.split_at.ensures.back ∙ ap (λ (l : List ℕ). drop 1 l) text) c.in_ok-put.ensures.written in
    let gate = c.split_at.ensures.front ∙ ap (λ (l : List ℕ). take 1 l) text in
    gate_left (g.D.Disk.seen c.args.self.now.disk) c.args.self.now.end rest c.args.batch others some (g.D.Disk.seen c.put.new.disk) c.split_at.result.0.now f stage gate (c.put-2.ensures.crash f left)

pub returns-clause-crash : goal.returns-clause-crash
returns-clause-crash g c clean f left =
    let rest = c.requires.rest clean in
    let others = subst AreLines c.batch.view_is (kept_are_lines c.batch.inside.text.items) in
    let some = some_lines c.args.batch c.is_empty.result c.is_empty.ensures c.if-is_empty.false in
    let text : c.deref.result.now ≡ at_rest c.args.batch = c.deref.ensures.value ∙ c.in_ok-text.ensures in
    let stage = stage_put (g.D.Disk.seen c.args.self.now.disk) c.args.self.now.end rest c.args.batch others some (g.D.Disk.seen c.put.new.disk) c.split_at.result.1.now
    (c.split_at.ensures.back ∙ ap (λ (l : List ℕ). drop 1 l) text) c.in_ok-put.ensures.written in
    let gate = c.split_at.ensures.front ∙ ap (λ (l : List ℕ). take 1 l) text in
    gate_left (g.D.Disk.seen c.args.self.now.disk) c.args.self.now.end rest c.args.batch others some (g.D.Disk.seen c.put.new.disk) c.split_at.result.0.now f stage gate (c.put-2.ensures.crash f left)

pub returns-clause-added : goal.returns-clause-added
returns-clause-added g c clean =
    let rest = c.requires.rest clean in
    let others = subst AreLines c.batch.view_is (kept_are_lines c.batch.inside.text.items) in
    let some = some_lines c.args.batch c.is_empty.result c.is_empty.ensures c.if-is_empty.false in
    let text : c.deref.result.now ≡ at_rest c.args.batch = c.deref.ensures.value ∙ c.in_ok-text.ensures in
    let stage = stage_put (g.D.Disk.seen c.args.self.now.disk) c.args.self.now.end rest c.args.batch others some (g.D.Disk.seen c.put.new.disk) c.split_at.result.1.now
    (c.split_at.ensures.back ∙ ap (λ (l : List ℕ). drop 1 l) text) c.in_ok-put.ensures.written in
    let gate = c.split_at.ensures.front ∙ ap (λ (l : List ℕ). take 1 l) text in
    gate_keeps (g.D.Disk.seen c.args.self.now.disk) c.args.self.now.end rest c.args.batch others some (g.D.Disk.seen c.put.new.disk) c.split_at.result.0.now (g.D.Disk.seen c.put-2.new.disk) stage gate c.in_ok-put-2.ensures.written

pub returns-clause-settled : goal.returns-clause-settled
returns-clause-settled g c = record {
  usable = c.in_ok-put-2.ensures.usable;
  durable = c.in_ok-put-2.ensures.durable;
  rest = λ cleaner.
      let clean : IsTrue (g.D.Disk.is_clean c.args.self.now.disk) = subst (λ b. IsTrue b) (c.put-2.ensures.clean ∙ c.put.ensures.clean) cleaner in
      let rest = c.requires.rest clean in
      let others = subst AreLines c.batch.view_is (kept_are_lines c.batch.inside.text.items) in
      let some = some_lines c.args.batch c.is_empty.result c.is_empty.ensures c.if-is_empty.false in
      let text : c.deref.result.now ≡ at_rest c.args.batch = c.deref.ensures.value ∙ c.in_ok-text.ensures in
      let stage = stage_put (g.D.Disk.seen c.args.self.now.disk) c.args.self.now.end rest c.args.batch others some (g.D.Disk.seen c.put.new.disk) c.split_at.result.1.now
      (c.split_at.ensures.back ∙ ap (λ (l : List ℕ). drop 1 l) text) c.in_ok-put.ensures.written in
      let gate = c.split_at.ensures.front ∙ ap (λ (l : List ℕ). take 1 l) text in
      gate_rests (g.D.Disk.seen c.args.self.now.disk) c.args.self.now.end rest c.args.batch others some (g.D.Disk.seen c.put.new.disk) c.split_at.result.0.now (g.D.Disk.seen c.put-2.new.disk) _ stage gate c.in_ok-put-2.ensures.written
      (omega (arith, c.len.ensures, ap length c.in_ok-text.ensures, long c.args.batch some));
}
