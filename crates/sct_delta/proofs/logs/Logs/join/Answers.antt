-- What is kept of a delta is what is fresh of it, and there is room for that where there is room for the delta.
use Rattle.std.proofs.Common.{◌≡◌, ◌∙◌, ◌++◌, ap, arith, not, length, rules}
use Rattle.std.proofs.lemmas.Fn.{filter_same}
use Rattle.std.specs.List.{list_any}
use Rattle.sct_delta.specs.Entries.{held_from, log_of}
use Rattle.sct_delta.specs.Logs.{log_in}
use Rattle.sct_delta.specs.Refusals.{is_held, is_new, is_outside, fresh_in}
use Rattle.sct_delta.proofs.JoinLemmas.{passed, kept_fresh}
use Rattle.sct_delta.proofs.TestLemmas.{none_kept}
use Rattle.sct_delta.proofs.RoomLemmas.{held_fewer}
use Rattle.sct_delta.proofs.logs.Logs.join.Goals as goal

pub append_each-requires : goal.append_each-requires
append_each-requires c =
    let held = log_in c.args.self.now in
    let kept : c.retain.new.self.items ≡ fresh_in held c.args.delta =
    kept_fresh c.args.own c.args.self.now.group held (log_in c.reserve.new.self) c.args.delta _ _ c.in_ok-fits.ensures.ok c.in_ok-reserve.ensures.same c.into_entries-entries.ensures.entries
    (filter_same _ (is_new (log_in c.reserve.new.self)) _ (λ x b f' k. search rules) _ _ c.retain.ensures.filtered) in
    record {
      room = λ o. omega (arith, ap (held_from o) kept, c.in_ok-reserve.ensures.ok o, held_fewer o (λ entry. not (is_held held entry)) c.args.delta);
      inside = (λ i. list_any (is_outside (c.in_ok-reserve.ensures.group i)) (kept i))
          ∙ none_kept (is_outside c.args.self.now.group) (λ entry. not (is_held held entry)) c.args.delta
          (passed c.args.own c.args.self.now.group held c.args.delta c.in_ok-fits.ensures.ok).inside;
    }

fresh : (c : goal.After-drop_empty) → c.retain.new.self.items ≡ fresh_in (log_in c.args.self.now) c.args.delta
fresh c =
    kept_fresh c.args.own c.args.self.now.group (log_in c.args.self.now) (log_in c.reserve.new.self) c.args.delta _ _ c.in_ok-fits.ensures.ok c.in_ok-reserve.ensures.same c.into_entries-entries.ensures.entries
    (filter_same _ (is_new (log_in c.reserve.new.self)) _ (λ x b f' k. search rules) _ _ c.retain.ensures.filtered)

pub returns-clause-answer : goal.returns-clause-answer
returns-clause-answer c = omega (arith, c.retain.new.self.ok, c.len-fresh.ensures, ap length (fresh c))

pub returns-clause-ok : goal.returns-clause-ok
returns-clause-ok c = λ o. c.drop_empty.ensures.same o ∙ c.append_each.ensures.logs o ∙ (λ i. c.in_ok-reserve.ensures.same o i ++ log_of o (fresh c i))
