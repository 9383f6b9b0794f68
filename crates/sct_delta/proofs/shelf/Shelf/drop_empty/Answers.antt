-- What is kept is what has a message.
use Rattle.std.proofs.Common.{rules, ◌≡◌, filter}
use Rattle.std.proofs.lemmas.Map.Made.{filter_same_pairs}
use Rattle.sct_delta.proofs.EmptyLemmas.{is_filled, logs_kept, all_filled}
use Rattle.sct_delta.proofs.shelf.Shelf.drop_empty.Goals as goal

kept : (c : goal.After-retain) → c.retain.new.self.entries ≡ filter (λ e. is_filled e.1) c.args.self.now.logs.entries
kept c = filter_same_pairs _ (λ e. is_filled e.1) _ (λ k v b w f' t. search rules) _ _ c.retain.ensures.filtered

pub returns-clause-same : goal.returns-clause-same
returns-clause-same c = λ k. logs_kept k c.args.self.now.logs.entries c.retain.new.self.entries c.retain.ensures.was_ordered (kept c)

pub returns-clause-filled : goal.returns-clause-filled
returns-clause-filled c = all_filled c.args.self.now.logs.entries c.retain.new.self.entries (kept c)
