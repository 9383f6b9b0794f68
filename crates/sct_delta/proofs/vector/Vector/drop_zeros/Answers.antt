-- What is kept is what counts something.
use Rattle.std.proofs.Common.{rules, ◌≡◌, filter}
use Rattle.std.proofs.lemmas.Map.Made.{filter_same_pairs}
use Rattle.sct_delta.proofs.EmptyLemmas.{is_counted, counts_kept, all_counted}
use Rattle.sct_delta.proofs.vector.Vector.drop_zeros.Goals as goal

kept : (c : goal.After-retain) → c.retain.new.self.entries ≡ filter (λ e. is_counted e.1) c.args.self.now.counts.entries
kept c = filter_same_pairs _ (λ e. is_counted e.1) _ (λ k v b w f' t. search rules) _ _ c.retain.ensures.filtered

pub returns-clause-same : goal.returns-clause-same
returns-clause-same c = λ k. counts_kept k c.args.self.now.counts.entries c.retain.new.self.entries c.retain.ensures.was_ordered (kept c)

pub returns-clause-counted : goal.returns-clause-counted
returns-clause-counted c = all_counted c.args.self.now.counts.entries c.retain.new.self.entries (kept c)
