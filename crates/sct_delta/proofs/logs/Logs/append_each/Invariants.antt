-- What is in, and what is left; and there is room for what is left.
use Rattle.std.proofs.Common.{◌≡◌, ◌++◌, ℕ}
use Rattle.std.specs.Vec.Iter.{into_iter_items}
use Rattle.sct_delta.specs.Entries.{log_of}
use Rattle.std.specs.List.{list_any}
use Rattle.std.proofs.Common.{false}
use Rattle.sct_delta.specs.Refusals.{is_outside}
use Rattle.sct_delta.specs.Logs.{log_in, HasRoomFor}
use Rattle.sct_delta.proofs.logs.Logs.append_each.Given as goal

abbrev pub invariant-loop-entry : goal.invariant-loop-entry
invariant-loop-entry l = record {
  group : l.self.group ≡ l.initial.self.group;
  logs : (o : ℕ) → log_in l.self o ++ log_of o (into_iter_items l.entry-iterator) ≡ log_in l.initial.self o ++ log_of o l.fn.entries.items;
  inside : list_any (is_outside l.self.group) (into_iter_items l.entry-iterator) ≡ false;
  room : HasRoomFor l.self (into_iter_items l.entry-iterator);
}
