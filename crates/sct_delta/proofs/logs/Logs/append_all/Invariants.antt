-- What is in, and what is left; and there is room for what is left. Only of that a log may be empty.
use Rattle.std.proofs.Common.{◌≡◌, ◌++◌, ℕ, drop, false, map}
use Rattle.std.specs.List.{list_any}
use Rattle.std.specs.Vec.Iter.{into_iter_items}
use Rattle.sct_message.specs.Sets.{messages_in}
use Rattle.sct_delta.specs.Entries.{held_from, log_of}
use Rattle.sct_delta.specs.Logs.{log_in, HasRoomFor, KeepsEmptyIfDue}
use Rattle.sct_delta.specs.Refusals.{is_outside}
use Rattle.sct_delta.proofs.logs.Logs.append_all.Given as goal

abbrev pub invariant-loop-message : goal.invariant-loop-message
invariant-loop-message l = record {
  group : l.self.group ≡ l.initial.self.group;
  left : messages_in (into_iter_items l.message-iterator) ≡ map (λ entry. entry.message) (drop l.place l.entries);
  logs : (o : ℕ) → log_in l.self o ++ log_of o (drop l.place l.entries) ≡ log_in l.initial.self o ++ log_of o l.entries;
  inside : list_any (is_outside l.self.group) (drop l.place l.entries) ≡ false;
  room : HasRoomFor l.self (drop l.place l.entries);
  filled : KeepsEmptyIfDue (λ o. held_from o l.entries) l.initial.self → KeepsEmptyIfDue (λ o. held_from o (drop l.place l.entries)) l.self;
}
