-- There is room for the entries so far; those of the last origin have been counted, and no earlier origin comes again.
use Rattle.std.proofs.Common.{◌≡◌, ◌≤◌, ◌<◌, ◌^◌, ℕ, take, drop}
use Rattle.sct_delta.specs.Entries.{held_from}
use Rattle.sct_delta.specs.Logs.{room_at, HasRoomFor, HoldSame, KeepsEmptyIfDue, KeepsNoEmpty}
use Rattle.sct_delta.proofs.logs.Logs.room_for_each.Given as goal

abbrev pub invariant-loop-entry : goal.invariant-loop-entry
invariant-loop-entry l = record {
  group : l.self.group ≡ l.initial.self.group;
  same : HoldSame l.self l.initial.self;
  grows : (o : ℕ) → room_at l.initial.self o ≤ room_at l.self o;
  room : HasRoomFor l.self (take l.entry-index l.entry-items);
  places : l.places ≡ held_from l.previous (take l.entry-index l.entry-items);
  few : l.places < 2 ^ 63;
  due : KeepsNoEmpty l.initial.self → KeepsEmptyIfDue (λ o. held_from o l.entry-items) l.self;
  later : (o : ℕ) → l.previous < o → held_from o (take l.entry-index l.entry-items) ≡ 0;
  earlier : (o : ℕ) → o < l.previous → held_from o (drop l.entry-index l.entry-items) ≡ 0;
}
