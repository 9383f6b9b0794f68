-- The set is the union with the messages seen so far, and what was there stays in front.
use Rattle.std.proofs.Common.{◌≡◌, ◌≤◌, length, take}
use Rattle.std.specs.FinSet as set
use Rattle.sct_set.specs.Contents.{contents_of, HasNoRepeat}
use Rattle.sct_set.specs.Drafts.{drafts_in}
use Rattle.sct_set.proofs.arrivals.Arrivals.add_all.Given as goal

abbrev pub invariant-loop-message : goal.invariant-loop-message
invariant-loop-message l = record {
  union : contents_of l.self ≡ set.union (contents_of l.initial.self) (contents_of (drafts_in (take l.message-index l.messages)));
  no_repeat : HasNoRepeat l.self;
  front : take l.before l.self ≡ l.initial.self;
  grows : l.before ≤ length l.self;
  before : l.before ≡ length l.initial.self;
}
