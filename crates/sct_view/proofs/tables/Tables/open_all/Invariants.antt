-- The places so far are open behind those that were there, and nothing shows.
use Rattle.std.proofs.Common.{◌≡◌, ◌≤◌, ℕ, List, true, length, take}
use Rattle.sct_message.specs.declared.keys.TransferKey.{TransferKey}
use Rattle.sct_view.specs.Changes.{are_ready}
use Rattle.sct_view.specs.Kept.{case_at, totals_at}
use Rattle.sct_view.proofs.tables.Tables.open_all.Given as goal

abbrev pub invariant-loop-one : goal.invariant-loop-one
invariant-loop-one l = record {
  ready : are_ready l.self.cases l.self.totals (take l.one-index l.planned) ≡ true;
  same_cases : (t : TransferKey) → case_at l.self.cases t ≡ case_at l.initial.self.cases t;
  same_totals : (p : List ℕ) → totals_at l.self.totals p ≡ totals_at l.initial.self.totals p;
  cases_front : take (length l.initial.self.cases.entries) l.self.cases.entries ≡ l.initial.self.cases.entries;
  totals_front : take (length l.initial.self.totals.entries) l.self.totals.entries ≡ l.initial.self.totals.entries;
  cases_grow : length l.initial.self.cases.entries ≤ length l.self.cases.entries;
  totals_grow : length l.initial.self.totals.entries ≤ length l.self.totals.entries;
}
