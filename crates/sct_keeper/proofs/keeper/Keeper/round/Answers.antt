-- The journal has the lines that the round brings.
use Rattle.std.proofs.Common.{◌≡◌, ◌∙◌, ◌++◌, ◌∷◌, List, ℕ, IsTrue, ap, sym, subst}
use Rattle.sct_journal.specs.Kept.{recorded, ended_lines}
use Rattle.sct_requests.specs.Grants.{grants}
use Rattle.sct_requests.proofs.StepLemmas.{group_after, kept_more, number_after}
use Rattle.sct_site.specs.Cores.{Core}
use Rattle.sct_keeper.specs.Keepers.{header}
use Rattle.sct_keeper.proofs.KeeperLemmas.{begins_still, recorded_more}
use Rattle.sct_keeper.proofs.keeper.Keeper.round.Goals as goal

pub returns-clause-keeper : goal.returns-clause-keeper
returns-clause-keeper g c =
    let was = c.args.self.now.site.core in
    let now = c.give_all.new.site.core in
    let lines = grants was (ended_lines c.args.text.now) in
    let first = header was.number was.group in
    let number : now.number ≡ was.number = ap (λ (x : Core). x.number) c.in_ok-answers.ensures.core ∙ number_after lines was in
    let group : now.group ≡ was.group = ap (λ (x : Core). x.group) c.in_ok-answers.ensures.core ∙ group_after lines was in
    let old = g.D.Disk.seen c.args.self.now.journal.disk in
    let new = g.D.Disk.seen c.append.new.self.disk in
    let clean_before : IsTrue (g.D.Disk.is_clean c.append.new.self.disk) → IsTrue (g.D.Disk.is_clean c.args.self.now.journal.disk) = λ cleaner. subst (λ b. IsTrue b) c.append.ensures.clean cleaner in
    record {
      settled = c.in_ok-append.ensures.settled;
      begins = λ cleaner.
          let clean = clean_before cleaner in
          begins_still old new first _ (c.requires.keeper.begins clean) (c.in_ok-append.ensures.added clean)
          ∙ (λ i. header (sym number i) (sym group i) ∷ recorded new);
      site = λ cleaner.
          let clean = clean_before cleaner in
          kept_more was now lines (recorded old) (recorded new) c.in_ok-answers.ensures.core (c.requires.keeper.site clean)
          (recorded_more old new first _ (recorded old) (c.requires.keeper.begins clean) (c.in_ok-append.ensures.added clean)
          ∙ ap (λ (l : List (List ℕ)). recorded old ++ l) c.in_ok-answers.ensures.brought);
    }
