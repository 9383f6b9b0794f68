-- The journal of the site, and the site of its lines.
use Rattle.std.proofs.Common.{◌≡◌, ◌∙◌, ◌∷◌, List, ℕ, IsTrue, ap, subst, sym, drop}
use Rattle.sct_site.specs.Cores.{Core}
use Rattle.sct_journal.specs.Fronts.{IsLeft, front_in}
use Rattle.sct_journal.specs.Kept.{kept, recorded}
use Rattle.sct_requests.specs.Steps.{core_after, core_kept}
use Rattle.sct_keeper.specs.Keepers.{header}
use Rattle.sct_keeper.proofs.KeeperLemmas.{kept_group, kept_number}
use Rattle.sct_keeper.proofs.keeper.Keeper.open.Goals as goal

pub returns-in-Ok-open_journal-clause-keeper : goal.returns-in-Ok-open_journal-clause-keeper
returns-in-Ok-open_journal-clause-keeper g c =
    let now : Core = c.open_journal.new.site.core in
    let file : List ℕ = g.D.Disk.seen c.args.disk in
    let left : List ℕ = g.D.Disk.seen c.in-Ok-open_journal.journal.disk in
    let first : c.as_bytes.result.now ≡ header c.args.number c.args.group = c.as_bytes.ensures.value ∙ c.in-Ok.ensures.header in
    let begins : (clean : IsTrue (g.D.Disk.is_clean c.in-Ok-open_journal.journal.disk)) → kept left ≡ header c.args.number c.args.group ∷ recorded file =
    λ clean. c.in-Ok-open_journal.ensures.begins clean ∙ ap (λ (l : List ℕ). l ∷ recorded file) first in
    let same : (clean : IsTrue (g.D.Disk.is_clean c.in-Ok-open_journal.journal.disk)) → recorded left ≡ recorded file = λ clean. ap (λ (l : List (List ℕ)). drop 1 l) (begins clean) in
    let site : (clean : IsTrue (g.D.Disk.is_clean c.in-Ok-open_journal.journal.disk)) → now ≡ core_kept c.args.number c.args.group (recorded file) =
    λ clean. c.in-Ok-open_journal.ensures.site clean ∙ ap (λ (x : Core). core_after x (recorded file)) c.in-Ok.ensures.core in
    record {
      settled = c.in-Ok-open_journal.ensures.settled;
      begins = λ clean.
          let number = kept_number c.args.number c.args.group (recorded file) now (site clean) in
          let group = kept_group c.args.number c.args.group (recorded file) now (site clean) in
          begins clean ∙ (λ i. header (sym number i) (sym group i) ∷ sym (same clean) i);
      site = λ clean.
          let number = kept_number c.args.number c.args.group (recorded file) now (site clean) in
          let group = kept_group c.args.number c.args.group (recorded file) now (site clean) in
          site clean ∙ (λ i. core_kept (sym number i) (sym group i) (sym (same clean) i));
    }

pub returns-clause-no_journal : goal.returns-clause-no_journal
returns-clause-no_journal g c told clean =
    ap (λ (l : List ℕ). front_in l (g.D.Disk.seen c.args.disk)) (sym (c.as_bytes.ensures.value ∙ c.in-Ok.ensures.header)) ∙ c.in-Err-open_journal.ensures.no_journal told clean

pub returns-clause-other_site : goal.returns-clause-other_site
returns-clause-other_site g c told clean =
    ap (λ (l : List ℕ). front_in l (g.D.Disk.seen c.args.disk)) (sym (c.as_bytes.ensures.value ∙ c.in-Ok.ensures.header)) ∙ c.in-Err-open_journal.ensures.other_site told clean

pub returns-clause-crash_err : goal.returns-clause-crash_err
returns-clause-crash_err g c clean f left =
    subst (λ (first : List ℕ). IsLeft first (g.D.Disk.seen c.args.disk) f)
    (c.as_bytes.ensures.value ∙ c.in-Ok.ensures.header) (c.in-Err-open_journal.ensures.crash_err clean f left)
