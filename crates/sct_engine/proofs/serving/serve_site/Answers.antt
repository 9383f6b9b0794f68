-- A site lived: with the file of its journal as it was opened, each part is a clause of `serve`.
use Rattle.std.proofs.Common.{◌≡◌, Some, None, Err, inr, refl, ap, arith}
use Rattle.sct_journal.specs.declared.error.JournalError.TheVariants as journal
use Rattle.sct_keeper.specs.declared.fault.KeeperError.TheVariants as keeper
use Rattle.sct_serve.specs.declared.fault.ServeFault.TheVariants as serve
use Rattle.sct_engine.proofs.ServeLemmas.{lived_on}
use Rattle.sct_engine.proofs.serving.serve_site.Goals as goal

pub returns-in-Ok-clause-life : goal.returns-in-Ok-clause-life
returns-in-Ok-clause-life g c =
    inr (lived_on _ _ _ _ _ _ _ _ _ _ _ _ _ c.in_ok-disk.ensures.holds (record {
      opened = c.in_ok-disk.disk;
      left = c.in-Ok.disk;
      handed = refl;
      reason = None;
      holds = refl;
      clean = c.in_ok-disk.ensures.clean;
      ending = refl;
      ends = tt;
      replies = c.in-Ok.ensures.replies;
      read = c.in-Ok.ensures.read;
      lasts = c.in-Ok.ensures.crash;
      stops = c.in-Ok.ensures.stops;
      foreign = tt;
      no_journal = λ is. absurd cc;
      other_site = λ is. absurd cc;
      no_site = λ is. absurd cc;
      short = c.in-Ok.ensures.short;
      short_before = c.serve.ensures.short_before;
      too_long = λ is. absurd cc;
      reads = omega (arith, c.in-Ok.ensures.reads);
      writes = omega (arith, c.in-Ok.ensures.writes);
      disk_failed = λ is. absurd cc;
      disk_full = λ is. absurd cc;
    }))

pub returns-in-Err-clause-life : goal.returns-in-Err-clause-life
returns-in-Err-clause-life g c =
    inr (lived_on _ _ _ _ _ _ _ _ _ _ _ _ _ c.in_ok-disk.ensures.holds (record {
      opened = c.in_ok-disk.disk;
      left = c.in-Err.disk;
      handed = refl;
      reason = Some c.in-Err.fault;
      holds = refl;
      clean = c.in_ok-disk.ensures.clean;
      ending = ap Err c.fault_of_serve.ensures;
      ends = c.in-Err.ensures.errors;
      replies = tt;
      read = tt;
      lasts = c.in-Err.ensures.crash_err;
      stops = c.in-Err.ensures.stops_err;
      foreign = λ is. (c.in-Err.ensures.untouched is, ap g.R.Source.state (c.in-Err.ensures.silent is).0, ap g.O.Sink.state (c.in-Err.ensures.silent is).1);
      no_journal = λ is. let same : c.in-Err.fault ≡ serve.Keeper (keeper.Journal journal.NoJournal) = cc in c.in-Err.ensures.no_journal same;
      other_site = λ is. let same : c.in-Err.fault ≡ serve.Keeper (keeper.Journal journal.OtherSite) = cc in c.in-Err.ensures.other_site same;
      no_site = λ is. let same : c.in-Err.fault ≡ serve.Keeper keeper.BadSite = cc in c.in-Err.ensures.bad_site same;
      short = tt;
      short_before = c.serve.ensures.short_before;
      too_long = λ is. let same : c.in-Err.fault ≡ serve.TooLong = cc in c.in-Err.ensures.too_long same;
      reads = c.in-Err.ensures.failed_reads;
      writes = c.in-Err.ensures.failed_writes;
      disk_failed = λ is. let same : c.in-Err.fault ≡ serve.Keeper (keeper.Journal journal.Disk) = cc in c.in-Err.ensures.failed same;
      disk_full = λ is. let same : c.in-Err.fault ≡ serve.Keeper (keeper.Journal journal.Full) = cc in c.in-Err.ensures.full same;
    }))
