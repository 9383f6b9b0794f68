-- The header that was read.
use Rattle.std.proofs.Common.{◌∙◌, ◌∷◌, ℕ, List, ap}
use Rattle.sct_journal.proofs.OpeningLemmas.{header_read, kept_header, kept_recorded}
use Rattle.sct_journal.proofs.opening.open.Goals as goal

pub returns-in-Ok-clause-opening : goal.returns-in-Ok-clause-opening
returns-in-Ok-clause-opening g c = record {
  usable = c.in-Ok.ensures.usable;
  durable = c.in-Ok.ensures.durable;
  fits = c.in-Ok.ensures.fits;
  len = c.in-Ok.ensures.len;
  read = λ clean. header_read c.args.header.now (g.D.Disk.seen c.begin.new.disk) (c.in-Ok.ensures.first clean) c.requires.line;
}

pub returns-in-Ok-clause-first : goal.returns-in-Ok-clause-first
returns-in-Ok-clause-first g c clean = kept_header c.args.header.now (g.D.Disk.seen c.begin.new.disk) (c.in-Ok.ensures.first clean) c.requires.line

pub returns-in-Ok-clause-kept : goal.returns-in-Ok-clause-kept
returns-in-Ok-clause-kept g c clean =
    kept_recorded c.args.header.now (g.D.Disk.seen c.begin.new.disk) (c.in-Ok.ensures.first clean) c.requires.line
    ∙ ap (λ (l : List (List ℕ)). c.args.header.now ∷ l) (c.in-Ok.ensures.same clean)
