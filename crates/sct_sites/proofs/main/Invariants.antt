-- Each stream has a ledger of its own for its failures, and the files have one.
use Rattle.sct_sites.proofs.main.Given as goal

abbrev pub ghosts-run_over_std-A-Ledger : goal.ghosts-run_over_std-A-Ledger
ghosts-run_over_std-A-Ledger g a = record { name = a.stdin.1.name; parts = a.stdin.1.parts }

abbrev pub ghosts-run_over_std-B-Ledger : goal.ghosts-run_over_std-B-Ledger
ghosts-run_over_std-B-Ledger g a = record { name = a.stdout.1.name; parts = a.stdout.1.parts }

abbrev pub ghosts-run_over_std-C-Ledger : goal.ghosts-run_over_std-C-Ledger
ghosts-run_over_std-C-Ledger g a = record { name = a.stderr.1.name; parts = a.stderr.1.parts }

abbrev pub ghosts-run_over_std-D-Ledger : goal.ghosts-run_over_std-D-Ledger
ghosts-run_over_std-D-Ledger g a = record { name = a.files.name; parts = a.files.parts }
