-- The points that workers pass. Read by an auditor.
use Rattle.std.specs.Prelude.{ℕ, ◌≡◌}
use Rattle.sct_workers.specs.declared.gate.Point.{Point}
use Rattle.sct_workers.specs.declared.gate.Point.TheVariants as point

-- the site whose worker passes the point
abbrev pub site_of_point : Point → ℕ
site_of_point (point.Take site k) = site
site_of_point (point.Accepted site) = site
site_of_point (point.Answered site) = site

-- the k-th message of this site is taken after the point that was passed; messages count from 1
abbrev pub IsTakeOf : ℕ → ℕ → Point → Type 0
IsTakeOf site k passed = passed ≡ point.Take site k
